-- `sized`: 4, then 5.
use Rattle.mvcc.proofs.append.SizeLaws.{size_key, size_value, size_fine}
use Rattle.mvcc.proofs.append.size.sized.Goals as goal

pub returns-then-klen-gt-MAX_KEY : goal.returns-then-klen-gt-MAX_KEY
returns-then-klen-gt-MAX_KEY c = size_key c.args.klen c.args.vlen c.if-klen-gt-MAX_KEY.true

pub returns-then-vlen-gt-MAX_VALUE : goal.returns-then-vlen-gt-MAX_VALUE
returns-then-vlen-gt-MAX_VALUE c = size_value c.args.klen c.args.vlen c.if-klen-gt-MAX_KEY.false c.if-vlen-gt-MAX_VALUE.true

pub returns : goal.returns
returns c = size_fine c.args.klen c.args.vlen c.if-klen-gt-MAX_KEY.false c.if-vlen-gt-MAX_VALUE.false
