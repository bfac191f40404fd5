-- `put_word` writes eight bytes.
use Rattle.rows.proofs.EncodeLaws.{word_put}
use Rattle.rows.proofs.encoding.put_word.Goals as goal

pub returns : goal.returns
returns c = word_put c.args.out.now _ c.args.at c.args.n c.put_number.ensures
