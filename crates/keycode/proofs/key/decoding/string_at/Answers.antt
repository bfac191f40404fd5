-- `string_at` tests that the key reaches the string's place.
use Rattle.keycode.specs.Limits.{max_key}
use Rattle.keycode.proofs.key.DecodeLaws.{string_few, string_scan}
use Rattle.keycode.proofs.key.decoding.string_at.Goals as goal

pub scan-requires : goal.scan-requires
scan-requires c = c.if-key-at.false

pub returns-then-key-at : goal.returns-then-key-at
returns-then-key-at c = string_few max_key c.args.at c.args.key.now c.if-key-at.true

pub returns-else-key-at : goal.returns-else-key-at
returns-else-key-at c = string_scan max_key c.args.at c.args.key.now c.if-key-at.false _ c.scan.ensures
