-- `measured` judges 4, then 13.
use Prim.Native.Nat.{◌+◌}
use lib.ListN.{length}
use Rattle.keycode.specs.Strings.{escape_body}
use Rattle.keycode.proofs.StringLaws.{body_bound}
use Rattle.keycode.proofs.encode.EncodeLaws.{measure_long, measure_short, measure_done}
use native.Mathlib.Omega.{arith}
use Rattle.keycode.proofs.encode.measured.Goals as goal

pub returns-then-key-gt-MAX_KEY : goal.returns-then-key-gt-MAX_KEY
returns-then-key-gt-MAX_KEY c = measure_long c.args.key.now (length (escape_body c.args.key.now) + c.args.rest) c.args.room c.if-key-gt-MAX_KEY.true

pub escaped_len-requires : goal.escaped_len-requires
escaped_len-requires c = c.if-key-gt-MAX_KEY.false

pub overflow_add-n : goal.overflow_add-n
overflow_add-n c = omega (arith, body_bound c.args.key.now)

pub returns-then-room-n : goal.returns-then-room-n
returns-then-room-n c = measure_short c.args.key.now (length (escape_body c.args.key.now) + c.args.rest) c.args.room c.if-key-gt-MAX_KEY.false (omega arith)

pub returns-else-room-n : goal.returns-else-room-n
returns-else-room-n c = measure_done c.args.key.now (length (escape_body c.args.key.now) + c.args.rest) c.args.room _ (omega arith) c.if-key-gt-MAX_KEY.false (omega arith)
