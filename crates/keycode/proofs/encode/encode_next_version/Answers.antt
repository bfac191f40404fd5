-- `encode_next_version` writes its tag alone.
use mathlib.Core.Path.{refl}
use mathlib.Core.List.{[], ◌∷◌}
use lib.ListN.{length}
use Prim.Native.Nat.{◌<◌}
use Rattle.std.proofs.Common.{rules}
use Rattle.keycode.proofs.BufferLaws.{set-put}
use Rattle.keycode.proofs.WriteLaws.{writes_refused, writes_done}
use Rattle.keycode.proofs.encode.EncodeLaws.{measure_short, measure_done}
use native.Mathlib.Omega.{arith}
use Rattle.keycode.proofs.encode.encode_next_version.Goals as goal

pub returns-then-is_empty : goal.returns-then-is_empty
returns-then-is_empty c = writes_refused _ _ _ _ (measure_short [] 1 (length c.args.out.now) (omega arith) (search (rules, arith)))

pub returns : goal.returns
returns c = let h : 0 < length c.args.out.now = search (rules, arith) in writes_done _ (0 ∷ []) c.args.out.now _ _ (measure_done [] 1 (length c.args.out.now) 1 refl (omega arith) h) (set-put _ _ _ h)
