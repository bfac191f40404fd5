-- `encode_number` writes the tag and the version.
use mathlib.Core.Path.{refl, ◌∙◌}
use mathlib.Core.List.{[], ◌∷◌}
use lib.ListN.{length, length-set}
use Rattle.keycode.specs.Number.{be}
use Rattle.keycode.proofs.NumberLaws.{length-be}
use Rattle.keycode.proofs.encode.EncodeLaws.{measure_short, measure_done, encode_refused, encode_done, one_put}
use native.Mathlib.Omega.{arith}
use Rattle.keycode.proofs.encode.encode_number.Goals as goal

pub returns-then-out-lt9 : goal.returns-then-out-lt9
returns-then-out-lt9 c = encode_refused [] (c.args.tag ∷ be 8 c.args.version) c.args.out.now 9 (omega (arith, length-be 8 c.args.version)) _ (measure_short [] 9 (length c.args.out.now) (omega arith) c.if-out-lt9.true) _ refl

pub put_number-requires : goal.put_number-requires
put_number-requires c = (c.ranges.version.fits, simp length-set (omega arith))

pub shape_of-out : goal.shape_of-out
shape_of-out c = c.put_number.auto.out ∙ length-set c.args.out.now 0 c.args.tag

pub returns : goal.returns
returns c =
    let t = c.args.tag in let v = c.args.version in let d = c.args.out.now in
    encode_done [] (t ∷ be 8 v) d 9 (omega (arith, length-be 8 v)) _ (measure_done [] 9 (length d) 9 refl (omega arith) c.if-out-lt9.false) 9 refl _
    (one_put t (be 8 v) d _ (omega (arith, length-be 8 v)) c.put_number.ensures)
