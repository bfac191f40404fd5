-- `encode_version` writes the tag, the string and the version.
use mathlib.Core.Path.{◌≡◌, ◌∙◌}
use Rattle.std.proofs.Common.{rules, Err}
use lib.ListN.{length-set}
use Rattle.keycode.specs.Number.{be}
use Rattle.keycode.specs.Strings.{escape}
use Rattle.keycode.specs.key.Keys.{encode, version as version_key}
use Rattle.keycode.proofs.NumberLaws.{length-be}
use Rattle.keycode.proofs.StringLaws.{escape-length}
use Rattle.keycode.proofs.encode.EncodeLaws.{encode_refused, encode-room, encode_done, two_put, version-length}
use native.Mathlib.Omega.{arith}
use Rattle.keycode.proofs.encode.encode_version.Goals as goal

pub bounds-out-0 : goal.bounds-out-0
bounds-out-0 c = let a = c.args in omega (arith, encode-room a.key.now (encode (version_key a.key.now a.version)) a.out.now _ (version-length a.key.now a.version) _ c.measured.ensures _ c.in_ok-n.was)

pub escape_into-o-requires : goal.escape_into-o-requires
escape_into-o-requires c = let a = c.args in simp length-set (omega (arith, escape-length a.key.now, encode-room a.key.now (encode (version_key a.key.now a.version)) a.out.now _ (version-length a.key.now a.version) _ c.measured.ensures _ c.in_ok-n.was))

pub put_number-requires : goal.put_number-requires
put_number-requires c = let a = c.args in (c.ranges.version.fits, omega (arith, escape-length a.key.now, c.escape_into-o.ensures.0, c.escape_into-o.auto.out, length-set a.out.now 0 4, encode-room a.key.now (encode (version_key a.key.now a.version)) a.out.now _ (version-length a.key.now a.version) _ c.measured.ensures _ c.in_ok-n.was))

pub shape_of-out : goal.shape_of-out
shape_of-out c = c.put_number.auto.out ∙ c.escape_into-o.auto.out ∙ length-set c.args.out.now 0 4

pub returns : goal.returns
returns c =
    let a = c.args in let s = a.key.now in let v = a.version in let d = a.out.now in
    let r = encode-room s (encode (version_key s v)) d _ (version-length s v) _ c.measured.ensures _ c.in_ok-n.was in
    encode_done s (encode (version_key s v)) d _ (version-length s v) _ c.measured.ensures _ c.in_ok-n.was _
    (two_put 4 (escape s) (be 8 v) d _ _ _ (omega (arith, length-be 8 v, escape-length s)) c.escape_into-o.ensures.0 c.escape_into-o.ensures.1 c.put_number.ensures)

pub returns-in_err-n : goal.returns-in_err-n
returns-in_err-n c = let a = c.args in let e : c.from_residual.result ≡ Err c.in_err-n.field-0.0 = search rules in rw e (encode_refused a.key.now (encode (version_key a.key.now a.version)) a.out.now _ (version-length a.key.now a.version) _ c.measured.ensures _ c.in_err-n.was)
