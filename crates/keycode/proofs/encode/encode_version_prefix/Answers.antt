-- `encode_version_prefix` writes the tag and the string with no end.
use mathlib.Core.Path.{◌≡◌, ◌∙◌}
use Rattle.std.proofs.Common.{rules, Err}
use lib.ListN.{length-set}
use Rattle.keycode.specs.Strings.{escape_body}
use Rattle.keycode.specs.Prefix.{searched}
use Rattle.keycode.proofs.encode.EncodeLaws.{encode_refused, encode-room, encode_done, one_put, searched-length}
use native.Mathlib.Omega.{arith}
use Rattle.keycode.proofs.encode.encode_version_prefix.Goals as goal

pub bounds-out-0 : goal.bounds-out-0
bounds-out-0 c = let a = c.args in omega (arith, encode-room a.prefix.now (searched a.prefix.now) a.out.now _ (searched-length a.prefix.now) _ c.measured.ensures _ c.in_ok-n.was)

pub escape_body_into-requires : goal.escape_body_into-requires
escape_body_into-requires c = let a = c.args in simp length-set (omega (arith, encode-room a.prefix.now (searched a.prefix.now) a.out.now _ (searched-length a.prefix.now) _ c.measured.ensures _ c.in_ok-n.was))

pub shape_of-out : goal.shape_of-out
shape_of-out c = c.escape_body_into.auto.out ∙ length-set c.args.out.now 0 4

pub returns : goal.returns
returns c =
    let a = c.args in let s = a.prefix.now in let d = a.out.now in
    let r = encode-room s (searched s) d _ (searched-length s) _ c.measured.ensures _ c.in_ok-n.was in
    encode_done s (searched s) d _ (searched-length s) _ c.measured.ensures _ c.in_ok-n.was _
    (one_put 4 (escape_body s) d _ (omega arith) c.escape_body_into.ensures.1)

pub returns-in_err-n : goal.returns-in_err-n
returns-in_err-n c = let a = c.args in let e : c.from_residual.result ≡ Err c.in_err-n.field-0.0 = search rules in rw e (encode_refused a.prefix.now (searched a.prefix.now) a.out.now _ (searched-length a.prefix.now) _ c.measured.ensures _ c.in_err-n.was)
