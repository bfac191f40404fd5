-- `encode_unversioned` writes the tag and the string.
use mathlib.Core.Path.{◌≡◌, ◌∙◌}
use Rattle.std.proofs.Common.{rules, Err}
use lib.ListN.{length-set}
use Rattle.keycode.specs.Strings.{escape}
use Rattle.keycode.specs.key.Keys.{encode, unversioned}
use Rattle.keycode.proofs.StringLaws.{escape-length}
use Rattle.keycode.proofs.encode.EncodeLaws.{encode_refused, encode-room, encode_done, one_put, unversioned-length}
use native.Mathlib.Omega.{arith}
use Rattle.keycode.proofs.encode.encode_unversioned.Goals as goal

pub bounds-out-0 : goal.bounds-out-0
bounds-out-0 c = let a = c.args in omega (arith, encode-room a.key.now (encode (unversioned a.key.now)) a.out.now _ (unversioned-length a.key.now) _ c.measured.ensures _ c.in_ok-n.was)

pub escape_into-requires : goal.escape_into-requires
escape_into-requires c = let a = c.args in simp length-set (omega (arith, escape-length a.key.now, encode-room a.key.now (encode (unversioned a.key.now)) a.out.now _ (unversioned-length a.key.now) _ c.measured.ensures _ c.in_ok-n.was))

pub shape_of-out : goal.shape_of-out
shape_of-out c = c.escape_into.auto.out ∙ length-set c.args.out.now 0 5

pub returns : goal.returns
returns c =
    let a = c.args in let s = a.key.now in let d = a.out.now in
    let r = encode-room s (encode (unversioned s)) d _ (unversioned-length s) _ c.measured.ensures _ c.in_ok-n.was in
    encode_done s (encode (unversioned s)) d _ (unversioned-length s) _ c.measured.ensures _ c.in_ok-n.was _
    (one_put 5 (escape s) d _ (omega (arith, escape-length s)) c.escape_into.ensures.1)

pub returns-in_err-n : goal.returns-in_err-n
returns-in_err-n c = let a = c.args in let e : c.from_residual.result ≡ Err c.in_err-n.field-0.0 = search rules in rw e (encode_refused a.key.now (encode (unversioned a.key.now)) a.out.now _ (unversioned-length a.key.now) _ c.measured.ensures _ c.in_err-n.was)
