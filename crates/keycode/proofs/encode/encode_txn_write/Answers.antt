-- `encode_txn_write` writes the tag, the version and the string.
use mathlib.Core.Path.{◌≡◌, ◌∙◌}
use Rattle.std.proofs.Common.{rules, Err}
use lib.ListN.{length-set}
use Rattle.keycode.specs.Number.{be}
use Rattle.keycode.specs.Strings.{escape}
use Rattle.keycode.specs.key.Keys.{encode, txn_write}
use Rattle.keycode.proofs.NumberLaws.{length-be}
use Rattle.keycode.proofs.StringLaws.{escape-length}
use Rattle.keycode.proofs.encode.EncodeLaws.{encode_refused, encode-room, encode_done, two_put, write_length}
use native.Mathlib.Omega.{arith}
use Rattle.keycode.proofs.encode.encode_txn_write.Goals as goal

pub bounds-out-0 : goal.bounds-out-0
bounds-out-0 c = let a = c.args in omega (arith, encode-room a.key.now (encode (txn_write a.version a.key.now)) a.out.now _ (write_length a.version a.key.now) _ c.measured.ensures _ c.in_ok-n.was)

pub put_number-requires : goal.put_number-requires
put_number-requires c = let a = c.args in (c.ranges.version.fits, simp length-set (omega (arith, encode-room a.key.now (encode (txn_write a.version a.key.now)) a.out.now _ (write_length a.version a.key.now) _ c.measured.ensures _ c.in_ok-n.was)))

pub escape_into-requires : goal.escape_into-requires
escape_into-requires c = let a = c.args in omega (arith, escape-length a.key.now, c.put_number.auto.out, length-set a.out.now 0 3, encode-room a.key.now (encode (txn_write a.version a.key.now)) a.out.now _ (write_length a.version a.key.now) _ c.measured.ensures _ c.in_ok-n.was)

pub shape_of-out : goal.shape_of-out
shape_of-out c = c.escape_into.auto.out ∙ c.put_number.auto.out ∙ length-set c.args.out.now 0 3

pub returns : goal.returns
returns c =
    let a = c.args in let s = a.key.now in let v = a.version in let d = a.out.now in
    let r = encode-room s (encode (txn_write v s)) d _ (write_length v s) _ c.measured.ensures _ c.in_ok-n.was in
    encode_done s (encode (txn_write v s)) d _ (write_length v s) _ c.measured.ensures _ c.in_ok-n.was _
    (two_put 3 (be 8 v) (escape s) d _ _ 9 (omega (arith, length-be 8 v, escape-length s)) (omega (arith, length-be 8 v)) c.put_number.ensures c.escape_into.ensures.1)

pub returns-in_err-n : goal.returns-in_err-n
returns-in_err-n c = let a = c.args in let e : c.from_residual.result ≡ Err c.in_err-n.field-0.0 = search rules in rw e (encode_refused a.key.now (encode (txn_write a.version a.key.now)) a.out.now _ (write_length a.version a.key.now) _ c.measured.ensures _ c.in_err-n.was)
