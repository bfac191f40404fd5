-- `unescape` counts, tests the buffer and then writes.
use mathlib.Core.Path.{◌≡◌, sym, ◌∙◌}
use Rattle.std.proofs.Common.{rules, Err}
use lib.ListN.{length}
use Rattle.keycode.specs.Strings.{unescaped}
use Rattle.keycode.proofs.StringLaws.{plain_done}
use Rattle.keycode.proofs.WriteLaws.{writes_refused, writes_done, into_short, into_done, into_refused}
use native.Mathlib.Omega.{arith}
use Rattle.keycode.proofs.strings.unescape.Goals as goal

pub returns-then-out-n : goal.returns-then-out-n
returns-then-out-n c = writes_refused _ _ _ _ (into_short c.args.escaped.now (length c.args.out.now) _ c.plain_len.ensures _ c.in_ok-n.was c.if-out-n.true)

pub unescape_into-requires : goal.unescape_into-requires
unescape_into-requires c = let q = plain_done c.args.escaped.now c.in_ok-n.n (sym c.plain_len.ensures ∙ c.in_ok-n.was) in (q.0, omega (arith, q.1))

pub returns : goal.returns
returns c = writes_done _ (unescaped c.args.escaped.now) c.args.out.now _ _ (into_done c.args.escaped.now (length c.args.out.now) _ c.plain_len.ensures _ c.in_ok-n.was c.if-out-n.false) c.unescape_into.ensures

pub returns-in_err-n : goal.returns-in_err-n
returns-in_err-n c = let e : c.from_residual.result ≡ Err c.in_err-n.field-0.0 = search rules in rw e (writes_refused _ _ _ _ (into_refused c.args.escaped.now (length c.args.out.now) _ c.plain_len.ensures _ c.in_err-n.was))
