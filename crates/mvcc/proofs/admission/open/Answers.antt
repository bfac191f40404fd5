-- `open`: read-only handles are; others by their version and then by the look-up of their key.
use Rattle.bitcask.specs.engine.Views.{shown}
use Rattle.bitcask.specs.engine.Spots.{has_row}
use Rattle.mvcc.specs.request.Checks.{active_key}
use Rattle.mvcc.proofs.request.CheckLaws.{open_read, open_zero, open_last}
use Rattle.mvcc.proofs.admission.AdmitLaws.{open_look}
use Rattle.mvcc.proofs.admission.open.Goals as goal
use Rattle.mvcc.proofs.admission.open.Goals.{then-version-eq0-via-then-version-eq0, then-version-eq0-via-else-version-eq0+then-version}

pub returns-then-handle : goal.returns-then-handle
returns-then-handle c = let a = c.args in open_read a.handle (has_row (active_key a.handle) (shown a.view.now)) c.if-handle.true

pub returns-then-version-eq0 : goal.returns-then-version-eq0
returns-then-version-eq0 c =
    let a = c.args in
    let live = has_row (active_key a.handle) (shown a.view.now) in
    elim c.then-version-eq0.branch [
      | then-version-eq0-via-then-version-eq0 w ↦ open_zero a.handle live c.if-handle.false w.if-version-eq0.true
      | then-version-eq0-via-else-version-eq0+then-version w ↦ open_last a.handle live c.if-handle.false w.if-version-eq0.false w.if-version.true
    ]

pub returns : goal.returns
returns c = let a = c.args in open_look (shown a.view.now) a.handle c.active_code-code.result _ c.if-handle.false c.if-version-eq0.false c.if-version.false c.active_code-code.ensures (rw c.as_slice.ensures at c.live.ensures)
