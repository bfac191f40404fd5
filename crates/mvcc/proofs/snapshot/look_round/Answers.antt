-- `look_round`: NextVersion, then the open versions.
use mathlib.Core.Path.{◌∙◌}
use borrow.Author.Rules.{rules}
use Rattle.bitcask.specs.engine.Views.{shown}
use Rattle.mvcc.specs.snapshot.Active.{versions_in, keys_in, active_rows}
use Rattle.mvcc.proofs.snapshot.ActiveLaws.{round_bad, round_seen}
use Rattle.mvcc.proofs.snapshot.look_round.Goals as goal

pub returns-in_err-version : goal.returns-in_err-version
returns-in_err-version c = let a = c.args in c.from_residual.ensures ∙ round_bad a.read_only (versions_in (keys_in (active_rows (shown a.view.now)))) c.next_version.ensures (search rules)

pub returns : goal.returns
returns c = let a = c.args in round_seen a.read_only (versions_in (keys_in (active_rows (shown a.view.now)))) _ c.next_version.ensures c.in_ok-version.was c.fresh.ensures c.actives.ensures
