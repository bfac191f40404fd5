-- `del_key` asks for room, and appends the tombstone.
use native.Mathlib.Omega.{arith}
use Rattle.bitcask.specs.engine.Stores.{state_of}
use Rattle.mvcc.proofs.end.CloseLaws.{del_tight, del_done}
use Rattle.mvcc.proofs.end.clear.del_key.Goals as goal
use Rattle.mvcc.proofs.end.clear.del_key.Goals.{then-room-lt8-via-then-room-lt8, then-room-lt8-via-else-room-lt8+then-room-key}

pub returns-then-room-lt8-clause-state : goal.returns-then-room-lt8-clause-state
returns-then-room-lt8-clause-state c =
    let a = c.args in let s = a.store.now in
    elim c.then-room-lt8.branch [
      | then-room-lt8-via-then-room-lt8 w ↦ del_tight (state_of s) a.key.now (omega (arith, s.held.within))
      | then-room-lt8-via-else-room-lt8+then-room-key w ↦ del_tight (state_of s) a.key.now (omega (arith, s.held.within))
    ]

pub returns-clause-state : goal.returns-clause-state
returns-clause-state c = let a = c.args in let s = a.store.now in del_done (state_of s) a.key.now (omega (arith, s.held.within)) c.append_del.ensures.state
