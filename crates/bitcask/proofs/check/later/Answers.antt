use Rattle.bitcask.proofs.check.TellLaws.{looking_start, looking-over, looking-here, looking-next, looking_less}
use Rattle.bitcask.proofs.check.later.Goals as goal

pub loop-e-init : goal.loop-e-init
loop-e-init c = looking_start _ _ _ _ c.requires.0

pub returns : goal.returns
returns c = looking-over c.loop-e.invariant c.entry_from.ensures c.in_default.is

pub returns-then-same_key : goal.returns-then-same_key
returns-then-same_key c = looking-here c.loop-e.invariant c.entry_from.ensures _ c.in-Some.is c.same_key.ensures c.if-same_key.true

pub loop-e-smaller : goal.loop-e-smaller
loop-e-smaller c = looking_less c.loop-e.invariant c.entry_from.ensures _ c.in-Some.is _ c.past-at.ensures

pub loop-e-preserved : goal.loop-e-preserved
loop-e-preserved c = looking-next c.loop-e.invariant c.entry_from.ensures _ c.in-Some.is _ c.past-at.ensures c.same_key.ensures c.if-same_key.false
