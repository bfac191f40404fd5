use mathlib.Core.Path.{refl, ap, ◌∙◌}
use Rattle.std.specs.Prelude.{Ok}
use Rattle.host.proofs.WalkLaws.{walk_start, walk_room, walk_over, walk_full, walk_next, walk_less}
use Rattle.host.specs.Table.{words_in}
use Rattle.host.proofs.OpenLaws.{cleared}
use Rattle.host.proofs.opening.walk.Goals as goal

pub loop-next-init : goal.loop-next-init
loop-next-init c = let a = c.args in (walk_start a.log.now a.used (words_in a.table.now) c.requires.1, refl)

pub take_entry-requires : goal.take_entry-requires
take_entry-requires c = let i = c.loop-next.invariant.0 in (i.within, c.requires.0, walk_room i)

pub loop-next-smaller : goal.loop-next-smaller
loop-next-smaller c = walk_less c.loop-next.invariant.0 c.take_entry.ensures _ (c.in-Ok-Some.is ∙ ap Ok c.in-Ok-Some.field-0-is)

pub loop-next-preserved : goal.loop-next-preserved
loop-next-preserved c = (walk_next c.loop-next.invariant.0 c.take_entry.ensures _ (c.in-Ok-Some.is ∙ ap Ok c.in-Ok-Some.field-0-is), c.take_entry.auto.table ∙ c.loop-next.invariant.1)

pub returns-in-Ok-None : goal.returns-in-Ok-None
returns-in-Ok-None c = walk_over c.loop-next.invariant.0 c.take_entry.ensures (c.in-Ok-None.is ∙ ap Ok c.in-Ok-None.field-0-is)

pub returns-in-Err : goal.returns-in-Err
returns-in-Err c =
    let p = walk_full c.loop-next.invariant.0 c.take_entry.ensures _ c.in-Err.is in
    let long = c.take_entry.auto.table ∙ c.loop-next.invariant.1 in
    record { answer = p.answer; table = cleared c.args.table.now c.take_entry.new.table (c.fill.ensures.after (λ y e. e)) long ∙ p.table }
