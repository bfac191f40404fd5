use mathlib.Core.Path.{refl}
use Rattle.mvcc.proofs.version.SeenLaws.{seek_over, seek_stands, seek_less, seek_hidden, seek_decided}
use Rattle.mvcc.proofs.version.seek.Goals as goal

pub loop-p-init : goal.loop-p-init
loop-p-init c = record { within = c.requires; same = refl }

pub row_before-requires : goal.row_before-requires
row_before-requires c = (c.loop-p.invariant.within)

pub seen_at-seen-requires : goal.seen_at-seen-requires
seen_at-seen-requires c = (seek_stands c.loop-p.invariant c.row_before.ensures _ c.in-Some.is)

pub returns-in_default-seen : goal.returns-in_default-seen
returns-in_default-seen c = seek_decided c.loop-p.invariant c.row_before.ensures _ c.in-Some.is c.seen_at-seen.ensures c.in_default-seen.not-Hidden

pub loop-p-smaller : goal.loop-p-smaller
loop-p-smaller c = seek_less c.loop-p.invariant c.row_before.ensures _ c.in-Some.is

pub loop-p-preserved : goal.loop-p-preserved
loop-p-preserved c = seek_hidden c.loop-p.invariant c.row_before.ensures _ c.in-Some.is c.seen_at-seen.ensures c.in-Hidden.is

pub returns : goal.returns
returns c = seek_over c.loop-p.invariant c.row_before.ensures c.in_default.is
