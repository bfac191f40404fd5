use native.Mathlib.Omega.{arith}
use Rattle.tape.proofs.ScanLaws.{scan_start, scan_room, scan_turn, scan_over}
use Rattle.tape.proofs.scan.show_all.Goals as goal

pub loop-k-init : goal.loop-k-init
loop-k-init c = scan_start _ _ _ _ _ c.requires.0 c.requires.1

pub show_step-requires : goal.show_step-requires
show_step-requires c = let g = c.loop-k.invariant in (scan_room g, g.room, g.short)

pub overflow_add-n : goal.overflow_add-n
overflow_add-n c = omega (arith, c.loop-k.invariant.fits)

pub loop-k-smaller : goal.loop-k-smaller
loop-k-smaller c = omega (arith, c.loop-k.invariant.fits)

pub loop-k-preserved : goal.loop-k-preserved
loop-k-preserved c = scan_turn c.loop-k.invariant c.show_step.ensures _ c.in-Some.is c.show_step.auto.kept c.show_step.auto.out

pub overflow_add-result : goal.overflow_add-result
overflow_add-result c = omega (arith, c.loop-k.invariant.fits)

pub overflow_mul-result : goal.overflow_mul-result
overflow_mul-result c = omega (arith, c.loop-k.invariant.fits)

pub returns : goal.returns
returns c = scan_over c.loop-k.invariant c.show_step.ensures c.in_default.is
