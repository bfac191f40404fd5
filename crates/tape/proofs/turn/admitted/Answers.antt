-- `admitted` tests the layout, then the slot.
use mathlib.Core.Path.{◌∙◌, sym, subst}
use Prim.Native.Nat.{◌<◌}
use Rattle.tape.specs.declared.format.request.Request.{Request}
use Rattle.tape.proofs.AdmitLaws.{admit_not, admit_so, proper-slot}
use Rattle.tape.proofs.turn.admitted.Goals as goal

pub filled-requires : goal.filled-requires
filled-requires c = (c.requires.1, subst (λ (q : Request). q.slot < 16) (sym c.fields-q.ensures) (proper-slot c.args.bytes.now (sym c.proper-good.ensures ∙ c.if-good.true)))

pub returns-then-good : goal.returns-then-good
returns-then-good c = admit_so c.args.bytes.now c.args.slots.now c.proper-good.ensures c.if-good.true c.fields-q.ensures c.filled.ensures c.slot_fits.ensures

pub returns : goal.returns
returns c = admit_not c.args.bytes.now c.args.slots.now c.proper-good.ensures c.if-good.false
