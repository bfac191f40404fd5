-- `modest` tests a command and the four fields behind it.
use Rattle.tape.proofs.format.RequestLaws.{modest_unknown, modest-slot, modest-key, modest-value, modest-version}
use Rattle.std.proofs.lemmas.Bool.{not_from_true, not_from_false}
use Rattle.tape.proofs.format.request.modest.Goals as goal

pub returns-then-not-between : goal.returns-then-not-between
returns-then-not-between c = modest_unknown _ c.between.ensures (not_from_false _ c.if-not-between.true)

pub returns-then-slot_most-q : goal.returns-then-slot_most-q
returns-then-slot_most-q c = modest-slot _ c.between.ensures (not_from_true _ c.if-not-between.false) c.slot_most.ensures c.if-slot_most-q.true

pub returns-then-key_most-q : goal.returns-then-key_most-q
returns-then-key_most-q c = modest-key _ c.between.ensures (not_from_true _ c.if-not-between.false) c.slot_most.ensures c.if-slot_most-q.false c.key_most.ensures c.if-key_most-q.true

pub returns-then-value_most-q : goal.returns-then-value_most-q
returns-then-value_most-q c =
    modest-value _ c.between.ensures (not_from_true _ c.if-not-between.false) c.slot_most.ensures c.if-slot_most-q.false c.key_most.ensures c.if-key_most-q.false
    c.value_most.ensures c.if-value_most-q.true

pub returns : goal.returns
returns c =
    modest-version _ c.between.ensures (not_from_true _ c.if-not-between.false) c.slot_most.ensures c.if-slot_most-q.false c.key_most.ensures
    c.if-key_most-q.false c.value_most.ensures c.if-value_most-q.false c.version_most.ensures
