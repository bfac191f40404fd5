-- `take_set` does to the words what recovery's does.
use mathlib.Core.Path.{ap, ◌∙◌}
use Rattle.std.specs.Prelude.{ℕ, false}
use Rattle.bitcask.specs.recovery.Recover.{room_for}
use Rattle.host.proofs.TakeLaws.{found_among, set_full, set_takes}
use Rattle.host.specs.Table.{words_in}
use Rattle.host.proofs.opening.take_set.Goals as goal

pub returns-then-not-has_room : goal.returns-then-not-has_room
returns-then-not-has_room c =
    let a = c.args in
    set_full a.log.now (words_in a.table.now) a.count a.s c.key_of.ensures c.find-found.ensures a.end
    (c.has_room.ensures ∙ ap (λ (n : ℕ). room_for n false c.find-found.result a.count) c.room.ensures) c.if-not-has_room.true

pub enter-requires : goal.enter-requires
enter-requires c = let a = c.args in (found_among a.log.now (words_in a.table.now) a.count a.s c.key_of.ensures c.find-found.ensures, c.requires)

pub returns : goal.returns
returns c =
    let a = c.args in
    set_takes a.log.now (words_in a.table.now) a.count a.s c.key_of.ensures c.find-found.ensures a.end
    (c.has_room.ensures ∙ ap (λ (n : ℕ). room_for n false c.find-found.result a.count) c.room.ensures) c.if-not-has_room.false c.enter.ensures
