-- `in_order` compares the keys of two slots.
use mathlib.Core.Path.{◌∙◌}
use Rattle.bitcask.proofs.check.TellLaws.{less-is, pair_is}
use Rattle.bitcask.proofs.check.in_order.Goals as goal

pub returns : goal.returns
returns c =
    let a = c.args in
    c.is_lt.ensures ∙ less-is c.compare.result
    ∙ pair_is a.log.now a.slots.table.now a.slots.count a.i c.requires c.slot_at.ensures c.slot_at-2.ensures c.key_of-key.ensures c.key_of.ensures c.compare.ensures
