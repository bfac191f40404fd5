-- `proper` tests a record's fields, and then the bytes that must be zero.
use mathlib.Core.Path.{sym, ◌∙◌}
use Rattle.tape.proofs.format.RequestLaws.{modest_rooms, proper_not, proper-so}
use Rattle.tape.proofs.format.request.proper.Goals as goal

pub cleared-requires : goal.cleared-requires
cleared-requires c = let m = modest_rooms c.fields-q.result (sym c.modest.ensures ∙ c.if-modest.true) in (c.requires, m.0, m.1)

pub returns-then-modest : goal.returns-then-modest
returns-then-modest c = proper-so c.args.bytes.now c.fields-q.ensures c.modest.ensures c.if-modest.true c.cleared.ensures

pub returns-else-modest : goal.returns-else-modest
returns-else-modest c = proper_not c.args.bytes.now c.fields-q.ensures c.modest.ensures c.if-modest.false
