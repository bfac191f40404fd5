-- `row_from`: none past the last, else by the key of the row.
use Rattle.bitcask.proofs.engine.WalkLaws.{from-none, from-within, from_at, from_past}
use Rattle.bitcask.proofs.engine.view.View.row_from.Goals as goal

pub returns-then-self-spot : goal.returns-then-self-spot
returns-then-self-spot c = let a = c.args in let v = a.self.now in from-none v.log.now v.table.now v.mark a.spot a.upper a.high.now c.if-self-spot.true

pub key_at-requires : goal.key_at-requires
key_at-requires c = let a = c.args in let v = a.self.now in from-within v.log.now v.table.now v.mark a.spot a.upper a.high.now c.if-self-spot.false

pub returns-then-admits : goal.returns-then-admits
returns-then-admits c = let a = c.args in let v = a.self.now in from_at v.log.now v.table.now v.mark a.spot a.upper a.high.now c.if-self-spot.false c.key_at.ensures c.compare.ensures c.admits.ensures c.if-admits.true

pub returns : goal.returns
returns c = let a = c.args in let v = a.self.now in from_past v.log.now v.table.now v.mark a.spot a.upper a.high.now c.if-self-spot.false c.key_at.ensures c.compare.ensures c.admits.ensures c.if-admits.false
