-- `row_before`: none at the front, else by the key of the row before.
use Rattle.bitcask.proofs.engine.WalkLaws.{before-none, before_some_at, before-within, before_at_lem, before-past}
use Rattle.bitcask.proofs.engine.view.View.row_before.Goals as goal

pub returns-then-spot-eq0 : goal.returns-then-spot-eq0
returns-then-spot-eq0 c = let a = c.args in let v = a.self.now in before-none v.log.now v.table.now v.mark a.spot a.lower a.low.now c.if-spot-eq0.true

pub previous-before-requires : goal.previous-before-requires
previous-before-requires c = let a = c.args in let v = a.self.now in before_some_at v.log.now v.table.now v.mark a.spot a.lower a.low.now c.if-spot-eq0.false

pub key_at-requires : goal.key_at-requires
key_at-requires c = let a = c.args in let v = a.self.now in before-within v.log.now v.table.now v.mark a.spot a.lower a.low.now _ c.previous-before.ensures c.requires

pub returns-then-admits : goal.returns-then-admits
returns-then-admits c = let a = c.args in let v = a.self.now in before_at_lem v.log.now v.table.now v.mark a.spot a.lower a.low.now _ c.previous-before.ensures c.key_at.ensures c.compare.ensures c.admits.ensures c.if-admits.true

pub returns : goal.returns
returns c = let a = c.args in let v = a.self.now in before-past v.log.now v.table.now v.mark a.spot a.lower a.low.now _ c.previous-before.ensures c.key_at.ensures c.compare.ensures c.admits.ensures c.if-admits.false
