-- `lay_out` writes the tag and three numbers.
use Rattle.host.proofs.AnswerLaws.{lay-is}
use Rattle.host.proofs.coding.Split.lay_out.Goals as goal

pub returns : goal.returns
returns c = let a = c.args in lay-is a.self.kind a.self.version a.self.at a.self.len a.out.now _ _ _ c.requires c.put_number.ensures c.put_number-2.ensures c.put_number-3.ensures
