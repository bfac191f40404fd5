-- `decode_into` lays the fields of a key.
use Rattle.host.proofs.AnswerLaws.{decode-laid}
use Rattle.host.proofs.coding.decode_into.Goals as goal

pub returns : goal.returns
returns c = let a = c.args in decode-laid a.bytes.now a.out.now _ c.if-out-lt-FIELDS.false c.decode.ensures c.in_ok-decode.was c.from.ensures c.lay_out.ensures
