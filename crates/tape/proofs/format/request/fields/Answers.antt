-- `fields` reads a request's five numbers.
use Rattle.tape.proofs.format.RequestLaws.{fields_read}
use Rattle.tape.proofs.format.request.fields.Goals as goal

pub returns : goal.returns
returns c = fields_read c.args.bytes.now c.from.ensures c.from-2.ensures c.from-3.ensures c.get_number.ensures
