-- `put_plain` lays a record with no key and no value.
use Rattle.tape.specs.format.Layout.{plainly}
use Rattle.tape.proofs.format.layout.put_plain.Goals as goal

pub returns : goal.returns
unfolding plainly
returns c = c.put_record.ensures
