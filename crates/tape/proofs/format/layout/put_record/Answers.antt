-- `put_record` lays a record's four pieces, one behind the other.
use Rattle.tape.proofs.format.LayoutLaws.{mid-laid, record_laid}
use native.Mathlib.Omega.{arith}
use Rattle.tape.proofs.format.layout.put_record.Goals as goal

pub returns : goal.returns
returns c =
    let a = c.args in
    let p = c.requires in
    record_laid a.out.now a.at a.a a.b a.w a.key.now a.value.now p.0 p.1 p.2
    (mid-laid a.out.now a.at _ c.copy_from_slice.ensures.after (omega arith)) c.put_number.ensures c.put_padded.ensures c.put_padded-2.ensures
