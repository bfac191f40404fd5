-- `read_flag` goes by the byte: none, 00, 01 or another.
use Rattle.rows.proofs.ReadLaws.{flag-few, flag_no, flag_yes, flag_wrong}
use Rattle.rows.proofs.decoding.read_flag.Goals as goal

pub returns-in-Some-eq0 : goal.returns-in-Some-eq0
returns-in-Some-eq0 c =
    let l = c.in-Some-eq0.ensures.lookup in
    flag_no c.args.key.now c.args.at l.0 _ l.1 c.in-Some-eq0.field-0-test

pub returns-in-Some-eq1 : goal.returns-in-Some-eq1
returns-in-Some-eq1 c =
    let l = c.in-Some-eq1.ensures.lookup in
    flag_yes c.args.key.now c.args.at l.0 _ l.1 c.in-Some-eq1.field-0-test

pub returns-in-Some : goal.returns-in-Some
returns-in-Some c =
    let l = c.in-Some.ensures.lookup in
    flag_wrong c.args.key.now c.args.at l.0 _ l.1 c.in-Some.field-0-test.0.1 c.in-Some.field-0-test.1

pub returns-in-None : goal.returns-in-None
returns-in-None c = flag-few c.args.key.now c.args.at c.in-None.ensures.lookup.0
