-- `show_end` lays the count of the pairs, or a refusal in its place.
use Rattle.tape.proofs.ScanLaws.{end_counted, end_refused}
use Rattle.tape.proofs.scan.show_end.Goals as goal

pub returns-then-number-eq1 : goal.returns-then-number-eq1
returns-then-number-eq1 c = let a = c.args in end_counted a.n a.out.now a.r c.number_of-number.ensures c.if-number-eq1.true c.put_word.ensures

pub returns : goal.returns
returns c = let a = c.args in end_refused a.n a.out.now a.r c.number_of-number.ensures c.if-number-eq1.false c.put_plain.ensures
