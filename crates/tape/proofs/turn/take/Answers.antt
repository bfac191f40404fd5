-- `take` tests what was lent, and takes the record with the log first.
use native.Mathlib.Omega.{arith}
use Rattle.tape.proofs.TurnLaws.{take_short, take-slots, take-first, take_second}
use Rattle.tape.proofs.turn.take.Goals.{then-out-lt-RECORD-via-then-out-lt-RECORD, then-out-lt-RECORD-via-else-out-lt-RECORD+then-slots-ne-ALL_WORDS}
use Rattle.tape.proofs.turn.take.Goals as goal

pub returns-then-out-lt-RECORD : goal.returns-then-out-lt-RECORD
returns-then-out-lt-RECORD c =
    elim c.then-out-lt-RECORD.branch [
      | then-out-lt-RECORD-via-then-out-lt-RECORD w ↦ take_short _ _ _ _ w.if-out-lt-RECORD.true
      | then-out-lt-RECORD-via-else-out-lt-RECORD+then-slots-ne-ALL_WORDS w ↦ take-slots _ _ _ _ w.if-out-lt-RECORD.false w.if-slots-ne-ALL_WORDS.true
    ]

pub returns-then-other : goal.returns-then-other
returns-then-other c = take_second _ _ _ _ (omega arith) (omega arith) c.turn-t.result c.if-other.true c.turn-t.ensures

pub returns : goal.returns
returns c = take-first _ _ _ _ (omega arith) (omega arith) c.turn.result c.if-other.false c.turn.ensures
