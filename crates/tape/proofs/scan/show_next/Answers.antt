-- `show_next` unescapes the key that a step gave and shows it with its value.
use native.Mathlib.Omega.{arith}
use Rattle.tape.specs.Answers.{bytes_at}
use Rattle.tape.proofs.ScanLaws.{kept-short, next-shown, key_refused}
use Rattle.tape.proofs.scan.show_next.Goals as goal

pub show_pair-requires : goal.show_pair-requires
show_pair-requires c = let a = c.args in let s = kept-short (bytes_at a.log.now a.key) a.kept.now c.part.ensures c.requires.1 c.unescape.ensures _ c.in-Ok.is in (omega arith, omega (arith, s), s)

pub returns-in-Ok : goal.returns-in-Ok
returns-in-Ok c = let a = c.args in next-shown (bytes_at a.log.now a.key) a.kept.now c.part.ensures c.requires.1 c.unescape.ensures _ c.in-Ok.is (bytes_at a.log.now a.value) c.part-in-Ok.ensures a.out.now a.n c.show_pair.result c.show_pair.new.out c.show_pair.ensures

pub returns-in-Err : goal.returns-in-Err
returns-in-Err c = let a = c.args in key_refused (bytes_at a.log.now a.key) a.kept.now c.part.ensures c.requires.1 c.unescape.ensures _ c.in-Err.is (bytes_at a.log.now a.value) a.out.now a.n c.put_refusal.ensures
