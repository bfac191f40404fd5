-- `entry_at` finds what stands at an offset.
use mathlib.Core.Path.{sym}
use Rattle.bitcask.proofs.entry.ReadingLaws.{entry-short, read_keyless, read_cut, read_set_lem, read_del}
use native.Mathlib.Omega.{arith}
use Rattle.bitcask.proofs.entry.read.entry_at.Goals as goal

pub returns-then-left-lt8 : goal.returns-then-left-lt8
returns-then-left-lt8 c = let a = c.args in sym (entry-short a.log.now a.used a.at (omega arith))

pub returns-then-room-klen : goal.returns-then-room-klen
returns-then-room-klen c = let a = c.args in read_keyless a.log.now a.used a.at c.word_at-klen.ensures (omega arith)

pub returns-in-Some : goal.returns-in-Some
returns-in-Some c = let a = c.args in read_cut a.log.now a.used a.at c.word_at-klen.ensures c.word_at.ensures c.value_len.ensures c.in-Some.vlen c.in-Some.is (omega arith)

pub returns-in-Some-2 : goal.returns-in-Some-2
returns-in-Some-2 c = let a = c.args in read_set_lem a.log.now a.used a.at c.word_at-klen.ensures c.word_at.ensures c.value_len.ensures c.in-Some.vlen c.in-Some.is (omega arith)

pub returns-in-None : goal.returns-in-None
returns-in-None c = let a = c.args in read_del a.log.now a.used a.at c.word_at-klen.ensures c.word_at.ensures c.value_len.ensures c.in-None.is (omega arith)
