-- `word_at` reads four bytes, whose number fits 32 bits.
use Rattle.bitcask.proofs.entry.ReadingLaws.{word_fits, word_read}
use Rattle.bitcask.proofs.entry.read.word_at.Goals as goal

pub overflow_cast-result : goal.overflow_cast-result
overflow_cast-result c = record { fits = rw c.get_number.ensures (word_fits c.args.log.now c.args.at c.clip.ensures (λ i. (c.type_inv.log i).fits)) }

pub returns : goal.returns
returns c = word_read c.args.log.now c.args.at c.clip.ensures _ c.get_number.ensures
