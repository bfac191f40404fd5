-- `word_at` reads four bytes, whose number fits 32 bits.
use Rattle.bitcask.proofs.entry.ReadingLaws.{word_part, word_fits, word_read}
use Rattle.host.proofs.bytes.word_at.Goals as goal

pub get_number-requires : goal.get_number-requires
get_number-requires c = word_part c.args.table.now c.args.at c.clip.ensures

pub overflow_cast-result : goal.overflow_cast-result
overflow_cast-result c = record { fits = rw c.get_number.ensures (word_fits c.args.table.now c.args.at c.clip.ensures (λ i. (c.type_inv.table i).fits)) }

pub returns : goal.returns
returns c = word_read c.args.table.now c.args.at c.clip.ensures _ c.get_number.ensures
