-- `read_word` has its eight bytes or not.
use Rattle.rows.proofs.ReadLaws.{word-few, word_read}
use Rattle.rows.proofs.decoding.read_word.Goals as goal

pub returns-then-bytes-lt8 : goal.returns-then-bytes-lt8
returns-then-bytes-lt8 c = word-few c.args.key.now c.args.at _ c.clip-bytes.ensures c.if-bytes-lt8.true

pub returns : goal.returns
returns c =
    word_read c.args.key.now c.args.at _ c.clip-bytes.ensures c.if-bytes-lt8.false
    _ c.get_number.ensures
