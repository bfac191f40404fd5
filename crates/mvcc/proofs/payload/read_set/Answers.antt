-- `read_set` makes the three tests in this order.
use Rattle.mvcc.proofs.payload.PayloadLaws.{set_odd, set-many, set_down, set_fine}
use Rattle.mvcc.proofs.payload.read_set.Goals as goal

pub returns-then-bytes-ne0 : goal.returns-then-bytes-ne0
returns-then-bytes-ne0 c = set_odd c.args.bytes.now c.args.handle c.if-bytes-ne0.true

pub returns-then-bytes-gt-MAX_OPEN : goal.returns-then-bytes-gt-MAX_OPEN
returns-then-bytes-gt-MAX_OPEN c = set-many c.args.bytes.now c.args.handle c.if-bytes-ne0.false c.if-bytes-gt-MAX_OPEN.true

pub returns-then-not-sound : goal.returns-then-not-sound
returns-then-not-sound c = set_down c.args.bytes.now c.args.handle c.if-bytes-ne0.false c.if-bytes-gt-MAX_OPEN.false _ c.gathered-read.ensures _ c.sound.ensures c.if-not-sound.true

pub returns : goal.returns
returns c = set_fine c.args.bytes.now c.args.handle c.if-bytes-ne0.false c.if-bytes-gt-MAX_OPEN.false _ c.gathered-read.ensures _ c.sound.ensures c.if-not-sound.false
