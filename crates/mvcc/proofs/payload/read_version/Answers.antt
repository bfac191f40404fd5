-- `read_version` takes exactly eight bytes.
use Rattle.mvcc.proofs.payload.PayloadLaws.{version-bad, version_read}
use Rattle.mvcc.proofs.payload.read_version.Goals as goal

pub returns-then-bytes-ne-VERSION_BYTES : goal.returns-then-bytes-ne-VERSION_BYTES
returns-then-bytes-ne-VERSION_BYTES c = version-bad c.args.bytes.now c.if-bytes-ne-VERSION_BYTES.true

pub returns : goal.returns
returns c = version_read c.args.bytes.now _ c.if-bytes-ne-VERSION_BYTES.false c.get_number.ensures
