-- `put_flag` writes one byte.
use Rattle.rows.proofs.EncodeLaws.{flag-room, flag_put}
use Rattle.rows.proofs.encoding.put_flag.Goals as goal

pub bounds-out-at : goal.bounds-out-at
bounds-out-at c = flag-room c.args.out.now c.args.at c.args.b c.requires

pub returns : goal.returns
returns c = flag_put c.args.out.now c.args.at c.args.b c.requires _ c.from.ensures
