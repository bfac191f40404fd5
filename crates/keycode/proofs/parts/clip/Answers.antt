-- `clip` hands back a part, cut where the bytes end.
use Rattle.keycode.proofs.BufferLaws.{clip_past, clip_rest, clip_whole}
use Rattle.keycode.proofs.parts.clip.Goals as goal

pub returns-then-n-at : goal.returns-then-n-at
returns-then-n-at c = clip_past c.args.s.now c.args.at c.args.len c.if-n-at.true

pub returns-then-n-at-2 : goal.returns-then-n-at-2
returns-then-n-at-2 c = clip_rest c.args.s.now c.args.at c.args.len c.if-n-at-2.true

pub returns : goal.returns
returns c = clip_whole c.args.s.now c.args.at c.args.len
