-- `put_head` lays the two lengths and the key.
use Prim.Native.Nat.{ℕ, ◌+◌}
use mathlib.Core.Path.{ap, ◌∙◌}
use Rattle.keycode.specs.Number.{be}
use Rattle.keycode.specs.Buffer.{put}
use Rattle.bitcask.proofs.entry.EntryLaws.{head_laid}
use Rattle.bitcask.proofs.entry.write.put_head.Goals as goal

pub returns : goal.returns
returns c = let a = c.args in (c.copy_into.ensures.0, head_laid a.log.now a.at a.key.now a.bits c.requires.0 c.put_number.ensures (c.put_number-2.ensures ∙ ap (λ (b : ℕ). put c.put_number.new.out (a.at + 4) (be 4 b)) c.from.ensures) c.copy_into.ensures.1)
