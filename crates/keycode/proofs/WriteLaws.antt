-- What a call that writes into a lent buffer answers and leaves, and how an unescaping answers. Assumes nothing.
use Prim.Native.Nat.{ℕ, ◌≤◌, ◌<◌}
use mathlib.Core.Path.{◌≡◌, ◌∙◌}
use mathlib.Core.List.{List}
use borrow.Author.Tests.{le-leb, lt-leb}
use Rattle.std.specs.Prelude.{Result, ℕ, Ok, Err}
use Rattle.keycode.specs.declared.refusal.Refusal.{Refusal}
use Rattle.keycode.specs.declared.refusal.Refusal.TheVariants.{BadRequest}
use Rattle.keycode.specs.Buffer.{put}
use Rattle.keycode.specs.Strings.{plain_length}
use Rattle.keycode.specs.Promises.{Writes, fitted, into_room}
use Rattle.keycode.proofs.BufferLaws.{refused_stays, put_front}

-- ---- what any call that writes into a lent buffer answers and leaves

pub writes_refused : (a : Result ℕ Refusal) (e d : List ℕ) (r : Refusal) → Err r ≡ a → Writes a e d (Err r) d
writes_refused a e d r h = record { answer = h; buffer = refused_stays r _ d }

pub writes_done : (a : Result ℕ Refusal) (e d out : List ℕ) (n : ℕ) → Ok n ≡ a → out ≡ put d 0 e → Writes a e d (Ok n) out
writes_done a e d out n h q = record { answer = h; buffer = q ∙ put_front d e }

-- ---- unescaping, by what `plain_len` answered

module _ (s : List ℕ) (room : ℕ) (got : Result ℕ Refusal) (says : got ≡ plain_length s) where
  pub into_refused : (r : Refusal) → got ≡ Err r → Err r ≡ into_room (plain_length s) room
  into_refused r g = rw (← says, g)

  module _ (n : ℕ) (g : got ≡ Ok n) where
    pub into_short : room < n → Err BadRequest ≡ into_room (plain_length s) room
    unfolding fitted
    into_short h = rw (← says, g, lt-leb n room h)

    pub into_done : n ≤ room → Ok n ≡ into_room (plain_length s) room
    unfolding fitted
    into_done h = rw (← says, g, le-leb n room h)
