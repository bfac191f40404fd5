-- What the calls of the tape promise: the answers that they lay into the lent buffer, and every byte and word that they leave. Assumes
-- nothing.
use Rattle.tape.specs.declared.state.Turn.{Turn}
use Rattle.keycode.specs.declared.refusal.Refusal.{Refusal}
use Rattle.std.specs.Prelude.{ℕ, ◌/◌, ◌≡◌, Bool, true, false, List, length, eqb, leb, Result, Ok, Err}
use Rattle.keycode.specs.Tests.{pick}
use Rattle.keycode.specs.Buffer.{put}
use Rattle.keycode.specs.declared.refusal.Refusal.TheVariants.{BadRequest}
use Rattle.tape.specs.format.Layout.{record_len}
use Rattle.tape.specs.format.Slots.{all_words}
use Rattle.tape.specs.Turns.{bench_of, Turned}

-- answers that are as they must be stand at the front of the lent buffer, `len` bytes, and its other bytes stay
pub record Lays (P : List ℕ → Type 0) (out : List ℕ) (len : ℕ) (out' : List ℕ) : Type 0 where
  pub answers : List ℕ
  pub so : P answers
  pub bytes : out' ≡ put out 0 answers
  pub long : len ≡ length answers

-- room for one answer at least, and sixteen slots
unfoldable pub lent_well : ℕ → ℕ → Bool
lent_well room words = pick (leb record_len room) (eqb words all_words) false

-- what was lent, and what is left of it
pub record Lent : Type 0 where
  pub first : List ℕ
  pub second : List ℕ
  pub table : List ℕ
  pub slots : List ℕ
  pub out : List ℕ

abbrev pub TakenBy : Lent → ℕ → Bool → List ℕ → Result Turn Refusal → Lent → Type 0
TakenBy l used other r (Ok t) l' =
    Lays (Turned (bench_of other l.first l.second used l.table l.slots) r (length l.out / record_len) (bench_of t.other l'.first l'.second t.used.len l'.table l'.slots))
    l.out t.len l'.out
TakenBy l used other r (Err e) l' = (e ≡ BadRequest) × (l' ≡ l)

abbrev pub is_taken : Result Turn Refusal → Bool
is_taken (Ok t) = true
is_taken (Err e) = false

-- 13 where the answers have no room or the slots are not sixteen, and nothing changes; else the record is taken
pub record Takes (l : Lent) (used : ℕ) (other : Bool) (r : List ℕ) (a : Result Turn Refusal) (l' : Lent) : Type 0 where
  pub well : is_taken a ≡ lent_well (length l.out) (length l.slots)
  pub turn : TakenBy l used other r a l'
