-- A scan's step over the pairs of a map: the first user key whose highest version that the handle sees is a value,
-- with that value. 12 for a key on the way that is no Version key, and for a highest version whose payload is none; behind the last version
-- of the key that it gives nothing is read. Assumes nothing.
use Rattle.bitcask.specs.declared.answers.KeyValue.{KeyValue}
use Rattle.keycode.specs.declared.refusal.Refusal.{Refusal}
use Rattle.std.specs.Prelude.{ℕ, ◌≡◌, Bool, true, false, not, List, [], ◌∷◌, take, drop, Result, ⊤, Ok, Option, None, Some}
use Rattle.keycode.specs.Tests.{pick}
use Rattle.keycode.specs.Limits.{max_key}
use Rattle.keycode.specs.Refusals.{number_of}
use Rattle.keycode.specs.Order.{compare_bytes}
use Rattle.keycode.specs.Strings.{escape_body, unescaped}
use Rattle.keycode.specs.key.Keys.{decode_why, forget}
use Rattle.keycode.specs.declared.parts.Part.{Part}
use Rattle.keycode.specs.declared.refusal.Refusal.TheVariants.{Absent, BadStore}
use Rattle.bitcask.specs.recovery.Map.{Pair}
use Rattle.bitcask.specs.read.Promises.{stepped_number}
use Rattle.mvcc.specs.declared.handle.Handle.{Handle}
use Rattle.mvcc.specs.handle.Handles.{sees}
use Rattle.mvcc.specs.payload.Payloads.{value_in, value_at}
use Rattle.mvcc.specs.request.Checks.{check_number, on_fine}
use Rattle.mvcc.specs.declared.version.Label.{Label}
use Rattle.mvcc.specs.version.Seen.{label_by}
use Rattle.mvcc.specs.walk.Walks.{is_equal, part_of}

-- ---- one pair

-- the user key and the version of a Version key; none of other keys
pub record Stamp : Type 0 where
  pub user : List ℕ
  pub version : ℕ

abbrev pub stamp_by : List ℕ → Option Label → Option Stamp
stamp_by b None = None
stamp_by b (Some l) = Some (record { user = unescaped (take l.string.len (drop l.string.at b)); version = l.version })

unfoldable pub stamp_of : List ℕ → Option Stamp
stamp_of b = stamp_by b (label_by (forget (decode_why max_key b)))

-- a user key and its value
pub record Given : Type 0 where
  pub user : List ℕ
  pub value : List ℕ

-- what a version is to a handle: one that it does not see, or what its payload holds
pub data Sight : Type 0 where
  hidden : Sight
  gone : Sight
  bad : Sight
  shows : Given → Sight

abbrev pub sight_by : List ℕ → Option (Option (List ℕ)) → Sight
sight_by user None = bad
sight_by user (Some None) = gone
sight_by user (Some (Some v)) = shows (record { user = user; value = v })

unfoldable pub sight_of : Handle → Stamp → List ℕ → Sight
sight_of h s payload = pick (sees h s.version) (sight_by s.user (value_at payload (value_in payload))) hidden

-- ---- the versions of one user key among pairs

abbrev pub same_user : List ℕ → List ℕ → Bool
same_user a b = is_equal (compare_bytes a b)

abbrev pub is_of : List ℕ → Option Stamp → Bool
is_of k None = false
is_of k (Some s) = same_user k s.user

unfoldable pub any_of : List ℕ → List Pair → Bool
any_of k [] = false
any_of k (q ∷ m) = pick (is_of k (stamp_of q.key)) true (any_of k m)

abbrev pub sight_for : Handle → List ℕ → List ℕ → Option Stamp → Sight
sight_for h k payload None = hidden
sight_for h k payload (Some s) = pick (same_user k s.user) (sight_of h s payload) hidden

abbrev pub or_sight : Sight → Sight → Sight
or_sight hidden t = t
or_sight gone t = gone
or_sight bad t = bad
or_sight (shows g) t = shows g

-- the highest that the handle sees, which is the last in the order of the keys
unfoldable pub highest : Handle → List ℕ → List Pair → Sight
highest h k [] = hidden
highest h k (q ∷ m) = or_sight (highest h k m) (sight_for h k q.value (stamp_of q.key))

-- whether every key up to the last of them is a Version key
abbrev pub clean_by : Option Stamp → Bool → Bool → Bool
clean_by None more clean = not more
clean_by (Some s) more clean = clean

unfoldable pub clean_to : List ℕ → List Pair → Bool
clean_to k [] = true
clean_to k (q ∷ m) = clean_by (stamp_of q.key) (any_of k m) (clean_to k m)

-- ---- the step: none is 12, some none is 1

-- by the highest version of a user key, and what is given behind it
abbrev pub step_by : Bool → Sight → Option (Option Given) → Option (Option Given)
step_by clean hidden rest = rest
step_by clean gone rest = rest
step_by clean bad rest = None
step_by clean (shows g) rest = pick clean (Some (Some g)) None

abbrev pub step_on : Handle → Pair → List Pair → Option Stamp → Option (Option Given) → Option (Option Given)
step_on h q m None rest = None
step_on h q m (Some s) rest = step_by (clean_to s.user m) (highest h s.user (q ∷ m)) rest

unfoldable pub step_pairs : Handle → List Pair → Option (Option Given)
step_pairs h [] = Some None
step_pairs h (q ∷ m) = step_on h q m (stamp_of q.key) (step_pairs h m)

-- ---- what an answer shows of it

abbrev pub step_number : Option (Option Given) → ℕ
step_number None = number_of BadStore
step_number (Some None) = number_of Absent
step_number (Some (Some g)) = 0

-- the bytes at two places are an escaped user key and its value
pub record GivenAt (log : List ℕ) (o : Option (Option Given)) (k v : Part) : Type 0 where
  pub pair : Given
  pub first : o ≡ Some (Some pair)
  pub key : part_of log k ≡ escape_body pair.user
  pub value : part_of log v ≡ pair.value

-- an answer's number is that of the checks that come first, or else that of the step over the pairs m, and its places hold what the step gives
pub record Shows (check : Result ⊤ Refusal) (h : Handle) (m : List Pair) (log : List ℕ) (r : Result KeyValue Refusal) : Type 0 where
  pub number : stepped_number r ≡ on_fine check (step_number (step_pairs h m)) (check_number check)
  pub given : (k v : Part) → r ≡ Ok (record { key = k; value = v }) → GivenAt log (step_pairs h m) k v
