-- A transaction's write: the tests in the order of refusals, and the entries. Assumes nothing.
use Rattle.keycode.specs.declared.refusal.Refusal.{Refusal}
use Rattle.std.specs.Prelude.{ℕ, Bool, List, [], ◌∷◌, Result, ⊤, Err}
use Rattle.keycode.specs.Tests.{pick}
use Rattle.keycode.specs.declared.refusal.Refusal.TheVariants.{ReadOnly, NotOpen, BadRequest}
use Rattle.keycode.specs.key.Keys.{encode, txn_write, version}
use Rattle.bitcask.specs.entry.Entry.{Entry, set}
use Rattle.mvcc.specs.append.Lays.{sizes_by}

-- 13 for the sizes of the request and for the handle, 2, 3, 4, 5
unfoldable pub allow_by : Bool → Bool → Bool → Bool → Bool → Bool → Result ⊤ Refusal
allow_by fits sound reads active short small =
    pick fits (pick sound (pick reads (Err ReadOnly) (pick active (sizes_by short small) (Err NotOpen))) (Err BadRequest)) (Err BadRequest)

-- the entries: TxnWrite, then Version with its payload
unfoldable pub plan : ℕ → List ℕ → List ℕ → List Entry
plan v key payload = set (encode (txn_write v key)) [] ∷ set (encode (version key v)) payload ∷ []
