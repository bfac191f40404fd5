-- What stands at an offset of a log of which `used` bytes count. An entry that ends exactly
-- at the used length is whole, one that runs past it is none. Assumes nothing.
use Rattle.std.specs.Prelude.{ℕ, ◌+◌, List, leb, length, take, drop, Option, Some, None}
use Rattle.keycode.specs.Tests.{pick}
use Rattle.keycode.specs.Number.{num}
use Rattle.bitcask.specs.declared.entry.read.Lengths.{Lengths}
use Rattle.bitcask.specs.declared.entry.read.Lengths.TheVariants.{Set, Del}
use Rattle.bitcask.specs.entry.Length.{length_of}
use Rattle.bitcask.specs.entry.Entry.{Entry, set, del}

-- the number of the four bytes from index `at` on
unfoldable pub word_at : List ℕ → ℕ → ℕ
word_at log at = num (take 4 (drop at log))

-- the entry of a key length and a value length
abbrev pub headed : ℕ → Option ℕ → Option Lengths
headed k (Some n) = Some (Set k n)
headed k None = Some (Del k)

-- how many bytes it has, its header counted; none where nothing whole stands
abbrev pub size_read : Option Lengths → ℕ
size_read (Some (Set k n)) = 8 + k + n
size_read (Some (Del k)) = 8 + k
size_read None = 0

-- the entry that the header at index `at` announces
unfoldable pub head_at : List ℕ → ℕ → Option Lengths
head_at log at = headed (word_at log at) (length_of (word_at log (at + 4)))

-- the header must be whole, and then the entry that it announces
unfoldable pub entry_at : List ℕ → ℕ → ℕ → Option Lengths
entry_at log used at = pick (leb (at + 8) used) (pick (leb (at + size_read (head_at log at)) used) (head_at log at) None) None

-- an entry as it is read
abbrev pub read_of : Entry → Option Lengths
read_of (set k v) = Some (Set (length k) (length v))
read_of (del k) = Some (Del (length k))
