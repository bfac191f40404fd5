-- Words of a table moved. Assumes nothing.
use Rattle.std.specs.Prelude.{ℕ, List}
use Rattle.std.proofs.Math.Seq.{slice}
use Rattle.keycode.specs.Buffer.{put}

-- the words from f to t laid once more from index g on, the others as they were
unfoldable pub copied : List ℕ → ℕ → ℕ → ℕ → List ℕ
copied l f t g = put l g (slice f t l)
