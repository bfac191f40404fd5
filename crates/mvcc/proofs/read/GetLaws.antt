-- Get keeps its promise. Assumes nothing.
use Prim.Native.Nat.{ℕ, ◌≤◌, ◌<◌}
use mathlib.Core.Path.{◌≡◌, refl, ap, ◌∙◌}
use mathlib.Core.Bool.{Bool, true, false, not}
use mathlib.Core.List.{List}
use lib.Dec.{leb, eqb}
use lib.ListN.{length}
use borrow.Author.Tests.{le-leb, lt-leb}
use Rattle.std.specs.Prelude.{Result, Ok, Err}
use Rattle.keycode.specs.declared.parts.Part.{Part}
use Rattle.keycode.specs.Tests.{pick}
use Rattle.keycode.specs.Limits.{max_key}
use Rattle.keycode.specs.declared.refusal.Refusal.{Refusal}
use Rattle.keycode.specs.declared.refusal.Refusal.TheVariants.{KeyTooLong}
use Rattle.bitcask.specs.declared.request.Used.{Used}
use Rattle.bitcask.specs.recovery.Agree.{fit}
use Rattle.bitcask.specs.read.Promises.{located_number}
use Rattle.bitcask.specs.declared.engine.mark.Mark.{Mark}
use Rattle.bitcask.specs.engine.Rows.{rows}
use Rattle.bitcask.specs.engine.Spots.{has_row}
use Rattle.bitcask.specs.engine.Marks.{mark_of, Agreeing}
use Rattle.mvcc.specs.declared.handle.Handle.{Handle}
use Rattle.mvcc.specs.handle.Handles.{sound_handle}
use Rattle.mvcc.specs.request.Checks.{active_key, open_by, admit_by}
use Rattle.mvcc.proofs.request.CheckLaws.{open_never, open_ever}
use Rattle.mvcc.specs.declared.version.Seen.{Seen}
use Rattle.mvcc.specs.declared.version.Seen.TheVariants.{Hidden, Gone, Bad, Value}
use Rattle.mvcc.specs.version.Seen.{located_seen}
use Rattle.mvcc.specs.read.Promises.{checked, get_answer, Gets}
use Rattle.mvcc.specs.admission.Admits.{Admits}
use Rattle.mvcc.specs.version.Seen.{last_rows, version_rows}
use Rattle.mvcc.proofs.admission.AdmitLaws.{open_rows, fine_rows}
use Rattle.mvcc.proofs.version.SeenLaws.{versions_agree}

-- ---- the numbers of an answer that comes behind the checks

module _ (l : Result Part Refusal) where
  checked-bad : (fits sound active : Bool) → eqb (located_number l) 13 ≡ false → eqb (located_number (checked (admit_by fits sound active) l)) 13 ≡ not (pick fits sound false)
  unfolding admit_by
  checked-bad true true true e = e
  checked-bad true true false e = refl
  checked-bad true false active e = refl
  checked-bad false sound active e = refl

  checked-never : (fits sound : Bool) → eqb (located_number (checked (admit_by fits sound false) l)) 3 ≡ pick fits sound false
  unfolding admit_by
  checked-never true true = refl
  checked-never true false = refl
  checked-never false sound = refl

  checked-ever : (fits sound : Bool) → eqb (located_number l) 3 ≡ false → eqb (located_number (checked (admit_by fits sound true) l)) 3 ≡ false
  unfolding admit_by
  checked-ever true true e = e
  checked-ever true false e = refl
  checked-ever false sound e = refl

  checked-long : (fits sound b : Bool) → eqb (located_number l) 4 ≡ b → eqb (located_number (checked (admit_by fits sound true) l)) 4 ≡ pick (pick fits sound false) b false
  unfolding admit_by
  checked-long true true b e = e
  checked-long true false b e = refl
  checked-long false sound b e = refl

-- the walk gives 0, 1 or 12
seen_number : (s : Seen) (n : ℕ) → eqb 0 n ≡ false → eqb 1 n ≡ false → eqb 12 n ≡ false → eqb (located_number (located_seen s)) n ≡ false
seen_number Hidden n a b c = b
seen_number Gone n a b c = b
seen_number Bad n a b c = c
seen_number (Value p) n a b c = a

module _ (s : Seen) where
  within-bad : (b : Bool) → eqb (located_number (pick b (located_seen s) (Err KeyTooLong))) 13 ≡ false
  within-bad true = seen_number s 13 refl refl refl
  within-bad false = refl

  within_open : (b : Bool) → eqb (located_number (pick b (located_seen s) (Err KeyTooLong))) 3 ≡ false
  within_open true = seen_number s 3 refl refl refl
  within_open false = refl

  within-long : (b : Bool) → eqb (located_number (pick b (located_seen s) (Err KeyTooLong))) 4 ≡ not b
  within-long true = seen_number s 4 refl refl refl
  within-long false = refl

-- ---- the promise

module _ (log : List ℕ) (used : Used) (t : List ℕ) (h : Handle) (key : List ℕ) where
  -- whether the handle's key has a row, what the rows of the key's versions say, and what get answers then, for any table
  abbrev active : Bool
  active = open_by h (has_row (active_key h) (rows log t (mark_of used t)))

  abbrev said : Seen
  said = last_rows h (version_rows key h.version (rows log t (mark_of used t)))

  abbrev got : Result Part Refusal
  got = checked (admit_by (fit (length log) used.len (length t)) (sound_handle h) active) (pick (leb (length key) max_key) (located_seen said) (Err KeyTooLong))

  gets-keep : {r : Result Part Refusal} → r ≡ got → Gets log used.len t h key r
  unfolding get_answer
  gets-keep e =
      let f : Bool = fit (length log) used.len (length t) in
      let live : Bool = has_row (active_key h) (rows log t (mark_of used t)) in
      let s : Seen = said in
      let b : Bool = leb (length key) max_key in
      let l : (Result Part Refusal) = pick b (located_seen s) (Err KeyTooLong) in
      record {
        bad = ap (λ (x : Result Part Refusal). eqb (located_number x) 13) e ∙ checked-bad l f (sound_handle h) (open_by h live) (within-bad s b);
        never = λ q. ap (λ (x : Result Part Refusal). eqb (located_number x) 3) e ∙ rw (open_never h live q) (checked-never l f (sound_handle h));
        ever = λ q. ap (λ (x : Result Part Refusal). eqb (located_number x) 3) e ∙ rw (open_ever h live q) (checked-ever l f (sound_handle h) (within_open s b));
        long = λ q. ap (λ (x : Result Part Refusal). eqb (located_number x) 4) e ∙ rw (open_ever h live q) (checked-long l f (sound_handle h) (not b) (within-long s b));
        answer = λ g.
            let w : Agreeing log t (mark_of used t) = record { agrees = g; count = refl } in
            e ∙ rw (open_rows log used t h g, versions_agree log t (mark_of used t) h key h.version w);
      }

  module _ {a : Result Mark Refusal} (w : Admits log used t h a) where
    pub get_refused : (r : Refusal) → a ≡ Err r → Gets log used.len t h key (Err r)
    get_refused r e = gets-keep (rw (← w.check, e))

    module _ (m : Mark) (e : a ≡ Ok m) where
      pub get_long : max_key < length key → Gets log used.len t h key (Err KeyTooLong)
      get_long k = gets-keep (rw (← w.check, e, lt-leb (length key) max_key k))

      pub get_seen : length key ≤ max_key → {s : Seen} {r : Result Part Refusal} → s ≡ last_rows h (version_rows key h.version (rows log t m)) → r ≡ located_seen s → Gets log used.len t h key r
      get_seen k es er =
          gets-keep (rw (← w.check, e, le-leb (length key) max_key k, ← fine_rows log used t h w m e) (er ∙ ap located_seen es))
