-- Laws of an opening with a table of bytes: what recovery's laws say of its words, carried over to its bytes. Assumes nothing.
use Prim.Native.Nat.{ℕ, ◌*◌, ◌/◌, ◌%◌, ◌≤◌, ◌<◌}
use mathlib.Core.Path.{◌≡◌, refl, sym, ap, ◌∙◌}
use mathlib.Core.Bool.{Bool, true, false}
use mathlib.Core.List.{List, []}
use native.Mathlib.Omega.{arith}
use lib.Dec.{eqb}
use lib.ListN.{length, replicate}
use borrow.Author.Tests.{eq-eqb, ne_eqb, eqb-true}
use Rattle.bitcask.specs.declared.request.Used.{Used}
use Rattle.std.specs.Prelude.{Result, ℕ, Err, Option, None, Some}
use Rattle.keycode.specs.declared.refusal.Refusal.{Refusal}
use Rattle.keycode.specs.Tests.{pick}
use Rattle.keycode.specs.Limits.{max_log}
use Rattle.keycode.specs.Refusals.{length_number}
use Rattle.keycode.specs.declared.refusal.Refusal.TheVariants.{BadRequest}
use Rattle.keycode.proofs.NumberLaws.{Bytes}
use Rattle.bitcask.specs.keydir.Slots.{slot_words}
use Rattle.bitcask.specs.declared.keydir.slots.Slot.{Slot}
use Rattle.bitcask.specs.recovery.Agree.{fit}
use Rattle.bitcask.specs.recovery.Recover.{items, ends, run}
use Rattle.bitcask.specs.recovery.Promises.{opened_by, opened_words, open_answer, open_table, Walks, Opens as OpensWords}
use Rattle.bitcask.proofs.recovery.ItemLaws.{items_chain, chain_ends}
use Rattle.bitcask.proofs.recovery.AgreeLaws.{fit-sound}
use Rattle.bitcask.proofs.recovery.WalkLaws.{open_bad, open_sound, open_clear, open_walked}
use Rattle.host.specs.Answers.{half, length_of, packed}
use Rattle.host.specs.Table.{word_bytes, spread, words_in, words-length}
use Rattle.host.specs.Promises.{used_length, open_length, open_bytes, OpensBytes, Opens}
use Rattle.host.proofs.AnswerLaws.{packed_tells}
use Rattle.host.proofs.ByteLaws.{words-zeros, spread-words, spread-zeros}

-- ---- a table that was cleared

-- a table of as many bytes as b₀
pub cleared : (b₀ b : List ℕ) {b₁ : List ℕ} → b₁ ≡ replicate (length b) 0 → length b ≡ length b₀ → words_in b₁ ≡ replicate (length (words_in b₀)) 0
cleared b₀ b {b₁} e l =
    let n : length b / word_bytes ≡ length (words_in b₀) = omega (arith, words-length b₀) in
    words-zeros b₁ (length b) e ∙ ap (λ (k : ℕ). replicate k 0) n

-- ---- the answer

-- no used length reaches the half
opened-small : (o : Option (List Slot)) (n : ℕ) → n < half → length_of (used_length (opened_by o n)) < half
opened-small None n h = omega arith
opened-small (Some ss) n h = h

answer-small : (log : List ℕ) (used n : ℕ) → length_of (used_length (open_answer log used n)) < half
unfolding open_answer
answer-small log used n = go (fit (length log) used n) refl
  where
    go : (b : Bool) → fit (length log) used n ≡ b → length_of (used_length (pick b (opened_by (run log (n / slot_words) (items log used 0) []) (ends 0 (items log used 0))) (Err BadRequest))) < half
    go true e =
        let s = fit-sound (length log) used n e in
        opened-small (run log (n / slot_words) (items log used 0) []) (ends 0 (items log used 0))
        (omega (arith, s.small, s.within, chain_ends (items_chain log used 0) (omega arith)))
    go false e = omega arith

open-small : (log : List ℕ) (used n : ℕ) → length_of (open_length log used n) < half
unfolding open_length
open-small log used n = go (eqb (n % word_bytes) 0)
  where
    go : (b : Bool) → length_of (pick b (used_length (open_answer log used (n / word_bytes))) (Err BadRequest)) < half
    go true = answer-small log used (n / word_bytes)
    go false = omega arith

pub opens : (log : List ℕ) (used : ℕ) (t : List ℕ) {a : Result ℕ Refusal} {r : ℕ} {t' : List ℕ} → OpensBytes log used t a t' → r ≡ packed a → Opens log used t r t'
opens log used t o q = record { answer = rw (q, o.answer) (packed_tells (open_length log used (length t)) (open-small log used (length t))); table = o.table }

-- ---- by the test of the sizes and the walk, t₁ being the table t cleared

module _ (log : List ℕ) (used : ℕ) (t : List ℕ) {t₁ : List ℕ} (e : t₁ ≡ replicate (length t) 0) (l : length t₁ ≡ length t) where
  -- bytes that are no whole words
  pub open_odd : (length t₁ % word_bytes ≡ 0 → ⊥) → OpensBytes log used t (Err BadRequest) t₁
  unfolding open_length open_bytes
  open_odd f = let p = ne_eqb (length t % word_bytes) 0 (λ g. f (ap (λ (n : ℕ). n % word_bytes) l ∙ g)) in record { answer = rw p; table = rw p e }

  module _ (m : length t₁ % word_bytes ≡ 0) where
    -- whole words, of which the opening is
    open-words : {c : Result Used Refusal} {t' : List ℕ} → OpensWords log used (words_in t) c (words_in t') → Bytes t' → length t' ≡ length t₁ → OpensBytes log used t (used_length c) t'
    unfolding open_length open_bytes
    open-words {c} {t'} o y k =
        let d : length t % word_bytes ≡ 0 = ap (λ (n : ℕ). n % word_bytes) (sym l) ∙ m in
        let p = eq-eqb (length t % word_bytes) 0 d in
        let n = words-length t in
        let s : spread (words_in t') ≡ t' = spread-words t' y (ap (λ (j : ℕ). j % word_bytes) (k ∙ l) ∙ d) in
        record { answer = rw (p, o.answer, n); table = rw (p, ← n) (sym s ∙ ap spread o.table) }

    module _ {b : Bool} (f : b ≡ fit (length log) used (length t₁ / word_bytes)) where
      same-words : length (words_in t₁) ≡ length (words_in t)
      same-words = words-length t₁ ∙ ap (λ (k : ℕ). k / word_bytes) l ∙ sym (words-length t)

      fit_words : b ≡ fit (length log) used (length (words_in t₁))
      fit_words = f ∙ ap (fit (length log) used) (sym (words-length t₁))

      pub open_refused : b ≡ false → Bytes t₁ → OpensBytes log used t (Err BadRequest) t₁
      open_refused q y = open-words (open_bad log used (words_in t) (cleared t t e refl) same-words fit_words q) y refl

      module _ (q : b ≡ true) where
        pub walk_fit : used ≤ max_log
        walk_fit = let s = open_sound log used (words_in t) (cleared t t e refl) same-words fit_words q in omega (arith, s.small, s.within)

        pub walk_clear : words_in t₁ ≡ replicate (length (words_in t₁)) 0
        walk_clear = open_clear log used (words_in t) (cleared t t e refl) same-words fit_words q

        pub open_done : {c : Result Used Refusal} {got : Result Used Refusal} {t' : List ℕ} → Walks log used (length (words_in t₁)) c (words_in t') → Bytes t' → length t' ≡ length t₁ → c ≡ got → OpensBytes log used t (used_length got) t'
        open_done w y k g = rw g at (open-words (open_walked log used (words_in t) (cleared t t e refl) same-words fit_words q w) y k)

-- ---- every refusal clears the table

pub refused_clears : (log : List ℕ) (used : ℕ) (t : List ℕ) {r : ℕ} {t' : List ℕ} → Opens log used t r t' → (r / half ≡ 0 → ⊥) → t' ≡ replicate (length t) 0
unfolding open_length open_bytes open_answer open_table
refused_clears log used t o h =
    o.table ∙ go (eqb (length t % word_bytes) 0) refl (fit (length log) used (length t / word_bytes)) (run log (length t / word_bytes / slot_words) (items log used 0) []) (λ e. h (o.answer.number ∙ e))
  where
    zeros : eqb (length t % word_bytes) 0 ≡ true → spread (replicate (length t / word_bytes) 0) ≡ replicate (length t) 0
    zeros e =
        let m = eqb-true (length t % word_bytes) 0 e in
        let n : word_bytes * (length t / word_bytes) ≡ length t = omega arith in
        spread-zeros (length t / word_bytes) ∙ ap (λ (k : ℕ). replicate k 0) n

    go : (b : Bool) → eqb (length t % word_bytes) 0 ≡ b → (c : Bool) (s : Option (List Slot))
        → (length_number (pick b (used_length (pick c (opened_by s (ends 0 (items log used 0))) (Err BadRequest))) (Err BadRequest)) ≡ 0 → ⊥)
        → pick b (spread (pick c (opened_words (length t / word_bytes) s) (replicate (length t / word_bytes) 0))) (replicate (length t) 0) ≡ replicate (length t) 0
    go false e c s k = refl
    go true e false s k = zeros e
    go true e true None k = zeros e
    go true e true (Some ss) k = absurd (k refl)
