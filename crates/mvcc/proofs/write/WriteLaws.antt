-- The writes keep their promise: by the checks, the search, and the two entries. Assumes nothing.
use Prim.Native.Nat.{ℕ, ◌≤◌}
use mathlib.Core.Path.{◌≡◌, refl, sym, ap, ◌∙◌}
use mathlib.Core.Bool.{Bool, true, false}
use mathlib.Core.Logic.{◌⊎◌, inl, inr}
use mathlib.Core.List.{List, ◌∷◌, []}
use lib.Dec.{leb}
use lib.ListN.{length, take}
use borrow.Author.Tests.{leb-true}
use Rattle.std.specs.Prelude.{Result, Ok, Err, ⊤}
use Rattle.std.specs.declared.cmp.Ordering.TheVariants.{Less}
use Rattle.keycode.specs.Limits.{max_key, max_value}
use Rattle.keycode.specs.Refusals.{number_of}
use Rattle.keycode.specs.Order.{compare_bytes, compare_nat}
use Rattle.keycode.specs.declared.refusal.Refusal.{Refusal}
use Rattle.keycode.specs.declared.refusal.Refusal.TheVariants.{ReadOnly}
use Rattle.keycode.proofs.Basics.{nope}
use Rattle.keycode.specs.key.Keys.{encode, txn_write, version}
use Rattle.bitcask.specs.entry.Entry.{Entry}
use Rattle.bitcask.specs.declared.request.Used.{Used}
use Rattle.bitcask.specs.recovery.Agree.{fit, Agrees}
use Rattle.bitcask.specs.recovery.Promises.{changed_number}
use Rattle.bitcask.specs.change.Append.{append_answer}
use Rattle.keycode.specs.declared.code.Code.{Code}
use Rattle.keycode.specs.code.Codes.{Codes}
use Rattle.bitcask.specs.declared.engine.mark.Mark.{Mark}
use Rattle.bitcask.specs.engine.Rows.{rows, pairs}
use Rattle.bitcask.specs.engine.Spots.{has_row}
use Rattle.bitcask.specs.engine.Marks.{mark_of, entered_by, Held}
use Rattle.bitcask.proofs.engine.SpotLaws.{in_held}
use Rattle.mvcc.specs.declared.handle.Handle.{Handle}
use Rattle.mvcc.specs.handle.Handles.{sound_handle}
use Rattle.mvcc.specs.request.Checks.{active_key, open_by, or_else}
use Rattle.mvcc.specs.request.Lists.{Sets, sets-none, sets_more}
use Rattle.mvcc.specs.append.Lays.{sizes_by}
use Rattle.mvcc.proofs.append.PairLaws.{pair_of}
use Rattle.mvcc.proofs.append.LayLaws.{Late, late_done, late_unseen, late-log, late-table, late-bad, leaves_refused}
use Rattle.mvcc.specs.conflict.Conflicts.{search_by}
use Rattle.mvcc.proofs.conflict.SearchLaws.{Found, found_bad, found_unseen, search_refused, search_agrees}
use Rattle.mvcc.specs.write.Writes.{allow_by, plan}
use Rattle.mvcc.specs.write.Promises.{Writes, write_answer}
use Rattle.mvcc.proofs.write.AllowLaws.{Allowed, allow_refused, allow_reads, allow_sizes, allow_fine, early_refused, early-late}
use Rattle.mvcc.specs.admission.Admits.{check_of, Admits, Allows}
use Rattle.mvcc.specs.conflict.Conflicts.{unseen_rows}
use Rattle.mvcc.specs.append.Appends.{Appends}
use Rattle.mvcc.proofs.admission.AdmitLaws.{open_rows}

-- ---- the entries

pub plan-sets : (v : ℕ) (key payload : List ℕ) → Sets (plan v key payload)
unfolding plan
plan-sets v key payload = sets_more (sets_more sets-none)

-- ---- the checks

module _ (log : List ℕ) (used : Used) (t : List ℕ) (h : Handle) (klen vlen : ℕ) {a : Result Mark Refusal} (w : Admits log used t h a) where
  abbrev live : Bool
  live = has_row (active_key h) (rows log t (mark_of used t))

  abbrev fits : Bool
  fits = fit (length log) used.len (length t)

  pub allows_refused : (r : Refusal) → a ≡ Err r → Allows log used t h klen vlen (Err r)
  allows_refused r e =
      record {
        check = allow_refused fits (sound_handle h) h live (leb klen max_key) (leb vlen max_value) (check_of a) w.check r (ap check_of e);
        mark = λ m q. nope (cc);
      }

  module _ (m : Mark) (e : a ≡ Ok m) where
    pub allows_reads : h.read_only ≡ true → Allows log used t h klen vlen (Err ReadOnly)
    allows_reads q =
        record {
          check = allow_reads fits (sound_handle h) h live (leb klen max_key) (leb vlen max_value) (check_of a) w.check (ap check_of e) q;
          mark = λ k p. nope (cc);
        }

    module _ (q : h.read_only ≡ false) {c : Result ⊤ Refusal} (ec : c ≡ sizes_by (leb klen max_key) (leb vlen max_value)) where
      sized_so : c ≡ allow_by fits (sound_handle h) h.read_only (open_by h live) (leb klen max_key) (leb vlen max_value)
      sized_so = allow_sizes fits (sound_handle h) h live (leb klen max_key) (leb vlen max_value) (check_of a) w.check (ap check_of e) q c ec

      pub allows_long : (r : Refusal) → c ≡ Err r → Allows log used t h klen vlen (Err r)
      allows_long r p = record { check = sym p ∙ sized_so; mark = λ k z. nope (cc) }

      pub allows_fine : c ≡ (Ok tt) → Allows log used t h klen vlen (Ok m)
      allows_fine p = record { check = sym p ∙ sized_so; mark = λ k z. let y : m ≡ k = cc in sym y ∙ w.mark m e }

-- ---- the entries

tags_less : (a b : List ℕ) → compare_bytes (3 ∷ a) (4 ∷ b) ≡ Less
unfolding compare_bytes compare_nat
tags_less a b = refl

pub plan_less : (v : ℕ) (key : List ℕ) {a b : Code} → Codes a (encode (txn_write v key)) → Codes b (encode (version key v)) → compare_bytes (take a.len a.bytes) (take b.len b.bytes) ≡ Less
plan_less v key wa wb = rw (wa.says, wb.says) (tags_less _ _)

pub plan_appends : (log t : List ℕ) (m : Mark) (v : ℕ) (key payload : List ℕ) (a b : Code) (r : Result Used Refusal) (log' t' : List ℕ) → Codes a (encode (txn_write v key)) → Codes b (encode (version key v))
    → Appends log t m (pair_of (take a.len a.bytes) [] (take b.len b.bytes) payload) r log' t' → Appends log t m (plan v key payload) r log' t'
unfolding plan
plan_appends log t m v key payload a b r log' t' wa wb w = rw (wa.says, wb.says) at w

found_late : {r : Refusal} → Found r → Late (number_of r)
found_late found_bad = late-bad
found_late found_unseen = late_unseen

judged-late : (n : ℕ) → (n ≡ 0) ⊎ ((n ≡ 7) ⊎ (n ≡ 8)) → Late n
judged-late n (inl e) = rw e late_done
judged-late n (inr (inl e)) = rw e late-log
judged-late n (inr (inr e)) = rw e late-table

-- ---- the promise

module _ (log : List ℕ) (used : Used) (t : List ℕ) (h : Handle) (key payload : List ℕ) (size : ℕ) {x : Result Mark Refusal} (w : Allows log used t h (length key) size x) where
  abbrev allow_of : Result ⊤ Refusal
  allow_of =
      allow_by (fit (length log) used.len (length t)) (sound_handle h) h.read_only (open_by h (has_row (active_key h) (rows log t (mark_of used t)))) (leb (length key) max_key) (leb size max_value)

  abbrev found_of : Result ⊤ Refusal
  found_of = search_by h (pairs (unseen_rows h key (rows log t (mark_of used t))))

  abbrev entries : List Entry
  entries = plan h.version key payload

  -- the answer in the words of the map, by what the code found
  answer-is : Agrees log used.len t → write_answer log used.len (length t) h key size entries ≡ or_else allow_of (or_else found_of (append_answer log used.len (length t) entries))
  unfolding write_answer
  answer-is g = rw (open_rows log used t h g, search_agrees log t (mark_of used t) h key (record { agrees = g; count = refl }))

  pub write_refused : (r : Refusal) → x ≡ Err r → Writes log used.len t h key payload size (Err r) log t
  write_refused r q =
      let a : allow_of ≡ Err r = sym w.check ∙ ap check_of q in
      record {
        leaves = leaves_refused log used.len t entries r;
        early = early_refused (fit (length log) used.len (length t)) (sound_handle h) h (has_row (active_key h) (rows log t (mark_of used t))) (leb (length key) max_key) (leb size max_value) r a;
        answer = λ g. sym (answer-is g ∙ rw a);
      }

  module _ (m : Mark) (q : x ≡ Ok m) where
    allows : allow_of ≡ (Ok tt)
    allows = sym w.check ∙ ap check_of q

    allowed : Allowed (fit (length log) used.len (length t)) (sound_handle h) h.read_only (open_by h (has_row (active_key h) (rows log t (mark_of used t)))) (leb (length key) max_key) (leb size max_value)
    allowed = allow_fine (fit (length log) used.len (length t)) (sound_handle h) h.read_only (open_by h (has_row (active_key h) (rows log t (mark_of used t)))) (leb (length key) max_key) (leb size max_value) allows

    pub write_held : Held log t m
    unfolding entered_by
    write_held = in_held log used t (Ok m) (ap Ok (w.mark m q) ∙ rw allowed.sizes) m refl

    pub mark-counts : m ≡ mark_of m.used t
    mark-counts = w.mark m q ∙ ap (λ (k : Mark). mark_of k.used t) (sym (w.mark m q))

    pub key-short : length key ≤ max_key
    key-short = leb-true (length key) max_key allowed.key

    pub value-small : size ≤ max_value
    value-small = leb-true size max_value allowed.value

    module _ (y : Result ⊤ Refusal) (ey : y ≡ search_by h (pairs (unseen_rows h key (rows log t m)))) where
      found : y ≡ found_of
      found = ey ∙ ap (λ (k : Mark). search_by h (pairs (unseen_rows h key (rows log t k)))) (w.mark m q)

      answer_found : Agrees log used.len t → write_answer log used.len (length t) h key size entries ≡ or_else y (append_answer log used.len (length t) entries)
      answer_found g = answer-is g ∙ rw (allows, found)

      pub write_found : (r : Refusal) → y ≡ Err r → Writes log used.len t h key payload size (Err r) log t
      write_found r e =
          record {
            leaves = leaves_refused log used.len t entries r;
            early = early-late (fit (length log) used.len (length t)) (sound_handle h) h (has_row (active_key h) (rows log t (mark_of used t))) (leb (length key) max_key) (leb size max_value) allows (number_of r)
                (found_late (search_refused h (pairs (unseen_rows h key (rows log t (mark_of used t)))) r (sym found ∙ e)));
            answer = λ g. sym (answer_found g ∙ rw e);
          }

      pub write_laid : y ≡ (Ok tt) → (r : Result Used Refusal) (log' t' : List ℕ) → Appends log t m entries r log' t' → Writes log used.len t h key payload size r log' t'
      write_laid fine r log' t' l = done (rw (w.mark m q) at l)
        where
          done : Appends log t (mark_of used t) entries r log' t' → Writes log used.len t h key payload size r log' t'
          done a =
              record {
                leaves = a.leaves;
                early = early-late (fit (length log) used.len (length t)) (sound_handle h) h (has_row (active_key h) (rows log t (mark_of used t))) (leb (length key) max_key) (leb size max_value) allows (changed_number r) (judged-late (changed_number r) a.numbers);
                answer = λ g. a.answer g ∙ sym (answer_found g ∙ rw fine);
              }
