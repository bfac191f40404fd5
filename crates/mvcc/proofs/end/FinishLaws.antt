-- The ends of a transaction keep their promises: by the checks, a read-only handle, and what is done behind them. Assumes nothing.
use Prim.Native.Nat.{ℕ}
use mathlib.Core.Path.{◌≡◌, refl, sym, ap, ◌∙◌, subst}
use mathlib.Core.Bool.{Bool, true, false}
use mathlib.Core.List.{List, [], ◌∷◌, ◌++◌}
use native.Mathlib.Omega.{arith}
use lib.Dec.{eqb}
use lib.ListN.{length, take}
use Rattle.std.specs.Prelude.{Result, Ok, Err, ⊤}
use Rattle.keycode.specs.Tests.{pick}
use Rattle.keycode.specs.declared.refusal.Refusal.{Refusal}
use Rattle.keycode.specs.declared.refusal.Refusal.TheVariants.{BadStore}
use Rattle.keycode.specs.declared.code.Code.{Code}
use Rattle.keycode.specs.code.Codes.{Codes}
use Rattle.keycode.proofs.NumberLaws.{Bytes}
use Rattle.bitcask.specs.entry.Entry.{Entry, del}
use Rattle.bitcask.specs.keydir.Place.{All, all_none, all_more}
use Rattle.bitcask.specs.declared.request.Used.{Used}
use Rattle.bitcask.specs.recovery.Map.{Pair, pairs_of}
use Rattle.bitcask.specs.recovery.Recover.{map_of}
use Rattle.bitcask.specs.recovery.Agree.{fit, Agrees}
use Rattle.bitcask.specs.recovery.Promises.{changed_number}
use Rattle.bitcask.specs.change.Append.{append_answer}
use Rattle.bitcask.specs.declared.engine.mark.Mark.{Mark}
use Rattle.bitcask.specs.declared.engine.span.Span.{Span}
use Rattle.bitcask.specs.engine.Rows.{Row, rows, pairs}
use Rattle.bitcask.specs.engine.Spots.{has_row}
use Rattle.bitcask.specs.engine.Marks.{mark_of}
use Rattle.bitcask.specs.engine.Ranges.{between}
use Rattle.bitcask.specs.engine.Prefixes.{begins, Prefixes}
use Rattle.bitcask.specs.engine.Endings.{tombstones}
use Rattle.bitcask.proofs.engine.RangeLaws.{keep_in}
use Rattle.bitcask.proofs.engine.PrefixLaws.{prefix_agrees}
use Rattle.mvcc.specs.declared.handle.Handle.{Handle}
use Rattle.mvcc.specs.handle.Handles.{sound_handle}
use Rattle.mvcc.specs.request.Ranges.{write_prefix}
use Rattle.mvcc.specs.request.Checks.{active_key, open_by, admit_by, open_in, or_else}
use Rattle.mvcc.specs.delete_range.Plans.{cuts_of}
use Rattle.mvcc.specs.undo.Plans.{undos_of, all_users}
use Rattle.mvcc.specs.undo.Undo.{undoing, Undoes}
use Rattle.mvcc.specs.admission.Admits.{check_of, Admits}
use Rattle.mvcc.proofs.admission.AdmitLaws.{fine_held, fine_agreeing}
use Rattle.mvcc.specs.end.Plans.{writes_of, commit_plan, rollback_plan}
use Rattle.mvcc.specs.end.Promises.{among, Leaves, Commits, commit_answer, RollsBack, undo_answer, rollback_answer}
use Rattle.mvcc.specs.end.Ways.{Way, by_commit, by_rollback, plan_of, numbers_of, judged_of, Ends, Closes, clearing, Clears}
use Rattle.mvcc.proofs.end.EndLaws.{leaves_refused, leaves_none, leaves-plan, none_done}
use Rattle.mvcc.proofs.end.EarlyLaws.{among-all, admitted, admit_map, admit_numbers, early_refused, early-reads, early-writes}

-- ---- the public promises

pub commits-so : {log : List ℕ} {used : ℕ} {t : List ℕ} {h : Handle} {r : Result Used Refusal} {log' t' : List ℕ} → Ends by_commit log used t h r log' t' → Commits log used t h r log' t'
unfolding commit_answer
commits-so w = record { leaves = w.leaves; early = w.early; numbers = w.numbers; answer = w.answer }

pub rolls_so : {log : List ℕ} {used : ℕ} {t : List ℕ} {h : Handle} {r : Result Used Refusal} {log' t' : List ℕ} → Ends by_rollback log used t h r log' t' → RollsBack log used t h r log' t'
unfolding rollback_answer
rolls_so w = record { leaves = w.leaves; early = w.early; numbers = w.numbers; answer = w.answer }

-- ---- the ways

way_three : (way : Way) → among 3 (numbers_of way) ≡ true
unfolding among
way_three by_commit = refl
way_three by_rollback = refl

way_thirteen : (way : Way) → among 13 (numbers_of way) ≡ true
unfolding among
way_thirteen by_commit = refl
way_thirteen by_rollback = refl

way_done : (way : Way) → among 0 (numbers_of way) ≡ true
unfolding among
way_done by_commit = refl
way_done by_rollback = refl

-- a read-only handle appends nothing
reads-plan : (way : Way) (h : Handle) (m : List Pair) → h.read_only ≡ true → plan_of way h m ≡ []
unfolding commit_plan rollback_plan
reads-plan by_commit h m p = rw p
reads-plan by_rollback h m p = rw p

reads-judged : (way : Way) (log : List ℕ) (used : ℕ) (t : List ℕ) (h : Handle) → h.read_only ≡ true → Agrees log used t → judged_of way log used (length t) h ≡ Ok (record { len = used })
unfolding undo_answer
reads-judged by_commit log used t h p g = ap (append_answer log used (length t)) (reads-plan by_commit h (map_of log used) p) ∙ none_done log used t g
reads-judged by_rollback log used t h p g =
    ap (λ (b : Bool). pick (pick b true (all_users (writes_of h.version (map_of log used)))) (append_answer log used (length t) (rollback_plan h (map_of log used))) (Err BadStore)) p
    ∙ ap (append_answer log used (length t)) (reads-plan by_rollback h (map_of log used) p) ∙ none_done log used t g

-- a number of what is done behind the checks: one of the way's, and not 13
abbrev Late : Way → ℕ → Type 0
Late way n = (among n (numbers_of way) ≡ true) × (eqb n 13 ≡ false)

late_clear : All (Late by_commit) (0 ∷ 7 ∷ [])
unfolding among
late_clear = all_more (refl, refl) (all_more (refl, refl) all_none)

late_undo : All (Late by_rollback) (0 ∷ 7 ∷ 12 ∷ [])
unfolding among
late_undo = all_more (refl, refl) (all_more (refl, refl) (all_more (refl, refl) all_none))

tombs_cuts : (rs : List Row) → tombstones rs ≡ cuts_of (pairs rs)
unfolding tombstones pairs cuts_of
tombs_cuts [] = refl
tombs_cuts (r ∷ rs) = ap (λ (es : List Entry). del r.key ∷ es) (tombs_cuts rs)

-- ---- the checks

module _ (log : List ℕ) (used : Used) (t : List ℕ) (h : Handle) {x : Result Mark Refusal} (w : Admits log used t h x) where
  abbrev live : Bool
  live = has_row (active_key h) (rows log t (mark_of used t))

  abbrev fits : Bool
  fits = fit (length log) used.len (length t)

  abbrev map : List Pair
  map = map_of log used.len

  answer-is : (way : Way) → Agrees log used.len t
      → or_else (admit_by fits (sound_handle h) (open_in log used.len h)) (judged_of way log used.len (length t) h) ≡ or_else (check_of x) (judged_of way log used.len (length t) h)
  answer-is way g = ap (λ (c : Result ⊤ Refusal). or_else c (judged_of way log used.len (length t) h)) (admit_map log used t h g ∙ sym w.check)

  pub finish_refused : (way : Way) (r : Refusal) → x ≡ Err r → Ends way log used.len t h (Err r) log t
  finish_refused way r q =
      let a : admitted log used t h ≡ Err r = sym w.check ∙ ap check_of q in
      record {
        leaves = leaves_refused log used.len t (plan_of way h map) r;
        early = early_refused log used t h r a;
        numbers = admit_numbers (numbers_of way) (way_three way) (way_thirteen way) fits (sound_handle h) (open_by h live) r a;
        answer = λ g. sym (answer-is way g ∙ rw q);
      }

  module _ (m : Mark) (e : x ≡ Ok m) where
    fine : (Ok tt) ≡ admitted log used t h
    fine = sym (ap check_of e) ∙ w.check

    answer_fine : (way : Way) → Agrees log used.len t
        → or_else (admit_by fits (sound_handle h) (open_in log used.len h)) (judged_of way log used.len (length t) h) ≡ judged_of way log used.len (length t) h
    answer_fine way g = answer-is way g ∙ rw e

    used-is : m.used.len ≡ used.len
    used-is = ap (λ (k : Mark). k.used.len) (w.mark m e)

    pub finish_mark : m ≡ mark_of m.used t
    finish_mark = w.mark m e ∙ sym (ap (λ (k : Mark). mark_of k.used t) (w.mark m e))

    pub finish_reads : (way : Way) → h.read_only ≡ true → Ends way log used.len t h (Ok used) log t
    finish_reads way p =
        record {
          leaves = leaves-plan (λ g. reads-plan way h map p) (leaves_none log used.len t (omega (arith, used-is, (fine_held log used t h w m e).within)));
          early = early-reads log used t h fine;
          numbers = way_done way;
          answer = λ g. sym (answer_fine way g ∙ reads-judged way log used.len t h p g);
        }

    -- ---- behind them

    module _ (p : h.read_only ≡ false) where
      finish_closed : (way : Way) {es : List Entry} {ns : List ℕ} {a r : Result Used Refusal} {log' t' : List ℕ} → All (Late way) ns → (Agrees log used.len t → plan_of way h map ≡ es)
          → (Agrees log used.len t → judged_of way log used.len (length t) h ≡ a) → Closes log t m es ns a r log' t' → Ends way log used.len t h r log' t'
      finish_closed way {es} {ns} {a} {r} {log'} {t'} late plan judged c =
          let n = among-all late (changed_number r) c.numbers in
          record {
            leaves = leaves-plan plan (subst (λ (k : ℕ). Leaves log k t es r log' t') used-is c.leaves);
            early = early-writes log used t h fine p r log' t' n.1;
            numbers = n.0;
            answer = λ g. c.answer (subst (λ (k : ℕ). Agrees log k t) (sym used-is) g) ∙ sym (answer_fine way g ∙ judged g);
          }

      module _ (b : Bytes log) (span : Span) (s : Prefixes (rows log t m) (write_prefix h.version) span) (k : Code) (wk : Codes k (active_key h)) where
        abbrev rs : List Row
        rs = between span.from span.to (rows log t m)

        abbrev key : List ℕ
        key = take k.len k.bytes

        writes_are : Agrees log used.len t → pairs rs ≡ writes_of h.version map
        unfolding writes_of
        writes_are g =
            ap pairs (prefix_agrees log t (write_prefix h.version) m b (fine_agreeing log used t h w m e g) span s)
            ∙ keep_in (begins (write_prefix h.version)) log m.used.len ∙ ap (λ (n : ℕ). pairs_of (begins (write_prefix h.version)) (map_of log n)) used-is

        judged-at : (es : List Entry) → append_answer log used.len (length t) es ≡ append_answer log m.used.len (length t) es
        judged-at es = ap (λ (n : ℕ). append_answer log n (length t) es) (sym used-is)

        clear_plan : Agrees log used.len t → commit_plan h map ≡ clearing rs key
        unfolding commit_plan clearing
        clear_plan g =
            rw p
            (ap (λ (ds : List Entry). ds ++ (del (active_key h) ∷ [])) (sym (tombs_cuts rs ∙ ap cuts_of (writes_are g)))
            ∙ ap (λ (c : List ℕ). tombstones rs ++ (del c ∷ [])) (sym wk.says))

        undo_plan : Agrees log used.len t → rollback_plan h map ≡ undoing h.version rs key
        unfolding rollback_plan undoing
        undo_plan g =
            rw p
            (ap (λ (ps : List Pair). undos_of h.version ps ++ (del (active_key h) ∷ [])) (sym (writes_are g))
            ∙ ap (λ (c : List ℕ). undos_of h.version (pairs rs) ++ (del c ∷ [])) (sym wk.says))

        undo_judged : Agrees log used.len t
            → undo_answer log used.len (length t) h ≡ pick (all_users (pairs rs)) (append_answer log m.used.len (length t) (undoing h.version rs key)) (Err BadStore)
        unfolding undo_answer
        undo_judged g =
            ap (λ (b : Bool). pick (pick b true (all_users (writes_of h.version map))) (append_answer log used.len (length t) (rollback_plan h map)) (Err BadStore)) p
            ∙ ap (λ (ps : List Pair). pick (all_users ps) (append_answer log used.len (length t) (rollback_plan h map)) (Err BadStore)) (sym (writes_are g))
            ∙ ap (λ (c : Result Used Refusal). pick (all_users (pairs rs)) c (Err BadStore)) (ap (append_answer log used.len (length t)) (undo_plan g) ∙ judged-at (undoing h.version rs key))

        pub finish_clears : {r : Result Used Refusal} {log' t' : List ℕ} → Clears log t m rs key r log' t' → Ends by_commit log used.len t h r log' t'
        finish_clears c = finish_closed by_commit late_clear clear_plan (λ g. ap (append_answer log used.len (length t)) (clear_plan g) ∙ judged-at (clearing rs key)) c

        pub finish_undoes : {r : Result Used Refusal} {log' t' : List ℕ} → Undoes log t m rs h.version key r log' t' → Ends by_rollback log used.len t h r log' t'
        finish_undoes c = finish_closed by_rollback late_undo undo_plan undo_judged c
