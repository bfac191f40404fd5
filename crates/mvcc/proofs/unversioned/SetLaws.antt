-- The unversioned set keeps its promise. Assumes nothing.
use Prim.Native.Nat.{ℕ, ◌+◌, ◌≤◌}
use mathlib.Core.Path.{◌≡◌, refl, sym, ap, ◌∙◌, subst}
use mathlib.Core.Bool.{Bool, true, false, not}
use mathlib.Core.Logic.{◌⊎◌, inl, inr}
use mathlib.Core.List.{List, [], ◌∷◌}
use lib.Dec.{leb, eqb}
use lib.ListN.{length, take}
use borrow.Author.Tests.{leb-true}
use Rattle.std.specs.Prelude.{Result, Ok, Err, ⊤}
use Rattle.keycode.specs.Limits.{max_key, max_value}
use Rattle.keycode.specs.Refusals.{number_of}
use Rattle.keycode.specs.key.Keys.{encode, unversioned}
use Rattle.keycode.specs.declared.refusal.Refusal.{Refusal}
use Rattle.keycode.specs.declared.refusal.Refusal.TheVariants.{KeyTooLong, ValueTooLong, BadRequest}
use Rattle.keycode.proofs.Basics.{nope}
use Rattle.bitcask.specs.entry.Entry.{set}
use Rattle.bitcask.specs.declared.request.Used.{Used}
use Rattle.bitcask.specs.recovery.Agree.{fit}
use Rattle.bitcask.specs.change.Append.{size_all, append_answer}
use Rattle.bitcask.specs.declared.engine.mark.Mark.{Mark}
use Rattle.bitcask.specs.engine.Marks.{mark_of, entered_by, Held}
use Rattle.bitcask.proofs.engine.SpotLaws.{in_fits, in_held, refused_fits}
use Rattle.keycode.specs.declared.code.Code.{Code}
use Rattle.keycode.specs.code.Codes.{Codes}
use Rattle.mvcc.specs.request.Lists.{Sets, sets-none, sets_more}
use Rattle.mvcc.specs.request.Checks.{or_else}
use Rattle.mvcc.specs.append.Lays.{sizes_by}
use Rattle.mvcc.specs.append.Appends.{Appends}
use Rattle.mvcc.proofs.append.LayLaws.{leaves_refused}
use Rattle.mvcc.specs.unversioned.Promises.{plain_plan, EarlyPlain, SetsPlain, plain_answer}

-- ---- the numbers

plain_bad : (short small room : Bool) → EarlyPlain false short small room 13
plain_bad short small room = record { bad = refl; key_long = refl; value_long = refl; full = refl }

plain_sizes : (short small room : Bool) (r : Refusal) → sizes_by short small ≡ Err r → EarlyPlain true short small room (number_of r)
unfolding sizes_by
plain_sizes false small room r e = let q : r ≡ KeyTooLong = cc in rw q (record { bad = refl; key_long = refl; value_long = refl; full = refl })
plain_sizes true false room r e = let q : r ≡ ValueTooLong = cc in rw q (record { bad = refl; key_long = refl; value_long = refl; full = refl })
plain_sizes true true room r e = nope (cc)

plain_late : {n : ℕ} (room : Bool) → (n ≡ 0) ⊎ ((n ≡ 7) ⊎ (n ≡ 8)) → eqb n 7 ≡ not room → EarlyPlain true true true room n
plain_late room (inl e) f = record { bad = rw e; key_long = rw e; value_long = rw e; full = f }
plain_late room (inr (inl e)) f = record { bad = rw e; key_long = rw e; value_long = rw e; full = f }
plain_late room (inr (inr e)) f = record { bad = rw e; key_long = rw e; value_long = rw e; full = f }

sizes_fine : (short small : Bool) → sizes_by short small ≡ (Ok tt) → (short ≡ true) × (small ≡ true)
unfolding sizes_by
sizes_fine true true e = (refl, refl)
sizes_fine true false e = nope (cc)
sizes_fine false small e = nope (cc)

-- ---- the promise

pub plain_sets : (key value : List ℕ) → Sets (plain_plan key value)
unfolding plain_plan
plain_sets key value = sets_more sets-none

module _ (log : List ℕ) (used : Used) (t key value : List ℕ) where
  abbrev sizes : Result ⊤ Refusal
  sizes = sizes_by (leb (length key) max_key) (leb (length value) max_value)

  abbrev roomy : Bool
  roomy = leb (used.len + size_all (plain_plan key value)) (length log)

  module _ {a : Result Mark Refusal} (ea : a ≡ entered_by log used t) where
    pub plain_unfit : (r : Refusal) → a ≡ Err r → SetsPlain log used.len t key value (Err r) log t
    plain_unfit r e =
        let w = refused_fits log used t a ea r e in
        rw w.1
        (record {
          leaves = leaves_refused log used.len t (plain_plan key value) BadRequest;
          early = rw w.0 (plain_bad (leb (length key) max_key) (leb (length value) max_value) roomy);
          answer = λ g. unfold plain_answer in rw w.0;
        })

    module _ (m : Mark) (e : a ≡ Ok m) (x : Result ⊤ Refusal) (ex : x ≡ sizes) where
      fits : fit (length log) used.len (length t) ≡ true
      fits = (in_fits log used t a ea m e).0

      pub plain_held : (Held log t m) × (m ≡ mark_of m.used t)
      plain_held = let z = (in_fits log used t a ea m e).1 in (in_held log used t a ea m e, z ∙ ap (λ (k : Mark). mark_of k.used t) (sym z))

      answer-is : plain_answer log used.len (length t) key value ≡ or_else sizes (append_answer log used.len (length t) (plain_plan key value))
      unfolding plain_answer
      answer-is = rw fits

      pub plain_refused : (r : Refusal) → x ≡ Err r → SetsPlain log used.len t key value (Err r) log t
      plain_refused r q =
          let z : sizes ≡ Err r = sym ex ∙ q in
          record {
            leaves = leaves_refused log used.len t (plain_plan key value) r;
            early = rw fits (plain_sizes (leb (length key) max_key) (leb (length value) max_value) roomy r z);
            answer = λ g. sym (answer-is ∙ rw z);
          }

      module _ (q : x ≡ (Ok tt)) where
        both_fine : (leb (length key) max_key ≡ true) × (leb (length value) max_value ≡ true)
        both_fine = sizes_fine (leb (length key) max_key) (leb (length value) max_value) (sym ex ∙ q)

        pub plain_short : length key ≤ max_key
        plain_short = leb-true (length key) max_key both_fine.0

        appends_plain : (r : Result Used Refusal) (log' t' : List ℕ) → Appends log t (mark_of used t) (plain_plan key value) r log' t' → SetsPlain log used.len t key value r log' t'
        appends_plain r log' t' l =
            let z : sizes ≡ (Ok tt) = sym ex ∙ q in
            record {
              leaves = l.leaves;
              early = rw (fits, both_fine.0, both_fine.1) (plain_late roomy l.numbers l.full);
              answer = λ g. l.answer g ∙ sym (answer-is ∙ rw z);
            }

        pub plain_tried : (c : Code) → Codes c (encode (unversioned key)) → (r : Result Used Refusal) (log' t' : List ℕ)
            → Appends log t m (set (take c.len c.bytes) value ∷ []) r log' t' → SetsPlain log used.len t key value r log' t'
        plain_tried c wc r log' t' w =
            let p : Appends log t (mark_of used t) (plain_plan key value) r log' t' =
            unfold plain_plan in subst (λ (k : Mark). Appends log t k (set (encode (unversioned key)) value ∷ []) r log' t') (in_fits log used t a ea m e).1 (rw wc.says at w) in
            appends_plain r log' t' p
