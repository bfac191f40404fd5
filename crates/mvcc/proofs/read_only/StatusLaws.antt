-- The transactions' status: the count by ranks, and its promise. Assumes nothing.
use Prim.Native.Nat.{ℕ, ◌-◌, ◌<◌}
use mathlib.Core.Path.{◌≡◌, refl, sym, ap, ◌∙◌}
use mathlib.Core.Bool.{Bool, true, false}
use mathlib.Core.List.{List, [], ◌∷◌}
use native.Mathlib.Omega.{arith}
use lib.Dec.{eqb}
use lib.ListN.{length}
use borrow.Author.Tests.{eqb-false}
use Rattle.std.specs.Prelude.{Result, Ok, Err, Option, ℕ, Some, None}
use Rattle.keycode.specs.Tests.{pick}
use Rattle.keycode.specs.declared.refusal.Refusal.{Refusal}
use Rattle.keycode.specs.declared.refusal.Refusal.TheVariants.{BadStore}
use Rattle.keycode.proofs.Basics.{nope}
use Rattle.keycode.proofs.NumberLaws.{Bytes}
use Rattle.bitcask.specs.declared.request.Used.{Used}
use Rattle.bitcask.specs.recovery.Recover.{map_of}
use Rattle.bitcask.specs.recovery.Agree.{Agrees}
use Rattle.bitcask.specs.declared.engine.mark.Mark.{Mark}
use Rattle.bitcask.specs.declared.engine.span.Span.{Span}
use Rattle.bitcask.specs.engine.Rows.{Row, rows}
use Rattle.bitcask.specs.engine.Marks.{entered_by}
use Rattle.bitcask.specs.engine.Spots.{rank}
use Rattle.bitcask.specs.engine.Prefixes.{Prefixes}
use Rattle.bitcask.proofs.engine.SpotLaws.{in_fits, in_agreeing, refused_fits}
use Rattle.bitcask.proofs.engine.SpanLaws.{width_rows}
use Rattle.bitcask.proofs.engine.PrefixLaws.{prefix_within}
use Rattle.mvcc.specs.payload.Payloads.{version_in}
use Rattle.mvcc.specs.request.Ranges.{active_prefix}
use Rattle.mvcc.specs.snapshot.Active.{next_by, next_of, next_in, next_at, keys_in, active_rows, active_keys}
use Rattle.mvcc.specs.read_only.Promises.{States}
use Rattle.mvcc.proofs.snapshot.ActiveLaws.{active_rows_lem}
use Rattle.mvcc.proofs.snapshot.AgreedLaws.{next-agrees, keys_agree}

-- ---- the count

keys_length : (rs : List Row) → length (keys_in rs) ≡ length rs
unfolding keys_in
keys_length [] = refl
keys_length (r ∷ rs) = omega (arith, keys_length rs)

span_keys : (rs : List Row) (r : Span) → Prefixes rs active_prefix r → {k : ℕ} → k ≡ rank r.to rs - rank r.from rs → k ≡ length (keys_in (active_rows rs))
span_keys rs r w e =
    e ∙ sym (width_rows r.from r.to rs (prefix_within rs active_prefix w)) ∙ ap length (active_rows_lem rs r w) ∙ sym (keys_length (active_rows rs))

-- ---- NextVersion is not 0

by_positive : (x : Option ℕ) (v : ℕ) → next_by x ≡ Some v → 0 < v
by_positive None v e = nope (cc)
by_positive (Some u) v e = go (eqb u 0) refl e
  where
    go : (b : Bool) → eqb u 0 ≡ b → pick b None (Some u) ≡ Some v → 0 < v
    go true q f = nope (cc)
    go false q f = let z : u ≡ v = cc in let y : u ≡ 0 → ⊥ = eqb-false u 0 q in omega arith

of_positive : (o : Option (List ℕ)) (v : ℕ) → next_of o ≡ Some v → 0 < v
unfolding next_of
of_positive None v e = let z : 1 ≡ v = cc in omega arith
of_positive (Some b) v e = by_positive (version_in b) v e

pub next_positive : (rs : List Row) {x : Option ℕ} (v : ℕ) → x ≡ next_in rs → x ≡ Some v → 0 < v
unfolding next_in
next_positive rs v e f = of_positive _ v (sym e ∙ f)

-- ---- the promise

module _ (log : List ℕ) (used : Used) (t : List ℕ) {a : Result Mark Refusal} (ea : a ≡ entered_by log used t) where
  pub states_sizes : (x : Refusal) → a ≡ Err x → States log used.len t (Err x)
  states_sizes x e = let w = refused_fits log used t a ea x e in rw w.1 (record { bad = rw w.0; answer = λ g. nope (cc (g.sound, w.0)) })

  module _ (m : Mark) (e : a ≡ Ok m) {x : Option ℕ} (ex : x ≡ next_in (rows log t m)) where
    lengths : m.used.len ≡ used.len
    lengths = ap (λ (k : Mark). k.used.len) (in_fits log used t a ea m e).1

    states-next : Agrees log used.len t → x ≡ next_at (map_of log used.len)
    states-next g = ex ∙ next-agrees log t m (in_agreeing log used t a ea m e g) ∙ ap (λ (n : ℕ). next_at (map_of log n)) lengths

    pub states-bad : x ≡ None → States log used.len t (Err BadStore)
    states-bad q = record { bad = rw (in_fits log used t a ea m e).0; answer = λ g. rw (← states-next g, q) }

    pub states_done : Bytes log → (v : ℕ) → x ≡ Some v → (r : Span) → Prefixes (rows log t m) active_prefix r → {k : ℕ} → k ≡ rank r.to (rows log t m) - rank r.from (rows log t m)
        → States log used.len t (Ok (record { last = v - 1; «open» = k }))
    states_done b v q r w {k} ek = record {
      bad = rw (in_fits log used t a ea m e).0;
      answer = λ g.
          let z : k ≡ length (active_keys (map_of log used.len)) =
          span_keys (rows log t m) r w ek ∙ ap length (keys_agree log t m (in_agreeing log used t a ea m e g) b) ∙ ap (λ (n : ℕ). length (active_keys (map_of log n))) lengths in
          rw (← states-next g, q, z);
    }
