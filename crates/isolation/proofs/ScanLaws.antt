-- A scan step with a handle that is open shows the first key, of those that pass, that shows a value to the handle; it answers 1 where
-- there is none, and no other number. Assumes nothing.
use Rattle.bitcask.specs.declared.answers.KeyValue.{KeyValue}
use Prim.Native.Nat.{ℕ}
use mathlib.Core.Path.{◌≡◌, refl, sym, ap, subst, ◌∙◌}
use mathlib.Core.Bool.{Bool, true}
use mathlib.Core.List.{List}
use Rattle.std.specs.Prelude.{Result, ⊤, Ok, Err, Option, None, Some}
use Rattle.keycode.specs.declared.refusal.Refusal.{Refusal}
use Rattle.std.specs.declared.cmp.Ordering.TheVariants.{Less}
use Rattle.keycode.specs.Order.{compare_bytes}
use Rattle.keycode.specs.Strings.{escape_body}
use Rattle.keycode.specs.declared.parts.Part.{Part}
use Rattle.bitcask.specs.recovery.Map.{Pair, pairs_of}
use Rattle.bitcask.specs.recovery.Recover.{map_of}
use Rattle.bitcask.specs.declared.answers.Bound.{Bound}
use Rattle.bitcask.specs.read.Promises.{stepped_number}
use Rattle.bitcask.specs.read.Ranks.{admitted}
use Rattle.mvcc.specs.declared.handle.Handle.{Handle}
use Rattle.mvcc.proofs.request.CheckLaws.{not_done}
use Rattle.mvcc.specs.scan.Bounds.{keys_fit, prefix_fits}
use Rattle.mvcc.specs.scan.Steps.{Given, step_pairs, step_number, Shows}
use Rattle.mvcc.specs.scan.Promises.{keys_by, Scanning, Scans, ScansPrefix}
use Rattle.mvcc.proofs.scan.ShowLaws.{scan_shows}
use Rattle.isolation.specs.history.History.{Key, Bytes}
use Rattle.isolation.specs.history.Records.{Map}
use Rattle.isolation.specs.history.Calls.{shown, scan_step}
use Rattle.isolation.specs.history.Run.{usable}
use Rattle.isolation.proofs.history.StepLaws.{scan_step_lem}
use Rattle.isolation.proofs.history.RunLaws.{run-sorted}
use Rattle.isolation.specs.records.Stored.{pairs_in, sight_of}
use Rattle.isolation.specs.records.Scans.{given_of, First, none-shows, first-shows, prefix_past}
use Rattle.isolation.proofs.records.OrderLaws.{order}
use Rattle.isolation.proofs.records.ScanLaws.{scan_pairs, prefix_pairs, step-first}
use Rattle.mvcc.specs.world.World.{World, Calls}
use Rattle.isolation.specs.Shown.{ShowsFirst, ends, gives}
use Rattle.isolation.proofs.EndedLaws.{admits}
use Rattle.isolation.proofs.KeptLaws.{Sound, Kept, Ready}
use Rattle.isolation.proofs.OpenLaws.{checks_pass}

-- ---- an answer by the step's pair

next_places : (r : Result KeyValue Refusal) → stepped_number r ≡ 0 → (a : Part) × (b : Part) × (r ≡ Ok (record { key = a; value = b }))
next_places (Ok p) e = (p.key, p.value, refl)
next_places (Err x) e = absurd (not_done x e)

module _ {f : Key → Option Bytes} {p : Key → Bool} {h : Handle} {l : List Pair} {log : List ℕ} {r : Result KeyValue Refusal} (s : Shows (Ok tt) h l log r) where
  given-first : (k : Key) (x : Bytes) → step_pairs h l ≡ Some (Some (record { user = k; value = x })) → p k ≡ true → f k ≡ Some x
      → ((j : Key) → p j ≡ true → compare_bytes j k ≡ Less → f j ≡ None) → ShowsFirst f p log r
  given-first k x e t q a =
      let n = next_places r (s.number ∙ ap step_number e) in
      let g = s.given n.0 n.1 n.2 in
      let z : record { user = k; value = x } ≡ g.pair = cc (e, g.first) in
      gives k x n.0 n.1 n.2 (g.key ∙ ap (λ (y : Given). escape_body y.user) (sym z)) (g.value ∙ ap (λ (y : Given). y.value) (sym z)) t q a

  answer-first : {o : Option (Key × Bytes)} → First f p o → step_pairs h l ≡ Some (given_of o) → ShowsFirst f p log r
  answer-first (none-shows e a) q = ends (s.number ∙ ap step_number (q ∙ ap (λ (z : Option (Key × Bytes)). Some (given_of z)) e)) a
  answer-first (first-shows k x e t i a) q = given-first k x (q ∙ ap (λ (z : Option (Key × Bytes)). Some (given_of z)) e) t i a

-- ---- the two steps

module _ {w : World} {T : Calls} {m : Map} {h : Handle} (k : Kept w T m) (a : Ready w) (s : Sound h) (u : usable m (sight_of h) ≡ true) where
  step-shown : {short : Bool} {test : List ℕ → Bool} {p : Key → Bool} {r : Result KeyValue Refusal} → Scanning w.log w.used w.table h short test r → short ≡ true
      → step_pairs h (pairs_of test (pairs_in m)) ≡ Some (given_of (scan_step m (sight_of h) p)) → ShowsFirst (shown m (sight_of h)) p w.log r
  unfolding keys_by
  step-shown {short} {test} {p} {r} c e q =
      let f : keys_by (admits w.log w.used w.table h) short ≡ (Ok tt) = rw (checks_pass k s a u, e) in
      let g : Shows (Ok tt) h (pairs_of test (map_of w.log w.used)) w.log r = subst (λ (z : Result ⊤ Refusal). Shows z h (pairs_of test (map_of w.log w.used)) w.log r) f (scan_shows a c) in
      answer-first g (step-first (scan_step_lem order (run-sorted order k.run) (sight_of h) p)) (ap (λ (l : List Pair). step_pairs h (pairs_of test l)) k.map ∙ q)

  pub scan_shown : (lower : Bound) (low : List ℕ) (upper : Bound) (high : List ℕ) (given : Bool) (last : List ℕ) {r : Result KeyValue Refusal}
      → Scans w.log w.used w.table h lower low upper high given last r → keys_fit lower low upper high given last ≡ true
      → ShowsFirst (shown m (sight_of h)) (admitted lower low upper high given last) w.log r
  scan_shown lower low upper high given last c e = step-shown c e (scan_pairs lower low upper high given last h k.fine)

  pub prefix_shown : (prefix : List ℕ) (given : Bool) (last : List ℕ) {r : Result KeyValue Refusal}
      → ScansPrefix w.log w.used w.table h prefix given last r → prefix_fits prefix given last ≡ true
      → ShowsFirst (shown m (sight_of h)) (prefix_past prefix given last) w.log r
  prefix_shown prefix given last c e = step-shown c e (prefix_pairs prefix given last h k.fine)

-- the same of any function that shows the same
pub shows_same : {f g : Key → Option Bytes} {p : Key → Bool} {log : List ℕ} {r : Result KeyValue Refusal} → ((k : Key) → f k ≡ g k) → ShowsFirst f p log r → ShowsFirst g p log r
shows_same q (ends e a) = ends e (λ k t. sym (q k) ∙ a k t)
shows_same q (gives k x a b e c d t i l) = gives k x a b e c d t (sym (q k) ∙ i) (λ j y z. sym (q j) ∙ l j y z)
