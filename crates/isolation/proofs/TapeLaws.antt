-- What a scan's step shows in a tape's record, and that a whole scan lists what its handle is to see. Assumes nothing.
use Prim.Native.Nat.{ℕ, ◌+◌, ◌≤◌, ◌<◌}
use mathlib.Core.Path.{◌≡◌, refl, sym, ap, ◌∙◌, subst}
use mathlib.Core.Bool.{Bool, true, false}
use mathlib.Core.Logic.{◌≢◌, ◌⊎◌, inl, inr}
use mathlib.Core.List.{List, [], ◌++◌}
use lib.Dec.{leb, ltb}
use lib.ListN.{length}
use borrow.Author.Tests.{le-leb, leb-true, leb-false, ltb-true, ltb-false}
use Rattle.keycode.specs.declared.refusal.Refusal.{Refusal}
use Rattle.bitcask.specs.declared.answers.KeyValue.{KeyValue}
use Rattle.std.specs.Prelude.{Ok, Err, Result, Option, None, Some}
use Rattle.keycode.specs.Tests.{pick}
use Rattle.keycode.specs.Limits.{max_key}
use Rattle.keycode.specs.Strings.{escape_body, plain_length}
use Rattle.keycode.specs.declared.parts.Part.{Part}
use Rattle.keycode.specs.key.Keys.{version}
use Rattle.keycode.proofs.Basics.{nope}
use Rattle.keycode.proofs.StringLaws.{unescaped_body}
use Rattle.bitcask.specs.read.Promises.{stepped_number}
use Rattle.mvcc.specs.declared.handle.Handle.{Handle}
use Rattle.mvcc.specs.scan.Bounds.{prefix_fits}
use Rattle.mvcc.specs.scan.Promises.{ScansPrefix}
use Rattle.mvcc.specs.world.World.{World, Calls}
use Rattle.mvcc.specs.world.Runs.{Run}
use Rattle.tape.specs.format.Layout.{value_room, laid, plainly}
use Rattle.tape.specs.Answers.{bytes_at, got_bytes, Shown, pair, last, pair_if, end_bytes, shown as shown_in}
use Rattle.tape.specs.Turns as Turns
use Rattle.tape.proofs.MeantLaws.{means}
use Rattle.isolation.specs.history.History.{Key, Bytes}
use Rattle.isolation.specs.history.Records.{Map, ver_rec}
use Rattle.isolation.specs.history.Calls.{shown}
use Rattle.isolation.specs.records.Stored.{sight_of}
use Rattle.isolation.specs.records.Scans.{prefix_past, none-shows, first-shows}
use Rattle.isolation.specs.Views.{Usable, Sees, Shows}
use Rattle.isolation.specs.Shown.{ShowsFirst, ends, gives}
use Rattle.isolation.specs.Listed.{Lists, all, more, full, value_shown}
use Rattle.isolation.proofs.history.StepLaws.{HasKey, has_key, shown_has}
use Rattle.isolation.proofs.history.RunLaws.{run-sorted}
use Rattle.isolation.proofs.records.OrderLaws.{order}
use Rattle.isolation.proofs.records.ReadLaws.{look-says}
use Rattle.isolation.proofs.KeptLaws.{Kept}
use Rattle.isolation.proofs.HoldLaws.{run_holds}
use Rattle.isolation.proofs.ShownLaws.{sees-shown}
use Rattle.isolation.proofs.Isolation.{prefix_shows}

-- ---- one record

pub value-shown : (log : List ℕ) (a : Result Part Refusal) (o : Option Bytes) → Shows log a o → got_bytes log a ≡ value_shown o
value-shown log a None e = ap (got_bytes log) e
value-shown log a (Some v) (p, e, q) = ap (got_bytes log) e ∙ ap (λ (x : Bytes). value_shown (Some x)) q

shown_end : (log : List ℕ) (room n : ℕ) (s : Result KeyValue Refusal) → stepped_number s ≡ 1 → shown_in log room n s ≡ last (laid 0 7 n [] [])
unfolding end_bytes
shown_end log room n (Ok p) e = nope (e)
shown_end log room n (Err r) e = ap (λ (i : ℕ). last (end_bytes n i)) e

plain_body : (k : Key) → length k ≤ max_key → plain_length (escape_body k) ≡ Ok (length k)
unfolding plain_length
plain_body k l = rw ((unescaped_body k).0, (unescaped_body k).1, le-leb (length k) max_key l)

shown-pair : (log : List ℕ) (room n : ℕ) (k v : Bytes) (a b : Part) {s : Result KeyValue Refusal} → s ≡ Ok (record { key = a; value = b }) → bytes_at log a ≡ escape_body k → bytes_at log b ≡ v → length k ≤ max_key
    → shown_in log room n s ≡ pair_if (leb (length v) value_room) (ltb (n + 1) room) k v
shown-pair log room n k v a b e p q l = ap (shown_in log room n) e ∙ rw (p, q, plain_body k l, (unescaped_body k).0)

-- ---- a whole scan

pair-last : {k v x : List ℕ} {A : Type 0} → pair k v ≡ last x → A
pair-last e = nope (cc)

same-last : {x y : List ℕ} → last x ≡ last y → x ≡ y
same-last e = cc

same-pair : {k v i j : List ℕ} → pair k v ≡ pair i j → (k ≡ i) × (v ≡ j)
same-pair e = (cc, cc)

-- what a pair's record holds, or why there is none
data Fits (room n : ℕ) (k v : Bytes) (s : Shown) : Type 0 where
  fits : length v ≤ value_room → n + 1 < room → s ≡ pair k v → Fits room n k v s
  fails : (value_room < length v) ⊎ (room ≤ n + 1) → s ≡ last (plainly 13 7) → Fits room n k v s

pair_fits : (room n : ℕ) (k v : Bytes) → Fits room n k v (pair_if (leb (length v) value_room) (ltb (n + 1) room) k v)
unfolding pair_if
pair_fits room n k v = go (leb (length v) value_room) refl (ltb (n + 1) room) refl
  where
    go : (b : Bool) → leb (length v) value_room ≡ b → (c : Bool) → ltb (n + 1) room ≡ c → Fits room n k v (pick b (pick c (pair k v) (last (plainly 13 7))) (last (plainly 13 7)))
    go true p true q = fits (leb-true (length v) value_room p) (ltb-true (n + 1) room q) refl
    go true p false q = fails (inr (ltb-false (n + 1) room q)) refl
    go false p c q = fails (inl (leb-false (length v) value_room p)) refl

-- a key that shows a value is within the limit
short-shown : {w : World} {T : Calls} {m : Map} → Kept w T m → (h : Handle) (k : Key) → shown m (sight_of h) k ≢ None → length k ≤ max_key
short-shown {m = m} kept h k n = go (shown_has order (run-sorted order kept.run) (sight_of h) k n)
  where
    go : HasKey k m → length k ≤ max_key
    go (has_key x o l) = (look-says kept.fine (version k x) (ver_rec k x o) l).1.1

module _ {w : World} {T : Calls} (R : Run true w T) {h : Handle} {f : Key → Option Bytes} (s : Sees T h f) (u : Usable T h) (prefix : Key) (short : length prefix ≤ max_key) (room : ℕ) where
  short-key : (k : Key) {v : Bytes} → f k ≡ Some v → length k ≤ max_key
  short-key k e = short-shown (run_holds R).kept h k (λ n. nope (cc (sym (sees-shown (run_holds R).kept s u k), e, n)))

  stepped : (given : Bool) (before : Key) (r : Result KeyValue Refusal) → prefix_fits prefix given before ≡ true → ScansPrefix w.log w.used w.table h prefix given before r
      → ShowsFirst f (prefix_past prefix given before) w.log r
  stepped given before r e b = prefix_shows R s u prefix given before e b

  fits-behind : (k : Key) → length k ≤ max_key → prefix_fits prefix true k ≡ true
  fits-behind k l = rw (le-leb (length prefix) max_key short, le-leb (length k) max_key l)

  -- the scan's record for a step that shows so much
  record_last : {given : Bool} {before : Key} {n : ℕ} {r : Result KeyValue Refusal} {x : List ℕ} → ShowsFirst f (prefix_past prefix given before) w.log r → shown_in w.log room n r ≡ last x
      → Lists f prefix room given before n x
  record_last {n = n} {r = r} {x = x} (ends e a) q = all (none-shows refl a) (same-last (sym q ∙ shown_end w.log room n r e))
  record_last {given} {before} {n = n} {r = r} {x = x} (gives k v i j e p c t d l) q = go (pair_fits room n k v)
    where
      is : shown_in w.log room n r ≡ pair_if (leb (length v) value_room) (ltb (n + 1) room) k v
      is = shown-pair w.log room n k v i j e p c (short-key k d)

      go : Fits room n k v (pair_if (leb (length v) value_room) (ltb (n + 1) room) k v) → Lists f prefix room given before n x
      go (fits g y z) = pair-last (sym z ∙ sym is ∙ q)
      go (fails g z) = full k v (first-shows k v refl t d l) g (same-last (sym q ∙ is ∙ z))

  record_pair : {given : Bool} {before : Key} {n : ℕ} {r : Result KeyValue Refusal} {key value y : List ℕ} → ShowsFirst f (prefix_past prefix given before) w.log r → shown_in w.log room n r ≡ pair key value
      → (length key ≤ max_key → Lists f prefix room true key (n + 1) y) → Lists f prefix room given before n (laid 0 7 0 key value ++ y)
  record_pair {n = n} {r = r} (ends e a) q rest = pair-last (sym q ∙ shown_end w.log room n r e)
  record_pair {given} {before} {n = n} {r = r} {key = key} {value = value} {y = y} (gives k v i j e p c t d l) q rest = go (pair_fits room n k v)
    where
      is : shown_in w.log room n r ≡ pair_if (leb (length v) value_room) (ltb (n + 1) room) k v
      is = shown-pair w.log room n k v i j e p c (short-key k d)

      go : Fits room n k v (pair_if (leb (length v) value_room) (ltb (n + 1) room) k v) → Lists f prefix room given before n (laid 0 7 0 key value ++ y)
      go (fails g z) = pair-last (sym q ∙ is ∙ z)
      go (fits g b z) =
          let o = same-pair (sym q ∙ is ∙ z) in
          let m : length key ≤ max_key = subst (λ (i : Key). length i ≤ max_key) (sym o.0) (short-key k d) in
          more k v (first-shows k v refl t d l) g b (subst (λ (i : Key). Lists f prefix room true i (n + 1) y) o.0 (rest m))
          (λ j. laid 0 7 0 (o.0 j) (o.1 j) ++ y)

  pub scan_lists : {given : Bool} {before : Key} {n : ℕ} {x : List ℕ} → prefix_fits prefix given before ≡ true → Turns.Scanned w h prefix room given before n x → Lists f prefix room given before n x
  scan_lists {given} {before} e (Turns.ends r p q) = record_last (stepped given before r e (means p).0) q
  scan_lists {given} {before} e (Turns.goes r {key = k} p q rest) = record_pair (stepped given before r e (means p).0) q (λ l. scan_lists (fits-behind k l) rest)
