-- What the scan steps show of the map: the bytes at the places that they answer, and what their refusals mean. Assumes nothing.
use Prim.Native.Nat.{ℕ}
use mathlib.Core.Path.{◌≡◌, refl, sym, ap, ◌∙◌}
use mathlib.Core.Bool.{Bool, true, false}
use mathlib.Core.List.{List, [], ◌∷◌}
use lib.Dec.{eqb}
use lib.ListN.{length}
use Rattle.std.specs.Prelude.{Result, ⊤, Ok, Err, Option, None, Some}
use Rattle.keycode.specs.declared.refusal.Refusal.{Refusal}
use Rattle.bitcask.specs.declared.answers.KeyValue.{KeyValue}
use Rattle.std.specs.declared.cmp.Ordering.TheVariants.{Less}
use Rattle.keycode.specs.Tests.{pick}
use Rattle.keycode.specs.Refusals.{number_of}
use Rattle.keycode.specs.Order.{compare_bytes}
use Rattle.keycode.specs.Strings.{escape_body}
use Rattle.keycode.specs.declared.parts.Part.{Part}
use Rattle.keycode.specs.declared.refusal.Refusal.TheVariants.{BadStore}
use Rattle.keycode.proofs.Basics.{nope}
use Rattle.bitcask.specs.keydir.Place.{All, all_more}
use Rattle.bitcask.specs.recovery.Map.{Pair as MapPair, pairs_of}
use Rattle.bitcask.specs.recovery.Recover.{map_of}
use Rattle.bitcask.specs.recovery.Agree.{fit, Agrees}
use Rattle.bitcask.specs.read.Promises.{stepped_number}
use Rattle.bitcask.specs.engine.Rows.{Row, pairs, rows_in, Stands}
use Rattle.bitcask.specs.engine.Ranges.{keep_rows}
use Rattle.bitcask.proofs.engine.RowLaws.{in_stand}
use Rattle.bitcask.proofs.engine.RangeLaws.{keep_in, keep_all}
use Rattle.mvcc.specs.declared.handle.Handle.{Handle}
use Rattle.mvcc.specs.handle.Handles.{sound_handle}
use Rattle.mvcc.specs.request.Checks.{admit_by, open_in, check_number, on_fine}
use Rattle.mvcc.specs.declared.version.Seen.{Seen}
use Rattle.mvcc.specs.declared.version.Seen.TheVariants.{Hidden, Gone, Bad, Value}
use Rattle.mvcc.specs.declared.version.Record.{Record}
use Rattle.mvcc.specs.version.Seen.{record_row}
use Rattle.mvcc.specs.declared.walk.Walk.{Walk}
use Rattle.mvcc.specs.declared.walk.Walk.TheVariants.{Start, Broken, Over}
use Rattle.mvcc.specs.walk.Walks.{part_of, same_string, in_group, later_by, group_answer, closed_by, spoilt_by, within_by, broken_by, opened_by, ended_by, walk_rows, step_rows}
use Rattle.mvcc.proofs.walk.UpLaws.{Rises, rises-more, in_rises, keep-rises}
use Rattle.mvcc.specs.scan.Promises.{checked_step, keys_by, scan_answer, Scanning}
use Rattle.mvcc.specs.scan.Steps.{Stamp, stamp_of, Given, Sight, hidden, gone, bad, shows, sight_of, same_user, is_of, any_of, or_sight}
use Rattle.mvcc.specs.scan.Steps.{highest, clean_to, step_by, step_on, step_pairs, step_number, GivenAt, Shows}
use Rattle.mvcc.proofs.scan.QuietLaws.{Answers, gives, ends, breaks, step-answers}
use Rattle.mvcc.proofs.scan.NameLaws.{Spelt, spelt}
use Rattle.mvcc.proofs.scan.SightLaws.{raw, escaped, shown, Told, junk, good, told}
use Rattle.mvcc.proofs.scan.GroupLaws.{user-same, same_users, none_left, onward, step-first, on_junk, on_same, on_other}

-- ---- answers by the bytes at their places

abbrev escaped_step : Option (Option Given) → Option (Option Given)
escaped_step None = None
escaped_step (Some None) = Some None
escaped_step (Some (Some g)) = Some (Some (raw g))

abbrev shown_step : List ℕ → Result KeyValue Refusal → Option (Option Given)
shown_step log (Ok p) = Some (Some (record { user = part_of log p.key; value = part_of log p.value }))
shown_step log (Err r) = pick (eqb (number_of r) 1) (Some None) None

or_escaped : (a b : Sight) → or_sight (escaped a) (escaped b) ≡ escaped (or_sight a b)
or_escaped hidden b = refl
or_escaped gone b = refl
or_escaped bad b = refl
or_escaped (shows g) b = refl

step_escaped : (c : Bool) (x : Sight) (r : Option (Option Given)) → step_by c (escaped x) (escaped_step r) ≡ escaped_step (step_by c x r)
step_escaped c hidden r = refl
step_escaped c gone r = refl
step_escaped c bad r = refl
step_escaped true (shows g) r = refl
step_escaped false (shows g) r = refl

pick_escaped : (b : Bool) (x : Sight) → pick b None (step_by true (escaped x) None) ≡ escaped_step (pick b None (step_by true x None))
pick_escaped true x = refl
pick_escaped false x = step_escaped true x None

pick-none : (b : Bool) → None ≡ pick {A = Option (Option Given)} b None None
pick-none true = refl
pick-none false = refl

-- ---- rows that come behind a key with a stamp

abbrev pair_of : Row → MapPair
pair_of r = record { key = r.key; value = r.value }

record Rest (log : List ℕ) (s : Stamp) (rs : List Row) : Type 0 where
  bytes : List ℕ
  spells : Spelt bytes s
  over : All (λ (r : Row). compare_bytes bytes r.key ≡ Less) rs
  rises : Rises rs
  stand : All (Stands log) rs

rest_first : {log : List ℕ} {r : Row} {rs : List Row} {z : Stamp} → Rises (r ∷ rs) → All (Stands log) (r ∷ rs) → stamp_of r.key ≡ Some z → Rest log z rs
rest_first {r = r} {z = z} (rises-more a o) (all_more w st) e = record { bytes = r.key; spells = spelt r.key z e; over = a; rises = o; stand = st }

stands_here : {log : List ℕ} {r : Row} {rs : List Row} → All (Stands log) (r ∷ rs) → Stands log r
stands_here (all_more w st) = w

module _ {log : List ℕ} {s : Stamp} {r : Row} {rs : List Row} (w : Rest log s (r ∷ rs)) where
  rest_more : Rest log s rs
  rest_more = go w.over w.rises w.stand
    where
      go : All (λ (x : Row). compare_bytes w.bytes x.key ≡ Less) (r ∷ rs) → Rises (r ∷ rs) → All (Stands log) (r ∷ rs) → Rest log s rs
      go (all_more e a) (rises-more c o) (all_more i st) = record { bytes = w.bytes; spells = w.spells; over = a; rises = o; stand = st }

  rest_none : {z : Stamp} → stamp_of r.key ≡ Some z → same_user s.user z.user ≡ false → any_of s.user (pairs rs) ≡ false
  rest_none {z} f d = go w.over w.rises
    where
      go : All (λ (x : Row). compare_bytes w.bytes x.key ≡ Less) (r ∷ rs) → Rises (r ∷ rs) → any_of s.user (pairs rs) ≡ false
      go (all_more e a) (rises-more c o) = none_left w.spells (spelt r.key z f) e d c

-- ---- the walk

strings : (log : List ℕ) (a b : Part) (u w : List ℕ) → part_of log a ≡ escape_body u → part_of log b ≡ escape_body w → same_string log a b ≡ same_user u w
unfolding same_string
strings log a b u w e f = rw (e, f) (same_users u w)

module _ (h : Handle) (log : List ℕ) where
  abbrev from : Walk → List Row → Option (Option Given)
  from w rs = shown_step log (ended_by (walk_rows h log w rs))

  over-stays : (a : Result KeyValue Refusal) (rs : List Row) → from (Over a) rs ≡ shown_step log a
  unfolding walk_rows
  over-stays a [] = refl
  over-stays a (r ∷ rs) = over-stays a rs

  answer-shown : (k : Part) (x : Seen) → shown_step log (group_answer k x) ≡ step_by true (shown log k x) (Some None)
  answer-shown k Hidden = refl
  answer-shown k Gone = refl
  answer-shown k Bad = refl
  answer-shown k (Value v) = refl

  closed_shown : (key k : Part) (y x : Seen) (rs : List Row) → from (closed_by key k y x) rs ≡ step_by true (shown log key x) (from (in_group k y) rs)
  closed_shown key k y Hidden rs = refl
  closed_shown key k y Gone rs = refl
  closed_shown key k y Bad rs = over-stays (Err BadStore) rs
  closed_shown key k y (Value v) rs = over-stays (Ok (record { key = key; value = v })) rs

  -- behind a key that is no Version key
  broken_shown : (rs : List Row) (s : Stamp) → Rest log s rs → (key v : Part) → part_of log key ≡ escape_body s.user
      → from (Broken (record { key = key; value = v })) rs ≡ pick (any_of s.user (pairs rs)) None (shown_step log (Ok (record { key = key; value = v })))
  unfolding walk_rows any_of pairs
  broken_shown [] s w key v e = refl
  broken_shown (r ∷ rs) s w key v e = go (told h log r (stands_here w.stand)) (broken_shown rs s (rest_more w) key v e)
    where
      u : List ℕ
      u = s.user

      a : Option (Option Given)
      a = shown_step log (Ok (record { key = key; value = v }))

      by : (z : Stamp) (b : Bool) → same_user u z.user ≡ b → (same_user u z.user ≡ false → any_of u (pairs rs) ≡ false)
          → from (pick b (Over (Err BadStore)) (Over (Ok (record { key = key; value = v })))) rs ≡ pick (pick b true (any_of u (pairs rs))) None a
      by z true d f = over-stays (Err BadStore) rs
      by z false d f = over-stays (Ok (record { key = key; value = v })) rs ∙ ap (λ (b : Bool). pick b None a) (sym (f d))

      go : Told h log r (record_row h r) (stamp_of r.key) → from (Broken (record { key = key; value = v })) rs ≡ pick (any_of u (pairs rs)) None a
          → from (broken_by log key v (record_row h r)) rs ≡ pick (pick (is_of u (stamp_of r.key)) true (any_of u (pairs rs))) None a
      go (junk p q) ih =
          ap (λ (x : Option Record). from (broken_by log key v x) rs) p ∙ ih
          ∙ ap (λ (o : Option Stamp). pick (pick (is_of u o) true (any_of u (pairs rs))) None a) (sym q)
      go (good k y z p q f g) ih =
          ap (λ (x : Option Record). from (broken_by log key v x) rs) p
          ∙ ap (λ (b : Bool). from (pick b (Over (Err BadStore)) (Over (Ok (record { key = key; value = v })))) rs) (strings log key k u z.user e f)
          ∙ by z (same_user u z.user) refl (rest_none w q)
          ∙ ap (λ (o : Option Stamp). pick (pick (is_of u o) true (any_of u (pairs rs))) None a) (sym q)

  spoilt_shown : (rs : List Row) (s : Stamp) → Rest log s rs → (key : Part) (x : Seen) → part_of log key ≡ escape_body s.user
      → from (spoilt_by key x) rs ≡ pick (any_of s.user (pairs rs)) None (step_by true (shown log key x) None)
  spoilt_shown rs s w key Hidden e = over-stays (Err BadStore) rs ∙ pick-none (any_of s.user (pairs rs))
  spoilt_shown rs s w key Gone e = over-stays (Err BadStore) rs ∙ pick-none (any_of s.user (pairs rs))
  spoilt_shown rs s w key Bad e = over-stays (Err BadStore) rs ∙ pick-none (any_of s.user (pairs rs))
  spoilt_shown rs s w key (Value v) e = broken_shown rs s w key v e

  -- a group with one version more says what the later one does, if the handle sees that, at its own place
  later-shown : (rs : List Row) (o : Option (Option Given)) (key k : Part) (x i : Seen) (y z : Sight)
      → ((q : Part) (j : Seen) → (part_of log q ≡ part_of log key) → shown log q j ≡ escaped (or_sight z y) → from (in_group q j) rs ≡ o)
      → part_of log k ≡ part_of log key → shown log key x ≡ escaped y → shown log k i ≡ escaped z → from (later_by key x k i) rs ≡ o
  later-shown rs o key k x Hidden y z ih c f d = ih key x refl ((λ j. or_sight (d j) (f j)) ∙ or_escaped z y)
  later-shown rs o key k x Gone y z ih c f d = ih k Gone c ((λ j. or_sight (d j) (f j)) ∙ or_escaped z y)
  later-shown rs o key k x Bad y z ih c f d = ih k Bad c ((λ j. or_sight (d j) (f j)) ∙ or_escaped z y)
  later-shown rs o key k x (Value v) y z ih c f d = ih k (Value v) c ((λ j. or_sight (d j) (f j)) ∙ or_escaped z y)

  within-shown : (rs : List Row) (s : Stamp) → Rest log s rs → (key : Part) (x : Seen) (y : Sight) → part_of log key ≡ escape_body s.user → shown log key x ≡ escaped y
      → from (in_group key x) rs ≡ escaped_step (onward h s.user y (pairs rs))
  unfolding walk_rows pairs onward highest clean_to step_pairs
  within-shown [] s w key x y e f = answer-shown key x ∙ ap (λ (z : Sight). step_by true z (Some None)) f ∙ step_escaped true y (Some None)
  within-shown (r ∷ rs) s w key x y e f =
      go (told h log r (stands_here w.stand)) (λ t v k i o c d. within-shown rs t v k i o c d)
    where
      u : List ℕ
      u = s.user

      go : Told h log r (record_row h r) (stamp_of r.key)
          → ((t : Stamp) → Rest log t rs → (k : Part) (i : Seen) (o : Sight) → part_of log k ≡ escape_body t.user → shown log k i ≡ escaped o
          → from (in_group k i) rs ≡ escaped_step (onward h t.user o (pairs rs)))
          → from (within_by log key x (record_row h r)) rs ≡ escaped_step (onward h u y (pair_of r ∷ pairs rs))
      go (junk p q) ih =
          ap (λ (n : Option Record). from (within_by log key x n) rs) p ∙ spoilt_shown rs s (rest_more w) key x e
          ∙ ap (λ (z : Sight). pick (any_of u (pairs rs)) None (step_by true z None)) f ∙ pick_escaped (any_of u (pairs rs)) y
          ∙ ap escaped_step (sym (on_junk h (pair_of r) (pairs rs) u y q))
      go (good k i z p q c d) ih =
          ap (λ (n : Option Record). from (within_by log key x n) rs) p
          ∙ ap (λ (b : Bool). from (pick b (later_by key x k i) (closed_by key k i x)) rs) (strings log key k u z.user e c)
          ∙ by (same_user u z.user) refl
        where
          sight : Sight
          sight = sight_of h z r.value

          by : (b : Bool) → same_user u z.user ≡ b → from (pick b (later_by key x k i) (closed_by key k i x)) rs ≡ escaped_step (onward h u y (pair_of r ∷ pairs rs))
          by true t =
              let v : u ≡ z.user = user-same u z.user t in
              later-shown rs (escaped_step (onward h u (or_sight sight y) (pairs rs))) key k x i y sight (λ n j l g. ih s (rest_more w) n j (or_sight sight y) (l ∙ e) g)
              (c ∙ ap escape_body (sym v) ∙ sym e) f d
              ∙ ap escaped_step (on_same h (pair_of r) (pairs rs) u y z q v)
          by false t =
              closed_shown key k i x rs ∙ (λ j. step_by true (f j) (ih z (rest_first w.rises w.stand q) k i sight c d j))
              ∙ step_escaped true y (onward h z.user sight (pairs rs)) ∙ ap escaped_step (on_other h (pair_of r) (pairs rs) u y z q t (rest_none w q t))

  start_shown : (rs : List Row) → Rises rs → All (Stands log) rs → from Start rs ≡ escaped_step (step_pairs h (pairs rs))
  unfolding walk_rows pairs step_pairs
  start_shown [] o st = refl
  start_shown (r ∷ rs) o st = go (told h log r (stands_here st))
    where
      go : Told h log r (record_row h r) (stamp_of r.key) → from (opened_by (record_row h r)) rs ≡ escaped_step (step_on h (pair_of r) (pairs rs) (stamp_of r.key) (step_pairs h (pairs rs)))
      go (junk p q) =
          ap (λ (x : Option Record). from (opened_by x) rs) p ∙ over-stays (Err BadStore) rs
          ∙ ap (λ (b : Option Stamp). escaped_step (step_on h (pair_of r) (pairs rs) b (step_pairs h (pairs rs)))) (sym q)
      go (good k x z p q c d) =
          ap (λ (n : Option Record). from (opened_by n) rs) p ∙ within-shown rs z (rest_first o st q) k x (sight_of h z r.value) c d
          ∙ ap escaped_step (sym (step-first h (pair_of r) (pairs rs) z q))

  -- the step over rows by the bytes at its places is the step over their pairs
  step-shown : (rs : List Row) → Rises rs → All (Stands log) rs → shown_step log (step_rows h log rs) ≡ escaped_step (step_pairs h (pairs rs))
  unfolding step_rows
  step-shown rs o st = start_shown rs o st

-- ---- the promise

module _ (log : List ℕ) where
  answer-number : {x : Result KeyValue Refusal} (o : Option (Option Given)) → Answers x → shown_step log x ≡ escaped_step o → stepped_number x ≡ step_number o
  answer-number None (gives k v) e = nope (cc)
  answer-number None ends e = nope (cc)
  answer-number None breaks e = refl
  answer-number (Some None) (gives k v) e = nope (cc)
  answer-number (Some None) ends e = refl
  answer-number (Some None) breaks e = nope (cc)
  answer-number (Some (Some g)) (gives k v) e = refl
  answer-number (Some (Some g)) ends e = nope (cc)
  answer-number (Some (Some g)) breaks e = nope (cc)

  given-bytes : (o : Option (Option Given)) (k v : Part) → shown_step log (Ok (record { key = k; value = v })) ≡ escaped_step o → GivenAt log o k v
  given-bytes None k v e = nope (cc)
  given-bytes (Some None) k v e = nope (cc)
  given-bytes (Some (Some g)) k v e =
      let q : record { user = part_of log k; value = part_of log v } ≡ raw g = cc in
      record { pair = g; first = refl; key = ap (λ (x : Given). x.user) q; value = ap (λ (x : Given). x.value) q }

checked-number : (c : Result ⊤ Refusal) (x : Result KeyValue Refusal) → stepped_number (checked_step c x) ≡ on_fine c (stepped_number x) (check_number c)
checked-number (Ok tt) x = refl
checked-number (Err r) x = refl

checked-next : (c : Result ⊤ Refusal) (x : Result KeyValue Refusal) (k v : Part) → checked_step c x ≡ Ok (record { key = k; value = v }) → x ≡ Ok (record { key = k; value = v })
checked-next (Ok tt) x k v e = e
checked-next (Err r) x k v e = nope (cc)

module _ {log : List ℕ} {used : ℕ} {t : List ℕ} {h : Handle} {short : Bool} {test : List ℕ → Bool} {r : Result KeyValue Refusal} (a : Agrees log used t) (w : Scanning log used t h short test r) where
  -- the pairs of the map whose keys the test admits decide what follows the checks
  pub scan_shows : Shows (keys_by (admit_by (fit (length log) used (length t)) (sound_handle h) (open_in log used h)) short) h (pairs_of test (map_of log used)) log r
  unfolding scan_answer
  scan_shows =
      let c : (Result ⊤ Refusal) = keys_by (admit_by (fit (length log) used (length t)) (sound_handle h) (open_in log used h)) short in
      let rs : List Row = keep_rows test (rows_in log used) in
      let x : (Result KeyValue Refusal) = step_rows h log rs in
      let o : Option (Option Given) = step_pairs h (pairs_of test (map_of log used)) in
      let e : shown_step log x ≡ escaped_step o =
      step-shown h log rs (keep-rises test (in_rises log used)) (keep_all test (in_stand log used)) ∙ ap (λ (m : List MapPair). escaped_step (step_pairs h m)) (keep_in test log used) in
      record {
        number = ap stepped_number (w.answer a) ∙ checked-number c x ∙ ap (λ (n : ℕ). on_fine c n (check_number c)) (answer-number log o (step-answers h log rs) e);
        given = λ k v q. given-bytes log o k v (ap (shown_step log) (sym (checked-next c x k v (sym (w.answer a) ∙ q))) ∙ e);
      }
