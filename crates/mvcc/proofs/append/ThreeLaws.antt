-- Three sets appended by one search each, the third key between the two others: the judgement, what each is given, and what any table
-- becomes. Assumes nothing.
use Prim.Native.Nat.{ℕ, ◌+◌, ◌-◌, ◌/◌, ◌≤◌}
use mathlib.Core.Path.{◌≡◌, refl, sym, ap, ◌∙◌}
use mathlib.Core.List.{List, [], ◌∷◌, ◌++◌, append-nil}
use native.Mathlib.Omega.{arith}
use lib.ListN.{length}
use Rattle.std.specs.Prelude.{Result, ℕ, Ok, Err, Option, ⊤}
use Rattle.keycode.specs.declared.refusal.Refusal.{Refusal}
use Rattle.bitcask.specs.declared.engine.spot.Spot.{Spot}
use Rattle.std.specs.declared.cmp.Ordering.TheVariants.{Less}
use Rattle.keycode.specs.Limits.{max_log}
use Rattle.keycode.specs.Order.{compare_bytes}
use Rattle.keycode.proofs.OrderLaws.{compare_trans}
use Rattle.bitcask.specs.entry.Entry.{Entry, set, size_of}
use Rattle.bitcask.specs.keydir.Slots.{slot_words, slots_of}
use Rattle.bitcask.specs.keydir.Place.{Among, place_of, all_none, all_more}
use Rattle.bitcask.specs.recovery.Map.{Pair, after}
use Rattle.bitcask.specs.recovery.Recover.{map_of}
use Rattle.bitcask.specs.recovery.Agree.{Agrees}
use Rattle.bitcask.specs.change.Append.{State, appended, room_after, wants, fresh_in, size_all}
use Rattle.bitcask.proofs.change.AppendLaws.{fresh_is}
use Rattle.bitcask.specs.declared.engine.mark.Mark.{Mark}
use Rattle.bitcask.specs.engine.Rows.{rows}
use Rattle.bitcask.specs.engine.Marks.{mark_of, Held}
use Rattle.bitcask.specs.engine.Spots.{placed, place_by}
use Rattle.bitcask.specs.engine.Sets.{spot_place, up_by, set_at}
use Rattle.bitcask.specs.engine.Judging.{room_in, judge_in}
use Rattle.bitcask.proofs.engine.SetLaws.{found_place, found_among, set_right, set_long, set_size, set-used, up_among}
use Rattle.mvcc.specs.request.Lists.{appended_all, state_of, judge_all, room_all, fresh_all, Fitting, fitting_more, sets-none, sets_more, apart_none, apart_more}
use Rattle.mvcc.proofs.request.ListLaws.{Held as Agreed}
use Rattle.mvcc.proofs.append.AllLaws.{Tried, all_room, all_done}
use Rattle.mvcc.proofs.append.PairLaws.{keys_differ}
use Rattle.mvcc.proofs.append.StepLaws.{After, set_after, same_log, same-used, step_agreed, step_fits, step_up, step_stay}
use Rattle.mvcc.specs.append.Appends.{Appends}

-- the three sets
abbrev pub three_of : List ℕ → List ℕ → List ℕ → List ℕ → List ℕ → List Entry
three_of first value second payload third = set first value ∷ set second payload ∷ set third [] ∷ []

-- ---- the judgement

pub three_tried : (log t : List ℕ) (m : Mark) (first value second payload third : List ℕ) → Held log t m → m ≡ mark_of m.used t → compare_bytes first third ≡ Less → compare_bytes third second ≡ Less
    → (f g h : Result Spot Spot) → placed f (rows log t m) ≡ place_by first (rows log t m) → placed g (rows log t m) ≡ place_by second (rows log t m) → placed h (rows log t m) ≡ place_by third (rows log t m)
    → {room one two three : Option ℕ} {a b c : ℕ} {x : Result ⊤ Refusal} → room ≡ room_in log m → one ≡ room_after room (length first) (length value) → two ≡ room_after one (length second) (length payload)
    → three ≡ room_after two (length third) 0 → a ≡ wants (spot_place f) → b ≡ wants (spot_place g) → c ≡ wants (spot_place h) → x ≡ judge_in t m three (a + b + c)
    → Tried log t m (three_of first value second payload third) x
unfolding judge_all room_all fresh_all judge_in room_in
three_tried log t m first value second payload third held marked low high f g h ef eg eh er e₁ e₂ e₃ ea eb ec ex =
    let n : ℕ = fresh_in log first (slots_of m.count t) in
    let o : ℕ = fresh_in log second (slots_of m.count t) in
    let p : ℕ = fresh_in log third (slots_of m.count t) in
    let z : n + o + p ≡ n + (o + (p + 0)) = omega arith in
    record {
      held = held;
      counted = ap (λ (k : Mark). k.count) marked;
      sets = sets_more (sets_more (sets_more sets-none));
      apart =
          apart_more (all_more (keys_differ (compare_trans first third second low high)) (all_more (keys_differ low) all_none))
          (apart_more (all_more (λ e. keys_differ high (sym e)) all_none) (apart_more all_none apart_none));
      judged = ex
          ∙ rw (
            e₃,
            e₂,
            e₁,
            er,
            ea,
            eb,
            ec,
            fresh_is log first (slots_of m.count t) (spot_place f) (found_place log t first m f ef),
            fresh_is log second (slots_of m.count t) (spot_place g) (found_place log t second m g eg),
            fresh_is log third (slots_of m.count t) (spot_place h) (found_place log t third m h eh),
            z,
          );
    }

-- ---- three sets at places that were found before the first

module _ (s : State) (k v k₂ v₂ k₃ v₃ : List ℕ) (f g h : Result ℕ ℕ) (ef : f ≡ place_of s.log k (slots_of s.count s.table)) (eg : g ≡ place_of s.log k₂ (slots_of s.count s.table))
    (eh : h ≡ place_of s.log k₃ (slots_of s.count s.table)) (a : Agreed s) (small : length s.log ≤ max_log) (room : s.used + size_of (set k v) + size_of (set k₂ v₂) ≤ length s.log)
    (fits : length (after (set k v) (map_of s.log s.used)) ≤ length s.table / slot_words)
    (more : length (after (set k₂ v₂) (after (set k v) (map_of s.log s.used))) ≤ length s.table / slot_words) (low : compare_bytes k k₃ ≡ Less) (high : compare_bytes k₃ k₂ ≡ Less) where
  abbrev s₁ : State
  s₁ = set_at s f k v

  abbrev up : Result ℕ ℕ → Result ℕ ℕ
  up p = up_by (s₁.count - s.count) p

  abbrev s₂ : State
  s₂ = set_at s₁ (up g) k₂ v₂

  one_room : s.used + size_of (set k v) ≤ length s.log
  one_room = omega arith

  second-place : up g ≡ place_of s₁.log k₂ (slots_of s₁.count s₁.table)
  second-place = step_up s k v f ef a small one_room fits k₂ g eg (compare_trans k k₃ k₂ low high)

  third_place : up h ≡ place_of s₂.log k₃ (slots_of s₂.count s₂.table)
  third_place =
      let l : length s₁.log ≡ length s.log = set_size s f k v one_room in
      let u : s₁.used ≡ s.used + size_of (set k v) = set-used s f k v in
      step_stay s₁ k₂ v₂ (up g) second-place (step_agreed s k v f ef a small one_room fits) (omega arith) (omega arith) (step_fits s k v f ef a small one_room fits k₂ v₂ more) k₃ (up h)
      (step_up s k v f ef a small one_room fits k₃ h eh low) high

  pub three_right : set_at s₂ (up h) k₃ v₃ ≡ appended (appended (appended s (set k v)) (set k₂ v₂)) (set k₃ v₃)
  three_right =
      set_right s₂ (up h) k₃ v₃ third_place
      ∙ ap (λ (z : State). appended z (set k₃ v₃)) (set_right s₁ (up g) k₂ v₂ second-place ∙ ap (λ (z : State). appended z (set k₂ v₂)) (set_right s f k v ef))

two_fit : {cap : ℕ} {e d : Entry} {ds : List Entry} {m : List Pair} → Fitting cap (e ∷ d ∷ ds) m → (length (after e m) ≤ cap) × (length (after d (after e m)) ≤ cap)
two_fit (fitting_more k (fitting_more j f)) = (k, j)

among-more : (n c : ℕ) (f : Result ℕ ℕ) → n ≤ c → Among n f → Among c f
among-more n c (Ok i) h a = omega arith
among-more n c (Err i) h a = omega arith

-- ---- as the code does it

module _ {log t : List ℕ} {m : Mark} {first value second payload third : List ℕ} {x : Result ⊤ Refusal} (w : Tried log t m (three_of first value second payload third) x) (q : x ≡ (Ok tt)) where
  three_size : size_all (three_of first value second payload third) ≡ 8 + length first + length value + (8 + length second + length payload + (8 + length third))
  unfolding size_all
  three_size = omega arith

  pub three_first : m.used.len + 8 + length first + length value + 0 ≤ length log
  three_first = omega (arith, three_size, all_room w q)

  module _ (f : Result Spot Spot) (ef : placed f (rows log t m) ≡ place_by first (rows log t m)) (log₁ t₁ : List ℕ) (k : Mark)
      (em : record { log = log₁; used = k.used.len; table = t₁; count = k.count }
      ≡ set_at (record { log = log; used = m.used.len; table = t; count = m.count }) (spot_place f) first (value ++ [])) where
    abbrev start : State
    start = record { log = log; used = m.used.len; table = t; count = m.count }

    abbrev one : State
    one = record { log = log₁; used = k.used.len; table = t₁; count = k.count }

    first-set : one ≡ set_at start (spot_place f) first value
    first-set = em ∙ ap (set_at start (spot_place f) first) (append-nil value)

    after_first : After log t m first value log₁ t₁ k
    after_first = set_after log t m (spot_place f) first value log₁ t₁ k w.held (found_among log t first m f ef) (omega (arith, three_first)) first-set

    -- the places of the two others
    pub three_behind : (key : List ℕ) (g : Result Spot Spot) → placed g (rows log t m) ≡ place_by key (rows log t m) → (m.count ≤ k.count) × (Among m.count (spot_place g))
    three_behind key g eg = (after_first.grows, found_among log t key m g eg)

    up_there : (key : List ℕ) (g g' : Result Spot Spot) → placed g (rows log t m) ≡ place_by key (rows log t m) → spot_place g' ≡ up_by (k.count - m.count) (spot_place g) → Among k.count (spot_place g')
    up_there key g g' eg e = rw e (up_among m.count k.count (spot_place g) after_first.grows (found_among log t key m g eg))

    module _ (g g' : Result Spot Spot) (eg : placed g (rows log t m) ≡ place_by second (rows log t m)) (ug : spot_place g' ≡ up_by (k.count - m.count) (spot_place g)) where
      pub three_second : (Held log₁ t₁ k) × (k.used.len + 8 + length second + length payload + 0 ≤ length log₁) × (Among k.count (spot_place g'))
      three_second = let z = after_first in (z.held, omega (arith, z.used, z.long, three_size, all_room w q), up_there second g g' eg ug)

      module _ (log₂ t₂ : List ℕ) (l : Mark) (en : record { log = log₂; used = l.used.len; table = t₂; count = l.count } ≡ set_at one (spot_place g') second (payload ++ [])) where
        abbrev two : State
        two = record { log = log₂; used = l.used.len; table = t₂; count = l.count }

        second-set : two ≡ set_at one (spot_place g') second payload
        second-set = en ∙ ap (set_at one (spot_place g') second) (append-nil payload)

        after-second : After log₁ t₁ k second payload log₂ t₂ l
        after-second =
            let z = three_second in
            set_after log₁ t₁ k (spot_place g') second payload log₂ t₂ l z.0 z.2 (omega (arith, z.1)) second-set

        module _ (h h' : Result Spot Spot) (eh : placed h (rows log t m) ≡ place_by third (rows log t m)) (uh : spot_place h' ≡ up_by (k.count - m.count) (spot_place h)) where
          third_among : Among l.count (spot_place h')
          third_among = among-more k.count l.count (spot_place h') after-second.grows (up_there third h h' eh uh)

          pub three_third : (Held log₂ t₂ l) × (l.used.len + 8 + length third + 0 + 0 ≤ length log₂) × (Among l.count (spot_place h'))
          three_third =
              let y = after_first in
              let z = after-second in
              (z.held, omega (arith, y.used, y.long, z.used, z.long, three_size, all_room w q), third_among)

          module _ (low : compare_bytes first third ≡ Less) (high : compare_bytes third second ≡ Less) (log₃ t₃ : List ℕ) (n : Mark)
              (el : record { log = log₃; used = n.used.len; table = t₃; count = n.count } ≡ set_at two (spot_place h') third ([] ++ [])) where
            abbrev last : State
            last = record { log = log₃; used = n.used.len; table = t₃; count = n.count }

            abbrev up₀ : State → Result ℕ ℕ → Result ℕ ℕ
            up₀ z p = up_by (z.count - m.count) p

            last_set : last
                ≡ set_at (set_at (set_at start (spot_place f) first value) (up₀ (set_at start (spot_place f) first value) (spot_place g)) second payload) (up₀ (set_at start (spot_place f) first value) (spot_place h)) third []
            last_set =
                el ∙ (λ j. set_at (second-set j) (uh j) third []) ∙ ap (λ (p : Result ℕ ℕ). set_at (set_at one p second payload) (up₀ one (spot_place h)) third []) ug
                ∙ (λ j. set_at (set_at (first-set j) (up₀ (first-set j) (spot_place g)) second payload) (up₀ (first-set j) (spot_place h)) third [])

            one_log : one.log ≡ (appended start (set first value)).log
            one_log = ap (λ (z : State). z.log) first-set ∙ same_log start start (spot_place f) first value refl refl

            one_used : one.used ≡ (appended start (set first value)).used
            one_used = ap (λ (z : State). z.used) first-set ∙ same-used start start (spot_place f) first value refl

            two_log : two.log ≡ (appended (appended start (set first value)) (set second payload)).log
            two_log = ap (λ (z : State). z.log) second-set ∙ same_log one (appended start (set first value)) (spot_place g') second payload one_log one_used

            two_used : two.used ≡ (appended (appended start (set first value)) (set second payload)).used
            two_used = ap (λ (z : State). z.used) second-set ∙ same-used one (appended start (set first value)) (spot_place g') second payload one_used

            right : Agrees log m.used.len t → Fitting (length t / slot_words) (three_of first value second payload third) (map_of log m.used.len)
                → (appended_all (state_of log m.used.len t m.count) (three_of first value second payload third)).table ≡ t₃
            unfolding appended_all
            right g'' fit =
                let z = two_fit fit in
                ap (λ (y : State). y.table)
                (sym (last_set ∙ three_right start first value second payload third [] (spot_place f) (spot_place g) (spot_place h) (found_place log t first m f ef)
                (found_place log t second m g eg) (found_place log t third m h eh)
                (record { agrees = g''; counted = w.counted }) w.held.small (omega (arith, three_size, all_room w q)) z.0 z.1 low high))

            pub three_done : Appends log t m (three_of first value second payload third) (Ok n.used) log₃ t₃
            unfolding appended_all
            three_done =
                all_done w q last (sym (ap (λ (z : State). z.log) el ∙ same_log two (appended (appended start (set first value)) (set second payload)) (spot_place h') third [] two_log two_used))
                (sym (ap (λ (z : State). z.used) el ∙ same-used two (appended (appended start (set first value)) (set second payload)) (spot_place h') third [] two_used))
                (ap (λ (z : State). length z.table) el ∙ set_long two (spot_place h') third [] after-second.held.room third_among ∙ after-second.words ∙ after_first.words) right
