-- Two sets appended by one search each: the judgement, what the second is given, and what any table becomes. Assumes nothing.
use Prim.Native.Nat.{ℕ, ◌+◌, ◌-◌, ◌/◌, ◌≤◌}
use mathlib.Core.Path.{◌≡◌, refl, sym, ap, ◌∙◌}
use mathlib.Core.List.{List, [], ◌∷◌, ◌++◌, append-nil}
use native.Mathlib.Omega.{arith}
use lib.ListN.{length, length-append}
use Rattle.std.specs.Prelude.{Result, ℕ, Ok, Option, ⊤}
use Rattle.keycode.specs.declared.refusal.Refusal.{Refusal}
use Rattle.bitcask.specs.declared.engine.spot.Spot.{Spot}
use Rattle.std.specs.declared.cmp.Ordering.{Ordering}
use Rattle.std.specs.declared.cmp.Ordering.TheVariants.{Less, Equal}
use Rattle.keycode.specs.Limits.{max_log}
use Rattle.keycode.specs.Order.{compare_bytes}
use Rattle.keycode.proofs.OrderLaws.{compare_refl}
use Rattle.keycode.proofs.Basics.{nope}
use Rattle.bitcask.specs.entry.Entry.{Entry, set, size_of}
use Rattle.bitcask.specs.keydir.Slots.{slot_words, slots_of}
use Rattle.bitcask.specs.keydir.Place.{Among, place_of, all_none, all_more}
use Rattle.bitcask.specs.recovery.Map.{Pair, after}
use Rattle.bitcask.specs.recovery.Recover.{map_of}
use Rattle.bitcask.specs.recovery.Agree.{Agrees}
use Rattle.bitcask.specs.change.Append.{State, appended, room_after, wants, fresh_in, size_all}
use Rattle.bitcask.proofs.change.AppendLaws.{fresh_is}
use Rattle.bitcask.specs.declared.engine.mark.Mark.{Mark}
use Rattle.bitcask.specs.engine.Rows.{rows}
use Rattle.bitcask.specs.engine.Marks.{mark_of, Held}
use Rattle.bitcask.specs.engine.Spots.{placed, place_by}
use Rattle.bitcask.specs.engine.Sets.{spot_place, up_by, set_at}
use Rattle.bitcask.specs.engine.Judging.{room_in, judge_in}
use Rattle.bitcask.proofs.engine.SetLaws.{found_place, found_among, set_right, set_long, up_among}
use Rattle.mvcc.specs.request.Lists.{appended_all, state_of, judge_all, room_all, fresh_all, Fitting, fitting_more, sets-none, sets_more, apart_none, apart_more}
use Rattle.mvcc.proofs.request.ListLaws.{Held as Agreed}
use Rattle.mvcc.proofs.append.AllLaws.{Tried, all_room, all_done}
use Rattle.mvcc.proofs.append.StepLaws.{After, set_after, same_log, same-used, step_up}
use Rattle.mvcc.specs.append.Appends.{Appends}

-- the two sets
abbrev pub pair_of : List ℕ → List ℕ → List ℕ → List ℕ → List Entry
pair_of first value second payload = set first value ∷ set second payload ∷ []

-- ---- the judgement

-- a key is not a greater one
pub keys_differ : {a b : List ℕ} → compare_bytes a b ≡ Less → a ≡ b → ⊥
keys_differ {a} {b} less e = let z : ◌≡◌ {A = Ordering} Equal Less = sym (compare_refl b) ∙ (rw e at less) in nope (cc)

pub pair-tried : (log t : List ℕ) (m : Mark) (first value second head body : List ℕ) → Held log t m → m ≡ mark_of m.used t → compare_bytes first second ≡ Less → (f g : Result Spot Spot)
    → placed f (rows log t m) ≡ place_by first (rows log t m) → placed g (rows log t m) ≡ place_by second (rows log t m) → {room one two : Option ℕ} {a b : ℕ} {x : Result ⊤ Refusal} → room ≡ room_in log m
    → one ≡ room_after room (length first) (length value) → two ≡ room_after one (length second) (length head + length body) → a ≡ wants (spot_place f) → b ≡ wants (spot_place g)
    → x ≡ judge_in t m two (a + b) → Tried log t m (pair_of first value second (head ++ body)) x
unfolding judge_all room_all fresh_all judge_in room_in
pair-tried log t m first value second head body held marked less f g ef eg er e₁ e₂ ea eb ex =
    let z : fresh_in log second (slots_of m.count t) + 0 ≡ fresh_in log second (slots_of m.count t) = omega arith in
    record {
      held = held;
      counted = ap (λ (k : Mark). k.count) marked;
      sets = sets_more (sets_more sets-none);
      apart = apart_more (all_more (keys_differ less) all_none) (apart_more all_none apart_none);
      judged = ex
          ∙ rw (
            e₂,
            e₁,
            er,
            ea,
            eb,
            length-append head body,
            z,
            fresh_is log first (slots_of m.count t) (spot_place f) (found_place log t first m f ef),
            fresh_is log second (slots_of m.count t) (spot_place g) (found_place log t second m g eg),
          );
    }

-- ---- two sets at places that were found before the first

pub two_right : (s : State) (k v k₂ v₂ : List ℕ) (f g : Result ℕ ℕ) → f ≡ place_of s.log k (slots_of s.count s.table) → g ≡ place_of s.log k₂ (slots_of s.count s.table) → Agreed s
    → length s.log ≤ max_log → s.used + size_of (set k v) ≤ length s.log → length (after (set k v) (map_of s.log s.used)) ≤ length s.table / slot_words → compare_bytes k k₂ ≡ Less
    → set_at (set_at s f k v) (up_by ((set_at s f k v).count - s.count) g) k₂ v₂ ≡ appended (appended s (set k v)) (set k₂ v₂)
two_right s k v k₂ v₂ f g ef eg a small room fits less =
    set_right (set_at s f k v) (up_by ((set_at s f k v).count - s.count) g) k₂ v₂ (step_up s k v f ef a small room fits k₂ g eg less)
    ∙ ap (λ (z : State). appended z (set k₂ v₂)) (set_right s f k v ef)

first_fits : {cap : ℕ} {e d : Entry} {ds : List Entry} {m : List Pair} → Fitting cap (e ∷ d ∷ ds) m → length (after e m) ≤ cap
first_fits (fitting_more k f) = k

-- ---- as the code does it

module _ {log t : List ℕ} {m : Mark} {first value second : List ℕ} (head body : List ℕ) {x : Result ⊤ Refusal} (w : Tried log t m (pair_of first value second (head ++ body)) x) (q : x ≡ (Ok tt)) where
  pair_size : size_all (pair_of first value second (head ++ body)) ≡ 8 + length first + length value + (8 + length second + length head + length body)
  unfolding size_all
  pair_size = simp (length-append head body) (omega arith)

  pub pair-first : m.used.len + 8 + length first + length value + 0 ≤ length log
  pair-first = omega (arith, pair_size, all_room w q)

  module _ (f g : Result Spot Spot) (ef : placed f (rows log t m) ≡ place_by first (rows log t m)) (eg : placed g (rows log t m) ≡ place_by second (rows log t m)) (log₁ t₁ : List ℕ) (k : Mark)
      (em : record { log = log₁; used = k.used.len; table = t₁; count = k.count }
      ≡ set_at (record { log = log; used = m.used.len; table = t; count = m.count }) (spot_place f) first (value ++ [])) where
    abbrev start : State
    start = record { log = log; used = m.used.len; table = t; count = m.count }

    abbrev mid : State
    mid = record { log = log₁; used = k.used.len; table = t₁; count = k.count }

    first-set : mid ≡ set_at start (spot_place f) first value
    first-set = em ∙ ap (set_at start (spot_place f) first) (append-nil value)

    pub pair-after : After log t m first value log₁ t₁ k
    pair-after = set_after log t m (spot_place f) first value log₁ t₁ k w.held (found_among log t first m f ef) (omega (arith, pair-first)) first-set

    pub pair-behind : (m.count ≤ k.count) × (Among m.count (spot_place g))
    pair-behind = (pair-after.grows, found_among log t second m g eg)

    module _ (h : Result Spot Spot) (eh : spot_place h ≡ up_by (k.count - m.count) (spot_place g)) where
      second-among : Among k.count (spot_place h)
      second-among = rw eh (up_among m.count k.count (spot_place g) pair-after.grows (found_among log t second m g eg))

      pub pair-second : (Held log₁ t₁ k) × (k.used.len + 8 + length second + length head + length body ≤ length log₁) × (Among k.count (spot_place h))
      pair-second = let z = pair-after in (z.held, omega (arith, z.used, z.long, pair_size, all_room w q), second-among)

      module _ (less : compare_bytes first second ≡ Less) (log₂ t₂ : List ℕ) (l : Mark)
          (el : record { log = log₂; used = l.used.len; table = t₂; count = l.count } ≡ set_at mid (spot_place h) second (head ++ body)) where
        abbrev last : State
        last = record { log = log₂; used = l.used.len; table = t₂; count = l.count }

        last_set : last ≡ set_at (set_at start (spot_place f) first value) (up_by ((set_at start (spot_place f) first value).count - m.count) (spot_place g)) second (head ++ body)
        last_set =
            el ∙ ap (λ (p : Result ℕ ℕ). set_at mid p second (head ++ body)) eh
            ∙ (λ j. set_at (first-set j) (up_by ((first-set j).count - m.count) (spot_place g)) second (head ++ body))

        mid_log : mid.log ≡ (appended start (set first value)).log
        mid_log = ap (λ (z : State). z.log) first-set ∙ same_log start start (spot_place f) first value refl refl

        mid_used : mid.used ≡ (appended start (set first value)).used
        mid_used = ap (λ (z : State). z.used) first-set ∙ same-used start start (spot_place f) first value refl

        right : Agrees log m.used.len t → Fitting (length t / slot_words) (pair_of first value second (head ++ body)) (map_of log m.used.len)
            → (appended_all (state_of log m.used.len t m.count) (pair_of first value second (head ++ body))).table ≡ t₂
        unfolding appended_all
        right g' fit =
            ap (λ (z : State). z.table)
            (sym (last_set ∙ two_right start first value second (head ++ body) (spot_place f) (spot_place g) (found_place log t first m f ef) (found_place log t second m g eg)
            (record { agrees = g'; counted = w.counted })
            w.held.small (omega (arith, pair-first)) (first_fits fit) less))

        pub pair_done : Appends log t m (pair_of first value second (head ++ body)) (Ok l.used) log₂ t₂
        unfolding appended_all
        pair_done =
            all_done w q last (sym (ap (λ (z : State). z.log) el ∙ same_log mid (appended start (set first value)) (spot_place h) second (head ++ body) mid_log mid_used))
            (sym (ap (λ (z : State). z.used) el ∙ same-used mid (appended start (set first value)) (spot_place h) second (head ++ body) mid_used))
            (ap (λ (z : State). length z.table) el ∙ set_long mid (spot_place h) second (head ++ body) pair-after.held.room second-among ∙ pair-after.words) right
