-- One entry appended, by one search: the judgement, and what any table becomes. Assumes nothing.
use Prim.Native.Nat.{ℕ, ◌+◌, ◌≤◌}
use mathlib.Core.Path.{◌≡◌, sym, ap, ◌∙◌}
use mathlib.Core.List.{List, [], ◌∷◌, ◌++◌, append-nil}
use native.Mathlib.Omega.{arith}
use lib.ListN.{length}
use Rattle.std.specs.Prelude.{Ok, Option, ℕ, Result, ⊤}
use Rattle.keycode.specs.declared.refusal.Refusal.{Refusal}
use Rattle.bitcask.specs.declared.engine.spot.Spot.{Spot}
use Rattle.bitcask.specs.entry.Entry.{set}
use Rattle.bitcask.specs.keydir.Slots.{slots_of}
use Rattle.bitcask.specs.keydir.Place.{all_none}
use Rattle.bitcask.specs.change.Append.{State, room_after, wants, fresh_in, size_all}
use Rattle.bitcask.proofs.change.AppendLaws.{fresh_is}
use Rattle.bitcask.specs.declared.engine.mark.Mark.{Mark}
use Rattle.bitcask.specs.engine.Rows.{rows}
use Rattle.bitcask.specs.engine.Marks.{mark_of, Held}
use Rattle.bitcask.specs.engine.Spots.{placed, place_by}
use Rattle.bitcask.specs.engine.Sets.{spot_place, set_at}
use Rattle.bitcask.specs.engine.Judging.{room_in, judge_in}
use Rattle.bitcask.proofs.engine.SetLaws.{found_place, found_among, set_right, set_long}
use Rattle.mvcc.specs.request.Lists.{appended_all, room_all, fresh_all, judge_all, state_of, sets-none, sets_more, apart_none, apart_more}
use Rattle.mvcc.proofs.append.AllLaws.{Tried, all_room, all_done}
use Rattle.mvcc.specs.append.Appends.{Appends}

module _ (log t : List ℕ) (m : Mark) (key value : List ℕ) (held : Held log t m) (marked : m ≡ mark_of m.used t) (f : Result Spot Spot)
    (ef : placed f (rows log t m) ≡ place_by key (rows log t m)) {room left : Option ℕ} {new : ℕ} {x : Result ⊤ Refusal} (er : room ≡ room_in log m) (el : left ≡ room_after room (length key) (length value))
    (ew : new ≡ wants (spot_place f)) (ex : x ≡ judge_in t m left new) where
  judged_one : x ≡ judge_all log m.used.len t m.count (set key value ∷ [])
  unfolding judge_all room_all fresh_all judge_in room_in
  judged_one =
      let z : fresh_in log key (slots_of m.count t) + 0 ≡ fresh_in log key (slots_of m.count t) = omega arith in
      ex ∙ rw (el, er, ew, z, fresh_is log key (slots_of m.count t) (spot_place f) (found_place log t key m f ef))

  pub one_tried : Tried log t m (set key value ∷ []) x
  one_tried =
      record { held = held; counted = ap (λ (k : Mark). k.count) marked; sets = sets_more sets-none; apart = apart_more all_none apart_none; judged = judged_one }

module _ {log t : List ℕ} {m : Mark} {key value : List ℕ} {x : Result ⊤ Refusal} (w : Tried log t m (set key value ∷ []) x) (q : x ≡ (Ok tt)) where
  one_size : size_all (set key value ∷ []) ≡ 8 + length key + length value
  unfolding size_all
  one_size = omega arith

  pub one_room : m.used.len + 8 + length key + length value + 0 ≤ length log
  one_room = omega (arith, one_size, all_room w q)

  pub one_done : (f : Result Spot Spot) → placed f (rows log t m) ≡ place_by key (rows log t m) → (log' t' : List ℕ) (k : Mark)
      → record { log = log'; used = k.used.len; table = t'; count = k.count } ≡ set_at (record { log = log; used = m.used.len; table = t; count = m.count }) (spot_place f) key (value ++ [])
      → Appends log t m (set key value ∷ []) (Ok k.used) log' t'
  one_done f ef log' t' k ek =
      let s : State = state_of log m.used.len t m.count in
      let l : State = record { log = log'; used = k.used.len; table = t'; count = k.count } in
      let p = found_place log t key m f ef in
      let z : appended_all s (set key value ∷ []) ≡ l = unfold appended_all in sym (ek ∙ ap (set_at s (spot_place f) key) (append-nil value) ∙ set_right s (spot_place f) key value p) in
      all_done w q l (ap (λ (y : State). y.log) z) (ap (λ (y : State). y.used) z)
      (ap (λ (y : State). length y.table) ek ∙ set_long s (spot_place f) key (value ++ []) w.held.room (found_among log t key m f ef)) (λ g h. ap (λ (y : State). y.table) z)
