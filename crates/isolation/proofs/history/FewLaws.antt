-- At most sixteen transactions are open after any run. Assumes nothing.
use Prim.Native.Nat.{ℕ, zero, suc, ◌+◌, ◌≤◌, Ordering}
use native.Mathlib.Omega.{arith}
use mathlib.Core.Path.{◌≡◌}
use mathlib.Core.Bool.{Bool, true, false, cond}
use Rattle.std.specs.Prelude.{Option}
use mathlib.Core.List.{List, [], ◌∷◌}
use lib.ListN.{length}
use Rattle.keycode.specs.key.Keys.{Fields, next_version}
use Rattle.isolation.specs.history.History.{Key, Bytes, Sight}
use Rattle.isolation.specs.history.Records.{Rec, next_rec, active_rec, snap_rec, wrote_rec, ver_rec, plain_rec, key_of, Map, look, without, put, place, del_all, fields≟, is_yes}
use Rattle.isolation.specs.history.Calls.{next_of, actives, put_snap, begin_map, write_map, commit_map, rollback_map, commit_keys, undo_keys, written_by}
use Rattle.isolation.specs.history.Run.{Trace, write_number, wrote_map, Run, run-empty, do_begin, do_read, do_as_of, do_write, do_noroom, do_commit, do_rollback, do_plain, do_other}

abbrev pub one : Rec → ℕ
one (next_rec n) = 0
one (active_rec v) = 1
one (snap_rec v s) = 0
one (wrote_rec v k) = 0
one (ver_rec k v o) = 0
one (plain_rec k b) = 0

abbrev pub many : Map → ℕ
many m = length (actives m)

pub many_cons : (r : Rec) (m : Map) → many (r ∷ m) ≡ one r + many m
unfolding actives
many_cons (next_rec n) m = omega arith
many_cons (active_rec v) m = omega arith
many_cons (snap_rec v s) m = omega arith
many_cons (wrote_rec v k) m = omega arith
many_cons (ver_rec k v o) m = omega arith
many_cons (plain_rec k b) m = omega arith

many-without : (p : Fields → Bool) (m : Map) → many (without p m) ≤ many m
unfolding without
many-without p [] = omega arith
many-without p (r ∷ m) = go (p (key_of r)) (many-without p m)
  where
    go : (b : Bool) → many (without p m) ≤ many m → many (elim b [ true ↦ without p m | false ↦ r ∷ without p m ]) ≤ many (r ∷ m)
    go true i = omega (arith, many_cons r m)
    go false i = omega (arith, many_cons r m, many_cons r (without p m))

many_cut : (Ks : List Fields) (m : Map) → many (del_all Ks m) ≤ many m
unfolding del_all
many_cut [] m = omega arith
many_cut (K ∷ Ks) m = let p : Fields → Bool = λ J. is_yes (fields≟ J K) in omega (arith, many_cut Ks (without p m), many-without p m)

module _ (cmp : Fields → Fields → Ordering) where
  many-put : (r : Rec) (m : Map) → many (put cmp r m) ≤ one r + many m
  unfolding put
  many-put r [] = omega (arith, many_cons r [])
  many-put r (e ∷ m) = go (cmp (key_of r) (key_of e)) (many-put r m)
    where
      go : (o : Ordering) → many (put cmp r m) ≤ one r + many m → many (place o r e m (put cmp r m)) ≤ one r + many (e ∷ m)
      go Ordering.lt i = omega (arith, many_cons r (e ∷ m))
      go Ordering.eq i = omega (arith, many_cons r m, many_cons e m)
      go Ordering.gt i = omega (arith, many_cons e m, many_cons e (put cmp r m))

  many-snap : (v : ℕ) (s : List ℕ) (m : Map) → many (put_snap cmp v s m) ≤ many m
  many-snap v [] m = omega arith
  many-snap v (x ∷ xs) m = omega (arith, many-put (snap_rec v (x ∷ xs)) m)

  many_begin : (m : Map) → many (begin_map cmp m) ≤ suc (many m)
  unfolding begin_map
  many_begin m =
      let n : ℕ = next_of (look m next_version) in
      let a : Map = put cmp (next_rec (suc n)) m in
      let b : Map = put_snap cmp n (actives m) a in
      omega (arith, many-put (active_rec n) b, many-snap n (actives m) a, many-put (next_rec (suc n)) m)

  many_write : (t : ℕ) (k : Key) (o : Option Bytes) (m : Map) → many (write_map cmp t k o m) ≤ many m
  unfolding write_map
  many_write t k o m = omega (arith, many-put (ver_rec k t o) (put cmp (wrote_rec t k) m), many-put (wrote_rec t k) m)

  many-wrote : (n : ℕ) (m : Map) (h : Sight) (k : Key) (o : Option Bytes) → many (wrote_map cmp n m h k o) ≤ many m
  many-wrote zero m h k o = many_write h.ver k o m
  many-wrote (suc n) m h k o = omega arith

  many_commit : (b : Bool) (t : ℕ) (m : Map) → many (cond b m (commit_map t m)) ≤ many m
  unfolding commit_map
  many_commit true t m = omega arith
  many_commit false t m = many_cut (commit_keys t (written_by t m)) m

  many_undo : (b : Bool) (t : ℕ) (m : Map) → many (cond b m (rollback_map t m)) ≤ many m
  unfolding rollback_map
  many_undo true t m = omega arith
  many_undo false t m = many_cut (undo_keys t (written_by t m)) m

  pub run-few : {m : Map} {T : Trace} → Run cmp m T → length (actives m) ≤ 16
  unfolding actives
  run-few run-empty = omega arith
  run-few (do_begin {m = m} r l f) = omega (arith, many_begin m)
  run-few (do_read r) = run-few r
  run-few (do_as_of r v l) = run-few r
  run-few (do_write {m = m} r h g k o) = omega (arith, run-few r, many-wrote (write_number m h k o) m h k o)
  run-few (do_noroom r h g k o n e) = run-few r
  run-few (do_commit {m = m} r h g u) = omega (arith, run-few r, many_commit h.ro h.ver m)
  run-few (do_rollback {m = m} r h g u) = omega (arith, run-few r, many_undo h.ro h.ver m)
  run-few (do_plain {m = m} r k b) = omega (arith, run-few r, many-put (plain_rec k b) m)
  run-few (do_other r) = run-few r
