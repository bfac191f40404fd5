-- Where the table agrees with the log, what a begin reads is what the map says. Assumes nothing.
use Prim.Native.Nat.{ℕ}
use mathlib.Core.Path.{◌≡◌, refl, sym, ap, ◌∙◌, subst}
use mathlib.Core.Bool.{Bool}
use mathlib.Core.List.{List, [], ◌∷◌}
use lib.ListN.{length, drop}
use Rattle.keycode.specs.Prefix.{prefix_end}
use Rattle.keycode.specs.key.Keys.{encode, next_version}
use Rattle.keycode.proofs.NumberLaws.{Bytes, bytes_take, bytes_drop}
use Rattle.bitcask.specs.declared.answers.Bound.TheVariants.{Included}
use Rattle.bitcask.specs.keydir.Place.{All, all_none, all_more}
use Rattle.bitcask.specs.recovery.Map.{look_in}
use Rattle.bitcask.specs.recovery.Recover.{map_of}
use Rattle.bitcask.specs.declared.engine.mark.Mark.{Mark}
use Rattle.bitcask.specs.engine.Rows.{Row, rows, pairs, rows_in, Stands}
use Rattle.bitcask.specs.engine.Marks.{Agreeing}
use Rattle.bitcask.specs.engine.Spots.{look_row, row_value}
use Rattle.bitcask.specs.engine.Ranges.{inside, keep_rows}
use Rattle.bitcask.specs.engine.Prefixes.{begins, end_bound, end_bytes}
use Rattle.bitcask.proofs.engine.RowLaws.{rows_agree, in_stand}
use Rattle.bitcask.proofs.engine.LookLaws.{look_in_lem}
use Rattle.bitcask.proofs.engine.RangeLaws.{range_agrees, keep_in}
use Rattle.bitcask.proofs.engine.PrefixLaws.{begins-inside}
use Rattle.mvcc.specs.request.Ranges.{active_prefix}
use Rattle.mvcc.specs.snapshot.Active.{next_of, next_in, next_at, versions_in, keys_in, keys_of, active_rows, active_keys, active_at}

-- ---- rows whose keys are bytes: two tests that say the same of bytes keep the same

module _ (log : List ℕ) (b : Bytes log) (p q : List ℕ → Bool) (f : (k : List ℕ) → Bytes k → p k ≡ q k) where
  stands_bytes : (r : Row) → Stands log r → Bytes r.key
  stands_bytes r w = subst Bytes w.key (bytes_take (length r.key) (drop r.at log) (bytes_drop r.at log b))

  keep_alike : {rs : List Row} → All (Stands log) rs → keep_rows p rs ≡ keep_rows q rs
  unfolding keep_rows
  keep_alike all_none = refl
  keep_alike (all_more {x = r} w a) = rw (f r.key (stands_bytes r w), keep_alike a)

-- ---- of the map

keys_pairs : (rs : List Row) → keys_in rs ≡ keys_of (pairs rs)
unfolding keys_in keys_of pairs
keys_pairs [] = refl
keys_pairs (r ∷ rs) = ap (λ (ks : List (List ℕ)). r.key ∷ ks) (keys_pairs rs)

module _ (log t : List ℕ) (m : Mark) (g : Agreeing log t m) where
  -- the value of a key
  pub look-agrees : (key : List ℕ) → row_value (look_row key (rows log t m)) ≡ look_in key (map_of log m.used.len)
  look-agrees key = ap (λ (rs : List Row). row_value (look_row key rs)) (rows_agree log t m g) ∙ look_in_lem log m.used.len key

  pub next-agrees : next_in (rows log t m) ≡ next_at (map_of log m.used.len)
  unfolding next_in next_at
  next-agrees = ap next_of (look-agrees (encode next_version))

  module _ (b : Bytes log) where
    rows_active : active_rows (rows log t m) ≡ keep_rows (begins active_prefix) (rows_in log m.used.len)
    unfolding active_rows
    rows_active =
        range_agrees Included active_prefix (end_bound (prefix_end active_prefix)) (end_bytes active_prefix (prefix_end active_prefix)) log t m g
        ∙ sym (keep_alike log b (begins active_prefix) (inside Included active_prefix (end_bound (prefix_end active_prefix)) (end_bytes active_prefix (prefix_end active_prefix)))
        (begins-inside active_prefix) (in_stand log m.used.len))

    pub keys_agree : keys_in (active_rows (rows log t m)) ≡ active_keys (map_of log m.used.len)
    unfolding active_keys
    keys_agree = ap keys_in rows_active ∙ keys_pairs (keep_rows (begins active_prefix) (rows_in log m.used.len)) ∙ ap keys_of (keep_in (begins active_prefix) log m.used.len)

    pub active_agrees : versions_in (keys_in (active_rows (rows log t m))) ≡ active_at (map_of log m.used.len)
    unfolding active_at
    active_agrees = ap versions_in keys_agree
