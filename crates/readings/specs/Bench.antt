-- Document 01, 'Bench readings', the rows P1 to P11: closed equations about the definitions of the three layers. Assumes nothing.
use Rattle.std.specs.Prelude.{ℕ, ◌≡◌, true, false, List, [], ◌∷◌, ◌++◌, length, take, Err, Some, None}
use Rattle.keycode.specs.Limits.{max_key}
use Rattle.keycode.specs.Strings.{escape, scanned, fault}
use Rattle.keycode.specs.Prefix.{prefix_end}
use Rattle.keycode.specs.declared.strings.Reason.TheVariants.{BadEscape}
use Rattle.keycode.specs.key.Keys.{encode, version}
use Rattle.bitcask.specs.entry.Reading.{entry_at}
use Rattle.bitcask.specs.declared.entry.read.Lengths.TheVariants.{Del}
use Rattle.bitcask.specs.recovery.Map.{Pair}
use Rattle.bitcask.specs.recovery.Recover.{items, ends, map_of}
use Rattle.mvcc.specs.handle.Handles.{sees, handle_of}

-- what recovery makes of a log all of which is used: the map, and the used length that is left
abbrev pub Recovers : List ℕ → List Pair → ℕ → Type 0
Recovers log m used = (map_of log (length log) ≡ m) × (ends 0 (items log (length log) 0) ≡ used)

unfoldable pub p6_log : List ℕ
p6_log = 0x00 ∷ 0x00 ∷ 0x00 ∷ 0x01 ∷ 0x00 ∷ 0x00 ∷ 0x00 ∷ 0x02 ∷ 0x61 ∷ 0x78 ∷ 0x79 ∷ []

unfoldable pub p8_tail : List ℕ
p8_tail = 0x00 ∷ 0x00 ∷ 0x00 ∷ 0x01 ∷ 0xff ∷ 0xff ∷ 0xff ∷ 0xff ∷ 0x61 ∷ []

unfoldable pub p9_log : List ℕ
p9_log = 0x00 ∷ 0x00 ∷ 0x00 ∷ 0x01 ∷ 0x80 ∷ 0x00 ∷ 0x00 ∷ 0x00 ∷ 0x61 ∷ []

pub record Bench : Type 0 where
  -- the empty string: 00 00
  pub p1 : escape [] ≡ 0x00 ∷ 0x00 ∷ []
  -- 61 00 62: 61 00 ff 62 00 00
  pub p2 : escape (0x61 ∷ 0x00 ∷ 0x62 ∷ []) ≡ 0x61 ∷ 0x00 ∷ 0xff ∷ 0x62 ∷ 0x00 ∷ 0x00 ∷ []
  -- decoding 00 01 fails: at the byte after the 00
  pub p3 : scanned max_key 0 (0x00 ∷ 0x01 ∷ []) ≡ Err (fault BadEscape 1)
  -- prefix 61 ff: the end is none of its bytes and 62, excluded
  pub p4 : prefix_end (0x61 ∷ 0xff ∷ []) ≡ Some (record { keep = 0; last = 0x62 })
  -- prefix ff ff: no upper end
  pub p5 : prefix_end (0xff ∷ 0xff ∷ []) ≡ None
  -- log 00000001 00000002 61 78 79: one key, used 11
  pub p6 : Recovers p6_log (record { key = 0x61 ∷ []; value = 0x78 ∷ 0x79 ∷ [] } ∷ []) 11
  -- its first 10 bytes: no key, used 0
  pub p7 : Recovers (take 10 p6_log) [] 0
  -- P6 then 00000001 ffffffff 61: no key, used 20
  pub p8 : Recovers (p6_log ++ p8_tail) [] 20
  -- 00000001 80000000 61: a tombstone, used 9
  pub p9 : (entry_at p9_log 9 0 ≡ (Some (Del 1))) × Recovers p9_log [] 9
  -- Version("a", 1)
  pub p10 : encode (version (0x61 ∷ []) 1) ≡ 0x04 ∷ 0x61 ∷ 0x00 ∷ 0x00 ∷ 0x00 ∷ 0x00 ∷ 0x00 ∷ 0x00 ∷ 0x00 ∷ 0x00 ∷ 0x00 ∷ 0x01 ∷ []
  -- version 5, set {3}, read-write: sees 4 and 5, not 3 or 6
  pub p11 : (sees (handle_of 5 false (3 ∷ [])) 4 ≡ true) × (sees (handle_of 5 false (3 ∷ [])) 5 ≡ true) × (sees (handle_of 5 false (3 ∷ [])) 3 ≡ false) × (sees (handle_of 5 false (3 ∷ [])) 6 ≡ false)
  -- the same, read-only: sees 4, not 5
  pub p11_read : (sees (handle_of 5 true (3 ∷ [])) 4 ≡ true) × (sees (handle_of 5 true (3 ∷ [])) 5 ≡ false)
