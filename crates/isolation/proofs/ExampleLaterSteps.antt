-- The worked run goes on, over bytes: its later worlds, and that each call's contract admits what is answered there. Every equation holds by
-- computing the definitions that the contracts cite; proofs/ExampleLater.antt has the run. Assumes nothing.
use Prim.Native.Nat.{ℕ}
use mathlib.Core.Path.{◌≡◌, refl}
use mathlib.Core.Bool.{true, false}
use mathlib.Core.List.{List, [], ◌∷◌}
use native.Mathlib.Omega.{arith}
use lib.ListN.{length, drop, replicate}
use Rattle.std.specs.Prelude.{Err, Result, Ok, None, Some}
use Rattle.keycode.specs.declared.parts.Part.{Part}
use Rattle.keycode.specs.declared.refusal.Refusal.{Refusal}
use Rattle.bitcask.specs.declared.answers.KeyValue.{KeyValue}
use Rattle.keycode.specs.Buffer.{put}
use Rattle.keycode.specs.Number.{be, num}
use Rattle.keycode.specs.Order.{compare_bytes, compare_nat}
use Rattle.keycode.specs.Strings.{escape, escape_body, escape_byte, unescaped, scanned}
use Rattle.keycode.specs.declared.refusal.Refusal.TheVariants.{Absent, LogFull, TableFull}
use Rattle.keycode.proofs.Basics.{nope}
use Rattle.keycode.specs.key.Keys.{decode_why, key_of as read_key, string_at, on_ended, exactly}
use Rattle.bitcask.specs.entry.Entry.{bytes_of}
use Rattle.bitcask.specs.entry.Length.{length_of}
use Rattle.bitcask.specs.entry.Reading.{word_at, head_at, entry_at}
use Rattle.bitcask.specs.keydir.Slots.{table_of, words_of, key_of, value_of, insert_at, replace_at, remove_at}
use Rattle.bitcask.specs.keydir.Place.{place_in}
use Rattle.bitcask.specs.recovery.Map.{look_in, put_in, cut_in, after, pairs_of, live_in}
use Rattle.bitcask.specs.recovery.Recover.{items, items_of, ends, step, fold, recovered, view, map_of, step_in, run}
use Rattle.bitcask.specs.recovery.Agree.{fit}
use Rattle.bitcask.specs.recovery.Promises.{Opens, open_answer, open_table}
use Rattle.bitcask.specs.declared.answers.Bound.TheVariants.{Unbounded}
use Rattle.bitcask.specs.read.Ranks.{admitted}
use Rattle.bitcask.specs.change.Append.{size_all, bytes_all, after_all, append_answer}
use Rattle.bitcask.specs.compaction.Compaction.{entries_of}
use Rattle.bitcask.specs.compaction.Promises.{Compacts}
use Rattle.bitcask.specs.check.Promises.{Tells}
use Rattle.mvcc.specs.declared.handle.Handle.{Handle}
use Rattle.mvcc.specs.handle.Handles.{handle_of, set_of, sound_handle, rising, sees, memb, lowest_of, first_or}
use Rattle.mvcc.specs.payload.Payloads.{set_bytes, set_in, versions_of, set_for, version_in, value_bytes, value_in}
use Rattle.mvcc.specs.delete_range.Cuts.{Extends}
use Rattle.mvcc.specs.request.Given.{begun_with}
use Rattle.bitcask.specs.engine.Prefixes.{begins}
use Rattle.bitcask.specs.engine.Rows.{rows_of, rows_in}
use Rattle.bitcask.specs.engine.Ranges.{keep_rows, inside}
use Rattle.mvcc.specs.request.Checks.{open_by, own_version, admit_by}
use Rattle.mvcc.specs.snapshot.Active.{next_at, next_of, active_at, active_keys, active_in, versions_in, keys_of}
use Rattle.mvcc.specs.start.Plan.{plan_by, snapshot_by}
use Rattle.mvcc.specs.as_of.Answers.{snapshot_read}
use Rattle.mvcc.specs.read_only.Promises.{BeginsReading}
use Rattle.mvcc.specs.as_of.Promises.{BeginsAsOf}
use Rattle.mvcc.specs.version.Seen.{last_rows, seen_row, row_says, record_row}
use Rattle.mvcc.specs.read.Promises.{Gets, get_answer}
use Rattle.mvcc.specs.write.Writes.{plan, allow_by}
use Rattle.mvcc.specs.conflict.Conflicts.{search_by, searched, seen_bytes}
use Rattle.mvcc.specs.append.Lays.{sizes_by}
use Rattle.mvcc.specs.write.Promises.{Writes, write_answer, may_write}
use Rattle.mvcc.specs.undo.Plans.{undos_of, user_in, all_users}
use Rattle.mvcc.specs.walk.Walks.{same_string, walk_rows, step_rows}
use Rattle.mvcc.specs.scan.Promises.{Scans, scan_answer, keys_by}
use Rattle.mvcc.specs.end.Plans.{rollback_plan, writes_of}
use Rattle.mvcc.specs.end.Promises.{RollsBack, rollback_answer, undo_answer, among}
use Rattle.isolation.proofs.ExampleSteps.{done, a, y, h₂, h₃, blank, vacant, log₁, log₂, log₃, log₄, log₅, log₆, table₁, table₂, table₃, table₄, table₅, table₆, at_length}

-- ---- what the calls are lent and given: another key, a larger buffer, a table of one slot, and the handles of a read-only begin and of as-of 0

abbrev pub b : List ℕ
b = 98 ∷ []

abbrev pub r₄ : Handle
r₄ = handle_of 4 true (2 ∷ 3 ∷ [])

abbrev pub back₀ : Handle
back₀ = handle_of 0 true []

-- where the key and its value stand, and where the value stands at last
abbrev pub pair_a : Result KeyValue Refusal
pair_a = Ok (record { key = (record { at = 68; len = 1 }); value = (record { at = 80; len = 1 }) })

abbrev pub found_later : Result Part Refusal
found_later = Ok (record { at = 122; len = 1 })

unfoldable pub wide : List ℕ
wide = replicate {A = ℕ} 300 0

unfoldable pub narrow : List ℕ
narrow = replicate {A = ℕ} 3 0

-- ---- logs and tables

-- compacted again, into a larger buffer
unfoldable pub log₇ : List ℕ
log₇ =
    put wide 0
    (0 ∷ 0 ∷ 0 ∷ 1 ∷ 0 ∷ 0 ∷ 0 ∷ 8 ∷ 0 ∷ 0 ∷ 0 ∷ 0 ∷ 0 ∷ 0 ∷ 0 ∷ 0 ∷ 4
    ∷ 0 ∷ 0 ∷ 0 ∷ 9 ∷ 0 ∷ 0 ∷ 0 ∷ 0 ∷ 1 ∷ 0 ∷ 0 ∷ 0 ∷ 0 ∷ 0 ∷ 0 ∷ 0 ∷ 2
    ∷ 0 ∷ 0 ∷ 0 ∷ 9 ∷ 0 ∷ 0 ∷ 0 ∷ 0 ∷ 1 ∷ 0 ∷ 0 ∷ 0 ∷ 0 ∷ 0 ∷ 0 ∷ 0 ∷ 3
    ∷ 0 ∷ 0 ∷ 0 ∷ 9 ∷ 0 ∷ 0 ∷ 0 ∷ 8 ∷ 2 ∷ 0 ∷ 0 ∷ 0 ∷ 0 ∷ 0 ∷ 0 ∷ 0 ∷ 2 ∷ 0 ∷ 0 ∷ 0 ∷ 0 ∷ 0 ∷ 0 ∷ 0 ∷ 1
    ∷ 0 ∷ 0 ∷ 0 ∷ 9 ∷ 0 ∷ 0 ∷ 0 ∷ 8 ∷ 2 ∷ 0 ∷ 0 ∷ 0 ∷ 0 ∷ 0 ∷ 0 ∷ 0 ∷ 3 ∷ 0 ∷ 0 ∷ 0 ∷ 0 ∷ 0 ∷ 0 ∷ 0 ∷ 2
    ∷ 0 ∷ 0 ∷ 0 ∷ 12 ∷ 0 ∷ 0 ∷ 0 ∷ 2 ∷ 4 ∷ 97 ∷ 0 ∷ 0 ∷ 0 ∷ 0 ∷ 0 ∷ 0 ∷ 0 ∷ 0 ∷ 0 ∷ 1 ∷ 1 ∷ 120
    ∷ [])

unfoldable pub table₇ : List ℕ
table₇ = 1 ∷ 1 ∷ 8 ∷ 18 ∷ 9 ∷ 0 ∷ 35 ∷ 9 ∷ 0 ∷ 52 ∷ 9 ∷ 8 ∷ 77 ∷ 9 ∷ 8 ∷ 102 ∷ 12 ∷ 2 ∷ replicate {A = ℕ} 6 0

-- version 3 deleted the key: it wrote the key, and no value at version 3; every slot is in use
unfoldable pub log₈ : List ℕ
log₈ =
    put log₇ 123
    (0 ∷ 0 ∷ 0 ∷ 12 ∷ 0 ∷ 0 ∷ 0 ∷ 0 ∷ 3 ∷ 0 ∷ 0 ∷ 0 ∷ 0 ∷ 0 ∷ 0 ∷ 0 ∷ 3 ∷ 97 ∷ 0 ∷ 0
    ∷ 0 ∷ 0 ∷ 0 ∷ 12 ∷ 0 ∷ 0 ∷ 0 ∷ 1 ∷ 4 ∷ 97 ∷ 0 ∷ 0 ∷ 0 ∷ 0 ∷ 0 ∷ 0 ∷ 0 ∷ 0 ∷ 0 ∷ 3 ∷ 0
    ∷ [])

unfoldable pub table₈ : List ℕ
table₈ = 1 ∷ 1 ∷ 8 ∷ 18 ∷ 9 ∷ 0 ∷ 35 ∷ 9 ∷ 0 ∷ 52 ∷ 9 ∷ 8 ∷ 77 ∷ 9 ∷ 8 ∷ 124 ∷ 12 ∷ 0 ∷ 102 ∷ 12 ∷ 2 ∷ 144 ∷ 12 ∷ 1 ∷ []

-- version 3 rolled back: its version of the key, its write and itself are gone
unfoldable pub log₉ : List ℕ
log₉ =
    put log₈ 164
    (0 ∷ 0 ∷ 0 ∷ 12 ∷ 255 ∷ 255 ∷ 255 ∷ 255 ∷ 4 ∷ 97 ∷ 0 ∷ 0 ∷ 0 ∷ 0 ∷ 0 ∷ 0 ∷ 0 ∷ 0 ∷ 0 ∷ 3
    ∷ 0 ∷ 0 ∷ 0 ∷ 12 ∷ 255 ∷ 255 ∷ 255 ∷ 255 ∷ 3 ∷ 0 ∷ 0 ∷ 0 ∷ 0 ∷ 0 ∷ 0 ∷ 0 ∷ 3 ∷ 97 ∷ 0 ∷ 0
    ∷ 0 ∷ 0 ∷ 0 ∷ 9 ∷ 255 ∷ 255 ∷ 255 ∷ 255 ∷ 1 ∷ 0 ∷ 0 ∷ 0 ∷ 0 ∷ 0 ∷ 0 ∷ 0 ∷ 3
    ∷ [])

unfoldable pub table₉ : List ℕ
table₉ = 1 ∷ 1 ∷ 8 ∷ 18 ∷ 9 ∷ 0 ∷ 52 ∷ 9 ∷ 8 ∷ 77 ∷ 9 ∷ 8 ∷ 102 ∷ 12 ∷ 2 ∷ replicate {A = ℕ} 9 0

-- ---- the contracts

pub record Laters : Type 0 where
  pub reads₄ : BeginsReading log₆ 140 table₆ (begun_with 140 r₄)
  pub scans₃ : Scans log₆ 140 table₆ h₃ Unbounded [] Unbounded [] false [] pair_a
  pub scans_on₃ : Scans log₆ 140 table₆ h₃ Unbounded [] Unbounded [] true a (Err Absent)
  pub deletes_full : Writes log₆ 140 table₆ h₃ a (value_bytes None) 0 (Err LogFull) log₆ table₆
  pub room_full : append_answer log₆ 140 (length table₆) (plan 3 a (value_bytes None)) ≡ Err LogFull
  pub compacts₂ : Compacts log₆ 140 table₆ wide (done 123) table₇ log₇
  pub deletes₃ : Writes log₇ 123 table₇ h₃ a (value_bytes None) 0 (done 164) log₈ table₈
  pub sets_full : Writes log₈ 164 table₈ h₂ b (value_bytes (Some y)) 1 (Err TableFull) log₈ table₈
  pub slots_full : append_answer log₈ 164 (length table₈) (plan 2 b (value_bytes (Some y))) ≡ Err TableFull
  pub rolls_back₃ : RollsBack log₈ 164 table₈ h₃ (done 221) log₉ table₉
  pub opens_narrow : Opens log₉ 221 narrow (Err TableFull) narrow
  pub opens₃ : Opens log₉ 221 vacant (done 221) table₉
  pub as_of₀ : BeginsAsOf log₉ 221 table₉ 0 (begun_with 221 back₀)
  pub gets_back₀ : Gets log₉ 221 table₉ back₀ a (Err Absent)
  pub gets₄ : Gets log₉ 221 table₉ r₄ a found_later
  pub checks₃ : Tells log₉ 221 table₉ true

pub laters : Laters
unfolding blank vacant log₁ log₂ log₃ log₄ log₅ log₆ table₁ table₂ table₃ table₄ table₅ table₆ put be num compare_bytes compare_nat escape escape_body
    escape_byte unescaped scanned decode_why read_key string_at on_ended exactly bytes_of length_of word_at head_at entry_at table_of words_of key_of value_of insert_at
    replace_at remove_at place_in look_in put_in cut_in after items items_of ends step fold recovered view map_of step_in run fit open_answer open_table size_all
    bytes_all after_all append_answer entries_of handle_of set_of sound_handle rising sees memb lowest_of first_or set_bytes set_in versions_of set_for version_in
    value_bytes value_in pairs_of begins inside rows_of rows_in keep_rows live_in open_by own_version admit_by next_at next_of active_at active_keys active_in versions_in keys_of plan_by
    snapshot_by snapshot_read last_rows seen_row row_says get_answer plan allow_by sizes_by search_by searched seen_bytes write_answer may_write writes_of among
    log₇ log₈ log₉ table₇ table₈ table₉ wide narrow scan_answer keys_by step_rows walk_rows record_row same_string admitted undos_of user_in
    all_users rollback_plan rollback_answer undo_answer
laters =
    record {
      reads₄ = record { blank = refl; bad = refl; answer = λ g. refl };
      scans₃ = record { bad = refl; never = λ e. nope (cc); ever = λ e. nope (cc); long = λ e. nope (cc); answer = λ g. refl };
      scans_on₃ = record { bad = refl; never = λ e. nope (cc); ever = λ e. nope (cc); long = λ e. nope (cc); answer = λ g. refl };
      deletes_full =
          record {
            leaves = record { bytes = refl; words = refl; long = refl; ends = λ u e. nope (cc); again = λ g z. absurd (omega arith) };
            early = record { bad = refl; read_only = refl; not_open = refl; key_long = refl; value_long = refl };
            answer = λ g. refl;
          };
      room_full = refl;
      compacts₂ =
          record {
            words = refl;
            bytes = refl;
            past = λ u e. at_length (λ (n : ℕ). drop n log₇ ≡ drop n wide) e refl;
            long = (refl, refl);
            bad = refl;
            answer = λ g. refl;
            target = λ g z. refl;
            again = λ g z. record { sound = refl; clean = refl; words = refl };
            same = λ g z. refl;
          };
      deletes₃ =
          record {
            leaves = record { bytes = refl; words = refl; long = refl; ends = λ u e. (cc, omega arith); again = λ g z. record { sound = refl; clean = refl; words = refl } };
            early = record { bad = refl; read_only = refl; not_open = refl; key_long = refl; value_long = refl };
            answer = λ g. refl;
          };
      sets_full =
          record {
            leaves = record { bytes = refl; words = refl; long = refl; ends = λ u e. nope (cc); again = λ g z. absurd (omega arith) };
            early = record { bad = refl; read_only = refl; not_open = refl; key_long = refl; value_long = refl };
            answer = λ g. refl;
          };
      slots_full = refl;
      rolls_back₃ =
          record {
            leaves =
                record {
                  kept = refl;
                  words = refl;
                  long = refl;
                  ends = λ u e. at_length (λ (n : ℕ). Extends log₈ 164 log₉ n) e (record { long = refl; onward = (omega arith, omega arith); below = refl; past = refl });
                  bytes = λ g. refl;
                  again = λ g z. record { sound = refl; clean = refl; words = refl };
                };
            early = record { bad = refl; never = λ e. nope (cc); reads = λ e. nope (cc) };
            numbers = refl;
            answer = λ g. refl;
          };
      opens_narrow = record { answer = refl; table = refl };
      opens₃ = record { answer = refl; table = refl };
      as_of₀ = record { blank = refl; bad = refl; answer = λ g. refl };
      gets_back₀ = record { bad = refl; never = λ e. nope (cc); ever = λ e. refl; long = λ e. refl; answer = λ g. refl };
      gets₄ = record { bad = refl; never = λ e. nope (cc); ever = λ e. refl; long = λ e. refl; answer = λ g. refl };
      checks₃ = record { yes_so = λ e. record { sound = refl; clean = refl; words = refl }; so_yes = λ g. refl };
    }
