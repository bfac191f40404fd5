-- A worked run, over bytes: its worlds, and that each call's contract admits what is answered there. Every equation holds by computing the
-- definitions that the contracts cite; proofs/Example.antt has the run and what the theorems say of it. Assumes nothing.
use Prim.Native.Nat.{ℕ}
use mathlib.Core.Path.{◌≡◌, refl, subst}
use mathlib.Core.Bool.{true, false}
use mathlib.Core.List.{List, [], ◌∷◌}
use native.Mathlib.Omega.{arith}
use lib.ListN.{length, drop, replicate}
use Rattle.std.specs.Prelude.{Result, Ok, Err, Some}
use Rattle.keycode.specs.declared.refusal.Refusal.{Refusal}
use Rattle.keycode.specs.declared.parts.Part.{Part}
use Rattle.keycode.specs.Buffer.{put}
use Rattle.keycode.specs.Number.{be, num}
use Rattle.keycode.specs.Order.{compare_bytes, compare_nat}
use Rattle.keycode.specs.Strings.{escape, escape_body, escape_byte, scanned}
use Rattle.keycode.specs.declared.refusal.Refusal.TheVariants.{Absent, Conflict}
use Rattle.keycode.proofs.Basics.{nope}
use Rattle.keycode.specs.key.Keys.{decode_why, key_of as read_key, string_at, on_ended, exactly}
use Rattle.bitcask.specs.entry.Entry.{bytes_of}
use Rattle.bitcask.specs.entry.Length.{length_of}
use Rattle.bitcask.specs.entry.Reading.{word_at, head_at, entry_at}
use Rattle.bitcask.specs.keydir.Slots.{table_of, words_of, key_of, value_of, insert_at, replace_at, remove_at}
use Rattle.bitcask.specs.keydir.Place.{place_in}
use Rattle.bitcask.specs.declared.request.Used.{Used}
use Rattle.bitcask.specs.recovery.Map.{look_in, put_in, cut_in, after, pairs_of, live_in}
use Rattle.bitcask.specs.recovery.Recover.{items, items_of, ends, step, fold, recovered, view, map_of, step_in, run}
use Rattle.bitcask.specs.recovery.Agree.{fit}
use Rattle.bitcask.specs.recovery.Promises.{Opens, open_answer, open_table}
use Rattle.bitcask.specs.change.Append.{size_all, bytes_all, after_all, append_answer}
use Rattle.bitcask.specs.compaction.Compaction.{entries_of}
use Rattle.bitcask.specs.compaction.Promises.{Compacts}
use Rattle.mvcc.specs.declared.handle.Handle.{Handle}
use Rattle.mvcc.specs.handle.Handles.{handle_of, set_of, sound_handle, rising, sees, memb, lowest_of, first_or}
use Rattle.mvcc.specs.payload.Payloads.{set_bytes, set_in, versions_of, set_for, version_in, value_bytes, value_in}
use Rattle.mvcc.specs.delete_range.Cuts.{Extends}
use Rattle.mvcc.specs.delete_range.Plans.{cuts_of}
use Rattle.mvcc.specs.request.Given.{begun_with}
use Rattle.bitcask.specs.engine.Prefixes.{begins}
use Rattle.bitcask.specs.engine.Rows.{rows_of, rows_in}
use Rattle.bitcask.specs.engine.Ranges.{keep_rows, inside}
use Rattle.mvcc.specs.request.Checks.{open_by, own_version, admit_by}
use Rattle.mvcc.specs.snapshot.Active.{next_at, next_of, active_at, active_keys, active_in, versions_in, keys_of}
use Rattle.mvcc.specs.start.Plan.{plan_by, snapshot_by}
use Rattle.mvcc.specs.as_of.Answers.{snapshot_read}
use Rattle.mvcc.specs.start.Promises.{Begins}
use Rattle.mvcc.specs.as_of.Promises.{BeginsAsOf}
use Rattle.mvcc.specs.version.Seen.{last_rows, seen_row, row_says}
use Rattle.mvcc.specs.read.Promises.{Gets, get_answer}
use Rattle.mvcc.specs.write.Writes.{plan, allow_by}
use Rattle.mvcc.specs.conflict.Conflicts.{search_by, searched, seen_bytes}
use Rattle.mvcc.specs.append.Lays.{sizes_by}
use Rattle.mvcc.specs.write.Promises.{Writes, write_answer, may_write}
use Rattle.mvcc.specs.end.Plans.{commit_plan, writes_of}
use Rattle.mvcc.specs.end.Promises.{Commits, commit_answer, among}

abbrev pub done : ℕ → Result Used Refusal
done n = Ok (record { len = n })

-- ---- what the calls are lent and given: a key, two values, and the handles of versions 1, 2 and 3 and of two looks back

abbrev pub a : List ℕ
a = 97 ∷ []

abbrev pub x : List ℕ
x = 120 ∷ []

abbrev pub y : List ℕ
y = 121 ∷ []

abbrev pub h₁ : Handle
h₁ = handle_of 1 false []

abbrev pub h₂ : Handle
h₂ = handle_of 2 false (1 ∷ [])

abbrev pub h₃ : Handle
h₃ = handle_of 3 false (2 ∷ [])

abbrev pub back₂ : Handle
back₂ = handle_of 2 true (1 ∷ [])

abbrev pub back₃ : Handle
back₃ = handle_of 3 true (2 ∷ [])

-- where x stands at last
abbrev pub found : Result Part Refusal
found = Ok (record { at = 80; len = 1 })

-- ---- logs and tables: a buffer of zeros, and a table of 8 slots

unfoldable pub blank : List ℕ
blank = replicate {A = ℕ} 180 0

unfoldable pub vacant : List ℕ
vacant = replicate {A = ℕ} 24 0

-- version 1 began: the next is 2, 1 is open
unfoldable pub log₁ : List ℕ
log₁ =
    put blank 0
    (0 ∷ 0 ∷ 0 ∷ 1 ∷ 0 ∷ 0 ∷ 0 ∷ 8 ∷ 0 ∷ 0 ∷ 0 ∷ 0 ∷ 0 ∷ 0 ∷ 0 ∷ 0 ∷ 2
    ∷ 0 ∷ 0 ∷ 0 ∷ 9 ∷ 0 ∷ 0 ∷ 0 ∷ 0 ∷ 1 ∷ 0 ∷ 0 ∷ 0 ∷ 0 ∷ 0 ∷ 0 ∷ 0 ∷ 1
    ∷ [])

unfoldable pub table₁ : List ℕ
table₁ = 1 ∷ 1 ∷ 8 ∷ 18 ∷ 9 ∷ 0 ∷ replicate {A = ℕ} 18 0

-- it set the key to x: 1 wrote the key, and its value at version 1
unfoldable pub log₂ : List ℕ
log₂ =
    put log₁ 34
    (0 ∷ 0 ∷ 0 ∷ 12 ∷ 0 ∷ 0 ∷ 0 ∷ 0 ∷ 3 ∷ 0 ∷ 0 ∷ 0 ∷ 0 ∷ 0 ∷ 0 ∷ 0 ∷ 1 ∷ 97 ∷ 0 ∷ 0
    ∷ 0 ∷ 0 ∷ 0 ∷ 12 ∷ 0 ∷ 0 ∷ 0 ∷ 2 ∷ 4 ∷ 97 ∷ 0 ∷ 0 ∷ 0 ∷ 0 ∷ 0 ∷ 0 ∷ 0 ∷ 0 ∷ 0 ∷ 1 ∷ 1 ∷ 120
    ∷ [])

unfoldable pub table₂ : List ℕ
table₂ = 1 ∷ 1 ∷ 8 ∷ 18 ∷ 9 ∷ 0 ∷ 35 ∷ 12 ∷ 0 ∷ 55 ∷ 12 ∷ 2 ∷ replicate {A = ℕ} 12 0

-- version 2 began: the next is 3, 1 was open then, 2 is open
unfoldable pub log₃ : List ℕ
log₃ =
    put log₂ 76
    (0 ∷ 0 ∷ 0 ∷ 1 ∷ 0 ∷ 0 ∷ 0 ∷ 8 ∷ 0 ∷ 0 ∷ 0 ∷ 0 ∷ 0 ∷ 0 ∷ 0 ∷ 0 ∷ 3
    ∷ 0 ∷ 0 ∷ 0 ∷ 9 ∷ 0 ∷ 0 ∷ 0 ∷ 8 ∷ 2 ∷ 0 ∷ 0 ∷ 0 ∷ 0 ∷ 0 ∷ 0 ∷ 0 ∷ 2 ∷ 0 ∷ 0 ∷ 0 ∷ 0 ∷ 0 ∷ 0 ∷ 0 ∷ 1
    ∷ 0 ∷ 0 ∷ 0 ∷ 9 ∷ 0 ∷ 0 ∷ 0 ∷ 0 ∷ 1 ∷ 0 ∷ 0 ∷ 0 ∷ 0 ∷ 0 ∷ 0 ∷ 0 ∷ 2
    ∷ [])

unfoldable pub table₃ : List ℕ
table₃ = 77 ∷ 1 ∷ 8 ∷ 18 ∷ 9 ∷ 0 ∷ 119 ∷ 9 ∷ 0 ∷ 94 ∷ 9 ∷ 8 ∷ 35 ∷ 12 ∷ 0 ∷ 55 ∷ 12 ∷ 2 ∷ replicate {A = ℕ} 6 0

-- version 1 committed: its write is settled, it is not open; the value stays
unfoldable pub log₄ : List ℕ
log₄ =
    put log₃ 135
    (0 ∷ 0 ∷ 0 ∷ 12 ∷ 255 ∷ 255 ∷ 255 ∷ 255 ∷ 3 ∷ 0 ∷ 0 ∷ 0 ∷ 0 ∷ 0 ∷ 0 ∷ 0 ∷ 1 ∷ 97 ∷ 0 ∷ 0
    ∷ 0 ∷ 0 ∷ 0 ∷ 9 ∷ 255 ∷ 255 ∷ 255 ∷ 255 ∷ 1 ∷ 0 ∷ 0 ∷ 0 ∷ 0 ∷ 0 ∷ 0 ∷ 0 ∷ 1
    ∷ [])

unfoldable pub table₄ : List ℕ
table₄ = 77 ∷ 1 ∷ 8 ∷ 119 ∷ 9 ∷ 0 ∷ 94 ∷ 9 ∷ 8 ∷ 55 ∷ 12 ∷ 2 ∷ replicate {A = ℕ} 12 0

-- compacted into another buffer: the entries that count, in key order
unfoldable pub log₅ : List ℕ
log₅ =
    put blank 0
    (0 ∷ 0 ∷ 0 ∷ 1 ∷ 0 ∷ 0 ∷ 0 ∷ 8 ∷ 0 ∷ 0 ∷ 0 ∷ 0 ∷ 0 ∷ 0 ∷ 0 ∷ 0 ∷ 3
    ∷ 0 ∷ 0 ∷ 0 ∷ 9 ∷ 0 ∷ 0 ∷ 0 ∷ 0 ∷ 1 ∷ 0 ∷ 0 ∷ 0 ∷ 0 ∷ 0 ∷ 0 ∷ 0 ∷ 2
    ∷ 0 ∷ 0 ∷ 0 ∷ 9 ∷ 0 ∷ 0 ∷ 0 ∷ 8 ∷ 2 ∷ 0 ∷ 0 ∷ 0 ∷ 0 ∷ 0 ∷ 0 ∷ 0 ∷ 2 ∷ 0 ∷ 0 ∷ 0 ∷ 0 ∷ 0 ∷ 0 ∷ 0 ∷ 1
    ∷ 0 ∷ 0 ∷ 0 ∷ 12 ∷ 0 ∷ 0 ∷ 0 ∷ 2 ∷ 4 ∷ 97 ∷ 0 ∷ 0 ∷ 0 ∷ 0 ∷ 0 ∷ 0 ∷ 0 ∷ 0 ∷ 0 ∷ 1 ∷ 1 ∷ 120
    ∷ [])

unfoldable pub table₅ : List ℕ
table₅ = 1 ∷ 1 ∷ 8 ∷ 18 ∷ 9 ∷ 0 ∷ 35 ∷ 9 ∷ 8 ∷ 60 ∷ 12 ∷ 2 ∷ replicate {A = ℕ} 12 0

-- version 3 began: the next is 4, 2 was open then, 3 is open
unfoldable pub log₆ : List ℕ
log₆ =
    put log₅ 81
    (0 ∷ 0 ∷ 0 ∷ 1 ∷ 0 ∷ 0 ∷ 0 ∷ 8 ∷ 0 ∷ 0 ∷ 0 ∷ 0 ∷ 0 ∷ 0 ∷ 0 ∷ 0 ∷ 4
    ∷ 0 ∷ 0 ∷ 0 ∷ 9 ∷ 0 ∷ 0 ∷ 0 ∷ 8 ∷ 2 ∷ 0 ∷ 0 ∷ 0 ∷ 0 ∷ 0 ∷ 0 ∷ 0 ∷ 3 ∷ 0 ∷ 0 ∷ 0 ∷ 0 ∷ 0 ∷ 0 ∷ 0 ∷ 2
    ∷ 0 ∷ 0 ∷ 0 ∷ 9 ∷ 0 ∷ 0 ∷ 0 ∷ 0 ∷ 1 ∷ 0 ∷ 0 ∷ 0 ∷ 0 ∷ 0 ∷ 0 ∷ 0 ∷ 3
    ∷ [])

unfoldable pub table₆ : List ℕ
table₆ = 82 ∷ 1 ∷ 8 ∷ 18 ∷ 9 ∷ 0 ∷ 124 ∷ 9 ∷ 0 ∷ 35 ∷ 9 ∷ 8 ∷ 99 ∷ 9 ∷ 8 ∷ 60 ∷ 12 ∷ 2 ∷ replicate {A = ℕ} 6 0

-- ---- the contracts

-- an answer's used length is the one that it was made with
pub at_length : (P : ℕ → Type 0) {n : ℕ} {u : Used} → done n ≡ Ok u → P n → P u.len
at_length P {n} {u} e p = let q : n ≡ u.len = cc in subst P q p

-- what the contracts admit, in the order of the run; and the room that the first set finds
pub record Contracts : Type 0 where
  pub opens₁ : Opens blank 0 vacant (done 0) vacant
  pub begins₁ : Begins blank 0 vacant (begun_with 34 h₁) log₁ table₁
  pub sets₁ : Writes log₁ 34 table₁ h₁ a (value_bytes (Some x)) 1 (done 76) log₂ table₂
  pub room₁ : append_answer log₁ 34 (length table₁) (plan 1 a (value_bytes (Some x))) ≡ done 76
  pub begins₂ : Begins log₂ 76 table₂ (begun_with 135 h₂) log₃ table₃
  pub sets₂ : Writes log₃ 135 table₃ h₂ a (value_bytes (Some y)) 1 (Err Conflict) log₃ table₃
  pub commits₁ : Commits log₃ 135 table₃ h₁ (done 172) log₄ table₄
  pub compacts₁ : Compacts log₄ 172 table₄ blank (done 81) table₅ log₅
  pub opens₂ : Opens log₅ 81 vacant (done 81) table₅
  pub begins₃ : Begins log₅ 81 table₅ (begun_with 140 h₃) log₆ table₆
  pub gets₃ : Gets log₆ 140 table₆ h₃ a found
  pub gets₂ : Gets log₆ 140 table₆ h₂ a (Err Absent)
  pub as_of₂ : BeginsAsOf log₆ 140 table₆ 2 (begun_with 140 back₂)
  pub as_of₃ : BeginsAsOf log₆ 140 table₆ 3 (begun_with 140 back₃)
  pub gets_back₂ : Gets log₆ 140 table₆ back₂ a (Err Absent)
  pub gets_back₃ : Gets log₆ 140 table₆ back₃ a found

pub contracts : Contracts
unfolding blank vacant log₁ log₂ log₃ log₄ log₅ log₆ table₁ table₂ table₃ table₄ table₅ table₆ put be num compare_bytes compare_nat escape escape_body
    escape_byte scanned decode_why read_key string_at on_ended exactly bytes_of length_of word_at head_at entry_at table_of words_of key_of value_of insert_at
    replace_at remove_at place_in look_in put_in cut_in after items items_of ends step fold recovered view map_of step_in run fit open_answer open_table size_all
    bytes_all after_all append_answer entries_of handle_of set_of sound_handle rising sees memb lowest_of first_or set_bytes set_in versions_of set_for version_in
    value_bytes value_in cuts_of pairs_of begins inside rows_of rows_in keep_rows live_in open_by own_version admit_by next_at next_of active_at active_keys active_in versions_in keys_of
    plan_by snapshot_by snapshot_read last_rows seen_row row_says get_answer plan allow_by sizes_by search_by searched seen_bytes write_answer may_write
    commit_plan writes_of commit_answer among
contracts =
    record {
      opens₁ = record { answer = refl; table = refl };
      begins₁ =
          record {
            bytes = refl;
            words = refl;
            long = refl;
            ends = λ u e. (cc, omega arith);
            blank = refl;
            bad = refl;
            answer = λ g. refl;
            again = λ g z. record { sound = refl; clean = refl; words = refl };
            map = λ g z. refl;
          };
      sets₁ =
          record {
            leaves = record { bytes = refl; words = refl; long = refl; ends = λ u e. (cc, omega arith); again = λ g z. record { sound = refl; clean = refl; words = refl } };
            early = record { bad = refl; read_only = refl; not_open = refl; key_long = refl; value_long = refl };
            answer = λ g. refl;
          };
      room₁ = refl;
      begins₂ =
          record {
            bytes = refl;
            words = refl;
            long = refl;
            ends = λ u e. (cc, omega arith);
            blank = refl;
            bad = refl;
            answer = λ g. refl;
            again = λ g z. record { sound = refl; clean = refl; words = refl };
            map = λ g z. refl;
          };
      sets₂ =
          record {
            leaves = record { bytes = refl; words = refl; long = refl; ends = λ u e. nope (cc); again = λ g z. absurd (omega arith) };
            early = record { bad = refl; read_only = refl; not_open = refl; key_long = refl; value_long = refl };
            answer = λ g. refl;
          };
      commits₁ =
          record {
            leaves =
                record {
                  kept = refl;
                  words = refl;
                  long = refl;
                  ends = λ u e. at_length (λ (n : ℕ). Extends log₃ 135 log₄ n) e (record { long = refl; onward = (omega arith, omega arith); below = refl; past = refl });
                  bytes = λ g. refl;
                  again = λ g z. record { sound = refl; clean = refl; words = refl };
                };
            early = record { bad = refl; never = λ e. nope (cc); reads = λ e. nope (cc) };
            numbers = refl;
            answer = λ g. refl;
          };
      compacts₁ =
          record {
            words = refl;
            bytes = refl;
            past = λ u e. at_length (λ (n : ℕ). drop n log₅ ≡ drop n blank) e refl;
            long = (refl, refl);
            bad = refl;
            answer = λ g. refl;
            target = λ g z. refl;
            again = λ g z. record { sound = refl; clean = refl; words = refl };
            same = λ g z. refl;
          };
      opens₂ = record { answer = refl; table = refl };
      begins₃ =
          record {
            bytes = refl;
            words = refl;
            long = refl;
            ends = λ u e. (cc, omega arith);
            blank = refl;
            bad = refl;
            answer = λ g. refl;
            again = λ g z. record { sound = refl; clean = refl; words = refl };
            map = λ g z. refl;
          };
      gets₃ = record { bad = refl; never = λ e. nope (cc); ever = λ e. nope (cc); long = λ e. nope (cc); answer = λ g. refl };
      gets₂ = record { bad = refl; never = λ e. nope (cc); ever = λ e. nope (cc); long = λ e. nope (cc); answer = λ g. refl };
      as_of₂ = record { blank = refl; bad = refl; answer = λ g. refl };
      as_of₃ = record { blank = refl; bad = refl; answer = λ g. refl };
      gets_back₂ = record { bad = refl; never = λ e. nope (cc); ever = λ e. refl; long = λ e. refl; answer = λ g. refl };
      gets_back₃ = record { bad = refl; never = λ e. nope (cc); ever = λ e. refl; long = λ e. refl; answer = λ g. refl };
    }
