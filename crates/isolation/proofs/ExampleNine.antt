-- A worked run in which sixteen transactions begin, in an empty log of 3,000 bytes with 48 slots: a begin answers 9 there, and no other
-- number. Its bytes are too many to compute; each begin is one that the contract admits, for there is room. Assumes nothing.
use Prim.Native.Nat.{ℕ, zero, suc, ◌+◌, ◌*◌, ◌-◌, ◌/◌, ◌^◌, ◌≤◌, ◌<◌}
use mathlib.Core.Path.{◌≡◌, refl, sym, ap, ◌∙◌, subst}
use mathlib.Core.Bool.{true, false}
use mathlib.Core.Logic.{◌≢◌}
use mathlib.Core.List.{List, [], ◌∷◌}
use native.Mathlib.Omega.{arith}
use lib.ListN.{length, replicate, length-replicate}
use borrow.Author.Tests.{le-leb, ne_eqb}
use Rattle.std.specs.Prelude.{Result, Ok, Some}
use Rattle.bitcask.specs.declared.request.Used.{Used}
use Rattle.keycode.specs.declared.refusal.Refusal.{Refusal}
use Rattle.keycode.specs.Limits.{max_open}
use Rattle.keycode.proofs.BufferLaws.{length-put as length-buffer}
use Rattle.keycode.specs.declared.refusal.Refusal.TheVariants.{TooManyOpen}
use Rattle.keycode.specs.key.Keys.{next_version}
use Rattle.keycode.proofs.Basics.{nope}
use Rattle.bitcask.specs.entry.Entry.{Entry}
use Rattle.bitcask.specs.keydir.Slots.{slot_words, table_of, words_of}
use Rattle.bitcask.specs.keydir.Place.{count_of}
use Rattle.bitcask.specs.recovery.Recover.{items, items_of, ends, run, map_of}
use Rattle.bitcask.specs.recovery.Promises.{Opens, open_answer, open_table}
use Rattle.bitcask.specs.recovery.Agree.{fit}
use Rattle.bitcask.proofs.compaction.MoveLaws.{bytes-length}
use Rattle.bitcask.specs.change.Append.{State, size_all, bytes_all, after_all}
use Rattle.mvcc.specs.handle.Handles.{handle_of}
use Rattle.mvcc.specs.declared.begun.Begun.{Begun}
use Rattle.mvcc.specs.request.Given.{begun_with, refused_by}
use Rattle.mvcc.specs.request.Lists.{appended_all}
use Rattle.mvcc.proofs.request.ListLaws.{Appends}
use Rattle.mvcc.specs.start.Plan.{begin_plan}
use Rattle.mvcc.specs.start.Begins.{begin_with}
use Rattle.mvcc.specs.start.Promises.{Begins}
use Rattle.mvcc.specs.world.World.{World, opens, begins, Calls}
use Rattle.mvcc.specs.world.Steps.{beginning}
use Rattle.mvcc.specs.world.Runs.{Run, first}
use Rattle.isolation.specs.history.Records.{Map, look}
use Rattle.isolation.specs.history.Calls.{next_of, actives, begin_map}
use Rattle.isolation.specs.records.Stored.{key_order, pairs_in}
use Rattle.isolation.proofs.history.EffectLaws.{begins-map}
use Rattle.isolation.proofs.history.RunLaws.{run-sorted}
use Rattle.isolation.proofs.records.OrderLaws.{order}
use Rattle.isolation.proofs.records.PlanLaws.{begin_pairs}
use Rattle.isolation.specs.Views.{Starts, spent, many as many-open, starts}
use Rattle.isolation.proofs.KeptLaws.{Kept, Ready}
use Rattle.isolation.proofs.HoldLaws.{empty-map, run_holds}
use Rattle.isolation.proofs.StartLaws.{begin_starts}
use Rattle.isolation.proofs.BeganLaws.{made_begin}
use Rattle.isolation.proofs.Example.{calls}
use Rattle.isolation.proofs.AdmitLaws.{read, appends, begin_admitted, plan_size, length_begin, many-begun, length_pairs}

-- ---- the run: j are open, in a log of 3,000 bytes with 48 slots

pub record Busy (j : ℕ) : Type 0 where
  pub world : World
  pub past : Calls
  pub records : Map
  pub run : Run true world past
  pub kept : Kept world past records
  pub ready : Ready world
  pub next : next_of (look records next_version) ≡ suc j
  pub count : length (actives records) ≡ j
  pub keys : length records ≤ 3 * j
  pub used : world.used ≤ 171 * j
  pub log : length world.log ≡ 3000
  pub words : length world.table ≡ 144

-- one more
module _ (j : ℕ) (small : j < 16) (b : Busy j) where
  abbrev w : World
  w = b.world

  abbrev m : Map
  m = b.records

  abbrev es : List Entry
  es = begin_plan (next_of (look m next_version)) (actives m)

  size : size_all es ≤ 171
  size = omega (arith, plan_size (next_of (look m next_version)) (actives m), b.count)

  room : w.used + size_all es ≤ length w.log
  room = omega (arith, size, b.used, b.log)

  after-length : length (after_all es (map_of w.log w.used)) ≤ 48
  after-length =
      omega (arith, ap length (ap (after_all es) b.kept.map ∙ begin_pairs m), length_pairs (begin_map key_order m), length_begin m, b.keys)

  slots : length (after_all es (map_of w.log w.used)) ≤ length w.table / slot_words
  slots = subst (λ (n : ℕ). length (after_all es (map_of w.log w.used)) ≤ n / slot_words) (sym b.words) after-length

  fresh : next_of (look m next_version) ≢ 2 ^ 64 - 1
  fresh e = omega (arith, b.next)

  few : length (actives m) < max_open
  few = omega (arith, b.count)

  abbrev given : Begun
  given = begun_with (w.used + size_all es) (handle_of (next_of (look m next_version)) false (actives m))

  abbrev then : State
  then = appended_all (record { log = w.log; used = w.used; table = w.table; count = count_of w.table }) es

  admits : Begins w.log w.used w.table given then.log then.table
  admits = begin_admitted b.kept b.ready fresh few room slots

  laid : Appends w.log w.used w.table es then
  laid = appends b.kept b.ready fresh few room slots

  busier : Busy (suc j)
  busier =
      let q = made_begin b.kept b.ready given (record { len = w.used + size_all es }) refl admits in
      let f : w.used + length (bytes_all es) ≤ length w.log = omega (arith, room, bytes-length es) in
      record {
        world = record { log = then.log; used = w.used + size_all es; table = then.table };
        past = begins given ∷ b.past;
        records = begin_map key_order m;
        run = calls b.run (begins given) refl (beginning admits);
        kept = q.0;
        ready = q.1;
        next = (begins-map order m (run-sorted order b.kept.run)).next ∙ ap suc b.next;
        count = many-begun b.kept ∙ ap suc b.count;
        keys = omega (arith, length_begin m, b.keys);
        used = omega (arith, size, b.used);
        log = ap length laid.bytes ∙ length-buffer w.log w.used (bytes_all es) f ∙ b.log;
        words = laid.words ∙ b.words;
      }

-- ---- from the opening of an empty log

blank : List ℕ
blank = replicate {A = ℕ} 3000 0

vacant : List ℕ
vacant = replicate {A = ℕ} 144 0

opens-blank : Opens blank 0 vacant (Ok (record { len = 0 })) vacant
unfolding blank vacant open_answer open_table fit items items_of ends run table_of words_of
opens-blank = record { answer = refl; table = refl }

pairs-none : (m : Map) → pairs_in m ≡ [] → m ≡ []
unfolding pairs_in
pairs-none [] e = refl
pairs-none (r ∷ m) e = nope (cc)

idle : Busy 0
unfolding look actives pairs_in blank vacant
idle =
    let R = first blank vacant opens-blank in
    let H = run_holds R in
    let e : H.records ≡ [] = pairs-none H.records (sym H.kept.map ∙ empty-map blank) in
    record {
      world = record { log = blank; used = 0; table = vacant };
      past = opens (Ok (record { len = 0 })) ∷ [];
      records = H.records;
      run = R;
      kept = H.kept;
      ready = H.ready refl;
      next = ap (λ (m : Map). next_of (look m next_version)) e;
      count = ap (λ (m : Map). length (actives m)) e;
      keys = omega (arith, ap length e);
      used = omega arith;
      log = length-replicate {A = ℕ} 3000 0;
      words = length-replicate {A = ℕ} 144 0;
    }

busy : (j : ℕ) → j ≤ 16 → Busy j
busy zero l = idle
busy (suc j) l = busier j (omega arith) (busy j (omega arith))

pub sixteen : Busy 16
sixteen = busy 16 (omega arith)

-- ---- one more begin

module _ (b : Busy 16) where
  starts_none : {r : Begun} {room : Result Used Refusal} → Starts (next_of (look b.records next_version)) (actives b.records) room r → r ≡ refused_by TooManyOpen
  starts_none (spent e q) = absurd (omega (arith, e, b.next))
  starts_none (many-open n e q) = q
  starts_none (starts n l q) = absurd (omega (arith, l, b.count))

  pub begin_nine : {r : Begun} {log t : List ℕ} → Begins b.world.log b.world.used b.world.table r log t → r ≡ refused_by TooManyOpen
  begin_nine c = starts_none (begin_starts b.kept b.ready c)

  refused : begin_with b.world.log b.world.used (length b.world.table) (next_of (look b.records next_version)) (Some (actives b.records)) ≡ refused_by TooManyOpen
  refused =
      let n : next_of (look b.records next_version) ≢ 2 ^ 64 - 1 = λ e. omega (arith, b.next) in
      let l : max_open ≤ length (actives b.records) = omega (arith, b.count) in
      rw (ne_eqb (next_of (look b.records next_version)) (2 ^ 64 - 1) n, le-leb max_open (length (actives b.records)) l)

  pub nine_admitted : Begins b.world.log b.world.used b.world.table (refused_by TooManyOpen) b.world.log b.world.table
  nine_admitted =
      record {
        bytes = refl;
        words = refl;
        long = refl;
        ends = λ u e. nope (cc);
        blank = refl;
        bad = rw b.ready.sound;
        answer = λ g. sym (read b.kept b.ready ∙ refused);
        again = λ g z. absurd (omega arith);
        map = λ g z. absurd (omega arith);
      }

  pub run_nine : Run true b.world (begins (refused_by TooManyOpen) ∷ b.past)
  run_nine = calls b.run (begins (refused_by TooManyOpen)) refl (beginning nine_admitted)
