-- The store of a run as records: the map is that of some records within the limits, a run of the calls on records made them, and every
-- handle given is sound. What keeps this with no change to the map: reads, refusals, openings, compactions. Assumes nothing.
use Prim.Native.Nat.{ℕ, ◌-◌, ◌^◌, ◌<◌}
use mathlib.Core.Path.{◌≡◌, refl, sym, ap, ◌∙◌, subst}
use mathlib.Core.Bool.{Bool, true, false}
use mathlib.Core.Logic.{◌⊎◌, inl, inr}
use mathlib.Core.List.{List, ◌∷◌}
use lib.Dec.{leb}
use lib.ListN.{length}
use Rattle.std.specs.Prelude.{Result, Ok, Err}
use Rattle.keycode.specs.Tests.{pick, if_done}
use Rattle.keycode.specs.Limits.{max_log}
use Rattle.keycode.specs.Refusals.{number_of}
use Rattle.keycode.specs.declared.refusal.Refusal.{Refusal}
use Rattle.keycode.specs.declared.refusal.Refusal.TheVariants.{LogFull, BadRequest}
use Rattle.keycode.proofs.Basics.{nope}
use Rattle.keycode.proofs.BufferLaws.{refused_stays}
use Rattle.bitcask.specs.keydir.Place.{All}
use Rattle.bitcask.specs.declared.request.Used.{Used}
use Rattle.bitcask.specs.recovery.Recover.{map_of}
use Rattle.bitcask.specs.recovery.Agree.{fit, Agrees}
use Rattle.bitcask.specs.recovery.Promises.{Opens}
use Rattle.bitcask.proofs.recovery.OpenLaws.{open_agrees, open_map}
use Rattle.bitcask.specs.change.Append.{size_all}
use Rattle.bitcask.specs.compaction.Compaction.{entries_of}
use Rattle.bitcask.specs.compaction.Promises.{Compacts, compact_answer}
use Rattle.mvcc.specs.declared.handle.Handle.{Handle}
use Rattle.mvcc.specs.handle.Handles.{set_of, sound_handle}
use Rattle.mvcc.specs.payload.Payloads.{Versions}
use Rattle.mvcc.specs.declared.begun.Begun.{Begun}
use Rattle.isolation.specs.history.Records.{Map}
use Rattle.isolation.specs.history.Run.{Entry, other_e, Trace, do_other}
use Rattle.isolation.specs.history.Run as H
use Rattle.isolation.specs.records.Stored.{pairs_in, key_order, Fine}
use Rattle.mvcc.specs.world.World.{World, Call, begins, begins_reading, begins_as_of, Calls}
use Rattle.mvcc.specs.world.Steps.{used_by, is_done, compacted_to}
use Rattle.mvcc.specs.world.Runs.{After, Gave, Given, by_begin, by_reading, by_as_of}
use Rattle.isolation.specs.Meaning.{entry_of, trace_of}
use Rattle.isolation.proofs.GivenLaws.{after_cons}

-- a handle as the store gives it
pub record Sound (h : Handle) : Type 0 where
  pub sound : sound_handle h ≡ true
  pub fits : h.version < 2 ^ 64
  pub own : h.read_only ≡ false → (0 < h.version) × (h.version < 2 ^ 64 - 1)
  pub set : Versions (set_of h)

pub record Kept (w : World) (T : Calls) (m : Map) : Type 0 where
  pub map : map_of w.log w.used ≡ pairs_in m
  pub fine : All Fine m
  pub run : H.Run key_order m (trace_of T)
  pub handles : (h : Handle) → Given h T → Sound h

abbrev pub Ready : World → Type 0
Ready w = Agrees w.log w.used w.table

-- ---- the handles given after one call more: by it, or before

module _ {c : Call} {T : Calls} {h : Handle} {P : Type 0} (b : (r : Begun) → begins r ≡ c → Gave r h → P) (r : (x : Begun) → begins_reading x ≡ c → Gave x h → P)
    (a : (v : ℕ) (x : Begun) → begins_as_of v x ≡ c → Gave x h → P) (old : Given h T → P) where
  pub given_cases : Given h (c ∷ T) → P
  given_cases (by_begin {r = x} {T₁ = T₁} f g) = go (after_cons f)
    where
      go : ((begins x ≡ c) × (T₁ ≡ T)) ⊎ After (begins x ∷ T₁) T → P
      go (inl (e, q)) = b x e g
      go (inr f) = old (by_begin f g)
  given_cases (by_reading {r = x} {T₁ = T₁} f g) = go (after_cons f)
    where
      go : ((begins_reading x ≡ c) × (T₁ ≡ T)) ⊎ After (begins_reading x ∷ T₁) T → P
      go (inl (e, q)) = r x e g
      go (inr f) = old (by_reading f g)
  given_cases (by_as_of {v = v} {r = x} {T₁ = T₁} f g) = go (after_cons f)
    where
      go : ((begins_as_of v x ≡ c) × (T₁ ≡ T)) ⊎ After (begins_as_of v x ∷ T₁) T → P
      go (inl (e, q)) = a v x e g
      go (inr f) = old (by_as_of f g)

-- ---- a call that the history does not count

run-other : {m : Map} {T : Trace} {e : Entry} → e ≡ other_e → H.Run key_order m T → H.Run key_order m (e ∷ T)
run-other q r = rw q (do_other r)

pub kept-other : {w : World} {T : Calls} {m : Map} {c : Call} → Kept w T m → entry_of c ≡ other_e → ((h : Handle) → Given h (c ∷ T) → Given h T) → Kept w (c ∷ T) m
unfolding trace_of
kept-other k e f = record { map = k.map; fine = k.fine; run = run-other e k.run; handles = λ h g. k.handles h (f h g) }

-- the same records in another world
pub kept_at : {w w' : World} {T : Calls} {m : Map} → map_of w'.log w'.used ≡ map_of w.log w.used → Kept w T m → Kept w' T m
kept_at e k = record { map = e ∙ k.map; fine = k.fine; run = k.run; handles = k.handles }

-- ---- refusals

pub refused_same : {A : Type 0} (x : Refusal) (a b : A) {l : A} → l ≡ if_done (number_of x) a b → l ≡ b
refused_same x a b e = e ∙ sym (refused_stays x a b)

pub agrees_at : {l l' t t' : List ℕ} {u : ℕ} → l ≡ l' → t ≡ t' → Agrees l' u t' → Agrees l u t
agrees_at p q a = rw (p, q) a

-- the world is as it was
pub kept_refused : {w : World} {T : Calls} {m : Map} {c : Call} {log t : List ℕ} → Kept w T m → Ready w → log ≡ w.log → t ≡ w.table → entry_of c ≡ other_e
    → ((h : Handle) → Given h (c ∷ T) → Given h T) → Kept (record { log = log; used = w.used; table = t }) (c ∷ T) m × Agrees log w.used t
unfolding trace_of
kept_refused {w} {T} k a p q e past = (
  record {
    map = ap (λ (l : List ℕ). map_of l w.used) p ∙ k.map;
    fine = k.fine;
    run = run-other e k.run;
    handles = λ h g. k.handles h (past h g);
  },
  agrees_at p q a,
)

-- ---- compactions

abbrev pub len_of : Result Used Refusal → ℕ
len_of (Ok u) = u.len
len_of (Err r) = 0

done_picks : (a b : Bool) (n : ℕ) (x y : Refusal) (u : Used) → Ok u ≡ pick a (pick b (Ok (record { len = n })) (Err x)) (Err y) → u.len ≡ n
done_picks true true n x y u e = ap len_of e
done_picks true false n x y u e = nope (cc)
done_picks false b n x y u e = nope (cc)

pub compact_says : (log : List ℕ) (used words room : ℕ) (u : Used) → Ok u ≡ compact_answer log used words room → u.len ≡ size_all (entries_of (map_of log used))
compact_says log used words room u e =
    let n : ℕ = size_all (entries_of (map_of log used)) in
    done_picks (pick (fit (length log) used words) (leb room max_log) false) (leb n room) n LogFull BadRequest u e

pub kept_compacted : {w : World} {T : Calls} {m : Map} {g t g' : List ℕ} (r : Result Used Refusal) → Kept w T m → Ready w → Compacts w.log w.used w.table g r t g'
    → Kept (compacted_to w r t g') T m × Ready (compacted_to w r t g')
kept_compacted {w} {T} {m} {g} {t} {g'} (Ok u) k a c =
    let q = compact_says w.log w.used (length w.table) (length g) u (c.answer a) in
    (kept_at {w = w} {w' = record { log = g'; used = u.len; table = t }} (ap (map_of g') q ∙ c.same a refl) k, subst (λ (n : ℕ). Agrees g' n t) (sym q) (c.again a refl))
kept_compacted {w} {T} {m} {g} {t} {g'} (Err x) k a c =
    (kept_at {w = w} {w' = record { log = w.log; used = w.used; table = t }} refl k, subst (λ (y : List ℕ). Agrees w.log w.used y) (sym (refused_same x t w.table c.words)) a)

-- ---- openings

opened_map : (log : List ℕ) (used : ℕ) (t t' : List ℕ) (r : Result Used Refusal) → Opens log used t r t' → map_of log (used_by r used) ≡ map_of log used
opened_map log used t t' (Ok u) o = open_map o refl
opened_map log used t t' (Err x) o = refl

opened_ready : (log : List ℕ) (used : ℕ) (t t' : List ℕ) (r : Result Used Refusal) → Opens log used t r t' → is_done r ≡ true → Agrees log (used_by r used) t'
opened_ready log used t t' (Ok u) o e = open_agrees o refl
opened_ready log used t t' (Err x) o e = nope (cc)

pub kept-opened : {w : World} {T : Calls} {m : Map} {t t' : List ℕ} {r : Result Used Refusal} → Kept w T m → Opens w.log w.used t r t'
    → Kept (record { log = w.log; used = used_by r w.used; table = t' }) T m × (is_done r ≡ true → Agrees w.log (used_by r w.used) t')
kept-opened {w} {t = t} {t' = t'} {r = r} k o =
    (kept_at {w = w} {w' = record { log = w.log; used = used_by r w.used; table = t' }} (opened_map w.log w.used t t' r o) k, opened_ready w.log w.used t t' r o)
