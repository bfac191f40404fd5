-- Two results of one record of a tape, where the table agrees with the log, are one: the store, the handle slots and every byte of the
-- answers. Assumes nothing.
use Prim.Native.Nat.{ℕ, ◌+◌}
use mathlib.Core.Path.{◌≡◌, refl, sym, ap, ◌∙◌, subst}
use mathlib.Core.Bool.{Bool, true, false}
use mathlib.Core.List.{List, ◌++◌}
use native.Mathlib.Omega.{arith}
use lib.ListN.{length}
use Rattle.std.specs.Prelude.{Result, Ok, Err}
use Rattle.bitcask.specs.declared.request.Used.{Used}
use Rattle.keycode.specs.declared.refusal.Refusal.{Refusal}
use Rattle.keycode.specs.Buffer.{put}
use Rattle.keycode.specs.Tests.{pick}
use Rattle.bitcask.specs.recovery.Agree.{Agrees}
use Rattle.bitcask.specs.recovery.Promises.{changed_number}
use Rattle.bitcask.proofs.compaction.CompactUnique.{compacts_unique}
use Rattle.mvcc.specs.declared.handle.Handle.{Handle}
use Rattle.mvcc.specs.declared.begun.Begun.{Begun}
use Rattle.mvcc.specs.world.World.{World}
use Rattle.mvcc.specs.world.Steps.{used_by, is_done}
use Rattle.tape.specs.declared.format.request.Request.{Request}
use Rattle.tape.specs.format.Layout.{laid, plainly}
use Rattle.tape.specs.Answers.{given_bytes, filled_with, got_bytes, pair, last, shown, emptied_by, used_bytes, count_bytes}
use Rattle.tape.specs.Turns.{Started, started, Looked, looked, Written, written, Scanned, ends, goes, Ended, ended, Tidied, tidied, Told, told, Held, looking, writing, scanning, ending, Bench, bench_of, in_place, swapped, Carried, starting, holding, tidying, telling, Turned, short, bad, good}
use Rattle.tape.specs.declared.state.Turn.{Turn}
use Rattle.tape.specs.Promises.{Lent, Takes}
use Rattle.tape.proofs.AdmitLaws.{held_commands}
use Rattle.tape.proofs.UniqueSteps.{start_unique, look_unique, write_unique, step_unique, end_unique, count_unique}

not_both : {b : Bool} {A : Type 0} → b ≡ true → b ≡ false → A
not_both t f = let z : ◌≡◌ {A = Bool} true false = sym t ∙ f in let y : ◌≡◌ {A = ℕ} 0 1 = ap (λ (b : Bool). pick b 0 1) z in absurd (omega arith)

pair-last : {k v x : List ℕ} {A : Type 0} → pair k v ≡ last x → A
pair-last e = let z : ◌≡◌ {A = ℕ} 0 1 = cc in absurd (omega arith)

module _ {w : World} (g : Agrees w.log w.used w.table) where
  started_one : {s : List ℕ} {q : Request} {w₁ w₂ : World} {s₁ s₂ x₁ x₂ : List ℕ} → Started w s q w₁ s₁ x₁ → Started w s q w₂ s₂ x₂ → (w₁ ≡ w₂) × (s₁ ≡ s₂) × (x₁ ≡ x₂)
  started_one {s} {q} (started a l p) (started a' l' p') =
      let e = start_unique g q.command q.version p p' in
      (e.1, ap (λ (b : Begun). filled_with s q.slot b.answer b.handle) e.0, ap (λ (b : Begun). given_bytes q.command b.answer b.handle.version) e.0)

  looked_one : {h : Handle} {k x₁ x₂ : List ℕ} → Looked w h k x₁ → Looked w h k x₂ → x₁ ≡ x₂
  looked_one (looked a p) (looked a' p') = ap (got_bytes w.log) (look_unique g p p')

  written_one : {h : Handle} {c : ℕ} {k v : List ℕ} {w₁ w₂ : World} {x₁ x₂ : List ℕ} → Written w h c k v w₁ x₁ → Written w h c k v w₂ x₂ → (w₁ ≡ w₂) × (x₁ ≡ x₂)
  written_one {h} {c} {k} {v} (written a p) (written a' p') = let e = write_unique g c h k v p p' in (e.1, ap (λ (b : Result Used Refusal). plainly (changed_number b) c) e.0)

  ended_one : {h : Handle} {s : List ℕ} {q : Request} {w₁ w₂ : World} {s₁ s₂ x₁ x₂ : List ℕ} → Ended w h s q w₁ s₁ x₁ → Ended w h s q w₂ s₂ x₂ → (w₁ ≡ w₂) × (s₁ ≡ s₂) × (x₁ ≡ x₂)
  ended_one {h} {s} {q} (ended a p) (ended a' p') =
      let e = end_unique g q.command h p p' in
      (e.1, ap (emptied_by s q.slot) e.0, ap (λ (b : Result Used Refusal). plainly (changed_number b) q.command) e.0)

  told_one : {x₁ x₂ : List ℕ} → Told w x₁ → Told w x₂ → x₁ ≡ x₂
  told_one (told a p) (told a' p') = ap count_bytes (count_unique g p p')

  scanned_one : {h : Handle} {p : List ℕ} {room : ℕ} {given : Bool} {before : List ℕ} {n : ℕ} {x₁ x₂ : List ℕ} → Scanned w h p room given before n x₁ → Scanned w h p room given before n x₂ → x₁ ≡ x₂
  scanned_one {room = room} {n = n} (ends s p e) (ends s' p' e') =
      let z : last _ ≡ last _ = sym e ∙ ap (shown w.log room n) (step_unique g p p') ∙ e' in cc
  scanned_one {room = room} {n = n} (ends s p e) (goes s' p' e' r') = pair-last (sym e' ∙ ap (shown w.log room n) (step_unique g p' p) ∙ e)
  scanned_one {room = room} {n = n} (goes s p e r) (ends s' p' e') = pair-last (sym e ∙ ap (shown w.log room n) (step_unique g p p') ∙ e')
  scanned_one {h} {p = pr} {room} {n = n} (goes s {key = k} {value = v} {x = x} p e r) (goes s' {key = k'} {value = v'} {x = x'} p' e' r') =
      let z : pair k v ≡ pair k' v' = sym e ∙ ap (shown w.log room n) (step_unique g p p') ∙ e' in
      let a : k ≡ k' = cc in
      let b : v ≡ v' = cc in
      let y : x ≡ x' = scanned_one (subst (λ (i : List ℕ). Scanned w h pr room true i (n + 1) x) a r) r' in
      ap (λ (i : List ℕ). laid 0 7 0 i v ++ x) a ∙ ap (λ (i : List ℕ). laid 0 7 0 k' i ++ x) b ∙ ap (λ (i : List ℕ). laid 0 7 0 k' v' ++ i) y

  held_one : {s : List ℕ} {q : Request} {k v : List ℕ} {room : ℕ} {w₁ w₂ : World} {s₁ s₂ x₁ x₂ : List ℕ} → Held w s q k v room w₁ s₁ x₁ → Held w s q k v room w₂ s₂ x₂
      → (w₁ ≡ w₂) × (s₁ ≡ s₂) × (x₁ ≡ x₂)
  held_one (looking c p) (looking c' p') = (refl, refl, looked_one p p')
  held_one (looking c p) (writing c' d' p') = absurd (omega (arith, c, c'))
  held_one (looking c p) (scanning c' p') = absurd (omega (arith, c, c'))
  held_one (looking c p) (ending c' d' p') = absurd (omega (arith, c, c'))
  held_one (writing c d p) (looking c' p') = absurd (omega (arith, c, c'))
  held_one (writing c d p) (writing c' d' p') = let e = written_one p p' in (e.0, refl, e.1)
  held_one (writing c d p) (scanning c' p') = absurd (omega (arith, d, c'))
  held_one (writing c d p) (ending c' d' p') = absurd (omega (arith, d, c'))
  held_one (scanning c p) (looking c' p') = absurd (omega (arith, c, c'))
  held_one (scanning c p) (writing c' d' p') = absurd (omega (arith, c, d'))
  held_one (scanning c p) (scanning c' p') = (refl, refl, scanned_one p p')
  held_one (scanning c p) (ending c' d' p') = absurd (omega (arith, c, c'))
  held_one (ending c d p) (looking c' p') = absurd (omega (arith, c, c'))
  held_one (ending c d p) (writing c' d' p') = absurd (omega (arith, c, d'))
  held_one (ending c d p) (scanning c' p') = absurd (omega (arith, c, c'))
  held_one (ending c d p) (ending c' d' p') = ended_one p p'

tidied_one : (b : Bench) {u₁ u₂ : ℕ} {o₁ o₂ : Bool} {t₁ t₂ g₁ g₂ x₁ x₂ : List ℕ} → Agrees b.world.log b.world.used b.world.table
    → Tidied b.world.log b.world.used b.world.table b.spare u₁ o₁ t₁ g₁ x₁ → Tidied b.world.log b.world.used b.world.table b.spare u₂ o₂ t₂ g₂ x₂
    → (swapped b o₁ g₁ u₁ t₁ ≡ swapped b o₂ g₂ u₂ t₂) × (x₁ ≡ x₂)
tidied_one b a (tidied r {t' = t₁} {spare' = g₁} p) (tidied r' {t' = t₂} {spare' = g₂} p') =
    let e = compacts_unique b.world.log b.world.used b.world.table a b.spare p p' in (
      ap (λ (y : Result Used Refusal). swapped b (is_done y) g₁ (used_by y b.world.used) t₁) e.0
          ∙ ap (λ (y : List ℕ). swapped b (is_done r') g₁ (used_by r' b.world.used) y) e.1
          ∙ ap (λ (y : List ℕ). swapped b (is_done r') y (used_by r' b.world.used) t₂) e.2,
      ap used_bytes e.0,
    )

with_world : (b : Bench) {w₁ w₂ : World} {s₁ s₂ : List ℕ} → w₁ ≡ w₂ → s₁ ≡ s₂ → in_place b w₁ s₁ ≡ in_place b w₂ s₂
with_world b {w₁} {w₂} {s₁} {s₂} e f = ap (λ (w : World). in_place b w s₁) e ∙ ap (in_place b w₂) f

module _ (b : Bench) (g : Agrees b.world.log b.world.used b.world.table) where
  carried_one : {q : Request} {k v : List ℕ} {room : ℕ} {b₁ b₂ : Bench} {x₁ x₂ : List ℕ} → Carried b q k v room b₁ x₁ → Carried b q k v room b₂ x₂ → (b₁ ≡ b₂) × (x₁ ≡ x₂)
  carried_one (starting c p) (starting c' p') = let e = started_one g p p' in (with_world b e.0 e.1, e.2)
  carried_one (starting c p) (holding p') = absurd (omega (arith, c, (held_commands p').0))
  carried_one (starting c p) (tidying c' p') = absurd (omega (arith, c, c'))
  carried_one (starting c p) (telling c' p') = absurd (omega (arith, c, c'))
  carried_one (holding p) (starting c' p') = absurd (omega (arith, c', (held_commands p).0))
  carried_one (holding p) (holding p') = let e = held_one g p p' in (with_world b e.0 e.1, e.2)
  carried_one (holding p) (tidying c' p') = absurd (omega (arith, c', (held_commands p).1))
  carried_one (holding p) (telling c' p') = absurd (omega (arith, c', (held_commands p).1))
  carried_one (tidying c p) (starting c' p') = absurd (omega (arith, c, c'))
  carried_one (tidying c p) (holding p') = absurd (omega (arith, c, (held_commands p').1))
  carried_one (tidying c p) (tidying c' p') = tidied_one b g p p'
  carried_one (tidying c p) (telling c' p') = absurd (omega (arith, c, c'))
  carried_one (telling c p) (starting c' p') = absurd (omega (arith, c, c'))
  carried_one (telling c p) (holding p') = absurd (omega (arith, c, (held_commands p').1))
  carried_one (telling c p) (tidying c' p') = absurd (omega (arith, c, c'))
  carried_one (telling c p) (telling c' p') = (refl, told_one g p p')

  pub turn_unique : {r : List ℕ} {room : ℕ} {b₁ b₂ : Bench} {x₁ x₂ : List ℕ} → Turned b r room b₁ x₁ → Turned b r room b₂ x₂ → (b₁ ≡ b₂) × (x₁ ≡ x₂)
  turn_unique (short e) (short e') = (refl, refl)
  turn_unique (short e) (bad e' f') = not_both e' e
  turn_unique (short e) (good e' f' p') = not_both e' e
  turn_unique (bad e f) (short e') = not_both e e'
  turn_unique (bad e f) (bad e' f') = (refl, refl)
  turn_unique (bad e f) (good e' f' p') = not_both f' f
  turn_unique (good e f p) (short e') = not_both e e'
  turn_unique (good e f p) (bad e' f') = not_both f f'
  turn_unique (good e f p) (good e' f' p') = carried_one p p'

-- ---- the call, with all that was lent

bench_one : (o₁ o₂ : Bool) {f₁ f₂ s₁ s₂ : List ℕ} {u₁ u₂ : ℕ} {t₁ t₂ h₁ h₂ : List ℕ} → bench_of o₁ f₁ s₁ u₁ t₁ h₁ ≡ bench_of o₂ f₂ s₂ u₂ t₂ h₂
    → (o₁ ≡ o₂) × (f₁ ≡ f₂) × (s₁ ≡ s₂) × (u₁ ≡ u₂) × (t₁ ≡ t₂) × (h₁ ≡ h₂)
bench_one true true e =
    (refl, ap (λ (b : Bench). b.spare) e, ap (λ (b : Bench). b.world.log) e, ap (λ (b : Bench). b.world.used) e, ap (λ (b : Bench). b.world.table) e, ap (λ (b : Bench). b.slots) e)
bench_one true false e = not_both (ap (λ (b : Bench). b.other) (sym e)) refl
bench_one false true e = not_both (ap (λ (b : Bench). b.other) e) refl
bench_one false false e =
    (refl, ap (λ (b : Bench). b.world.log) e, ap (λ (b : Bench). b.spare) e, ap (λ (b : Bench). b.world.used) e, ap (λ (b : Bench). b.world.table) e, ap (λ (b : Bench). b.slots) e)

turn_one : {t₁ t₂ : Turn} → t₁.used.len ≡ t₂.used.len → t₁.other ≡ t₂.other → t₁.len ≡ t₂.len → t₁ ≡ t₂
turn_one {t₁} {t₂} a b c =
    ap (λ (n : ℕ). record { used = record { len = n }; other = t₁.other; len = t₁.len }) a
    ∙ ap (λ (o : Bool). record { used = t₂.used; other = o; len = t₁.len }) b
    ∙ ap (λ (n : ℕ). record { used = t₂.used; other = t₂.other; len = n }) c

lent_one : {l₁ l₂ : Lent} → l₁.first ≡ l₂.first → l₁.second ≡ l₂.second → l₁.table ≡ l₂.table → l₁.slots ≡ l₂.slots → l₁.out ≡ l₂.out → l₁ ≡ l₂
lent_one {l₁} {l₂} a b c d e =
    ap (λ (x : List ℕ). record { first = x; second = l₁.second; table = l₁.table; slots = l₁.slots; out = l₁.out }) a
    ∙ ap (λ (x : List ℕ). record { first = l₂.first; second = x; table = l₁.table; slots = l₁.slots; out = l₁.out }) b
    ∙ ap (λ (x : List ℕ). record { first = l₂.first; second = l₂.second; table = x; slots = l₁.slots; out = l₁.out }) c
    ∙ ap (λ (x : List ℕ). record { first = l₂.first; second = l₂.second; table = l₂.table; slots = x; out = l₁.out }) d
    ∙ ap (λ (x : List ℕ). record { first = l₂.first; second = l₂.second; table = l₂.table; slots = l₂.slots; out = x }) e

pub take_unique : (l : Lent) (used : ℕ) (other : Bool) (r : List ℕ) (a₁ a₂ : Result Turn Refusal) {l₁ l₂ : Lent}
    → Agrees (bench_of other l.first l.second used l.table l.slots).world.log (bench_of other l.first l.second used l.table l.slots).world.used
    (bench_of other l.first l.second used l.table l.slots).world.table
    → Takes l used other r a₁ l₁ → Takes l used other r a₂ l₂ → (a₁ ≡ a₂) × (l₁ ≡ l₂)
take_unique l used other r (Ok t₁) (Ok t₂) g p₁ p₂ =
    let e = turn_unique (bench_of other l.first l.second used l.table l.slots) g p₁.turn.so p₂.turn.so in
    let b = bench_one t₁.other t₂.other e.0 in (
      ap Ok (turn_one b.3 b.0 (p₁.turn.long ∙ ap length e.1 ∙ sym p₂.turn.long)),
      lent_one b.1 b.2 b.4 b.5 (p₁.turn.bytes ∙ ap (put l.out 0) e.1 ∙ sym p₂.turn.bytes),
    )
take_unique l used other r (Ok t₁) (Err e₂) g p₁ p₂ = not_both (sym p₁.well) (sym p₂.well)
take_unique l used other r (Err e₁) (Ok t₂) g p₁ p₂ = not_both (sym p₂.well) (sym p₁.well)
take_unique l used other r (Err e₁) (Err e₂) g p₁ p₂ = (ap Err (p₁.turn.0 ∙ sym p₂.turn.0), p₁.turn.1 ∙ sym p₂.turn.1)
