-- Begin: its answer by what the code has seen and appended, and its promise. Assumes nothing.
use Prim.Native.Nat.{ℕ, zero, suc, ◌+◌, ◌-◌, ◌*◌, ◌^◌, ◌≤◌, ◌<◌}
use mathlib.Core.Path.{◌≡◌, refl, sym, ap, ◌∙◌, subst}
use mathlib.Core.Bool.{Bool, true, false}
use mathlib.Core.Logic.{◌⊎◌, inl, inr}
use mathlib.Core.List.{List, [], ◌∷◌}
use native.Mathlib.Omega.{arith}
use lib.Dec.{ltb, eqb}
use lib.ListN.{length, set}
use borrow.Author.Tests.{le-leb, lt-leb, eq-eqb, ne_eqb}
use Rattle.std.specs.Prelude.{Result, Ok, Err, Option, ℕ, Some, None}
use Rattle.keycode.specs.Tests.{pick}
use Rattle.keycode.specs.Limits.{max_open}
use Rattle.keycode.specs.Refusals.{number_of}
use Rattle.keycode.specs.Buffer.{put}
use Rattle.keycode.specs.declared.refusal.Refusal.{Refusal}
use Rattle.keycode.specs.declared.refusal.Refusal.TheVariants.{TooManyOpen, VersionsSpent, BadStore, BadRequest}
use Rattle.keycode.proofs.Basics.{nope}
use Rattle.keycode.proofs.BufferLaws.{refused_stays}
use Rattle.keycode.proofs.NumberLaws.{Bytes}
use Rattle.bitcask.specs.entry.Entry.{Entry}
use Rattle.bitcask.specs.declared.request.Used.{Used}
use Rattle.bitcask.specs.recovery.Recover.{map_of}
use Rattle.bitcask.specs.recovery.Agree.{fit, Agrees}
use Rattle.bitcask.specs.change.Append.{bytes_all, append_answer}
use Rattle.bitcask.specs.declared.engine.mark.Mark.{Mark}
use Rattle.bitcask.specs.engine.Rows.{rows}
use Rattle.bitcask.specs.engine.Marks.{mark_of, entered_by, Held}
use Rattle.bitcask.proofs.engine.SpotLaws.{in_fits, in_held, in_agreeing, refused_fits}
use Rattle.mvcc.specs.declared.handle.Handle.{Handle}
use Rattle.mvcc.specs.handle.Handles.{set_of, handle_of, blank_handle, with_version, with_all}
use Rattle.mvcc.specs.payload.Payloads.{set_bytes}
use Rattle.mvcc.proofs.handle.HandleLaws.{made_all, made_set}
use Rattle.mvcc.proofs.payload.PayloadLaws.{set_long}
use Rattle.mvcc.specs.request.Lists.{Sets, sets-none, sets_more}
use Rattle.mvcc.proofs.request.CheckLaws.{not_done}
use Rattle.mvcc.specs.append.Appends.{Appends}
use Rattle.mvcc.proofs.append.GrowLaws.{grows}
use Rattle.mvcc.specs.declared.snapshot.Seen.{Seen}
use Rattle.mvcc.specs.declared.begun.Begun.{Begun}
use Rattle.mvcc.specs.snapshot.Active.{next_in, versions_in, keys_in, active_rows, seen_from, seen_by, next_at, active_at}
use Rattle.mvcc.specs.start.Plan.{snapshot_by, plan_by, begin_plan, plan_of}
use Rattle.mvcc.specs.request.Given.{refused_by}
use Rattle.mvcc.specs.start.Begins.{begun_by, begin_by}
use Rattle.mvcc.specs.start.Promises.{Begins}
use Rattle.mvcc.proofs.snapshot.AgreedLaws.{next-agrees, active_agrees}

-- ---- the plan

pub plan-sets : (k v : ℕ) (p : List ℕ) → Sets (plan_by k v p)
unfolding plan_by snapshot_by
plan-sets zero v p = sets_more (sets_more sets-none)
plan-sets (suc k) v p = sets_more (sets_more (sets_more sets-none))

-- ---- what was seen where nothing is bad

pub record SeenOpen (nv : Option ℕ) (o : Option (List ℕ)) (k : ℕ) (h : Handle) : Type 0 where
  pub v : ℕ
  pub vs : List ℕ
  pub version : nv ≡ Some v
  pub all : o ≡ Some vs
  pub many : k ≡ length vs
  pub handle : h ≡ with_all (handle_of v false []) vs

pub seen_open : (nv : Option ℕ) (o : Option (List ℕ)) (k : Seen) {s : Option Seen} → s ≡ seen_by false nv o → s ≡ Some k → SeenOpen nv o k.tally k.handle
unfolding seen_from
seen_open None o k e t = nope (cc)
seen_open (Some v) None k e t = nope (cc)
seen_open (Some v) (Some vs) k e t =
    let z : k ≡ record { tally = 0 + length vs; handle = with_all (handle_of v false []) vs } = cc in
    let n = ap (λ (x : Seen). x.tally) z in
    record { v = v; vs = vs; version = refl; all = refl; many = omega arith; handle = ap (λ (x : Seen). x.handle) z }

bad-answer : (log : List ℕ) (used words : ℕ) (nv : Option ℕ) (o : Option (List ℕ)) {s : Option Seen} → s ≡ seen_by false nv o → s ≡ None → refused_by BadStore ≡ begin_by log used words nv o
unfolding seen_from
bad-answer log used words None o e t = refl
bad-answer log used words (Some v) None e t = refl
bad-answer log used words (Some v) (Some vs) e t = nope (cc)

with_version_lem : (h : Handle) (x : ℕ) → (with_version h x).version ≡ h.version
unfolding with_version
with_version_lem h x = go (ltb h.count max_open)
  where
    go : (b : Bool) → (pick b (record { version = h.version; read_only = h.read_only; count = h.count + 1; set = set h.set h.count x }) h).version ≡ h.version
    go true = refl
    go false = refl

all-version : (h : Handle) (vs : List ℕ) → (with_all h vs).version ≡ h.version
unfolding with_all
all-version h [] = refl
all-version h (x ∷ vs) = all-version (with_version h x) vs ∙ with_version_lem h x

made_version : (v : ℕ) (vs : List ℕ) → (handle_of v false vs).version ≡ v
unfolding handle_of
made_version v vs = refl

module _ {nv : Option ℕ} {o : Option (List ℕ)} {k : ℕ} {h : Handle} (w : SeenOpen nv o k h) where
  seen_version : h.version ≡ w.v
  seen_version = ap (λ (x : Handle). x.version) w.handle ∙ all-version (handle_of w.v false []) w.vs ∙ made_version w.v []

  seen_made : k < max_open → h ≡ handle_of w.v false w.vs
  seen_made l = w.handle ∙ made_all w.v false [] w.vs (omega (arith, w.many))

  seen_set : k < max_open → set_of h ≡ w.vs
  seen_set l = ap set_of (seen_made l) ∙ made_set w.v false w.vs (omega (arith, w.many))

  pub seen_few : k < max_open → length (set_bytes (set_of h)) ≤ 8 * max_open
  seen_few l = let e = ap length (seen_set l) in omega (arith, set_long (set_of h), w.many)

-- ---- the promise

-- the plan of the handle that is given
plan_made : (v : ℕ) (vs : List ℕ) → length vs ≤ max_open → plan_of (handle_of v false vs) ≡ begin_plan v vs
plan_made v vs h = let e = made_set v false vs h in λ j. plan_by (length (e j)) (made_version v vs j) (set_bytes (e j))

-- what a judgement refuses with is not 13
judged-number : (n : ℕ) → (n ≡ 0) ⊎ ((n ≡ 7) ⊎ (n ≡ 8)) → eqb n 13 ≡ false
judged-number n (inl e) = rw e
judged-number n (inr (inl e)) = rw e
judged-number n (inr (inr e)) = rw e

module _ (log : List ℕ) (used : Used) (t : List ℕ) {a : Result Mark Refusal} (ea : a ≡ entered_by log used t) where
  pub begin_sizes : {r : Begun} (x : Refusal) → a ≡ Err x → r ≡ refused_by x → Begins log used.len t r log t
  begin_sizes {r} x e q =
      let w = refused_fits log used t a ea x e in
      let z : r ≡ refused_by BadRequest = q ∙ ap refused_by w.1 in
      rw z
      (record {
        bytes = refl;
        words = refl;
        long = refl;
        ends = λ u y. nope (cc);
        blank = refl;
        bad = rw w.0;
        answer = λ g. nope (cc (g.sound, w.0));
        again = λ g y. nope (cc);
        map = λ g y. nope (cc);
      })

  module _ (m : Mark) (e : a ≡ Ok m) (b : Bytes log) where
    -- what was seen, for any table
    abbrev next_seen : Option ℕ
    next_seen = next_in (rows log t m)

    abbrev open_seen : Option (List ℕ)
    open_seen = versions_in (keys_in (active_rows (rows log t m)))

    fits : fit (length log) used.len (length t) ≡ true
    fits = (in_fits log used t a ea m e).0

    pub begin_held : (Held log t m) × (m ≡ mark_of m.used t)
    begin_held = let z = (in_fits log used t a ea m e).1 in (in_held log used t a ea m e, z ∙ ap (λ (k : Mark). mark_of k.used t) (sym z))

    in_map : Agrees log used.len t → begin_by log used.len (length t) next_seen open_seen ≡ begin_by log used.len (length t) (next_at (map_of log used.len)) (active_at (map_of log used.len))
    in_map g =
        let h = in_agreeing log used t a ea m e g in
        (λ j. begin_by log used.len (length t) (next-agrees log t m h j) (active_agrees log t m h b j))
        ∙ ap (λ (k : Mark). begin_by log used.len (length t) (next_at (map_of log k.used.len)) (active_at (map_of log k.used.len))) (in_fits log used t a ea m e).1

    refuses : (x : Refusal) {r : Begun} → eqb (number_of x) 13 ≡ false → r ≡ refused_by x
        → (Agrees log used.len t → refused_by x ≡ begin_by log used.len (length t) next_seen open_seen) → Begins log used.len t r log t
    refuses x h q y =
        rw q
        (record {
          bytes = refused_stays x (put log used.len (bytes_all (plan_of blank_handle))) log;
          words = refused_stays x t t;
          long = refl;
          ends = λ u z. nope (cc);
          blank = refused_stays x blank_handle blank_handle;
          bad = h ∙ rw fits;
          answer = λ g. y g ∙ in_map g;
          again = λ g z. absurd (not_done x z);
          map = λ g z. absurd (not_done x z);
        })

    -- the answer of the append, by what the plan and the handle are
    module _ (v : ℕ) (vs : List ℕ) (few : length vs ≤ max_open)
        (judged : begin_by log used.len (length t) next_seen open_seen ≡ begun_by (append_answer log used.len (length t) (begin_plan v vs)) (handle_of v false vs)) {log' t' : List ℕ} where
      by_answer : (c : Result Used Refusal) → Appends log t (mark_of used t) (begin_plan v vs) c log' t' → Begins log used.len t (begun_by c (handle_of v false vs)) log' t'
      by_answer (Err y) w =
          let el : log' ≡ log = w.leaves.bytes ∙ sym (refused_stays y (put log used.len (bytes_all (begin_plan v vs))) log) in
          let et : t' ≡ t = w.leaves.words ∙ sym (refused_stays y t' t) in
          let z = refuses y (judged-number (number_of y) w.numbers) refl (λ g. ap (λ (c : Result Used Refusal). begun_by c (handle_of v false vs)) (w.answer g) ∙ sym judged) in
          subst (λ (l : List ℕ). Begins log used.len t (refused_by y) l t') (sym el) (subst (λ (x : List ℕ). Begins log used.len t (refused_by y) log x) (sym et) z)
      by_answer (Ok u) w =
          let q : plan_of (handle_of v false vs) ≡ begin_plan v vs = plan_made v vs few in
          record {
            bytes = w.leaves.bytes ∙ ap (λ (es : List Entry). put log used.len (bytes_all es)) (sym q);
            words = refl;
            long = w.leaves.long;
            ends = λ x z. rw q (w.leaves.ends x z);
            blank = refl;
            bad = rw fits;
            answer = λ g. ap (λ (c : Result Used Refusal). begun_by c (handle_of v false vs)) (w.answer g) ∙ sym judged ∙ in_map g;
            again = λ g z. rw q (w.leaves.again g refl);
            map = λ g z. rw q (grows g (plan-sets (length vs) v (set_bytes vs)) w.leaves refl (w.answer g)).map;
          }

    module _ {s : Option Seen} (seen : s ≡ seen_by false (next_in (rows log t m)) (versions_in (keys_in (active_rows (rows log t m))))) where
      pub begin_bad : {r : Begun} → s ≡ None → r ≡ refused_by BadStore → Begins log used.len t r log t
      begin_bad y q = refuses BadStore refl q (λ g. bad-answer log used.len (length t) next_seen open_seen seen y)

      module _ (k : Seen) (y : s ≡ Some k) where
        opens : SeenOpen next_seen open_seen k.tally k.handle
        opens = seen_open next_seen open_seen k seen y

        pub begin_room : k.tally < max_open → length (set_bytes (set_of k.handle)) ≤ 8 * max_open
        begin_room h = seen_few opens h

        pub begin_spent : {r : Begun} → k.handle.version ≡ 2 ^ 64 - 1 → r ≡ refused_by VersionsSpent → Begins log used.len t r log t
        begin_spent h q =
            refuses VersionsSpent refl q (λ g. rw (opens.version, opens.all, eq-eqb opens.v (2 ^ 64 - 1) (sym (seen_version opens) ∙ h)))

        module _ (own : k.handle.version ≡ 2 ^ 64 - 1 → ⊥) where
          unspent : eqb opens.v (2 ^ 64 - 1) ≡ false
          unspent = ne_eqb opens.v (2 ^ 64 - 1) (λ z. own (seen_version opens ∙ z))

          pub begin_many : {r : Begun} → max_open ≤ k.tally → r ≡ refused_by TooManyOpen → Begins log used.len t r log t
          begin_many h q =
              refuses TooManyOpen refl q (λ g. rw (opens.version, opens.all, unspent, le-leb max_open (length opens.vs) (omega (arith, opens.many))))

          pub begin_started : k.tally < max_open → {r : Result Used Refusal} {log' t' : List ℕ}
              → Appends log t m (plan_by k.tally k.handle.version (set_bytes (set_of k.handle))) r log' t' → Begins log used.len t (begun_by r k.handle) log' t'
          begin_started few {r} {log'} {t'} w =
              let x = opens in
              let eh = seen_made x few in
              let ep : plan_by k.tally k.handle.version (set_bytes (set_of k.handle)) ≡ begin_plan x.v x.vs = λ j. plan_by (x.many j) (seen_version x j) (set_bytes (seen_set x few j)) in
              let judged : begin_by log used.len (length t) next_seen open_seen ≡ begun_by (append_answer log used.len (length t) (begin_plan x.v x.vs)) (handle_of x.v false x.vs) =
              rw (x.version, x.all, unspent, lt-leb max_open (length x.vs) (omega (arith, x.many))) in
              let z : Appends log t (mark_of used t) (begin_plan x.v x.vs) r log' t' =
              subst (λ (k : Mark). Appends log t k (begin_plan x.v x.vs) r log' t') (in_fits log used t a ea m e).1
              (subst (λ (es : List Entry). Appends log t m es r log' t') ep w) in
              subst (λ (y : Handle). Begins log used.len t (begun_by r y) log' t') (sym eh) (by_answer x.v x.vs (omega (arith, x.many)) judged r z)
