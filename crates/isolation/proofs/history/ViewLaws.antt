-- What a handle sees of the stored versions is what was laid down when it was given, and its own writes. Assumes nothing.
use Prim.Native.Nat.{ℕ, suc, ◌≤◌, ◌<◌}
use native.Mathlib.Omega.{arith}
use mathlib.Core.Path.{◌≡◌, refl, sym, ◌∙◌}
use mathlib.Core.Bool.{Bool, true, false}
use mathlib.Core.Logic.{◌≢◌, inl, inr, if_pos, by_cases}
use Rattle.std.specs.Prelude.{Option, None, Some}
use mathlib.Core.List.{List, [], ◌∷◌}
use native.Mathlib.Decide.{ℕ_discrete, dec_lt}
use Rattle.isolation.specs.history.History.{Key, Bytes}
use Rattle.mvcc.specs.world.Runs.{After, now, later}
use Rattle.isolation.specs.history.History.{Sight, Event, began, committed, undone, History, Status, Status-discrete, unborn, opened, done, rolled, status, last_write, past, laid, over, is_in, is_open, keep, below, up_to, Low, lowest}
use Rattle.isolation.proofs.history.Standing.{begins, Good, good_nil, good_cons, Guard, g_began, g_wrote, g_committed, g_undone, g_noted, is_done, stored, Top, nowhere, top_at, settled}
use Rattle.isolation.proofs.history.EventLaws.{status-began, status_began_other, status-committed, status_committed_other, status-undone, status_undone_other, write_committed, past-began}
use mathlib.Core.Bool.{not, ◌&&◌}
use borrow.Author.Tests.{lt-ltb, le-ltb, le-leb, lt-leb}
use Rattle.isolation.proofs.history.FactLaws.{nope, outside, Move, same, birth, ending, move, good-after, ended-stays, writes_stay, born, within, start}
use Rattle.isolation.proofs.history.StoredLaws.{apart}

pub top_congr : {f f' : ℕ → Option (Option Bytes)} {r : Option Bytes} → ((x : ℕ) → f' x ≡ f x) → Top f r → Top f' r
top_congr q (nowhere n e) = nowhere (λ x. q x ∙ n x) e
top_congr q (top_at x e n) = top_at x (q x ∙ e) (λ y l. q y ∙ n y l)

pub top_unique : {f : ℕ → Option (Option Bytes)} {r s : Option Bytes} → Top f r → Top f s → r ≡ s
top_unique (nowhere n e) (nowhere m i) = e ∙ sym i
top_unique (nowhere n e) (top_at x i m) = nope (cc (n x))
top_unique (top_at x e n) (nowhere m i) = nope (cc (m x))
top_unique {f} {r} {s} (top_at x e n) (top_at y i m) = go (dec_lt x y) (dec_lt y x)
  where
    go : Dec (x < y) → Dec (y < x) → r ≡ s
    go (yes p) d = nope (cc (n y p))
    go (no p) (yes q) = nope (cc (m x q))
    go (no p) (no q) = let z : x ≡ y = omega arith in cc

pub keep-none : (b : Bool) → keep {A = Option Bytes} b None ≡ None
keep-none true = refl
keep-none false = refl

not_done : (s : Status) (y : Option (Option Bytes)) → s ≢ done → keep (is_done s) y ≡ None
not_done unborn y n = refl
not_done opened y n = refl
not_done done y n = absurd (n refl)
not_done rolled y n = refl

-- a step that commits nobody leaves what is committed as it was
settled_same : {H : History} {e : Event} → Good H → Guard H e → (k : Key) (x : ℕ) → (status (e ∷ H) x ≡ done → status H x ≡ done) → settled (e ∷ H) k x ≡ settled H k x
settled_same {H} {e} g q k x i = by_cases (Status-discrete (status H x) done) was wasn't
  where
    was : status H x ≡ done → settled (e ∷ H) k x ≡ settled H k x
    was d = let p : status (e ∷ H) x ≡ status H x = ended-stays (later now) (good_cons g q) x (rw d) in rw (p, writes_stay (later now) (good_cons g q) x k (rw d))

    wasn't : status H x ≢ done → settled (e ∷ H) k x ≡ settled H k x
    wasn't d = not_done (status (e ∷ H) x) _ (λ s. d (i s)) ∙ sym (not_done (status H x) _ d)

-- a stored version above an open writer's own: there is none
pub open_is_top : {H : History} → Good H → (t : ℕ) (k : Key) → status H t ≡ opened → last_write H t k ≢ None → (y : ℕ) → t < y → stored H k y ≡ None
open_is_top {H} g t k a w y l = go (stored H k y) refl
  where
    here : stored H k t ≢ None
    here i = w (rw a at i)

    go : (z : Option (Option Bytes)) → stored H k y ≡ z → stored H k y ≡ None
    go None e = e
    go (Some o) e = nope (cc (ended-stays (start g y up).after g t (rw early), early))
      where
        there : stored H k y ≢ None
        there i = nope (cc)

        early : status (past H y) t ≡ done
        early = apart g k t y l here there

        up : status H y ≢ unborn
        up u = there (rw u)

settled_none : (H : History) (k : Key) (y : ℕ) → stored H k y ≡ None → settled H k y ≡ None
settled_none H k y e = go (status H y) refl
  where
    go : (s : Status) → status H y ≡ s → settled H k y ≡ None
    go unborn i = rw i
    go opened i = rw i
    go done i = rw i (rw i at e)
    go rolled i = rw i

commit_top : {H : History} → Good H → (t : ℕ) → status H t ≡ opened → (k : Key) → Top (settled H k) (laid H k) → Top (settled (committed t ∷ H) k) (over (last_write H t k) (laid H k))
commit_top {H} g t a k r = go (last_write H t k) refl
  where
    others : (x : ℕ) → t ≢ x → settled (committed t ∷ H) k x ≡ settled H k x
    others x n = settled_same g (g_committed {t = t} a) k x (λ d. sym (status_committed_other H n) ∙ d)

    own : settled (committed t ∷ H) k t ≡ last_write H t k
    own = rw (status-committed H t) (write_committed t H t k)

    go : (w : Option (Option Bytes)) → last_write H t k ≡ w → Top (settled (committed t ∷ H) k) (over (last_write H t k) (laid H k))
    go None e = rw e (top_congr (λ x. eq x (ℕ_discrete t x)) r)
      where
        eq : (x : ℕ) → Dec (t ≡ x) → settled (committed t ∷ H) k x ≡ settled H k x
        eq x (yes p) = rw (← p) (own ∙ e ∙ rw a)
        eq x (no n) = others x n
    go (Some o) e = rw e (top_at t (own ∙ e) (λ y l. others y (λ i. omega arith) ∙ settled_none H k y (open_is_top g t k a (λ i. nope (cc)) y l)))

-- what is laid down is the highest committed version
pub laid_top : {H : History} → Good H → (k : Key) → Top (settled H k) (laid H k)
unfolding status laid
laid_top good_nil k = nowhere (λ x. refl) refl
laid_top (good_cons {H = H} g (g_began {h = h} e s lw)) k = top_congr (λ x. settled_same g (g_began {h = h} e s lw) k x (λ d. go x (ℕ_discrete h.ver x) d)) (laid_top g k)
  where
    go : (x : ℕ) → Dec (h.ver ≡ x) → status (began h ∷ H) x ≡ done → status H x ≡ done
    go x (yes p) d = nope (cc (status-began h H))
    go x (no n) d = sym (status_began_other h H n) ∙ d
laid_top (good_cons {H = H} g (g_wrote {t = t} {k = j} {o = o} a b)) k = top_congr (λ x. settled_same g (g_wrote {t = t} {k = j} {o = o} a b) k x (λ d. d)) (laid_top g k)
laid_top (good_cons {H = H} g (g_committed {t = t} a)) k = commit_top g t a k (laid_top g k)
laid_top (good_cons {H = H} g (g_undone {t = t} a)) k = top_congr (λ x. settled_same g (g_undone {t = t} a) k x (λ d. go x (ℕ_discrete t x) d)) (laid_top g k)
  where
    go : (x : ℕ) → Dec (t ≡ x) → status (undone t ∷ H) x ≡ done → status H x ≡ done
    go x (yes p) d = nope (cc (status-undone H t))
    go x (no n) d = sym (status_undone_other H n) ∙ d
laid_top (good_cons {H = H} g g_noted) k = top_congr (λ x. settled_same g g_noted k x (λ d. d)) (laid_top g k)

-- a handle given at H1: its version and its set
pub record Given (H1 : History) (v : ℕ) (S : List ℕ) : Type 0 where
  pub number : v ≡ suc (begins H1)
  pub set : (x : ℕ) → is_in x S ≡ is_open (status H1 x)

-- at any later time a reader's test leaves just what was committed then
pub sees : {H1 H : History} {v : ℕ} {S : List ℕ} → Given H1 v S → After H1 H → Good H → (k : Key) (x : ℕ) → keep (below v S x) (stored H k x) ≡ settled H1 k x
sees {H1} {H} {v} {S} w a g k x = go (status H1 x) refl
  where
    g1 : Good H1
    g1 = good-after a g

    go : (s : Status) → status H1 x ≡ s → keep (below v S x) (stored H k x) ≡ settled H1 k x
    go unborn e = rw e (by_cases (dec_lt x v) near far)
      where
        zero-none : x ≡ 0 → keep (below v S x) (stored H k x) ≡ None
        zero-none z = rw (outside g x (inl z)) (keep-none (below v S x))

        near : x < v → keep (below v S x) (stored H k x) ≡ None
        near l = by_cases (ℕ_discrete x 0) zero-none (λ n. absurd (born g1 x (omega arith) (omega (arith, w.number)) e))

        far : ¬ (x < v) → keep (below v S x) (stored H k x) ≡ None
        far n = rw (w.set x, e, le-ltb x v (omega arith))
    go opened e = rw (w.set x, e)
    go done e = rw (w.set x, e, lt-ltb x v (omega (arith, (within g1 x (λ i. nope (cc))), w.number)), ended-stays a g x (rw e), writes_stay a g x k (rw e), e)
    go rolled e = rw (e, ended-stays a g x (rw e), e) (keep-none (below v S x))

-- the handle of a read-write transaction, wherever the history stands
pub past_is : {h : Sight} {H1 H : History} → After (began h ∷ H1) H → Good H → (status H h.ver ≢ unborn) × (past H h.ver ≡ H1)
past_is {h} {H1} now g = ((λ u. nope (cc (status-began h H1))), past-began h H1)
past_is {h} {H1} (later {H = H} {e = e} a) (good_cons g q) = go (past_is a g) (move g q h.ver)
  where
    go : (status H h.ver ≢ unborn) × (past H h.ver ≡ H1) → Move H e h.ver → (status (e ∷ H) h.ver ≢ unborn) × (past (e ∷ H) h.ver ≡ H1)
    go i (same p r) = ((λ u. i.0 (sym p ∙ u)), r ∙ i.1)
    go i (birth p o r e) = absurd (i.0 p)
    go i (ending p d r) = ((λ u. nope (cc)), r ∙ i.1)

pub guard_of : {e : Event} {H1 H : History} → After (e ∷ H1) H → Good H → Guard H1 e
guard_of now (good_cons g q) = q
guard_of (later a) (good_cons g q) = guard_of a g

pub given : {h : Sight} {H1 H : History} → After (began h ∷ H1) H → Good H → Given (past H h.ver) h.ver h.set
given {h} {H1} {H} a g = rw (past_is a g).1 (go (guard_of a g))
  where
    go : Guard H1 (began h) → Given H1 h.ver h.set
    go (g_began e s lw) = record { number = e; set = s }

-- of two transactions the one with the lower version began first
pub past-past : {H : History} → Good H → (w t : ℕ) → w < t → status H w ≢ unborn → status H t ≢ unborn → After (past H w) (past H t)
unfolding status
past-past good_nil w t l a b = absurd (a refl)
past-past (good_cons {H = H} {e = e} g q) w t l a b = go (past-past g w t l) (move g q w) (move g q t)
  where
    go : (status H w ≢ unborn → status H t ≢ unborn → After (past H w) (past H t)) → Move H e w → Move H e t → After (past (e ∷ H) w) (past (e ∷ H) t)
    go rec (birth p o r i) (birth p' o' r' i') = absurd (omega arith)
    go rec (birth p o r i) (same p' r') = absurd (over (within g t (λ u. b (p' ∙ u))))
      where
        over : (0 < t) × (t ≤ begins H) → ⊥
        over z = omega arith
    go rec (birth p o r i) (ending p' d' r') = absurd (over (within g t (λ u. nope (cc))))
      where
        over : (0 < t) × (t ≤ begins H) → ⊥
        over z = omega arith
    go rec (same p r) (birth p' o' r' i') = rw (r, r') (start g w (λ u. a (p ∙ u))).after
    go rec (same p r) (same p' r') = rw (r, r') (rec (λ u. a (p ∙ u)) (λ u. b (p' ∙ u)))
    go rec (same p r) (ending p' d' r') = rw (r, r') (rec (λ u. a (p ∙ u)) (λ u. nope (cc)))
    go rec (ending p d r) (birth p' o' r' i') = rw (r, r') (start g w (λ u. nope (cc))).after
    go rec (ending p d r) (same p' r') = rw (r, r') (rec (λ u. nope (cc)) (λ u. b (p' ∙ u)))
    go rec (ending p d r) (ending p' d' r') = rw (r, r') (rec (λ u. nope (cc)) (λ u. nope (cc)))

pub low_of : {h : Sight} {H1 H : History} → After (began h ∷ H1) H → Good H → Low h
low_of {h} {H1} a g = go (guard_of a g)
  where
    go : Guard H1 (began h) → Low h
    go (g_began e s lw) = lw

pub reach_of : {H1 : History} {v : ℕ} {S : List ℕ} → Good H1 → Given H1 v S → lowest S v ≤ suc v
unfolding is_in
reach_of {S = []} g w = omega arith
reach_of {H1} {v} {S = x ∷ xs} g w = omega (arith, (within g x (λ u. nope (cc (w.set x, if_pos (ℕ_discrete x x) refl true (is_in x xs))))), w.number)

-- what a reader sees
pub reader_top : {H1 H : History} {v : ℕ} {S : List ℕ} → Given H1 v S → After H1 H → Good H → (k : Key) → Top (λ x. keep (below v S x) (stored H k x)) (laid H1 k)
reader_top w a g k = top_congr (λ x. sees w a g k x) (laid_top (good-after a g) k)

-- what a writer sees: its own last write, or else what was laid down when it began
pub writer_top : {h : Sight} {H1 H : History} → After (began h ∷ H1) H → Good H → status H h.ver ≡ opened → (k : Key) → Top (λ x. keep (up_to h.ver h.set x) (stored H k x)) (over (last_write H h.ver k) (laid H1 k))
writer_top {h} {H1} {H} a g op k = go (last_write H t k) refl
  where
    t : ℕ
    t = h.ver

    S : List ℕ
    S = h.set

    w : Given H1 h.ver h.set
    w = rw (past_is a g).1 at (given a g)

    a1 : After H1 H
    a1 = earlier a
      where
        earlier : {G : History} → After (began h ∷ H1) G → After H1 G
        earlier now = later now
        earlier (later b) = later (earlier b)

    not_in : is_in h.ver h.set ≡ false
    not_in = w.set t ∙ rw (outside (good-after a1 g) t (inr (omega (arith, w.number))))

    go : (y : Option (Option Bytes)) → last_write H t k ≡ y → Top (λ x. keep (up_to t S x) (stored H k x)) (over (last_write H t k) (laid H1 k))
    go (Some o) e = rw e (top_at t (rw (not_in, le-leb t t (omega arith), op, e)) (λ y l. rw (lt-leb y t l) (drop (is_in y S) (stored H k y))))
      where
        drop : (b : Bool) (z : Option (Option Bytes)) → keep (not b && false) z ≡ None
        drop true z = refl
        drop false z = refl
    go None e = rw e (top_congr (λ x. eq x (dec_lt x t) (ℕ_discrete x t)) (reader_top w a1 g k))
      where
        eq : (x : ℕ) → Dec (x < t) → Dec (x ≡ t) → keep (up_to t S x) (stored H k x) ≡ keep (below t S x) (stored H k x)
        eq x (yes l) d = rw (le-leb x t (omega arith), lt-ltb x t l)
        eq x (no l) (yes p) = rw (p, op, e) (keep-none (up_to t S t) ∙ sym (keep-none (below t S t)))
        eq x (no l) (no n) = rw (lt-leb x t (omega arith), le-ltb x t (omega arith))
