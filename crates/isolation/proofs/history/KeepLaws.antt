-- Each accepted call keeps what the store says true to the history. Assumes nothing.
use Prim.Native.Nat.{ℕ, suc}
use native.Mathlib.Omega.{arith}
use mathlib.Core.Path.{◌≡◌, refl, sym, ◌∙◌, ap}
use mathlib.Core.Bool.{Bool, true, false}
use mathlib.Core.Logic.{◌≢◌, inr}
use Rattle.std.specs.Prelude.{Option, None, Some}
use mathlib.Core.List.{List, [], ◌∷◌}
use native.Mathlib.Decide.{ℕ_discrete}
use Rattle.isolation.specs.history.History.{Key, Bytes, key≟}
use Rattle.isolation.specs.history.History.{Sight, began, wrote, committed, undone, noted, History, Status, unborn, opened, done, rolled, status, last_write, past, is_in, is_open, keep}
use Rattle.isolation.proofs.history.EventLaws.{status-began, status_began_other, status-wrote, status-committed, status_committed_other, status-undone, status_undone_other, write_began, write_committed, write_undone, write_same, write_other_txn, write_other_key, past-began, past_began_other, past-wrote, past-committed, past-undone}
use mathlib.Core.Bool.{not, ◌&&◌}
use Rattle.isolation.proofs.history.FactLaws.{nope, outside, unborn_writes}
use Rattle.isolation.proofs.history.StoredLaws.{stored_began, stored_wrote, stored_wrote_txn, stored_wrote_key, stored_committed, stored_undone, stored_undone_other}
use Rattle.isolation.specs.history.Store.{Db, kept, is_some, Empty, Begins, Writes, Commits, Undoes, Unseen}
use Rattle.isolation.proofs.history.Standing.{begins, Good, Guard, g_began, stored, Rep}

is_open_lem : (s : Status) → is_open s ≡ true → s ≡ opened
is_open_lem unborn e = nope (cc)
is_open_lem opened e = refl
is_open_lem done e = nope (cc)
is_open_lem rolled e = nope (cc)

kept_nil : (S : List ℕ) → kept S [] ≡ S
kept_nil [] = refl
kept_nil (x ∷ xs) = refl

and_false : (b : Bool) → b && false ≡ false
and_false true = refl
and_false false = refl

keep_not : {A : Type 0} (y : Option A) → keep (not (is_some y)) y ≡ None
keep_not None = refl
keep_not (Some a) = refl

pub keeps-empty : {d : Db} → Empty d → Rep d []
unfolding begins status last_write
keeps-empty e = record {
  next = e.next;
  act = e.act;
  txw = e.txw;
  vers = e.vers;
  snap = λ v n x. absurd (n refl);
  snap-none = λ v u. e.snap v;
}

pub open_of : {d : Db} {H : History} → Rep d H → (t : ℕ) → d.act t ≡ true → status H t ≡ opened
open_of {d} {H} R t a = is_open_lem (status H t) (sym (R.act t) ∙ a)

module _ {d d' : Db} {H : History} (g : Good H) (R : Rep d H) where
  pub begin_guard : {h : Sight} → Begins d h d' → Guard H (began h)
  begin_guard b = g_began (b.number ∙ R.next) (λ x. b.set x ∙ R.act x) b.low

  pub keeps_begin : {h : Sight} → Begins d h d' → Rep d' (began h ∷ H)
  unfolding begins
  keeps_begin {h} b = record {
    next = b.next ∙ ap suc R.next;
    act = λ x. act x (ℕ_discrete h.ver x);
    txw = λ x k. b.txw x k ∙ R.txw x k ∙ txw x k (ℕ_discrete h.ver x);
    vers = λ k x. b.vers k x ∙ R.vers k x ∙ sym (stored_began g (begin_guard b) k x);
    snap = λ v n x. snap v n x (ℕ_discrete h.ver v);
    snap-none = λ v u. none' v u (ℕ_discrete h.ver v);
  }
    where
      fresh : status H h.ver ≡ unborn
      fresh = outside g h.ver (inr (omega (arith, b.number, R.next)))

      act : (x : ℕ) → Dec (h.ver ≡ x) → d'.act x ≡ is_open (status (began h ∷ H) x)
      act x (yes p) = rw (← p, status-began h H) b.act_own
      act x (no n) = rw (status_began_other h H n) (b.act-other x n ∙ R.act x)

      txw : (x : ℕ) (k : Key) → Dec (h.ver ≡ x) → is_open (status H x) && is_some (last_write H x k) ≡ is_open (status (began h ∷ H) x) && is_some (last_write (began h ∷ H) x k)
      txw x k (yes p) = rw (← p, write_began h H h.ver k, unborn_writes g h.ver k fresh, status-began h H, fresh)
      txw x k (no n) = rw (status_began_other h H n, write_began h H x k)

      snap : (v : ℕ) → status (began h ∷ H) v ≢ unborn → (x : ℕ) → Dec (h.ver ≡ v) → is_in x (d'.snap v) ≡ is_open (status (past (began h ∷ H) v) x)
      snap v n x (yes p) = rw (← p, past-began h H, b.snap_own, R.snap-none h.ver fresh, kept_nil h.set) (b.set x ∙ R.act x)
      snap v n x (no i) = rw (past_began_other h H i, b.snap-other v i) (R.snap v (λ u. n (status_began_other h H i ∙ u)) x)

      none' : (v : ℕ) → status (began h ∷ H) v ≡ unborn → Dec (h.ver ≡ v) → d'.snap v ≡ []
      none' v u (yes p) = nope (cc (status-began h H))
      none' v u (no n) = b.snap-other v n ∙ R.snap-none v (sym (status_began_other h H n) ∙ u)

  pub keeps_write : {t : ℕ} {k : Key} {o : Option Bytes} → status H t ≡ opened → Writes d t k o d' → Rep d' (wrote t k o ∷ H)
  unfolding begins
  keeps_write {t} {k} {o} a b = record {
    next = b.next ∙ R.next;
    act = λ x. rw (status-wrote H t k o x) (b.act x ∙ R.act x);
    txw = λ x j. txw x j (ℕ_discrete t x) (key≟ k j);
    vers = λ j x. vers j x (ℕ_discrete t x) (key≟ k j);
    snap = λ v n x. rw (b.snap v, past-wrote H t k o v) (R.snap v (λ u. n (status-wrote H t k o v ∙ u)) x);
    snap-none = λ v u. b.snap v ∙ R.snap-none v (sym (status-wrote H t k o v) ∙ u);
  }
    where
      txw : (x : ℕ) (j : Key) → Dec (t ≡ x) → Dec (k ≡ j) → d'.txw x j ≡ is_open (status (wrote t k o ∷ H) x) && is_some (last_write (wrote t k o ∷ H) x j)
      txw x j (yes p) (yes q) = rw (← p, ← q, status-wrote H t k o t, a, write_same H t k o) b.txw_own
      txw x j (yes p) (no n) = rw (status-wrote H t k o x, write_other_key H t o x n) (b.txw-other x j (λ i. n i.1) ∙ R.txw x j)
      txw x j (no n) q = rw (status-wrote H t k o x, write_other_txn H k o j n) (b.txw-other x j (λ i. n i.0) ∙ R.txw x j)

      vers : (j : Key) (x : ℕ) → Dec (t ≡ x) → Dec (k ≡ j) → d'.vers j x ≡ stored (wrote t k o ∷ H) j x
      vers j x (yes p) (yes q) = rw (← p, ← q) (b.vers_own ∙ sym (stored_wrote H t a k o))
      vers j x (yes p) (no n) = b.vers-other j x (λ i. n i.1) ∙ R.vers j x ∙ sym (stored_wrote_key H t o x n)
      vers j x (no n) q = b.vers-other j x (λ i. n i.0) ∙ R.vers j x ∙ sym (stored_wrote_txn H k o j n)

  pub keeps_commit : {t : ℕ} → status H t ≡ opened → Commits d t d' → Rep d' (committed t ∷ H)
  unfolding begins
  keeps_commit {t} a b = record {
    next = b.ends.next ∙ R.next;
    act = λ x. act x (ℕ_discrete t x);
    txw = λ x j. txw x j (ℕ_discrete t x);
    vers = λ k x. b.vers k x ∙ R.vers k x ∙ sym (stored_committed H t a k x);
    snap = λ v n x. rw (b.ends.snap v, past-committed H t v) (R.snap v (λ u. n (stays v (ℕ_discrete t v) u)) x);
    snap-none = λ v u. b.ends.snap v ∙ R.snap-none v (back v (ℕ_discrete t v) u);
  }
    where
      act : (x : ℕ) → Dec (t ≡ x) → d'.act x ≡ is_open (status (committed t ∷ H) x)
      act x (yes p) = rw (← p, status-committed H t) b.ends.act_own
      act x (no n) = rw (status_committed_other H n) (b.ends.act-other x n ∙ R.act x)

      txw : (x : ℕ) (k : Key) → Dec (t ≡ x) → d'.txw x k ≡ is_open (status (committed t ∷ H) x) && is_some (last_write (committed t ∷ H) x k)
      txw x k (yes p) = rw (← p, status-committed H t) (b.ends.txw_own k)
      txw x k (no n) = rw (status_committed_other H n, write_committed t H x k) (b.ends.txw-other x k n ∙ R.txw x k)

      stays : (v : ℕ) → Dec (t ≡ v) → status H v ≡ unborn → status (committed t ∷ H) v ≡ unborn
      stays v (yes p) u = nope (cc)
      stays v (no n) u = status_committed_other H n ∙ u

      back : (v : ℕ) → Dec (t ≡ v) → status (committed t ∷ H) v ≡ unborn → status H v ≡ unborn
      back v (yes p) u = nope (cc (status-committed H t))
      back v (no n) u = sym (status_committed_other H n) ∙ u

  pub keeps_undo : {t : ℕ} → status H t ≡ opened → Undoes d t d' → Rep d' (undone t ∷ H)
  unfolding begins
  keeps_undo {t} a b = record {
    next = b.ends.next ∙ R.next;
    act = λ x. act x (ℕ_discrete t x);
    txw = λ x j. txw x j (ℕ_discrete t x);
    vers = λ k x. vers k x (ℕ_discrete t x);
    snap = λ v n x. rw (b.ends.snap v, past-undone H t v) (R.snap v (λ u. n (stays v (ℕ_discrete t v) u)) x);
    snap-none = λ v u. b.ends.snap v ∙ R.snap-none v (back v (ℕ_discrete t v) u);
  }
    where
      act : (x : ℕ) → Dec (t ≡ x) → d'.act x ≡ is_open (status (undone t ∷ H) x)
      act x (yes p) = rw (← p, status-undone H t) b.ends.act_own
      act x (no n) = rw (status_undone_other H n) (b.ends.act-other x n ∙ R.act x)

      txw : (x : ℕ) (k : Key) → Dec (t ≡ x) → d'.txw x k ≡ is_open (status (undone t ∷ H) x) && is_some (last_write (undone t ∷ H) x k)
      txw x k (yes p) = rw (← p, status-undone H t) (b.ends.txw_own k)
      txw x k (no n) = rw (status_undone_other H n, write_undone t H x k) (b.ends.txw-other x k n ∙ R.txw x k)

      vers : (k : Key) (x : ℕ) → Dec (t ≡ x) → d'.vers k x ≡ stored (undone t ∷ H) k x
      vers k x (yes p) = rw (← p) (b.vers_own k ∙ (rw (R.txw t k, R.vers k t, a) (keep_not (last_write H t k))) ∙ sym (stored_undone H t k))
      vers k x (no n) = b.vers-other k x n ∙ R.vers k x ∙ sym (stored_undone_other H k n)

      stays : (v : ℕ) → Dec (t ≡ v) → status H v ≡ unborn → status (undone t ∷ H) v ≡ unborn
      stays v (yes p) u = nope (cc)
      stays v (no n) u = status_undone_other H n ∙ u

      back : (v : ℕ) → Dec (t ≡ v) → status (undone t ∷ H) v ≡ unborn → status H v ≡ unborn
      back v (yes p) u = nope (cc (status-undone H t))
      back v (no n) u = sym (status_undone_other H n) ∙ u

pub keeps-noted : {d : Db} {H : History} → Rep d H → Rep d (noted ∷ H)
unfolding begins status last_write past
keeps-noted R = record { next = R.next; act = R.act; txw = R.txw; vers = R.vers; snap = R.snap; snap-none = R.snap-none }

pub keeps_unseen : {d d' : Db} {H : History} → Unseen d d' → Rep d H → Rep d' H
keeps_unseen u R = record {
  next = u.next ∙ R.next;
  act = λ x. u.act x ∙ R.act x;
  txw = λ x k. u.txw x k ∙ R.txw x k;
  vers = λ k x. u.vers k x ∙ R.vers k x;
  snap = λ v n x. ap (is_in x) (u.snap v) ∙ R.snap v n x;
  snap-none = λ v e. u.snap v ∙ R.snap-none v e;
}
