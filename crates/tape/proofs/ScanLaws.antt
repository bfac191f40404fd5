-- Laws of a scan: what one record shows of a step, and that the records of all steps, laid one behind the other, are the scan's answers.
-- Assumes nothing.
use Prim.Native.Nat.{ℕ, ◌+◌, ◌*◌, ◌/◌, ◌≤◌, ◌<◌}
use mathlib.Core.Path.{◌≡◌, refl, sym, ap, subst, ◌∙◌}
use mathlib.Core.Bool.{Bool, true, false}
use mathlib.Core.List.{List, [], ◌++◌, append_assoc}
use native.Mathlib.Omega.{arith}
use lib.ListN.{length, take, drop, length-append}
use lib.Seq.{take_at, length-take-le}
use lib.Dec.{eqb, leb, ltb}
use borrow.Author.Tests.{le-leb, lt-leb, lt-ltb, le-ltb, eq-eqb, ne_eqb}
use Rattle.bitcask.specs.declared.answers.KeyValue.{KeyValue}
use Rattle.std.specs.Prelude.{Result, ℕ, Ok, Err, Option, Some, None}
use Rattle.keycode.specs.Tests.{pick}
use Rattle.keycode.specs.Refusals.{number_of}
use Rattle.keycode.specs.Buffer.{put}
use Rattle.keycode.specs.Strings.{unescaped, plain_length}
use Rattle.keycode.specs.Promises.{Unescapes, fitted, into_room}
use Rattle.keycode.specs.declared.refusal.Refusal.{Refusal}
use Rattle.keycode.proofs.BufferLaws.{put-none, put-put}
use Rattle.keycode.proofs.StringLaws.{plain_done}
use Rattle.mvcc.specs.declared.handle.Handle.{Handle}
use Rattle.mvcc.specs.scan.Promises.{ScansPrefix}
use Rattle.mvcc.specs.world.World.{World, scans_prefix}
use Rattle.mvcc.specs.world.Steps.{Step, scanning_prefix}
use Rattle.tape.specs.format.Layout.{record_len, key_room, value_room, laid, plainly}
use Rattle.tape.proofs.format.LayoutLaws.{laid-long, plainly-long}
use Rattle.tape.specs.Answers.{pair, last, pair_if, pair_by, end_bytes, shown}
use Rattle.tape.specs.Turns.{Scanned, ends, goes}
use Rattle.tape.specs.Scans.{ShowsPair, ShowsLast, ShowsBy, Steps}
use Rattle.tape.specs.Promises.{Lays}

-- ---- a key and a value

-- what a pair of them shows, in a lent buffer; the key is the front of the kept bytes
module _ (out : List ℕ) (n : ℕ) (kept : List ℕ) (klen : ℕ) (value : List ℕ) {out' : List ℕ} where
  pub over-value : value_room < length value → out' ≡ put out (record_len * n) (plainly 13 7)
      → ShowsLast (pair_if (leb (length value) value_room) (ltb (n + 1) (length out / record_len)) (take klen kept) value) n out out'
  unfolding pair_if
  over-value v e = record { answer = plainly 13 7; is = rw (lt-leb (length value) value_room v); lies = e; long = plainly-long 13 7 }

  module _ (v : length value ≤ value_room) where
    pub over-room : length out / record_len ≤ n + 1 → out' ≡ put out (record_len * n) (plainly 13 7)
        → ShowsLast (pair_if (leb (length value) value_room) (ltb (n + 1) (length out / record_len)) (take klen kept) value) n out out'
    unfolding pair_if
    over-room h e =
        record { answer = plainly 13 7; is = rw (le-leb (length value) value_room v, le-ltb (n + 1) (length out / record_len) h); lies = e; long = plainly-long 13 7 }

    pub pair-laid : klen ≤ length kept → klen ≤ key_room → n + 1 < length out / record_len → out' ≡ put out (record_len * n) (laid 0 7 0 (take klen kept) value)
        → ShowsPair (pair_if (leb (length value) value_room) (ltb (n + 1) (length out / record_len)) (take klen kept) value) n out klen kept out'
    unfolding pair_if
    pair-laid l k h e =
        record {
          key = take klen kept;
          value = value;
          is = rw (le-leb (length value) value_room v, lt-ltb (n + 1) (length out / record_len) h);
          lies = e;
          long = laid-long 0 7 0 (take klen kept) value (omega (arith, length-take-le klen kept l)) v;
          keeps = refl;
          short = k;
          more = h;
        }

-- a key of the log, unescaped into a buffer with room for any
module _ (s d : List ℕ) {s' : List ℕ} (part : s' ≡ s) (room : length d ≡ key_room) {r : Result ℕ Refusal} {kept : List ℕ} (u : Unescapes s' d r kept) where
  plain_answer_lem : r ≡ plain_length s
  plain_answer_lem = u.answer ∙ go (plain_length s') refl ∙ ap plain_length part
    where
      go : (l : Result ℕ Refusal) → plain_length s' ≡ l → into_room l (length d) ≡ l
      go (Ok n) e = unfold fitted in rw (le-leb n (length d) (omega (arith, (plain_done s' n e).2)))
      go (Err x) e = refl

  module _ (k : ℕ) (e : r ≡ Ok k) where
    done : plain_length s ≡ Ok k
    done = sym plain_answer_lem ∙ e

    pub kept-short : k ≤ key_room
    kept-short = (plain_done s k done).2

    kept-key : take k kept ≡ unescaped s
    kept-key =
        let lies : kept ≡ unescaped s' ++ drop (length (unescaped s')) d = rw e at u.buffer in
        let long : length (unescaped s') ≡ k = ap (λ (x : List ℕ). length (unescaped x)) part ∙ sym (plain_done s k done).1 in
        ap (take k) lies ∙ take_at (unescaped s') (drop (length (unescaped s')) d) k long ∙ ap unescaped part

    pub next-shown : (value : List ℕ) {value' : List ℕ} → value' ≡ value → (out : List ℕ) (n : ℕ) (p : Option ℕ) (out' : List ℕ)
        → ShowsBy (pair_if (leb (length value') value_room) (ltb (n + 1) (length out / record_len)) (take k kept) value') n out p kept out'
        → ShowsBy (pair_by (plain_length s) (ltb (n + 1) (length out / record_len)) (unescaped s) value) n out p kept out'
    next-shown value q out n p out' = rw (done, kept-key, q) (λ x. x)

  pub key_refused : (x : Refusal) → r ≡ Err x → (value out : List ℕ) (n : ℕ) {out' : List ℕ} → out' ≡ put out (record_len * n) (plainly (number_of x) 7)
      → ShowsLast (pair_by (plain_length s) (ltb (n + 1) (length out / record_len)) (unescaped s) value) n out out'
  key_refused x e value out n f =
      let q : plain_length s ≡ Err x = sym plain_answer_lem ∙ e in
      record { answer = plainly (number_of x) 7; is = rw q; lies = f; long = plainly-long (number_of x) 7 }

-- ---- the end

module _ (n : ℕ) where
  end_long : (number : ℕ) → length (end_bytes n number) ≡ record_len
  unfolding end_bytes
  end_long number = go (eqb number 1)
    where
      go : (b : Bool) → length (pick b (laid 0 7 n [] []) (plainly number 7)) ≡ record_len
      go true = laid-long 0 7 n [] [] (omega arith) (omega arith)
      go false = plainly-long number 7

  module _ (out : List ℕ) (r : Refusal) {number : ℕ} {out' : List ℕ} (q : number ≡ number_of r) where
    pub end_counted : number ≡ 1 → out' ≡ put out (record_len * n) (laid 0 7 n [] []) → out' ≡ put out (record_len * n) (end_bytes n (number_of r))
    unfolding end_bytes
    end_counted h e = rw (eq-eqb (number_of r) 1 (sym q ∙ h)) e

    pub end_refused : (number ≡ 1 → ⊥) → out' ≡ put out (record_len * n) (plainly number 7) → out' ≡ put out (record_len * n) (end_bytes n (number_of r))
    unfolding end_bytes
    end_refused h e = rw (ne_eqb (number_of r) 1 (λ x. h (q ∙ x)), ← q) e

-- ---- one step

module _ (w : World) (h : Handle) (prefix : List ℕ) (n : ℕ) (given : Bool) (before out kept' out' : List ℕ) {s : Result KeyValue Refusal}
    (x : ScansPrefix w.log w.used w.table h prefix given before s) where
  pub step-shown : (t : Result KeyValue Refusal) (p : Option ℕ) → s ≡ t → ShowsBy (shown w.log (length out / record_len) n t) n out p kept' out' → Steps w h prefix n given before out p kept' out'
  step-shown t p e y =
      record {
        answer = s;
        step = scanning_prefix x;
        shows = subst (λ (z : Result KeyValue Refusal). ShowsBy (shown w.log (length out / record_len) n z) n out p kept' out') (sym e) y;
      }

  pub step-ended : (r : Refusal) → s ≡ Err r → out' ≡ put out (record_len * n) (end_bytes n (number_of r)) → Steps w h prefix n given before out None kept' out'
  step-ended r e f = step-shown (Err r) None e (record { answer = end_bytes n (number_of r); is = refl; lies = f; long = end_long n (number_of r) })

-- ---- all steps

-- n pairs stand at the front of the lent buffer d, and the answers of what is left, laid behind them, are those of the scan
pub record Scanning (w : World) (h : Handle) (prefix d kept : List ℕ) (klen n : ℕ) (out : List ℕ) : Type 0 where
  pub answers : List ℕ
  pub bytes : out ≡ put d 0 answers
  pub many : length answers ≡ record_len * n
  pub closes : (x : List ℕ) → Scanned w h prefix (length d / record_len) (ltb 0 n) (take klen kept) n x → Scanned w h prefix (length d / record_len) false [] 0 (answers ++ x)
  pub fits : n < length d / record_len
  pub long : length out ≡ length d
  pub short : klen ≤ key_room
  pub room : length kept ≡ key_room

-- a pair, and the scan behind its key
one_more_lem : {w : World} {h : Handle} {prefix : List ℕ} {room n : ℕ} {given : Bool} {before : List ℕ} (s : Result KeyValue Refusal) {key value x before' : List ℕ} → Step w (scans_prefix h prefix given before s) w
    → shown w.log room n s ≡ pair key value → before' ≡ key → Scanned w h prefix room (ltb 0 (n + 1)) before' (n + 1) x → Scanned w h prefix room given before n (laid 0 7 0 key value ++ x)
one_more_lem {w} {h} {prefix} {room} {n} {given} {before} s {key} {value} {x} {before'} step is b t = goes s step is (rw (lt-ltb 0 (n + 1) (omega arith), b) at t)

pub scan_start : (w : World) (h : Handle) (prefix d kept : List ℕ) → record_len ≤ length d → length kept ≡ key_room → Scanning w h prefix d kept 0 0 d
scan_start w h prefix d kept l k =
    record { answers = []; bytes = put-none d 0; many = refl; closes = λ x s. s; fits = omega arith; long = refl; short = omega arith; room = k }

module _ {w : World} {h : Handle} {prefix d kept : List ℕ} {klen n : ℕ} {out : List ℕ} (g : Scanning w h prefix d kept klen n out) where
  pub scan_room : record_len * n + record_len ≤ length out
  scan_room = omega (arith, g.fits, g.long)

  -- a record laid behind the answers so far
  laid-behind : {out' : List ℕ} (x : List ℕ) → out' ≡ put out (record_len * n) x → out' ≡ put d 0 (g.answers ++ x)
  laid-behind x e =
      let m : record_len * n ≡ 0 + length g.answers = omega (arith, g.many) in
      let r : 0 + length g.answers ≤ length d = omega (arith, g.many, g.fits) in
      e ∙ ap (λ (o : List ℕ). put o (record_len * n) x) g.bytes ∙ ap (λ (i : ℕ). put (put d 0 g.answers) i x) m ∙ put-put d 0 g.answers r x

  module _ {kept' out' : List ℕ} {p : Option ℕ} (s : Steps w h prefix n (ltb 0 n) (take klen kept) out p kept' out') where
    pub scan_turn : (k : ℕ) → p ≡ Some k → length kept' ≡ length kept → length out' ≡ length out → Scanning w h prefix d kept' k (n + 1) out'
    scan_turn k e a b =
        let y : ShowsPair (shown w.log (length out / record_len) n s.answer) n out k kept' out' = subst (λ (q : Option ℕ). ShowsBy (shown w.log (length out / record_len) n s.answer) n out q kept' out') e s.shows in
        let is : shown w.log (length d / record_len) n s.answer ≡ pair y.key y.value = subst (λ (m : ℕ). shown w.log (m / record_len) n s.answer ≡ pair y.key y.value) g.long y.is in
        let l : List ℕ = laid 0 7 0 y.key y.value in
        record {
          answers = g.answers ++ l;
          bytes = laid-behind l y.lies;
          many = omega (arith, length-append g.answers l, g.many, y.long);
          closes = λ x t. subst (λ (z : List ℕ). Scanned w h prefix (length d / record_len) false [] 0 z) (sym (append_assoc g.answers l x)) (g.closes (l ++ x) (one_more_lem s.answer s.step is y.keeps t));
          fits = omega (arith, y.more, g.long);
          long = b ∙ g.long;
          short = y.short;
          room = a ∙ g.room;
        }

    pub scan_over : p ≡ None → Lays (Scanned w h prefix (length d / record_len) false [] 0) d (record_len * (n + 1)) out'
    scan_over e =
        let y : ShowsLast (shown w.log (length out / record_len) n s.answer) n out out' = subst (λ (q : Option ℕ). ShowsBy (shown w.log (length out / record_len) n s.answer) n out q kept' out') e s.shows in
        let is : shown w.log (length d / record_len) n s.answer ≡ last y.answer = subst (λ (m : ℕ). shown w.log (m / record_len) n s.answer ≡ last y.answer) g.long y.is in
        record {
          answers = g.answers ++ y.answer;
          so = g.closes y.answer (ends s.answer s.step is);
          bytes = laid-behind y.answer y.lies;
          long = omega (arith, length-append g.answers y.answer, g.many, y.long);
        }
