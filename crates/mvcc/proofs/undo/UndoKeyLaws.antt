-- Which bytes are TxnWrite keys, and the Version keys that they name. Assumes nothing.
use Prim.Native.Nat.{ℕ, ◌-◌, ◌≤◌}
use mathlib.Core.Path.{◌≡◌, refl, sym, ap, ◌∙◌}
use mathlib.Core.Bool.{true, false}
use mathlib.Core.List.{List, [], ◌∷◌}
use native.Mathlib.Omega.{arith}
use lib.ListN.{length, take, drop, replicate, length-drop}
use lib.Seq.{drop_at, take_all}
use Rattle.std.specs.Prelude.{Result, Ok, Err, Option, None, Some}
use Rattle.keycode.specs.declared.strings.Fault.{Fault}
use Rattle.keycode.specs.Limits.{max_key}
use Rattle.keycode.specs.Buffer.{put}
use Rattle.keycode.specs.Number.{be}
use Rattle.keycode.specs.Strings.{unescaped, escape}
use Rattle.keycode.specs.key.Keys.{encode, txn_write, version, decode_why, forget}
use Rattle.keycode.specs.encode.Promises.{encode_answer}
use Rattle.keycode.specs.declared.refusal.Refusal.{Refusal}
use Rattle.keycode.specs.declared.key.Key.{Key}
use Rattle.keycode.specs.declared.parts.Part.{Part}
use Rattle.keycode.specs.declared.key.Key.TheVariants.{NextVersion, TxnActive, TxnActiveSnapshot, TxnWrite, Version, Unversioned}
use Rattle.keycode.proofs.Basics.{nope}
use Rattle.keycode.proofs.NumberLaws.{Bytes, length-be}
use Rattle.keycode.proofs.BufferLaws.{length-put}
use Rattle.keycode.proofs.StringLaws.{escape-length}
use Rattle.keycode.proofs.WriteLaws.{writes_done}
use Rattle.keycode.proofs.encode.EncodeLaws.{measure_done, two_put, version-length, write_length}
use Rattle.keycode.proofs.key.KeyLaws.{encode_decode}
use Rattle.bitcask.specs.keydir.Place.{All, all_none, all_more}
use Rattle.bitcask.specs.recovery.Map.{Pair}
use Rattle.bitcask.proofs.recovery.AgreeLaws.{both}
use Rattle.keycode.specs.code.Codes.{key_bytes, Codes}
use Rattle.keycode.proofs.code.CodeLaws.{code_made, version-fits, write_fits}
use Rattle.mvcc.specs.undo.Plans.{user_of, user_by, user_in, is_user, all_users}
use Rattle.mvcc.specs.undo.Undo.{Names}

-- ---- by what the code decodes

module _ (b : List ℕ) {d : Result Key Refusal} (says : d ≡ forget (decode_why max_key b)) where
  pub write_bad : (r : Refusal) → d ≡ Err r → false ≡ is_user (user_in b)
  unfolding user_in
  write_bad r e = rw (← says, e)

  pub write_key : (k j : Key) → d ≡ Ok k → k ≡ j → is_user (user_of b j) ≡ is_user (user_in b)
  unfolding user_in
  write_key k j e f = rw (← says, e, f)

  pub write_other : (k : Key) → d ≡ Ok k → ((v : ℕ) (p : Part) → k ≡ TxnWrite v p → ⊥) → false ≡ is_user (user_in b)
  unfolding user_in
  write_other NextVersion e n = rw (← says, e)
  write_other (TxnActive v) e n = rw (← says, e)
  write_other (TxnActiveSnapshot v) e n = rw (← says, e)
  write_other (TxnWrite v p) e n = absurd (n v p refl)
  write_other (Version p v) e n = rw (← says, e)
  write_other (Unversioned p) e n = rw (← says, e)

-- ---- what such a key says

-- it is the TxnWrite key of the user key u
pub record Wrote (b u : List ℕ) : Type 0 where
  pub writer : ℕ
  pub bytes : encode (txn_write writer u) ≡ b
  pub few : length u ≤ max_key

key-wrote : (b u : List ℕ) (k : Key) → Bytes b → decode_why max_key b ≡ Ok k → user_of b k ≡ Some u → Wrote b u
key-wrote b u NextVersion y q e = nope (cc)
key-wrote b u (TxnActive v) y q e = nope (cc)
key-wrote b u (TxnActiveSnapshot v) y q e = nope (cc)
key-wrote b u (TxnWrite v p) y q e =
    let w = encode_decode max_key b (TxnWrite v p) y q in
    let z : unescaped (take p.len (drop p.at b)) ≡ u = cc in
    record { writer = v; bytes = ap (λ (x : List ℕ). encode (txn_write v x)) (sym z) ∙ w.bytes; few = omega (arith, w.few, ap length z) }
key-wrote b u (Version p v) y q e = nope (cc)
key-wrote b u (Unversioned p) y q e = nope (cc)

pub user-wrote : (b u : List ℕ) → Bytes b → user_in b ≡ Some u → Wrote b u
unfolding user_in
user-wrote b u y e = go (decode_why max_key b) refl e
  where
    go : (r : Result Key Fault) → decode_why max_key b ≡ r → user_by b (forget r) ≡ Some u → Wrote b u
    go (Ok k) q f = key-wrote b u k y q f
    go (Err w) q f = nope (cc)

pub user_some : (o : Option (List ℕ)) → is_user o ≡ true → (u : List ℕ) × (o ≡ Some u)
user_some None e = nope (cc)
user_some (Some u) e = (u, refl)

-- ---- the key that it names

-- it is as long
pub named-long : {b u : List ℕ} → Wrote b u → (v : ℕ) → length (encode (version u v)) ≡ length b
named-long {b} {u} w v = version-length u v ∙ sym (ap length (sym w.bytes) ∙ write_length w.writer u)

wrote-tail : {b u : List ℕ} → Wrote b u → drop 9 b ≡ escape u
wrote-tail {b} {u} w = ap (drop 9) (sym w.bytes) ∙ drop_at (3 ∷ be 8 w.writer) (escape u) 9 (omega (arith, length-be 8 w.writer))

module _ (b : List ℕ) (y : Bytes b) where
  pub write_within : is_user (user_in b) ≡ true → (11 ≤ length b) × (length b ≤ key_bytes)
  write_within e =
      let q = user_some (user_in b) e in
      let w = user-wrote b q.0 y q.1 in
      let l = ap length w.bytes in
      (omega (arith, write_length w.writer q.0), omega (arith, write_fits q.0 w.few w.writer))

  -- the code that is built of it in a buffer of tags
  module _ (v : ℕ) (d e : List ℕ) (p : d ≡ put (replicate {A = ℕ} key_bytes 4) 1 (take (length b - 9) (drop 9 b))) (q : e ≡ put d (length b - 8) (be 8 v)) where
    named_coded : (u : List ℕ) → Wrote b u → Codes (record { len = length b; bytes = e }) (encode (version u v))
    named_coded u w =
        let tags : List ℕ = replicate {A = ℕ} key_bytes 4 in
        let l = named-long w v in
        let f = version-fits u w.few v in
        let z = escape-length u in
        let k = version-length u v in
        let laid : e ≡ put tags 0 (encode (version u v)) =
        two_put 4 (escape u) (be 8 v) tags d e (length b - 8) (omega (arith, length-be 8 v)) (omega arith) (p ∙ ap (put tags 1) (take_all (length b - 9) (drop 9 b) (omega (arith, length-drop 9 b)) ∙ wrote-tail w)) q in
        code_made u (encode (version u v)) tags e w.few f refl (ap length laid ∙ length-put tags 0 (encode (version u v)) (omega arith))
        (writes_done (encode_answer u (length (encode (version u v))) key_bytes) (encode (version u v)) tags e (length b) (measure_done u (length (encode (version u v))) key_bytes (length b) (sym l) w.few f) laid) refl

    pub named_made : Names b v (record { len = length b; bytes = e })
    named_made = record { names = λ u f. named_coded u (user-wrote b u y f) }

-- ---- all keys of a list of pairs

-- bytes that are a TxnWrite key, and whose
pub record Written (b : List ℕ) : Type 0 where
  pub user : List ℕ
  pub says : user_in b ≡ Some user
  pub wrote : Wrote b user

pub all-written : (ps : List Pair) → All (λ (q : Pair). Bytes q.key) ps → all_users ps ≡ true → All (λ (q : Pair). Written q.key) ps
unfolding all_users
all-written [] all_none e = all_none
all-written (q ∷ ps) (all_more y a) e =
    let p = both (is_user (user_in q.key)) (all_users ps) e in
    let u = user_some (user_in q.key) p.0 in
    all_more (record { user = u.0; says = u.1; wrote = user-wrote q.key u.0 y u.1 }) (all-written ps a p.1)
