-- `put_field` writes the variant's bytes, and knows of its number that it has 64 bits.
use mathlib.Core.Logic.{inl, inr}
use native.Mathlib.Omega.{arith}
use mir.Syntax.{w64}
use mir.Val.{SFits}
use Rattle.rows.proofs.EncodeLaws.{bytes-flag, bytes_u64, bytes_i64, bytes_f64, bytes-string, word_long, as_room, as_put, eight_room}
use Rattle.rows.proofs.EncodeLaws.{handed, word-flag, word_u64, word_i64, word_f64, word-string, field_put}
use Rattle.rows.proofs.encoding.put_field.Goals as goal

pub put_flag-requires : goal.put_flag-requires
put_flag-requires c =
    let a = c.args in
    as_room _ _ (bytes-flag a.texts.now a.field _ c.in-Flag.is) a.at _ c.requires

pub put_word-requires : goal.put_word-requires
put_word-requires c =
    let a = c.args in
    eight_room _ a.at _ (word_long a.texts.now a.field (inl (c.in-U64.v, c.in-U64.is))) c.requires

pub put_word-requires-in-I64 : goal.put_word-requires-in-I64
put_word-requires-in-I64 c =
    let a = c.args in
    eight_room _ a.at _ (word_long a.texts.now a.field (inr (inl (c.in-I64.v, c.in-I64.is)))) c.requires

pub put_word-requires-in-F64 : goal.put_word-requires-in-F64
put_word-requires-in-F64 c =
    let a = c.args in
    eight_room _ a.at _ (word_long a.texts.now a.field (inr (inr (c.in-F64.w, c.in-F64.is)))) c.requires

pub escape_into-requires : goal.escape_into-requires
escape_into-requires c =
    let a = c.args in
    as_room _ _ (bytes-string a.texts.now a.field _ _ c.in-Bytes.is c.clip.ensures) a.at _ c.requires

pub returns-in-Flag : goal.returns-in-Flag
returns-in-Flag c =
    let a = c.args in
    let e = c.in-Flag.is in
    field_put a.texts.now a.field _ _ _ _ (word-flag _ _ e)
    (as_put _ _ (bytes-flag a.texts.now a.field _ e) a.at a.out.now _ _ c.put_flag.ensures)

pub returns-in-U64 : goal.returns-in-U64
returns-in-U64 c =
    let a = c.args in
    let e = c.in-U64.is in
    field_put a.texts.now a.field _ _ _ _ (word_u64 _ _ e (omega arith))
    (as_put _ _ (bytes_u64 a.texts.now a.field _ e) a.at a.out.now _ _ c.put_word.ensures)

pub returns-in-I64 : goal.returns-in-I64
returns-in-I64 c =
    let a = c.args in
    let e = c.in-I64.is in
    let f : SFits w64 c.in-I64.v = record { sfits = omega arith } in
    field_put a.texts.now a.field _ _ _ _ (word_i64 _ _ e f)
    (as_put _ _ (bytes_i64 a.texts.now a.field _ _ e (handed _ _ f c.bias.ensures)) a.at a.out.now _ _ c.put_word-in-I64.ensures)

pub returns-in-F64 : goal.returns-in-F64
returns-in-F64 c =
    let a = c.args in
    let e = c.in-F64.is in
    field_put a.texts.now a.field _ _ _ _ (word_f64 _ _ e (omega arith))
    (as_put _ _ (bytes_f64 a.texts.now a.field _ _ e c.flip.ensures) a.at a.out.now _ _ c.put_word-in-F64.ensures)

pub returns-in-Bytes : goal.returns-in-Bytes
returns-in-Bytes c =
    let a = c.args in
    let e = c.in-Bytes.is in
    field_put a.texts.now a.field _ _ _ _ (word-string _ _ e)
    (as_put _ _ (bytes-string a.texts.now a.field _ _ e c.clip.ensures) a.at a.out.now _ _ c.escape_into.ensures)
