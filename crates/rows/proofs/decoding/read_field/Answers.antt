-- `read_field` is the reader of the kind.
use mathlib.Core.Path.{◌≡◌, ◌∙◌}
use lib.ListN.{drop}
use Rattle.std.proofs.Common.{rules}
use Rattle.std.specs.Prelude.{Err}
use Rattle.codecs.specs.declared.fields.Kind.TheVariants.{Boolean, Unsigned, Signed, Float, Binary, String}
use Rattle.rows.proofs.ReadLaws.{unsigned-few, signed-few, float-few, unsigned_read, signed_read, float_read}
use Rattle.rows.proofs.FieldLaws.{field_as}
use Rattle.rows.proofs.decoding.read_field.Goals as goal

pub returns-in-Boolean : goal.returns-in-Boolean
returns-in-Boolean c =
    let a = c.args in
    field_as a.kind Boolean a.at (drop a.at a.key.now) _ c.in-Boolean.is c.read_flag.ensures

pub returns-in_err-read_word-in-Unsigned : goal.returns-in_err-read_word-in-Unsigned
returns-in_err-read_word-in-Unsigned c =
    let a = c.args in
    let e : c.from_residual.result ≡ Err c.in_err-read_word-in-Unsigned.field-0.0 = search rules in
    e ∙ field_as a.kind Unsigned a.at (drop a.at a.key.now) _ c.in-Unsigned.is
    (unsigned-few a.key.now a.at _ c.read_word.ensures _ c.in_err-read_word-in-Unsigned.was)

pub returns-in_ok-read_word-in-Unsigned : goal.returns-in_ok-read_word-in-Unsigned
returns-in_ok-read_word-in-Unsigned c =
    let a = c.args in
    field_as a.kind Unsigned a.at (drop a.at a.key.now) _ c.in-Unsigned.is
    (unsigned_read a.key.now a.at _ c.read_word.ensures _ c.in_ok-read_word-in-Unsigned.was)

pub returns-in_err-read_word-in-Signed : goal.returns-in_err-read_word-in-Signed
returns-in_err-read_word-in-Signed c =
    let a = c.args in
    let e : c.from_residual-in_err-read_word-in-Signed.result ≡ Err c.in_err-read_word-in-Signed.field-0.0 = search rules in
    e ∙ field_as a.kind Signed a.at (drop a.at a.key.now) _ c.in-Signed.is
    (signed-few a.key.now a.at _ c.read_word-in-Signed.ensures _ c.in_err-read_word-in-Signed.was)

pub returns-in_ok-read_word-in-Signed : goal.returns-in_ok-read_word-in-Signed
returns-in_ok-read_word-in-Signed c =
    let a = c.args in
    field_as a.kind Signed a.at (drop a.at a.key.now) _ c.in-Signed.is
    (signed_read a.key.now a.at _ c.read_word-in-Signed.ensures _ c.in_ok-read_word-in-Signed.was c.unbias.result (record { sfits = c.unbias.type_inv }) c.unbias.ensures)

pub returns-in_err-read_word-in-Float : goal.returns-in_err-read_word-in-Float
returns-in_err-read_word-in-Float c =
    let a = c.args in
    let e : c.from_residual-in_err-read_word-in-Float.result ≡ Err c.in_err-read_word-in-Float.field-0.0 = search rules in
    e ∙ field_as a.kind Float a.at (drop a.at a.key.now) _ c.in-Float.is
    (float-few a.key.now a.at _ c.read_word-in-Float.ensures _ c.in_err-read_word-in-Float.was)

pub returns-in_ok-read_word-in-Float : goal.returns-in_ok-read_word-in-Float
returns-in_ok-read_word-in-Float c =
    let a = c.args in
    field_as a.kind Float a.at (drop a.at a.key.now) _ c.in-Float.is
    (float_read a.key.now a.at _ c.read_word-in-Float.ensures _ c.in_ok-read_word-in-Float.was c.unflip.result c.unflip.ensures)

pub returns-in-Binary : goal.returns-in-Binary
returns-in-Binary c =
    let a = c.args in
    field_as a.kind Binary a.at (drop a.at a.key.now) _ c.in-Binary.is c.read_binary.ensures

pub returns-in-String : goal.returns-in-String
returns-in-String c =
    let a = c.args in
    field_as a.kind String a.at (drop a.at a.key.now) _ c.in-String.is c.read_string.ensures
