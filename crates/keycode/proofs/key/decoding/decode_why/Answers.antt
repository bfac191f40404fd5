-- `decode_why` goes by the tag.
use mathlib.Core.Path.{◌≡◌, refl, ap, ◌∙◌}
use Rattle.std.proofs.Common.{rules, Err}
use Prim.Native.Nat.{ℕ, ◌+◌, ◌-◌}
use lib.ListN.{length}
use Rattle.keycode.specs.declared.key.Key.TheVariants.{TxnActive, TxnActiveSnapshot, TxnWrite, Version}
use Rattle.keycode.specs.Limits.{max_key}
use Rattle.keycode.specs.Number.{num}
use Rattle.keycode.specs.key.Keys.{exactly, key_of}
use Rattle.keycode.proofs.key.DecodeLaws.{read_none, by_tag, read_ended, read_broken, other_tag, string_within, eight_few}
use native.Mathlib.Omega.{arith}
use Rattle.keycode.proofs.key.decoding.decode_why.Goals as goal

pub returns-then-n-eq0 : goal.returns-then-n-eq0
returns-then-n-eq0 c = read_none max_key c.args.key.now c.if-n-eq0.true

pub get_number-first-requires : goal.get_number-first-requires
get_number-first-requires c = eight_few _ c.args.key.now 1 c.clip.ensures

pub overflow_add-i : goal.overflow_add-i
overflow_add-i c = omega (arith, (string_within max_key 9 c.args.key.now _ c.string_at.ensures c.in_ok-i-in-3.i c.in_ok-i-in-3.was).1)

pub overflow_sub-i : goal.overflow_sub-i
overflow_sub-i c = omega (arith, (string_within max_key 9 c.args.key.now _ c.string_at.ensures c.in_ok-i-in-3.i c.in_ok-i-in-3.was).0)

pub overflow_add-i-in-4 : goal.overflow_add-i-in-4
overflow_add-i-in-4 c = omega (arith, (string_within max_key 1 c.args.key.now _ c.string_at-in-4.ensures c.in_ok-i-in-4.i c.in_ok-i-in-4.was).1)

pub get_number-version-requires : goal.get_number-version-requires
get_number-version-requires c = eight_few _ c.args.key.now (c.in_ok-i-in-4.i + 2) c.clip-in-4.ensures

pub overflow_add-i-in-4-2 : goal.overflow_add-i-in-4-2
overflow_add-i-in-4-2 c = omega (arith, (string_within max_key 1 c.args.key.now _ c.string_at-in-4.ensures c.in_ok-i-in-4.i c.in_ok-i-in-4.was).1)

pub overflow_sub-i-in-4 : goal.overflow_sub-i-in-4
overflow_sub-i-in-4 c = (string_within max_key 1 c.args.key.now _ c.string_at-in-4.ensures c.in_ok-i-in-4.i c.in_ok-i-in-4.was).0

pub overflow_add-i-in-5 : goal.overflow_add-i-in-5
overflow_add-i-in-5 c = omega (arith, (string_within max_key 1 c.args.key.now _ c.string_at-in-5.ensures c.in_ok-i-in-5.i c.in_ok-i-in-5.was).1)

pub overflow_sub-i-in-5 : goal.overflow_sub-i-in-5
overflow_sub-i-in-5 c = (string_within max_key 1 c.args.key.now _ c.string_at-in-5.ensures c.in_ok-i-in-5.i c.in_ok-i-in-5.was).0

pub returns-in-0 : goal.returns-in-0
unfolding key_of
returns-in-0 c = c.exactly.ensures ∙ by_tag max_key c.args.key.now 0 c.if-n-eq0.false c.in-0.is

pub returns-in-1 : goal.returns-in-1
unfolding key_of
returns-in-1 c = c.exactly-in-1.ensures ∙ ap (λ (v : ℕ). exactly 9 (length c.args.key.now) (TxnActive v)) (c.get_number-first.ensures ∙ ap num c.clip.ensures) ∙ by_tag max_key c.args.key.now 1 c.if-n-eq0.false c.in-1.is

pub returns-in-2 : goal.returns-in-2
unfolding key_of
returns-in-2 c = c.exactly-in-2.ensures ∙ ap (λ (v : ℕ). exactly 9 (length c.args.key.now) (TxnActiveSnapshot v)) (c.get_number-first.ensures ∙ ap num c.clip.ensures) ∙ by_tag max_key c.args.key.now 2 c.if-n-eq0.false c.in-2.is

pub returns-in_ok-i-in-3 : goal.returns-in_ok-i-in-3
unfolding key_of
returns-in_ok-i-in-3 c = c.exactly-in-3.ensures ∙ ap (λ (v : ℕ). exactly (c.in_ok-i-in-3.i + 2) (length c.args.key.now) (TxnWrite v (record { at = 9; len = c.in_ok-i-in-3.i - 9 }))) (c.get_number-first.ensures ∙ ap num c.clip.ensures) ∙ read_ended max_key c.args.key.now 3 c.if-n-eq0.false c.in-3.is 9 _ refl _ c.string_at.ensures _ c.in_ok-i-in-3.was

pub returns-in_err-i-in-3 : goal.returns-in_err-i-in-3
unfolding key_of
returns-in_err-i-in-3 c = let e : c.from_residual.result ≡ Err c.in_err-i-in-3.field-0.0 = search rules in e ∙ read_broken max_key c.args.key.now 3 c.if-n-eq0.false c.in-3.is 9 _ refl _ c.string_at.ensures _ c.in_err-i-in-3.was

pub returns-in_ok-i-in-4 : goal.returns-in_ok-i-in-4
unfolding key_of
returns-in_ok-i-in-4 c = c.exactly-in-4.ensures ∙ ap (λ (v : ℕ). exactly (c.in_ok-i-in-4.i + 10) (length c.args.key.now) (Version (record { at = 1; len = c.in_ok-i-in-4.i - 1 }) v)) (c.get_number-version.ensures ∙ ap num c.clip-in-4.ensures) ∙ read_ended max_key c.args.key.now 4 c.if-n-eq0.false c.in-4.is 1 _ refl _ c.string_at-in-4.ensures _ c.in_ok-i-in-4.was

pub returns-in_err-i-in-4 : goal.returns-in_err-i-in-4
unfolding key_of
returns-in_err-i-in-4 c = let e : c.from_residual-in_err-i-in-4.result ≡ Err c.in_err-i-in-4.field-0.0 = search rules in e ∙ read_broken max_key c.args.key.now 4 c.if-n-eq0.false c.in-4.is 1 _ refl _ c.string_at-in-4.ensures _ c.in_err-i-in-4.was

pub returns-in_ok-i-in-5 : goal.returns-in_ok-i-in-5
unfolding key_of
returns-in_ok-i-in-5 c = c.exactly-in-5.ensures ∙ read_ended max_key c.args.key.now 5 c.if-n-eq0.false c.in-5.is 1 _ refl _ c.string_at-in-5.ensures _ c.in_ok-i-in-5.was

pub returns-in_err-i-in-5 : goal.returns-in_err-i-in-5
unfolding key_of
returns-in_err-i-in-5 c = let e : c.from_residual-in_err-i-in-5.result ≡ Err c.in_err-i-in-5.field-0.0 = search rules in e ∙ read_broken max_key c.args.key.now 5 c.if-n-eq0.false c.in-5.is 1 _ refl _ c.string_at-in-5.ensures _ c.in_err-i-in-5.was

pub returns-in_default : goal.returns-in_default
returns-in_default c = other_tag max_key _ c.args.key.now c.in_default.in_default-own.rest.0.0.0.0.0.1 c.in_default.in_default-own.rest.0.0.0.0.1 c.in_default.in_default-own.rest.0.0.0.1 c.in_default.in_default-own.rest.0.0.1 c.in_default.in_default-own.rest.0.1 c.in_default.in_default-own.rest.1 ∙ by_tag max_key c.args.key.now _ c.if-n-eq0.false refl
