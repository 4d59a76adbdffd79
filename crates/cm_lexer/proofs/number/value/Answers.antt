use Rattle.std.proofs.Common.{◌≡◌, ℕ, ◌+◌, ◌*◌, ◌^◌, ◌≤◌, Some, None, refl, sym, ap, ◌∙◌, get_or, drop, arith}
use Rattle.std.proofs.lemmas.Bool.{le-ltb, lt-ltb}
use Rattle.std.specs.Char.{digit_value}
use Rattle.std.specs.Str.Parse.{digits_value}
use Rattle.cm_lexer.proofs.Values.{at_least, value_large, value_end}
use Rattle.cm_lexer.proofs.number.value.Goals as goal

pub returns-in_err-checked_mul : goal.returns-in_err-checked_mul
returns-in_err-checked_mul c =
    let large = at_least (c.loop-digit.value * c.args.radix) (2 ^ 64) c.in_err-checked_mul.ensures in
    let whole = value_large c.args.radix c.loop-digit.value c.loop-digit.digit-index (2 ^ 64) c.args.digits.now (omega arith) c.loop-digit-test.true (omega (arith, large)) in
    let most : 2 ^ 64 ≤ digits_value c.args.radix c.args.digits.now = omega (arith, whole, c.loop-digit.invariant.value) in
    rw (c.from_residual.ensures, le-ltb (digits_value c.args.radix c.args.digits.now) (2 ^ 64) most) refl

pub returns-in_err-value : goal.returns-in_err-value
returns-in_err-value c =
    let large = at_least (c.in_ok-checked_mul.field-0 + c.digit_value.result) (2 ^ 64) c.in_err-value.ensures in
    let whole = value_large c.args.radix c.loop-digit.value c.loop-digit.digit-index (2 ^ 64) c.args.digits.now (omega arith) c.loop-digit-test.true (omega (arith, large, c.in_ok-checked_mul.ensures, c.digit_value.ensures.value)) in
    let most : 2 ^ 64 ≤ digits_value c.args.radix c.args.digits.now = omega (arith, whole, c.loop-digit.invariant.value) in
    rw (c.from_residual-in_err-value.ensures, le-ltb (digits_value c.args.radix c.args.digits.now) (2 ^ 64) most) refl

pub returns : goal.returns
returns c =
    let is : digits_value c.args.radix c.args.digits.now ≡ c.loop-digit.value = sym c.loop-digit.invariant.value ∙ value_end c.args.radix c.loop-digit.value c.loop-digit.digit-index c.args.digits.now c.loop-digit-test.false in
    rw (is, lt-ltb c.loop-digit.value (2 ^ 64) c.loop-digit.invariant.small) refl
