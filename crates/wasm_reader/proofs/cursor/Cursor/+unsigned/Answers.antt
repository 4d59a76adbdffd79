use Rattle.std.proofs.Common.{arith, ◌-◌, refl}
use Rattle.std.proofs.lemmas.Result.{err_from_is_err_and}
use Rattle.wasm_reader.specs.Reading.{last_unsigned, more_unsigned, unsigned_from}
use Rattle.wasm_reader.proofs.Steps.{fails-first, number-no_byte, number-last, number-long, number-more, gives-last, high_small, seven, word}
use Rattle.wasm_reader.proofs.cursor.Cursor.+unsigned.Goals as goal

pub returns-in_err-low-clause-value : goal.returns-in_err-low-clause-value
returns-in_err-low-clause-value t c =
    let p = err_from_is_err_and c.from_residual.result c.from_residual.ensures.1 in
    rw (p.1, p.2) (number-no_byte last_unsigned more_unsigned c.in_err-low.field-0.0 c.args.start c.args.bits c.args.self.now c.in_err-low.ensures.value)

pub returns-then-low-lt128-clause-value : goal.returns-then-low-lt128-clause-value
returns-then-low-lt128-clause-value t c =
    rw (number-last last_unsigned more_unsigned c.args.start c.args.bits c.args.self.now c.in_ok-low.low c.byte.new.self c.in_ok-low.ensures.value c.if-low-lt128.true) (gives-last c.last_unsigned.result _ c.byte.new.self c.last_unsigned.ensures.value)

pub returns-then-bits-le7-clause-value : goal.returns-then-bits-le7-clause-value
returns-then-bits-le7-clause-value t c =
    rw c.at.ensures (number-long last_unsigned more_unsigned c.args.start c.args.bits c.args.self.now c.in_ok-low.low c.byte.new.self c.in_ok-low.ensures.value c.if-low-lt128.false c.if-bits-le7.true)

pub returns-in_err-high-clause-value : goal.returns-in_err-high-clause-value
returns-in_err-high-clause-value t c =
    let p = err_from_is_err_and c.from_residual-in_err-high.result c.from_residual-in_err-high.ensures.1 in
    rw (p.1, p.2) (fails-first c.in_err-high.field-0.0 (unsigned_from c.args.start (c.args.bits - 7) c.byte.new.self) _
    (number-more last_unsigned more_unsigned c.args.start c.args.bits c.args.self.now c.in_ok-low.low c.byte.new.self c.in_ok-low.ensures.value c.if-low-lt128.false c.in_ok-low.ensures.small c.if-bits-le7.false) c.in_err-high.ensures.value refl)

pub overflow_mul-result : goal.overflow_mul-result
overflow_mul-result t c = omega (arith, c.in_ok-high.ensures.small, seven c.args.bits (omega arith), word c.args.bits 64 c.requires)

pub overflow_add-result : goal.overflow_add-result
overflow_add-result t c = omega (arith, high_small (c.in_ok-low.low - 128) c.in_ok-high.high c.args.bits (omega (arith, c.in_ok-low.ensures.small)) c.if-bits-le7.false c.in_ok-high.ensures.small, word c.args.bits 64 c.requires)

pub returns-clause-value : goal.returns-clause-value
returns-clause-value t c =
    rw (number-more last_unsigned more_unsigned c.args.start c.args.bits c.args.self.now c.in_ok-low.low c.byte.new.self c.in_ok-low.ensures.value c.if-low-lt128.false c.in_ok-low.ensures.small c.if-bits-le7.false, c.in_ok-high.ensures.value) refl

pub returns-clause-small : goal.returns-clause-small
returns-clause-small t c = high_small (c.in_ok-low.low - 128) c.in_ok-high.high c.args.bits (omega (arith, c.in_ok-low.ensures.small)) c.if-bits-le7.false c.in_ok-high.ensures.small
