-- The letter stands before the number.
use Rattle.std.proofs.Common.{◌≡◌, ◌<◌, ◌^◌, ◌∷◌, length, rules, ap, ◌∙◌, subst, sym}
use Rattle.std.specs.Fmt.{decimal}
use Rattle.wasm_runner.proofs.EventNames as E
use Rattle.wasm_runner.proofs.export.event_name.Goals as goal

pub overflow_sub-name : goal.overflow_sub-name
overflow_sub-name c = E.begins_late c.from.result c.write_digits-first.result (subst (λ n. n < 2 ^ 32) (sym c.from.ensures) c.ranges.number.fits) c.write_digits-first.ensures.start

pub overflow_sub-result : goal.overflow_sub-result
overflow_sub-result c = E.begins_late c.from.result c.write_digits-first.result (subst (λ n. n < 2 ^ 32) (sym c.from.ensures) c.ranges.number.fits) c.write_digits-first.ensures.start

pub returns : goal.returns
returns c =
    let early = E.begins_late c.from.result c.write_digits-first.result (subst (λ n. n < 2 ^ 32) (sym c.from.ensures) c.ranges.number.fits) c.write_digits-first.ensures.start in
    let long : length c.write_digits-first.new.buf ≡ 11 = search rules in
    E.named c.args.name.now c.write_digits-first.new.buf c.write_digits-first.result c.from.result early c.write_digits-first.ensures.start c.requires long c.write_digits-first.ensures.written
    ∙ ap (λ n. 101 ∷ decimal n) c.from.ensures
