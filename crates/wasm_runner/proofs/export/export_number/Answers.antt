-- Export by export.
use Rattle.std.proofs.Common.{◌≡◌, sym, ap, ◌∙◌, true, false}
use Rattle.std.specs.Str.{bytes_eq}
use Rattle.wasm_tree.specs.Instance.{number_of}
use Rattle.wasm_runner.proofs.Exports as X
use Rattle.wasm_runner.proofs.export.export_number.Goals as goal

pub returns-in-Function : goal.returns-in-Function
returns-in-Function c =
    let t : bytes_eq c.entry-item.result.name c.args.name.now ≡ true = ap (λ b. bytes_eq b c.args.name.now) (sym c.as_bytes.ensures.value) ∙ sym c.eq.ensures ∙ c.if-eq.true in
    ap number_of (sym c.in-Function.is) ∙ sym (X.found c.args.exports.now c.loop-entry.entry-index c.entry-item.result c.args.name.now c.loop-entry-test.true c.entry-item.is t) ∙ c.loop-entry.invariant

pub returns-in-Memory : goal.returns-in-Memory
returns-in-Memory c =
    let t : bytes_eq c.entry-item.result.name c.args.name.now ≡ true = ap (λ b. bytes_eq b c.args.name.now) (sym c.as_bytes.ensures.value) ∙ sym c.eq.ensures ∙ c.if-eq.true in
    ap number_of (sym c.in-Memory.is) ∙ sym (X.found c.args.exports.now c.loop-entry.entry-index c.entry-item.result c.args.name.now c.loop-entry-test.true c.entry-item.is t) ∙ c.loop-entry.invariant

pub loop-entry-preserved : goal.loop-entry-preserved
loop-entry-preserved c =
    let t : bytes_eq c.entry-item.result.name c.args.name.now ≡ false = ap (λ b. bytes_eq b c.args.name.now) (sym c.as_bytes.ensures.value) ∙ sym c.eq.ensures ∙ c.if-eq.false in
    sym (X.passed c.args.exports.now c.loop-entry.entry-index c.entry-item.result c.args.name.now c.loop-entry-test.true c.entry-item.is t) ∙ c.loop-entry.invariant
