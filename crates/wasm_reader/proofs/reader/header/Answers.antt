use Rattle.std.proofs.Common.{◌∙◌, sym, get_or}
use Rattle.std.proofs.lemmas.Result.{err_from_is_err_and}
use Rattle.wasm_tree.specs.declared.format.TheConstants.{HEADER}
use Rattle.wasm_reader.specs.Reading.{header_byte_at}
use Rattle.wasm_reader.proofs.Steps.{fails-first, header-step, header-last}
use Rattle.wasm_reader.proofs.reader.header.Goals as goal

pub returns-in_err-header_byte : goal.returns-in_err-header_byte
returns-in_err-header_byte c =
    let p = err_from_is_err_and c.from_residual.result c.from_residual.ensures.1 in
    rw (p.1, p.2) (fails-first c.in_err-header_byte.field-0.0 (header_byte_at (get_or HEADER c.loop-due.due-index 0) c.loop-due.cursor) _ (header-step HEADER c.loop-due.due-index c.loop-due.cursor c.loop-due-test.true) c.in_err-header_byte.ensures c.loop-due.invariant)

pub loop-due-preserved : goal.loop-due-preserved
loop-due-preserved c = sym (rw c.in_ok-header_byte.ensures at (header-step HEADER c.loop-due.due-index c.loop-due.cursor c.loop-due-test.true)) ∙ c.loop-due.invariant

pub returns : goal.returns
returns c = sym c.loop-due.invariant ∙ header-last HEADER c.loop-due.due-index c.loop-due.cursor c.loop-due-test.false
