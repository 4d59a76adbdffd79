use Rattle.std.proofs.Common.{◌≡◌, ◌∙◌, sym, Err}
use Rattle.wasm_reader.specs.Reading.{module_at}
use Rattle.wasm_reader.proofs.Ends.{ok_is}
use Rattle.wasm_reader.proofs.ModuleLaws.{module-ends, module-again, fails-at}
use Rattle.wasm_reader.proofs.reader.read_module.Goals as goal

pub returns-in-Ok-clause-found : goal.returns-in-Ok-clause-found
returns-in-Ok-clause-found c = (module-ends c.args.bytes.now).ok c.in-Ok.module c.in-Ok.ensures

pub returns-in-Ok-clause-only : goal.returns-in-Ok-clause-only
returns-in-Ok-clause-only c m s = ok_is c.in-Ok.module m (sym c.in-Ok.ensures ∙ module-again c.args.bytes.now m s)

pub returns-in-Err-Fault-clause-only : goal.returns-in-Err-Fault-clause-only
returns-in-Err-Fault-clause-only c m s =
    let e : module_at c.args.bytes.now ≡ Err c.in-Err-Fault.fault = rw c.in-Err-Fault.field-0-is at c.in-Err-Fault.ensures in
    absurd (cc (module-again c.args.bytes.now m s))

pub returns-in-Err-Fault-clause-refused : goal.returns-in-Err-Fault-clause-refused
returns-in-Err-Fault-clause-refused c =
    let e : module_at c.args.bytes.now ≡ Err c.in-Err-Fault.fault = rw c.in-Err-Fault.field-0-is at c.in-Err-Fault.ensures in
    rw c.saturating_sub.ensures (fails-at c.args.bytes.now c.in-Err-Fault.fault e)
