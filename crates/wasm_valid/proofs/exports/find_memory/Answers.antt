use Rattle.std.proofs.Common.{subst, rules}
use Rattle.std.specs.Prelude.{Contains, codes}
use Rattle.wasm_valid.proofs.ExportLemmas.{function_is_no_memory, other_memory}
use Rattle.wasm_valid.proofs.exports.find_memory.Goals as goal

pub returns-else-number-eq0 : goal.returns-else-number-eq0
returns-else-number-eq0 c =
    let kind = c.in-Some-Memory.field-0 in
    other_memory c.args.module.now c.in-Some-Memory.number kind (search rules) (search rules) (subst (λ l. Contains l (record { name = codes "memory"; kind = kind })) c.as_slice.ensures c.in-Some-Memory.ensures.found)

pub returns-in-Some-Function : goal.returns-in-Some-Function
returns-in-Some-Function c =
    let kind = c.in-Some-Function.field-0 in
    function_is_no_memory c.args.module.now c.in-Some-Function.field-0-0 kind (search rules) (subst (λ l. Contains l (record { name = codes "memory"; kind = kind })) c.as_slice.ensures c.in-Some-Function.ensures.found)
