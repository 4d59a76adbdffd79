use Rattle.std.proofs.Common.{subst, rules}
use Rattle.std.specs.Prelude.{Contains}
use Rattle.wasm_valid.specs.Exported.{type_of}
use Rattle.wasm_valid.proofs.ExportLemmas.{memory_is_not, type_is_not}
use Rattle.wasm_valid.proofs.exports.find_function.Goals as goal

pub returns-in-Some-Memory : goal.returns-in-Some-Memory
returns-in-Some-Memory c =
    let kind = c.in-Some-Memory.field-0 in
    memory_is_not c.args.module.now c.args.name.now c.in-Some-Memory.field-0-0 (type_of c.args.takes) kind (search rules)
    (subst (λ l. Contains l (record { name = c.args.name.now; kind = kind })) c.as_slice.ensures c.in-Some-Memory.ensures.found)

pub returns-else-has_type : goal.returns-else-has_type
returns-else-has_type c =
    let kind = c.in-Some-Function.field-0 in
    type_is_not c.args.module.now c.args.name.now c.in-Some-Function.number (type_of c.args.takes) kind (search rules)
    (subst (λ l. Contains l (record { name = c.args.name.now; kind = kind })) c.as_slice.ensures c.in-Some-Function.ensures.found)
    (search rules)
