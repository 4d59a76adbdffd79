use Rattle.wasm_tree.proofs.Imports.{functions_follow, codes_follow, memory_is_own}
use Rattle.wasm_tree.proofs.laws.emit_is_function_0.Goals as goal

pub returns : goal.returns
returns c = record { functions = functions_follow; codes = codes_follow; memory = memory_is_own }
