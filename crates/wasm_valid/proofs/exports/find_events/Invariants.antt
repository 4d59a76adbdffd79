use Rattle.std.proofs.Common.{ℕ, List, ◌++◌}
use Rattle.wasm_tree.specs.declared.module.FuncType.{FuncType}
use Rattle.wasm_tree.specs.Host.{event_exports}
use Rattle.wasm_valid.specs.Exported.{TellsFunctions}
use Rattle.wasm_valid.proofs.exports.find_events.Given as goal

abbrev pub invariant-loop-number : goal.invariant-loop-number
invariant-loop-number l = (ws : List (List ℕ × FuncType)) → TellsFunctions l.«module» ws l.fn.before → TellsFunctions l.«module» (ws ++ event_exports 0 l.number-counter) l.found
