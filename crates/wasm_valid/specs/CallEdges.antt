-- The calls between functions as edges of a graph, whose nodes are the numbers of functions.
use Rattle.std.specs.Prelude.{ℕ, ◌+◌, List, [], ◌∷◌, ◌++◌, Option, Some, None}
use Rattle.std.specs.List.{filter_map}
use Rattle.graph_search.specs.declared.edges.Edge.{Edge}
use Rattle.wasm_tree.specs.declared.module.FuncBody.{FuncBody}
use Rattle.wasm_tree.specs.declared.instr.Instr.{Instr}
use Rattle.wasm_tree.specs.declared.instr.Instr.TheVariants as instr

abbrev pub edge_of : ℕ → Instr → Option Edge
edge_of from (instr.Call function) = Some (record { from = from; to = function })
edge_of from _ = None

-- an edge for each call in the code of a function
abbrev pub calls_in : ℕ → List Instr → List Edge
calls_in from code = filter_map (edge_of from) code

-- the edges of functions that have these numbers from the first on
abbrev pub all_calls : ℕ → List FuncBody → List Edge
all_calls first [] = []
all_calls first (body ∷ bodies) = calls_in first body.code ++ all_calls (first + 1) bodies
