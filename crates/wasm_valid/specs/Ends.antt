-- How many locals there are up to the end of each run.
use Rattle.std.specs.Prelude.{ℕ, ◌+◌, List, [], ◌∷◌}
use Rattle.wasm_tree.specs.declared.module.LocalRun.{LocalRun}

-- behind so many others
abbrev pub ends_of : ℕ → List LocalRun → List ℕ
ends_of before [] = []
ends_of before (run ∷ runs) = (before + run.count) ∷ ends_of (before + run.count) runs
