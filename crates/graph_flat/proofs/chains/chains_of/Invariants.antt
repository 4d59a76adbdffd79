use Rattle.std.proofs.Common.{◌≡◌, take, map}
use Rattle.graph_flat.specs.Chains.{chain_by}
use Rattle.graph_flat.proofs.chains.chains_of.Given as goal

abbrev pub invariant-loop-path : goal.invariant-loop-path
invariant-loop-path l = l.chains.items ≡ map (chain_by l.program l.owners) (take l.path-index l.paths)
