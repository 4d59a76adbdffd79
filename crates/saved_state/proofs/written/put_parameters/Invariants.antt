use Rattle.std.proofs.Common.{◌≡◌, ◌++◌, length, take}
use Rattle.std.specs.List.{flat_map}
use Rattle.saved_state.specs.Version2.{count_bytes, parameter_bytes}
use Rattle.saved_state.proofs.written.put_parameters.Given as goal

abbrev pub invariant-loop-one : goal.invariant-loop-one
invariant-loop-one l = l.out.items ≡ l.fn.out.items ++ (count_bytes (length l.saved) ++ flat_map parameter_bytes (take l.one-index l.saved))
