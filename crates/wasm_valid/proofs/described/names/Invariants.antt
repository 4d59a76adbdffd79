use Rattle.std.proofs.Common.{◌≡◌, take}
use Rattle.cm_base.specs.HostEnds.{names_of}
use Rattle.wasm_valid.specs.Texts.{texts}
use Rattle.wasm_valid.proofs.described.names.Given as goal

abbrev pub invariant-loop-end : goal.invariant-loop-end
invariant-loop-end l = texts l.names.items ≡ names_of (take l.end-index l.host)
