use Rattle.std.proofs.Common.{◌↔◌, take}
use Rattle.std.specs.Prelude.{IsTrue}
use Rattle.cm_base.specs.HostEnds.{AreDistinct}
use Rattle.wasm_valid.specs.Texts.{texts, TellsPlaces}
use Rattle.wasm_valid.proofs.names.Names.new.Given as goal

abbrev pub invariant-loop-at : goal.invariant-loop-at
invariant-loop-at l = TellsPlaces (take l.at (texts l.names.items)) l.places × (IsTrue l.distinct ↔ AreDistinct (take l.at (texts l.names.items)))
