-- What the rules on the parts of a module give, and what is told of a module that isn't accepted.
use Rattle.std.specs.Prelude.{ℕ, ◌≡◌, List, length}
use Rattle.wasm_tree.specs.declared.module.Module.{Module}
use Rattle.wasm_tree.specs.declared.failure.ModuleFail.{ModuleFail}
use Rattle.wasm_tree.specs.declared.failure.ModuleFail.TheVariants as fail
use Rattle.wasm_tree.specs.Host.{HasImport}
use Rattle.wasm_tree.specs.Valid.{Valid, AreImportsIndexed, AreFunctionsIndexed, AreExportsIndexed, AreSegmentsIndexed, AreBodiesIndexed, AreBodiesTyped, HasMemory, HaveFewResults, AreGlobalsTyped, CallCycle, Segment}
use Rattle.wasm_tree.specs.Refusal.{IsRefusal}
use Rattle.wasm_sound.specs.Reached.{AreBounds}
use Rattle.section_reader.specs.Raw.{said}
use Rattle.wasm_valid.specs.declared.rooms.Bounds.{Bounds}
use Rattle.wasm_valid.specs.declared.accept.Accepted.{Accepted}

-- the rules on single parts hold
pub record HasParts (m : Module) : Type 0 where
  pub imports : AreImportsIndexed m
  pub import : HasImport m
  pub functions : AreFunctionsIndexed m
  pub exports : AreExportsIndexed m
  pub types : HaveFewResults m
  pub memory : HasMemory m.memory
  pub globals : AreGlobalsTyped m
  pub segments : AreSegmentsIndexed m
  pub data_fits : Segment m

-- the rules on code hold, and no call of an export holds more than the bounds
pub record HasCode (m : Module) (bounds : Bounds) : Type 0 where
  pub indexed : AreBodiesIndexed m
  pub typed : AreBodiesTyped m
  pub call_cycle : CallCycle m
  pub holds_no_more : AreBounds m bounds.cells bounds.marks

-- the module is valid with the section that was read, and the bounds are those of its calls
pub record IsAccepted (m : Module) (a : Accepted) : Type 0 where
  pub valid : Valid m (said a.section)
  pub paired : length a.section.host ≡ length a.section.addresses
  pub bounds : AreBounds m a.bounds.cells a.bounds.marks

-- the refusal of a module that these bytes spell; want of memory tells nothing of it
abbrev pub IsFailure : Module → List ℕ → ModuleFail → Type 0
IsFailure m bytes (fail.Refused refused) = IsRefusal refused m bytes
IsFailure m bytes fail.NoMemory = Unit {0}
