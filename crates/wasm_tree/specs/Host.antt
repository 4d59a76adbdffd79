-- What a module imports from its host and exports to it: docs/MODULE.md, "Imports and exports".
use Rattle.std.specs.Prelude.{ℕ, zero, suc, ◌≡◌, ◌+◌, List, [], ◌∷◌, ◌++◌, length, map, filter, slice_get, Contains, Some, ◌&&◌, codes}
use Rattle.std.specs.List.{AllByRecursion}
use Rattle.std.specs.Fmt.{decimal}
use Rattle.cm_base.specs.declared.host.HostEnd.{HostEnd}
use Rattle.cm_base.specs.HostEnds.{AreDistinct}
use Rattle.cm_base.specs.Parts.{is_input, is_event}
use Rattle.wasm_tree.specs.declared.module.FuncType.{FuncType}
use Rattle.wasm_tree.specs.declared.module.Import.{Import}
use Rattle.wasm_tree.specs.declared.module.ImportKind.TheVariants as imported
use Rattle.wasm_tree.specs.declared.module.ExportKind.TheVariants as exported
use Rattle.wasm_tree.specs.declared.module.Module.{Module}
use Rattle.wasm_tree.specs.declared.interface.Interface.{Interface}
use Rattle.wasm_tree.specs.declared.interface.Interface.TheVariants.{Single, Blocks}
use Rattle.wasm_tree.specs.Section.{CmajorSection, ends_of}
use Rattle.wasm_tree.specs.Numbers.{no_type, emit_type, function_types}

-- the one import: the function `emit` of `host`
pub record HasImport (m : Module) : Type 0 where
  pub import : Import
  pub only : m.imports ≡ import ∷ []
  pub from : import.«module» ≡ codes "host"
  pub name : import.name ≡ codes "emit"
  pub type : ℕ
  pub function : import.kind ≡ imported.Function type
  pub takes : slice_get m.types type ≡ Some emit_type

-- how many events the host can send
abbrev pub event_inputs : List HostEnd → ℕ
event_inputs ends = length (filter (λ end. is_input end.flow && is_event end.kind) ends)

-- the functions that are exported besides the memory, with their types: `init`, `e0`, `e1` and so on for the
-- event inputs in order, and `frame`, or for interface 2 `frames`, which takes the count of frames
abbrev pub event_exports : ℕ → ℕ → List (List ℕ × FuncType)
event_exports number zero = []
event_exports number (suc count) = (codes "e" ++ decimal number, no_type) ∷ event_exports (number + 1) count

abbrev pub frame_export : Interface → List ℕ × FuncType
frame_export Single = (codes "frame", no_type)
frame_export (Blocks block) = (codes "frames", emit_type)

abbrev pub exported_functions : CmajorSection → List (List ℕ × FuncType)
exported_functions section =
    (codes "init", no_type) ∷ frame_export section.interface ∷ event_exports 0 (event_inputs (ends_of section))

-- the function is exported under the name and has the type
pub record IsExported (m : Module) (wanted : List ℕ × FuncType) : Type 0 where
  pub number : ℕ
  pub entry : Contains m.exports (record { name = wanted.0; kind = exported.Function number })
  pub typed : slice_get (function_types m) number ≡ Some wanted.1

-- these are exported, each once, and nothing else is
pub record HasExports (m : Module) (section : CmajorSection) : Type 0 where
  pub memory : Contains m.exports (record { name = codes "memory"; kind = exported.Memory 0 })
  pub functions : AllByRecursion (IsExported m) (exported_functions section)
  pub distinct : AreDistinct (map (λ entry. entry.name) m.exports)
  pub count : length m.exports ≡ length (exported_functions section) + 1
