-- What is told of the exports of a module.
use Rattle.std.specs.Prelude.{ℕ, List, map, Contains, codes}
use Rattle.std.specs.List.{AllByRecursion}
use Rattle.cm_base.specs.HostEnds.{AreDistinct}
use Rattle.wasm_tree.specs.declared.module.FuncType.{FuncType}
use Rattle.wasm_tree.specs.declared.module.ExportEntry.{ExportEntry}
use Rattle.wasm_tree.specs.declared.module.ExportKind.TheVariants as exported
use Rattle.wasm_tree.specs.declared.module.Module.{Module}
use Rattle.wasm_tree.specs.Numbers.{no_type, emit_type}
use Rattle.wasm_tree.specs.Section.{CmajorSection}
use Rattle.wasm_tree.specs.Host.{IsExported, HasExports}
use Rattle.wasm_tree.specs.Refusal.{Exports, export_names}
use Rattle.wasm_valid.specs.declared.exports.Takes.{Takes}
use Rattle.wasm_valid.specs.declared.exports.Takes.TheVariants as takes
use Rattle.wasm_valid.specs.declared.exports.Found.{Found}
use Rattle.wasm_valid.specs.declared.exports.Found.TheVariants as found

abbrev pub type_of : Takes → FuncType
type_of takes.Nothing = no_type
type_of takes.Int32 = emit_type

-- the names of exports, in order
abbrev pub entry_names : List ExportEntry → List (List ℕ)
entry_names entries = map (λ entry. entry.name) entries

-- whether the function is exported under the name with the type, something else is, or nothing is
abbrev pub TellsFunction : Module → List ℕ × FuncType → Found → Type 0
TellsFunction m wanted found.Same = IsExported m wanted
TellsFunction m wanted found.Other = Exports m wanted.0 × (AreDistinct (entry_names m.exports) → IsExported m wanted → ⊥)
TellsFunction m wanted found.Missing = Exports m wanted.0 → ⊥

-- so of several functions: whether all are exported, something else is under one of their names, or nothing is
abbrev pub TellsFunctions : Module → List (List ℕ × FuncType) → Found → Type 0
TellsFunctions m wanted found.Same = AllByRecursion (IsExported m) wanted
TellsFunctions m wanted found.Other =
    AllByRecursion (Exports m) (map (λ w. w.0) wanted) × (AreDistinct (entry_names m.exports) → AllByRecursion (IsExported m) wanted → ⊥)
TellsFunctions m wanted found.Missing = (name : List ℕ) × Contains (map (λ w. w.0) wanted) name × (Exports m name → ⊥)

abbrev pub memory_entry : ExportEntry
memory_entry = record { name = codes "memory"; kind = exported.Memory 0 }

abbrev pub TellsMemory : Module → Found → Type 0
TellsMemory m found.Same = Contains m.exports memory_entry
TellsMemory m found.Other = Exports m (codes "memory") × (AreDistinct (entry_names m.exports) → Contains m.exports memory_entry → ⊥)
TellsMemory m found.Missing = Exports m (codes "memory") → ⊥

-- whether the exports are those that the section asks for, others are there, or some are missing
abbrev pub TellsExports : Module → CmajorSection → Found → Type 0
TellsExports m section found.Same = HasExports m section
TellsExports m section found.Other = AllByRecursion (Exports m) (export_names section) × (HasExports m section → ⊥)
TellsExports m section found.Missing = (name : List ℕ) × Contains (export_names section) name × (Exports m name → ⊥)
