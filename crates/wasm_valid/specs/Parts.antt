-- Rules on single parts of a module, as they are tested.
use Rattle.std.specs.Prelude.{ℕ, ◌≡◌, ◌<◌, List, slice_get, Some, codes}
use Rattle.wasm_tree.specs.declared.module.FuncType.{FuncType}
use Rattle.wasm_tree.specs.declared.module.ImportKind.{ImportKind}
use Rattle.wasm_tree.specs.declared.module.ImportKind.TheVariants as imported
use Rattle.wasm_tree.specs.declared.module.Import.{Import}
use Rattle.wasm_tree.specs.declared.module.ExportKind.{ExportKind}
use Rattle.wasm_tree.specs.declared.module.ExportKind.TheVariants as exported
use Rattle.wasm_tree.specs.Numbers.{emit_type}

-- a function of the type of `emit`
abbrev pub TakesEmit : List FuncType → ImportKind → Type 0
TakesEmit types (imported.Function number) = slice_get types number ≡ Some emit_type
TakesEmit types (imported.Memory limits) = ⊥

pub record IsEmit (types : List FuncType) (import : Import) : Type 0 where
  pub from : import.«module» ≡ codes "host"
  pub name : import.name ≡ codes "emit"
  pub takes : TakesEmit types import.kind

-- what is exported is one of so many functions, or the one memory
abbrev pub IsExportThere : ℕ → ExportKind → Type 0
IsExportThere functions (exported.Function number) = number < functions
IsExportThere functions (exported.Memory number) = number < 1
