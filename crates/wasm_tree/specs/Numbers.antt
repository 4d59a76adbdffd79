-- What the numbers in a module stand for: the index spaces of Core Specification 1.0, 2.5.1. In the spaces of
-- functions and of memories those that are imported come first.
use Rattle.std.specs.Prelude.{ℕ, ◌<◌, ◌+◌, List, [], ◌∷◌, ◌++◌, length, map, replicate, slice_get, unwrap_or}
use Rattle.std.specs.List.{AllByRecursion, flat_map}
use Rattle.wasm_tree.specs.declared.module.ValType.{ValType}
use Rattle.wasm_tree.specs.declared.module.ValType.TheVariants.{I32}
use Rattle.wasm_tree.specs.declared.module.FuncType.{FuncType}
use Rattle.wasm_tree.specs.declared.module.Limits.{Limits}
use Rattle.wasm_tree.specs.declared.module.ImportKind.{ImportKind}
use Rattle.wasm_tree.specs.declared.module.ImportKind.TheVariants as imported
use Rattle.wasm_tree.specs.declared.module.ExportKind.{ExportKind}
use Rattle.wasm_tree.specs.declared.module.ExportKind.TheVariants as exported
use Rattle.wasm_tree.specs.declared.module.LocalRun.{LocalRun}
use Rattle.wasm_tree.specs.declared.module.FuncBody.{FuncBody}
use Rattle.wasm_tree.specs.declared.module.Module.{Module}
use Rattle.wasm_tree.specs.declared.instr.Instr.{Instr}
use Rattle.wasm_tree.specs.declared.instr.Instr.TheVariants as instr
use Rattle.wasm_tree.specs.Spelled.{count_of_locals}

-- ---- functions

abbrev pub no_type : FuncType
no_type = record { params = []; results = [] }

-- what `emit` takes: the number of an endpoint, or -1
abbrev pub emit_type : FuncType
emit_type = record { params = I32 ∷ []; results = [] }

abbrev pub type_at : Module → ℕ → FuncType
type_at m type = unwrap_or (slice_get m.types type) no_type

-- the type of an import that is a function
abbrev pub imported_type : Module → ImportKind → List FuncType
imported_type m (imported.Function type) = type_at m type ∷ []
imported_type m (imported.Memory limits) = []

abbrev pub imported_types : Module → List FuncType
imported_types m = flat_map (λ import. imported_type m import.kind) m.imports

-- the types of the functions by number
abbrev pub function_types : Module → List FuncType
function_types m = imported_types m ++ map (type_at m) m.functions

-- the codes of the functions by number; an imported one has none
abbrev pub function_codes : Module → List (List Instr)
function_codes m = map (λ type. []) (imported_types m) ++ map (λ body. body.code) m.codes

abbrev pub code_of : Module → ℕ → List Instr
code_of m function = unwrap_or (slice_get (function_codes m) function) []

-- a function's locals beside its parameters, by number
abbrev pub declared_locals : List LocalRun → List ValType
declared_locals runs = flat_map (λ run. replicate run.count run.ty) runs

-- ---- memories

abbrev pub imported_memory : ImportKind → List Limits
imported_memory (imported.Function type) = []
imported_memory (imported.Memory limits) = limits ∷ []

abbrev pub memories : Module → List Limits
memories m = flat_map (λ import. imported_memory import.kind) m.imports ++ m.memory

-- ---- what is there

-- how many there are of each kind where code stands; the labels are the sequences that are open
pub record Counts : Type 0 where
  pub functions : ℕ
  pub locals : ℕ
  pub globals : ℕ
  pub memories : ℕ
  pub labels : ℕ

-- what the instruction names is there
abbrev pub IsThere : Counts → Instr → Type 0
IsThere c (instr.Br label) = label < c.labels
IsThere c (instr.BrIf label) = label < c.labels
IsThere c (instr.BrTable table) = AllByRecursion (λ label. label < c.labels) table.labels × (table.other < c.labels)
IsThere c (instr.Call function) = function < c.functions
IsThere c (instr.LocalGet local) = local < c.locals
IsThere c (instr.LocalSet local) = local < c.locals
IsThere c (instr.LocalTee local) = local < c.locals
IsThere c (instr.GlobalGet global) = global < c.globals
IsThere c (instr.GlobalSet global) = global < c.globals
IsThere c (instr.Load op place) = 0 < c.memories
IsThere c (instr.Store op place) = 0 < c.memories
IsThere c instr.MemorySize = 0 < c.memories
IsThere c _ = Unit {0}

-- what code of the function may name where so many sequences are open
abbrev pub counts : Module → FuncType → FuncBody → ℕ → Counts
counts m type body labels =
    record {
      functions = length (function_types m);
      locals = length type.params + count_of_locals body.locals;
      globals = length m.globals;
      memories = length (memories m);
      labels = labels;
    }

-- the type of an imported function is there
abbrev pub HasImportedType : Module → ImportKind → Type 0
HasImportedType m (imported.Function type) = type < length m.types
HasImportedType m (imported.Memory limits) = Unit {0}

-- the function or the memory that is exported is there
abbrev pub HasExported : Module → ExportKind → Type 0
HasExported m (exported.Function function) = function < length (function_types m)
HasExported m (exported.Memory memory) = memory < length (memories m)
