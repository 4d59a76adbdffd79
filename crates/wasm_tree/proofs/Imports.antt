-- Where the one import is `emit`, function 0 is `emit`, the module's own functions follow, and the one memory is its own.
use Rattle.std.proofs.Common.{◌≡◌, List, [], ◌∷◌, ◌++◌, ap, ◌∙◌}
use Rattle.std.specs.Prelude.{map, Option, unwrap_or}
use Rattle.std.specs.List.{flat_map}
use Rattle.wasm_tree.specs.declared.module.FuncType.{FuncType}
use Rattle.wasm_tree.specs.declared.module.Import.{Import}
use Rattle.wasm_tree.specs.declared.module.ImportKind.{ImportKind}
use Rattle.wasm_tree.specs.declared.module.Module.{Module}
use Rattle.wasm_tree.specs.Host.{HasImport}
use Rattle.wasm_tree.specs.Numbers.{no_type, emit_type, type_at, imported_type, imported_types, imported_memory, function_types, function_codes, memories}

emit_imported : (m : Module) → HasImport m → imported_types m ≡ emit_type ∷ []
emit_imported m h =
    ap (flat_map (λ (import : Import). imported_type m import.kind)) h.only
    ∙ (ap (λ (kind : ImportKind). imported_type m kind ++ []) h.function ∙ ap (λ (type : Option FuncType). unwrap_or type no_type ∷ []) h.takes)

pub functions_follow : (m : Module) → HasImport m → function_types m ≡ emit_type ∷ map (type_at m) m.functions
functions_follow m h = ap (λ (types : List FuncType). types ++ map (type_at m) m.functions) (emit_imported m h)

pub codes_follow : (m : Module) → HasImport m → function_codes m ≡ [] ∷ map (λ body. body.code) m.codes
codes_follow m h = ap (λ (types : List FuncType). map (λ type. []) types ++ map (λ body. body.code) m.codes) (emit_imported m h)

pub memory_is_own : (m : Module) → HasImport m → memories m ≡ m.memory
memory_is_own m h =
    ap (λ (imports : List Import). flat_map (λ (import : Import). imported_memory import.kind) imports ++ m.memory) h.only
    ∙ ap (λ (kind : ImportKind). (imported_memory kind ++ []) ++ m.memory) h.function
