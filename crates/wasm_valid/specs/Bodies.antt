-- What is said of a body that is checked.
use Rattle.std.specs.Prelude.{◌≡◌, ℕ, slice_get, List, [], ◌∷◌, ◌++◌, Option, Some, None, true}
use Rattle.std.specs.Option.{option_map}
use Rattle.wasm_tree.specs.declared.module.ValType.{ValType}
use Rattle.wasm_tree.specs.declared.module.ValType.TheVariants.{I32}
use Rattle.wasm_tree.specs.declared.module.FuncType.{FuncType}
use Rattle.wasm_tree.specs.declared.module.LocalRun.{LocalRun}
use Rattle.wasm_tree.specs.declared.module.Module.{Module}
use Rattle.wasm_tree.specs.declared.instr.Instr.{Instr}
use Rattle.wasm_tree.specs.declared.instr.Instr.TheVariants as instr
use Rattle.wasm_tree.specs.Numbers.{function_types, declared_locals, type_at}
use Rattle.wasm_tree.specs.Valid.{IsBody}
use Rattle.wasm_tree.specs.Typed.{Context}
use Rattle.wasm_tree.specs.declared.module.FuncBody.{FuncBody}
use Rattle.wasm_valid.specs.Checking.{Sequence, with_known, takes, opened, after_all, at_begin}

-- what code of a function of this type with these locals may name
abbrev pub context_of : Module → FuncType → List LocalRun → Context
context_of m type runs = record { functions = function_types m; locals = type.params ++ declared_locals runs; globals = m.globals; results = type.results }

-- an `if` opens its first arm
abbrev pub if_step : Option ValType → List Sequence → Option (List Sequence)
if_step type [] = None
if_step type (s ∷ ss) = option_map (λ known. opened type type true (with_known known s ∷ ss)) (takes (I32 ∷ []) [] s.known)

-- no instruction that opens or ends a sequence
abbrev pub IsPlain : Instr → Type 0
IsPlain (instr.Block type) = ⊥
IsPlain (instr.Loop type) = ⊥
IsPlain (instr.If type) = ⊥
IsPlain instr.Else = ⊥
IsPlain instr.End = ⊥
IsPlain _ = Unit {0}

-- the result of a function that gives one
abbrev pub result_one : List ValType → Option ValType
result_one [] = None
result_one (type ∷ types) = Some type

-- the pass over the code ends with no sequence open
abbrev pub IsAccepted : Module → FuncType → FuncBody → Type 0
IsAccepted m type body = after_all (context_of m type body.locals) (result_one type.results) (at_begin (result_one type.results)) body.code ≡ Some []

-- the function with this place among the module's own has a body of its type
abbrev pub IsTypedAt : Module → ℕ → Type 0
IsTypedAt m at = (type : ℕ) (body : FuncBody) → slice_get m.functions at ≡ Some type → slice_get m.codes at ≡ Some body → IsBody m (type_at m type) body
