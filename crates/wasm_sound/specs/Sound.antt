-- Which configurations typed code comes to: Core Specification 1.0, 3.3 and the appendix's "Soundness". Each operand
-- and local has its type, what is left of each open sequence is typed by what it finds, and so it is for the callers.
use Rattle.std.specs.Prelude.{◌≡◌, ◌≤◌, ℕ, suc, List, [], ◌∷◌, ◌++◌, length, map, reverse, slice_get, Some}
use Rattle.wasm_tree.specs.declared.module.ValType.{ValType}
use Rattle.wasm_tree.specs.declared.module.FuncType.{FuncType}
use Rattle.wasm_tree.specs.declared.module.GlobalVar.{GlobalVar}
use Rattle.wasm_tree.specs.Numbers.{emit_type}
use Rattle.wasm_tree.specs.Reduce.{Func, Label, CallFrame, Config}
use Rattle.wasm_tree.specs.Typed.{Context, Typed}
use Rattle.wasm_sound.specs.Kinds.{AreOf}

-- what the functions of a module share: its own functions as the machine runs them, the types of all functions by
-- number, and the globals
pub record Scope : Type 0 where
  pub funcs : List Func
  pub types : List FuncType
  pub vars : List GlobalVar

abbrev pub context : Scope → (locals results : List ValType) → Context
context scope locals results = record { functions = scope.types; locals = locals; globals = scope.vars; results = results }

-- a function has this type
pub record IsFunc (scope : Scope) (type : FuncType) (f : Func) : Type 0 where
  pub declared : List ValType
  pub params : f.params ≡ length type.params
  pub results : f.results ≡ length type.results
  pub locals : f.locals ≡ length declared
  pub few : length type.results ≤ 1
  pub typed : Typed (context scope (type.params ++ declared) type.results) (reverse type.results ∷ []) f.body [] (reverse type.results)

-- function 0 is the imported `emit`, and each of the others is there and has its type
pub record IsScope (scope : Scope) : Type 0 where
  pub emit : slice_get scope.types 0 ≡ Some emit_type
  pub own : (n : ℕ) (type : FuncType) → slice_get scope.types (suc n) ≡ Some type → (f : Func) × (slice_get scope.funcs n ≡ Some f) × IsFunc scope type f

-- an open block: after its end there are operands of the types `after`, and in the sequence around it of `next`
pub record IsLabel (c : Context) (types : List ValType) (outer : List (List ValType)) (label : Label) (after next : List ValType) : Type 0 where
  pub below : List ValType
  pub held : AreOf below label.below
  pub arity : length types ≡ label.arity
  pub few : length types ≤ 1
  pub rest : Typed c outer label.rest (after ++ below) next
  pub target : Typed c outer label.target (types ++ below) next

abbrev pub AreLabels : Context → List (List ValType) → List Label → List ValType → Type 0
AreLabels c [] labels after = ⊥
AreLabels c (types ∷ outer) [] after = (types ≡ reverse c.results) × (outer ≡ []) × (after ≡ reverse c.results)
AreLabels c (types ∷ outer) (label ∷ labels) after = (next : List ValType) × IsLabel c types outer label after next × AreLabels c outer labels next

-- a caller that waits for results of these types
pub record IsFrame (scope : Scope) (given : List ValType) (frame : CallFrame) : Type 0 where
  pub locals : List ValType
  pub results : List ValType
  pub few : length results ≤ 1
  pub arity : frame.arity ≡ length given
  pub below : List ValType
  pub held : AreOf below frame.values
  pub own : AreOf locals frame.locals
  pub labels : List (List ValType)
  pub after : List ValType
  pub typed : Typed (context scope locals results) labels frame.rest (reverse given ++ below) after
  pub open_labels : AreLabels (context scope locals results) labels frame.labels after

abbrev pub AreFrames : Scope → List ValType → List CallFrame → Type 0
AreFrames scope given [] = Unit {0}
AreFrames scope given (frame ∷ frames) = (is : IsFrame scope given frame) × AreFrames scope is.results frames

-- a memory has at most 256 pages
abbrev pub most_memory : ℕ
most_memory = 16777216

-- what typed code comes to
pub record IsSound (scope : Scope) (c : Config) : Type 0 where
  pub locals : List ValType
  pub results : List ValType
  pub few : length results ≤ 1
  pub operands : List ValType
  pub held : AreOf operands c.state.values
  pub own : AreOf locals c.state.locals
  pub shared : AreOf (map (λ var. var.ty) scope.vars) c.state.globals
  pub memory : length c.state.memory ≤ most_memory
  pub labels : List (List ValType)
  pub after : List ValType
  pub typed : Typed (context scope locals results) labels c.code operands after
  pub open_labels : AreLabels (context scope locals results) labels c.labels after
  pub callers : AreFrames scope results c.frames
