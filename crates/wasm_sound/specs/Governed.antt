-- Typed code under rules: wherever code is reached, what stands there, which functions it calls and which constants it
-- has are as a rule allows. Core Specification 1.0, 3.3 and the appendix's "Soundness", with the bounds on what a run
-- holds that are this project's own.
use Rattle.std.specs.Prelude.{◌≡◌, ◌≤◌, ◌<◌, ◌+◌, ℕ, suc, List, [], ◌∷◌, ◌++◌, length, map, reverse, slice_get, Some}
use Rattle.std.specs.List.{AllByRecursion}
use Rattle.std.specs.Int.{w32, w64, cast_unsigned}
use Rattle.wasm_tree.specs.declared.module.ValType.{ValType}
use Rattle.wasm_tree.specs.declared.module.ValType.TheVariants.{I32, I64}
use Rattle.wasm_tree.specs.declared.module.FuncType.{FuncType}
use Rattle.wasm_tree.specs.declared.instr.Instr.{Instr}
use Rattle.wasm_tree.specs.declared.instr.Instr.TheVariants as instr
use Rattle.wasm_tree.specs.Numbers.{emit_type}
use Rattle.wasm_tree.specs.Reduce.{Seq, Nil, Plain, InBlock, InLoop, InIf, Func, Label, CallFrame, Config, Step, To, Asks, Ends, Traps, Sticks}
use Rattle.wasm_tree.specs.Typed.{Context, Has, Applies, result_types}
use Rattle.wasm_sound.specs.Kinds.{IsOf, AreOf}
use Rattle.wasm_sound.specs.Sound.{Scope, context}

pub record Rules : Type 1 where
  -- the function may hold so many locals and operands, with so many labels, its own among them
  pub Room : ℕ → ℕ → ℕ → Type 0
  -- the function may call the other
  pub Calls : ℕ → ℕ → Type 0
  -- the function may be called from outside
  pub Begins : ℕ → Type 0

-- the function may have this instruction
abbrev pub Permits : Rules → ℕ → Instr → Type 0
Permits rules f (instr.Call (suc g)) = rules.Calls f (suc g)
Permits rules f (instr.I32Const value) = IsOf I32 (cast_unsigned w32 value)
Permits rules f (instr.I64Const value) = IsOf I64 (cast_unsigned w64 value)
Permits rules f _ = Unit {0}

-- nothing is asked of what comes after these four, since it isn't reached
abbrev pub Next : Instr → Type 0 → Type 0
Next instr.Unreachable reached = Unit {0}
Next (instr.Br label) reached = Unit {0}
Next (instr.BrTable table) reached = Unit {0}
Next instr.Return reached = Unit {0}
Next _ reached = reached

-- `Typed` under rules, over so many locals and operands of the sequences around
abbrev pub Governed : Rules → ℕ → Context → List (List ValType) → ℕ → Seq → List ValType → List ValType → Type 0
Governed rules f c labels low Nil before after = rules.Room f (low + length before) (length labels) × (before ≡ after)
Governed rules f c labels low (Plain i s) before after =
    rules.Room f (low + length before) (length labels) × Permits rules f i
    × ((between : List ValType) × Applies c labels i before between × Next i (Governed rules f c labels low s between after))
Governed rules f c labels low (InBlock result body s) before after =
    rules.Room f (low + length before) (length labels) × Governed rules f c (result_types result ∷ labels) (low + length before) body [] (result_types result)
    × Governed rules f c labels low s (result_types result ++ before) after
Governed rules f c labels low (InLoop result body s) before after =
    rules.Room f (low + length before) (length labels) × Governed rules f c ([] ∷ labels) (low + length before) body [] (result_types result)
    × Governed rules f c labels low s (result_types result ++ before) after
Governed rules f c labels low (InIf result first second s) before after =
    rules.Room f (low + length before) (length labels)
    × ((below : List ValType) × (before ≡ I32 ∷ below) × Governed rules f c (result_types result ∷ labels) (low + length below) first [] (result_types result)
    × Governed rules f c (result_types result ∷ labels) (low + length below) second [] (result_types result) × Governed rules f c labels low s (result_types result ++ below) after)

-- ---- functions

-- the function of this number has this type
pub record IsGovernedFunc (rules : Rules) (scope : Scope) (number : ℕ) (type : FuncType) (f : Func) : Type 0 where
  pub declared : List ValType
  pub params : f.params ≡ length type.params
  pub results : f.results ≡ length type.results
  pub locals : f.locals ≡ length declared
  pub few : length type.results ≤ 1
  pub typed : Governed rules number (context scope (type.params ++ declared) type.results) (reverse type.results ∷ []) (length (type.params ++ declared)) f.body [] (reverse type.results)

-- function 0 is the imported `emit`, and each of the others is there and has its type
pub record IsGovernedScope (rules : Rules) (scope : Scope) : Type 0 where
  pub emit : slice_get scope.types 0 ≡ Some emit_type
  pub own : (n : ℕ) (type : FuncType) → slice_get scope.types (suc n) ≡ Some type → (f : Func) × (slice_get scope.funcs n ≡ Some f) × IsGovernedFunc rules scope (suc n) type f

-- ---- configurations

-- an open block: after its end there are operands of the types `after`, and in the sequence around it of `next`
pub record IsGovernedLabel (rules : Rules) (f : ℕ) (c : Context) (types : List ValType) (outer : List (List ValType)) (label : Label) (after next : List ValType) (low around : ℕ) : Type 0 where
  pub below : List ValType
  pub held : AreOf below label.below
  pub arity : length types ≡ label.arity
  pub few : length types ≤ 1
  pub over : low ≡ around + length below
  pub rest : Governed rules f c outer around label.rest (after ++ below) next
  pub target : Governed rules f c outer around label.target (types ++ below) next

-- a branch to the function's own label may leave operands below its results
abbrev pub AreGovernedLabels : Rules → ℕ → Context → List (List ValType) → List Label → List ValType → ℕ → Type 0
AreGovernedLabels rules f c [] labels after low = ⊥
AreGovernedLabels rules f c (types ∷ outer) [] after low = (types ≡ reverse c.results) × (outer ≡ []) × Has (reverse c.results) after × (low ≡ length c.locals)
AreGovernedLabels rules f c (types ∷ outer) (label ∷ labels) after low =
    (next : List ValType) × (around : ℕ) × IsGovernedLabel rules f c types outer label after next low around × AreGovernedLabels rules f c outer labels next around

-- a caller that waits for results of these types from the function of this number
pub record IsGovernedFrame (rules : Rules) (scope : Scope) (called : ℕ) (given : List ValType) (frame : CallFrame) : Type 0 where
  pub number : ℕ
  pub calls : rules.Calls number called
  pub locals : List ValType
  pub results : List ValType
  pub few : length results ≤ 1
  pub arity : frame.arity ≡ length given
  pub below : List ValType
  pub held : AreOf below frame.values
  pub own : AreOf locals frame.locals
  pub labels : List (List ValType)
  pub low : ℕ
  pub after : List ValType
  pub typed : Governed rules number (context scope locals results) labels low frame.rest (reverse given ++ below) after
  pub open_labels : AreGovernedLabels rules number (context scope locals results) labels frame.labels after low

abbrev pub AreGovernedFrames : Rules → Scope → ℕ → List ValType → List CallFrame → Type 0
AreGovernedFrames rules scope called given [] = rules.Begins called
AreGovernedFrames rules scope called given (frame ∷ frames) = (is : IsGovernedFrame rules scope called given frame) × AreGovernedFrames rules scope is.number is.results frames

-- a memory of so many bytes
pub record HasBytes (size : ℕ) (memory : List ℕ) : Type 0 where
  pub length_is : length memory ≡ size
  pub bytes : AllByRecursion (λ byte. byte < 256) memory

-- what typed code comes to
pub record IsGoverned (rules : Rules) (scope : Scope) (size : ℕ) (c : Config) : Type 0 where
  pub number : ℕ
  pub locals : List ValType
  pub results : List ValType
  pub few : length results ≤ 1
  pub operands : List ValType
  pub held : AreOf operands c.state.values
  pub own : AreOf locals c.state.locals
  pub shared : AreOf (map (λ var. var.ty) scope.vars) c.state.globals
  pub memory : HasBytes size c.state.memory
  pub labels : List (List ValType)
  pub low : ℕ
  pub after : List ValType
  pub typed : Governed rules number (context scope locals results) labels low c.code operands after
  pub open_labels : AreGovernedLabels rules number (context scope locals results) labels c.labels after low
  pub callers : AreGovernedFrames rules scope number results c.frames

-- the reduction isn't stuck, what it leads to is governed too, and where it ends, globals and memory are as before
abbrev pub KeepsRules : Rules → Scope → ℕ → Step → Type 0
KeepsRules rules scope size (To next) = IsGoverned rules scope size next
KeepsRules rules scope size (Asks number memory next) = IsGoverned rules scope size next
KeepsRules rules scope size (Ends globals memory) = AreOf (map (λ var. var.ty) scope.vars) globals × HasBytes size memory
KeepsRules rules scope size Traps = Unit {0}
KeepsRules rules scope size Sticks = ⊥
