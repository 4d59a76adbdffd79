-- What is prepared of a module before it runs, and where a call from outside begins: Core Specification 1.0, 4.5.5.
use Rattle.std.specs.Prelude.{◌≡◌, ℕ, List, [], ◌∷◌, length, slice_get, Contains, Option, Some, None}
use Rattle.wasm_tree.specs.declared.module.ExportKind.TheVariants as exported
use Rattle.wasm_tree.specs.declared.module.FuncType.{FuncType}
use Rattle.wasm_tree.specs.declared.module.FuncBody.{FuncBody}
use Rattle.wasm_tree.specs.declared.module.Module.{Module}
use Rattle.wasm_tree.specs.Instance.{funcs_of}
use Rattle.wasm_tree.specs.Valid.{Valid}
use Rattle.wasm_tree.specs.Numbers.{type_at, function_types, declared_locals}
use Rattle.wasm_tree.specs.Section.{CmajorSection}
use Rattle.wasm_sound.specs.Sound.{Scope}
use Rattle.wasm_sound.specs.Kinds.{AreOf}
use Rattle.wasm_sound.specs.Reached.{AreBounds, IsInstanceOf}
use Rattle.wasm_runner.specs.declared.function.Function.{Function}
use Rattle.wasm_runner.specs.Jumps.{AreJumps}

-- what the functions of a module share
abbrev pub scope_of : Module → Scope
scope_of m = record { funcs = funcs_of m; types = function_types m; vars = m.globals }

-- what is prepared of a function of the type of this number with this body
pub record IsFunctionOf (m : Module) (type : ℕ) (body : FuncBody) (function : Function) : Type 0 where
  pub params : function.params ≡ length (type_at m type).params
  pub results : function.results ≡ length (type_at m type).results
  pub locals : function.locals ≡ length (declared_locals body.locals)
  pub jumps : AreJumps body.code function.jumps.items

-- each of the module's own functions is prepared
abbrev pub ArePrepared : Module → List Function → Type 0
ArePrepared m functions =
    (n type : ℕ) (body : FuncBody) → slice_get m.functions n ≡ Some type → slice_get m.codes n ≡ Some body →
    (function : Function) × (slice_get functions n ≡ Some function) × IsFunctionOf m type body function

-- the arguments of a call from outside: one, or none
abbrev pub arguments_of : Option ℕ → List ℕ
arguments_of None = []
arguments_of (Some x) = x ∷ []

-- a call of this function from outside, with arguments of its types, where the instance has these globals and this memory
pub record IsCallOf (m : Module) (number : ℕ) (arguments globals memory : List ℕ) : Type 0 where
  pub name : List ℕ
  pub exported : Contains m.exports (record { name = name; kind = exported.Function number })
  pub type : FuncType
  pub has : slice_get (function_types m) number ≡ Some type
  pub given : AreOf type.params arguments
  pub instance : IsInstanceOf m globals memory

-- a valid module, prepared, with so many cells and marks that its calls stay within
pub record IsReady (m : Module) (functions : List Function) (cells marks : ℕ) : Type 0 where
  pub section : CmajorSection
  pub valid : Valid m section
  pub bounds : AreBounds m cells marks
  pub prepared : ArePrepared m functions
