-- Which snapshots belong to a module: docs/MODULE.md, "Stopped runs".
use Rattle.std.specs.Prelude.{◌≡◌, List, [], ◌∷◌, ◌++◌, length, if◌then◌else◌, ℤ, FitsSigned}
use Rattle.std.specs.Int.{w32, w64}
use Rattle.cm_base.specs.declared.host.HostEnd.{HostEnd}
use Rattle.cm_base.specs.declared.host.Scalar.{Scalar}
use Rattle.cm_base.specs.declared.play.Snapshot.{Snapshot}
use Rattle.cm_base.specs.Scripts.{HasShape}
use Rattle.wasm_tree.specs.declared.module.ValType.{ValType}
use Rattle.wasm_tree.specs.declared.module.ValType.TheVariants.{I32, I64}
use Rattle.wasm_tree.specs.declared.module.GlobalVar.{GlobalVar}
use Rattle.wasm_tree.specs.declared.module.Module.{Module}
use Rattle.wasm_tree.specs.Section.{CmajorSection, ends_of}
use Rattle.wasm_tree.specs.Slots.{is_value_input}
use Rattle.wasm_tree.specs.Valid.{memory_size}

-- the signed number is a value of the type
abbrev pub IsNumberOf : ValType → ℤ → Type 0
IsNumberOf I32 z = FitsSigned w32 z
IsNumberOf I64 z = FitsSigned w64 z

-- as many numbers, each a value of its type
abbrev pub AreNumbersOf : List ValType → List ℤ → Type 0
AreNumbersOf [] [] = Unit {0}
AreNumbersOf [] (z ∷ zs) = ⊥
AreNumbersOf (type ∷ types) [] = ⊥
AreNumbersOf (type ∷ types) (z ∷ zs) = IsNumberOf type z × AreNumbersOf types zs

-- the types of the mutable globals, in order
abbrev pub kept_types : List GlobalVar → List ValType
kept_types [] = []
kept_types (var ∷ vars) = if var.mutable then var.ty ∷ kept_types vars else kept_types vars

-- the kinds of the scalars of the value inputs, in declaration order
abbrev pub kept_kinds : List HostEnd → List Scalar
kept_kinds [] = []
kept_kinds (end ∷ ends) = if is_value_input end then end.shape ++ kept_kinds ends else kept_kinds ends

-- the memory has the module's size, there is a number of its type for each mutable global, and a scalar of its kind
-- for each scalar of a value input
pub record Fits (m : Module) (section : CmajorSection) (snapshot : Snapshot) : Type 0 where
  pub memory : length snapshot.memory ≡ memory_size m.memory
  pub globals : AreNumbersOf (kept_types m.globals) snapshot.globals
  pub current : HasShape (kept_kinds (ends_of section)) snapshot.current
