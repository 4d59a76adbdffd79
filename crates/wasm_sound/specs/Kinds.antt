-- Which numbers are values of a type: Core Specification 1.0, 4.2.1. A value stands as its bits.
use Rattle.std.specs.Prelude.{ℕ, ◌<◌, ◌^◌, List, [], ◌∷◌}
use mir.Val.{bits}
use Rattle.wasm_tree.specs.declared.module.ValType.{ValType}
use Rattle.wasm_tree.specs.Meaning.{width}

abbrev pub IsOf : ValType → ℕ → Type 0
IsOf type x = x < 2 ^ bits (width type)

-- as many values, each of its type
abbrev pub AreOf : List ValType → List ℕ → Type 0
AreOf [] [] = Unit {0}
AreOf [] (x ∷ xs) = ⊥
AreOf (type ∷ types) [] = ⊥
AreOf (type ∷ types) (x ∷ xs) = IsOf type x × AreOf types xs
