-- Code that has types, and code that has none.
use Rattle.std.proofs.Common.{List, [], ◌∷◌, refl}
use Rattle.wasm_tree.specs.declared.module.ValType.{ValType}
use Rattle.wasm_tree.specs.declared.module.ValType.TheVariants.{I32}
use Rattle.wasm_tree.specs.Reduce.{pieces}
use Rattle.wasm_tree.specs.Typed.{Takes}
use Rattle.wasm_examples.specs.Types.{HasType, sum_code, choice_code, add_code}

-- one number, two, their sum, none
pub sum_typed : HasType sum_code [] []
unfolding pieces
sum_typed = (
  I32 ∷ [],
  record { below = []; had = refl; has = refl },
  (
    I32 ∷ I32 ∷ [],
    record { below = I32 ∷ []; had = refl; has = refl },
    (I32 ∷ [], record { below = []; had = refl; has = refl }, ([], (I32, record { below = []; had = refl; has = refl }), refl)),
  ),
)

-- each arm gives a number, and so the `if` does
pub choice_typed : HasType choice_code [] []
unfolding pieces
choice_typed = (
  I32 ∷ [],
  record { below = []; had = refl; has = refl },
  (
    [],
    refl,
    (I32 ∷ [], record { below = []; had = refl; has = refl }, refl),
    (I32 ∷ [], record { below = []; had = refl; has = refl }, refl),
    ([], (I32, record { below = []; had = refl; has = refl }), refl),
  ),
)

no_two : (after : List ValType) → Takes (I32 ∷ I32 ∷ []) (I32 ∷ []) [] after → ⊥
no_two after t = let e = t.had in cc

-- an addition takes two numbers
pub add_untyped : (after : List ValType) → HasType add_code [] after → ⊥
unfolding pieces
add_untyped after (between, takes, _) = no_two between takes
