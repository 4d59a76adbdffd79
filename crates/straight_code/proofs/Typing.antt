-- The types of straight code put together.
use Rattle.std.proofs.Common.{List, [], ◌∷◌, ◌++◌, refl, sym, subst}
use Rattle.wasm_tree.specs.declared.module.ValType.{ValType}
use Rattle.wasm_tree.specs.declared.instr.Instr.{Instr}
use Rattle.wasm_tree.specs.Typed.{Context, Takes, Typed}
use Rattle.straight_code.specs.Straight.{plains}

pub typed_append : (c : Context) (labels : List (List ValType)) (a b : List Instr) (x y z : List ValType) →
    Typed c labels (plains a) x y → Typed c labels (plains b) y z → Typed c labels (plains (a ++ b)) x z
typed_append c labels [] b x y z h k = subst (λ (w : List ValType). Typed c labels (plains b) w z) (sym h) k
typed_append c labels (i ∷ a) b x y z h k = (h.0, h.1, typed_append c labels a b h.0 y z h.2 k)

-- takes some operands and leaves others
pub takes : (ins outs below : List ValType) → Takes ins outs (ins ++ below) (outs ++ below)
takes ins outs below = record { below = below; had = refl; has = refl }
