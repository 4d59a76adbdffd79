-- Straight code put together.
use Rattle.std.proofs.Common.{◌≡◌, List, [], ◌∷◌, ◌++◌, refl, ap}
use Rattle.std.specs.List.{AllByRecursion}
use Rattle.wasm_tree.specs.declared.instr.Instr.{Instr}
use Rattle.wasm_tree.specs.Reduce.{Plain}
use Rattle.wasm_steps.specs.Steps.{join}
use Rattle.straight_code.specs.Straight.{plains}

pub plains_append : (a b : List Instr) → join (plains a) (plains b) ≡ plains (a ++ b)
plains_append [] b = refl
plains_append (i ∷ a) b = ap (Plain i) (plains_append a b)

pub all_append : (P : Instr → Type 0) (a b : List Instr) → AllByRecursion P a → AllByRecursion P b → AllByRecursion P (a ++ b)
all_append P [] b h k = k
all_append P (i ∷ a) b h k = (h.0, all_append P a b h.1 k)
