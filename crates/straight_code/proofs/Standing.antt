-- Straight code in front of other code.
use Rattle.std.proofs.Common.{◌≡◌, List, [], ◌∷◌, ◌++◌, refl, sym, ap, ◌∙◌}
use Rattle.wasm_tree.specs.declared.instr.Instr.{Instr}
use Rattle.wasm_tree.specs.declared.instr.Instr.TheVariants as instr
use Rattle.wasm_tree.specs.Reduce.{Seq, Plain, Piece, onto, pieces}
use Rattle.wasm_steps.specs.Steps.{join}
use Rattle.straight_code.specs.Straight.{AreStraight, IsStraight, plains}

stands_first : (i : Instr) (code : List Instr) → IsStraight i → pieces (i ∷ code) ≡ onto (Plain i) (pieces code)
unfolding pieces
stands_first instr.Nop code h = refl
stands_first instr.Drop code h = refl
stands_first instr.Select code h = refl
stands_first (instr.LocalGet local) code h = refl
stands_first (instr.LocalSet local) code h = refl
stands_first (instr.LocalTee local) code h = refl
stands_first (instr.Load op place) code h = refl
stands_first (instr.Store op place) code h = refl
stands_first (instr.I32Const value) code h = refl
stands_first (instr.I64Const value) code h = refl
stands_first (instr.Test type) code h = refl
stands_first (instr.Compare type op) code h = refl
stands_first (instr.Binary type op) code h = refl
stands_first (instr.Convert op) code h = refl
stands_first _ code h = absurd h

onto_same : (ps : List Piece) → onto (λ s. s) ps ≡ ps
onto_same [] = refl
onto_same (p ∷ ps) = refl

onto_twice : (f g : Seq → Seq) (ps : List Piece) → onto f (onto g ps) ≡ onto (λ s. f (g s)) ps
onto_twice f g [] = refl
onto_twice f g (p ∷ ps) = refl

pub stands : (code rest : List Instr) → AreStraight code → pieces (code ++ rest) ≡ onto (join (plains code)) (pieces rest)
stands [] rest h = sym (onto_same (pieces rest))
stands (i ∷ code) rest h =
    stands_first i (code ++ rest) h.0
    ∙ ap (onto (Plain i)) (stands code rest h.1)
    ∙ onto_twice (Plain i) (join (plains code)) (pieces rest)
