-- What stands at a place of code, by the instruction there.
use Rattle.std.proofs.Common.{◌≡◌, ℕ, suc, ◌+◌, ◌<◌, List, [], ◌∷◌, length, Option, Some, refl, sym, ap, ◌∙◌, subst, arith, Bool, true, false, drop, drop-cons, inl, inr, get_or}
use Rattle.std.proofs.lemmas.Bool.{cases_lt}
use Rattle.std.proofs.lemmas.List.{drop_all}
use Rattle.std.specs.Prelude.{slice_get, if◌then◌else◌}
use Rattle.std.proofs.lemmas.Option.{slice_get-get_or, slice_get_within, get_or_from_slice_get}
use Rattle.wasm_tree.specs.declared.module.ValType.{ValType}
use Rattle.wasm_tree.specs.declared.instr.Instr.{Instr}
use Rattle.wasm_tree.specs.declared.instr.Instr.TheVariants as instr
use Rattle.wasm_tree.specs.Reduce.{Seq, Nil, Plain, InBlock, InLoop, InIf, Piece, pieces, onto, closing, closing_if, start_piece}
use Rattle.wasm_runner.specs.Jumps.{Stands, past_arm, beyond, otherwise}

-- instructions that open or end no sequence
abbrev pub IsPlain : Instr → Type 0
IsPlain (instr.Block r) = ⊥
IsPlain (instr.Loop r) = ⊥
IsPlain (instr.If r) = ⊥
IsPlain instr.Else = ⊥
IsPlain instr.End = ⊥
IsPlain _ = Unit {0}

pub drop_here : (code : List Instr) (at : ℕ) (i : Instr) → slice_get code at ≡ Some i → drop at code ≡ i ∷ drop (at + 1) code
drop_here code at i h =
    let w = slice_get_within code at i h in
    let e : suc at ≡ at + 1 = omega arith in
    drop-cons code at i w ∙ ap (λ x. x ∷ drop (suc at) code) (get_or_from_slice_get code at i i h) ∙ ap (λ n. i ∷ drop n code) e

pub plain_pieces : (i : Instr) (code : List Instr) → IsPlain i → pieces (i ∷ code) ≡ onto (Plain i) (pieces code)
unfolding pieces
plain_pieces (instr.Block r) code h = absurd h
plain_pieces (instr.Loop r) code h = absurd h
plain_pieces (instr.If r) code h = absurd h
plain_pieces instr.Else code h = absurd h
plain_pieces instr.End code h = absurd h
plain_pieces _ code h = refl

pub block_pieces : (r : Option ValType) (code : List Instr) → pieces (instr.Block r ∷ code) ≡ closing (InBlock r) (pieces code)
unfolding pieces
block_pieces r code = refl

pub loop_pieces : (r : Option ValType) (code : List Instr) → pieces (instr.Loop r ∷ code) ≡ closing (InLoop r) (pieces code)
unfolding pieces
loop_pieces r code = refl

pub if_pieces : (r : Option ValType) (code : List Instr) → pieces (instr.If r ∷ code) ≡ closing_if (InIf r) (pieces code)
unfolding pieces
if_pieces r code = refl

pub else_pieces : (code : List Instr) → pieces (instr.Else ∷ code) ≡ start_piece true (pieces code)
unfolding pieces
else_pieces code = refl

pub end_pieces : (code : List Instr) → pieces (instr.End ∷ code) ≡ start_piece false (pieces code)
unfolding pieces
end_pieces code = refl

pub no_pieces : pieces [] ≡ []
unfolding pieces
no_pieces = refl

-- from what stands there to the form of the sequence
pub from_onto : (f : Seq → Seq) (s : Seq) (ss : List Seq) (ps : List Piece) → Stands (s ∷ ss) (onto f ps) → (t : Seq) × (s ≡ f t) × Stands (t ∷ ss) ps
from_onto f s ss [] h = absurd h
from_onto f s ss (p ∷ ps) h = (p.rest, sym h.0, (refl, h.1))

-- a block: its body, and what follows it
pub from_closing : (f : Seq → Seq → Seq) (s : Seq) (ss : List Seq) (ps : List Piece) → Stands (s ∷ ss) (closing f ps) →
    (body rest : Seq) × (s ≡ f body rest) × Stands (body ∷ rest ∷ ss) ps × Stands (rest ∷ ss) (drop 1 ps)
from_closing f s ss [] h = absurd h
from_closing f s ss (body ∷ ps) h = arms body.arm refl ps h
  where
    arms : (b : Bool) → body.arm ≡ b → (ps : List Piece) → Stands (s ∷ ss) (if b then [] else onto (f body.rest) ps) →
        (inner rest : Seq) × (s ≡ f inner rest) × Stands (inner ∷ rest ∷ ss) (body ∷ ps) × Stands (rest ∷ ss) ps
    arms true e ps h = absurd h
    arms false e ps h =
        let t = from_onto (f body.rest) s ss ps h in
        (body.rest, t.0, t.1, (refl, (tt, subst (λ b. Stands (t.0 ∷ ss) (if b then drop 1 ps else ps)) (sym e) t.2)), t.2)

-- an `if`: its arms, and what follows it
pub from_if : (f : Seq → Seq → Seq → Seq) (s : Seq) (ss : List Seq) (ps : List Piece) → Stands (s ∷ ss) (closing_if f ps) →
    (first second rest : Seq) × (s ≡ f first second rest) × Stands (first ∷ rest ∷ ss) ps × Stands (second ∷ rest ∷ ss) (otherwise ps) × Stands (rest ∷ ss) (beyond ps)
from_if f s ss [] h = absurd h
from_if f s ss (body ∷ ps) h = arms body.arm refl ps h
  where
    arms : (b : Bool) → body.arm ≡ b → (ps : List Piece) → Stands (s ∷ ss) (if b then closing (f body.rest) ps else onto (f body.rest Nil) ps) →
        (first second rest : Seq) × (s ≡ f first second rest) × Stands (first ∷ rest ∷ ss) (body ∷ ps) × Stands (second ∷ rest ∷ ss) (otherwise (body ∷ ps)) × Stands (rest ∷ ss) (beyond (body ∷ ps))
    arms true e ps h =
        let t = from_closing (f body.rest) s ss ps h in
        let past : past_arm body ps ≡ drop 1 ps = ap (λ b. if b then drop 1 ps else ps) e in
        let other : otherwise (body ∷ ps) ≡ ps = ap (λ b. if b then ps else record { arm = false; rest = Nil } ∷ ps) e in
        (body.rest, t.0, t.1, t.2, (refl, (tt, subst (Stands (t.1 ∷ ss)) (sym past) t.4)), subst (Stands (t.0 ∷ t.1 ∷ ss)) (sym other) t.3, subst (Stands (t.1 ∷ ss)) (sym past) t.4)
    arms false e ps h =
        let t = from_onto (f body.rest Nil) s ss ps h in
        let past : past_arm body ps ≡ ps = ap (λ b. if b then drop 1 ps else ps) e in
        let other : otherwise (body ∷ ps) ≡ record { arm = false; rest = Nil } ∷ ps = ap (λ b. if b then ps else record { arm = false; rest = Nil } ∷ ps) e in
        (body.rest, Nil, t.0, t.1, (refl, (tt, subst (Stands (t.0 ∷ ss)) (sym past) t.2)), subst (Stands (Nil ∷ t.0 ∷ ss)) (sym other) (refl, (tt, t.2)), subst (Stands (t.0 ∷ ss)) (sym past) t.2)

-- an end, and the end of a first arm
pub from_end : (s : Seq) (ss : List Seq) (ps : List Piece) → Stands (s ∷ ss) (start_piece false ps) → (s ≡ Nil) × Stands ss ps
from_end s ss ps h = (sym h.0, h.1.1)

pub from_else : (s : Seq) (ss : List Seq) (ps : List Piece) → Stands (s ∷ ss) (start_piece true ps) → (s ≡ Nil) × Stands ss (drop 1 ps)
from_else s ss ps h = (sym h.0, h.1.1)

-- where a sequence is left an instruction stands
pub within_code : (code : List Instr) (at : ℕ) (s : Seq) (ss : List Seq) → Stands (s ∷ ss) (pieces (drop at code)) → at < length code
within_code code at s ss h = elim (cases_lt at (length code)) [
  | inl l ↦ l
  | inr g ↦ absurd (subst (Stands (s ∷ ss)) (ap pieces (drop_all at code g) ∙ no_pieces) h)
]

-- an instruction that was read
pub code_here : (code : List Instr) (at : ℕ) (r i : Instr) → at < length code → r ≡ get_or code at r → r ≡ i → slice_get code at ≡ Some i
code_here code at r i h e g = slice_get-get_or code at r h ∙ ap Some (sym e ∙ g)
