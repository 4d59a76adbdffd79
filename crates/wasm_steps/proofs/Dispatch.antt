-- Nested blocks around a branch by a table, which selects where code goes on.
use Rattle.std.proofs.Common.{◌≡◌, ℕ, ◌+◌, List, [], ◌∷◌, ◌++◌, length, refl, ap, ◌∙◌, arith, Some, None, unwrap_or}
use Rattle.std.specs.Prelude.{slice_get}
use Rattle.wasm_tree.specs.declared.instr.LabelTable.{LabelTable}
use Rattle.wasm_tree.specs.declared.instr.Instr.TheVariants as instr
use Rattle.wasm_tree.specs.Reduce.{Seq, Nil, Plain, InBlock, Func, State, Label, CallFrame, To, at, with_values, push, branch, act}
use Rattle.wasm_steps.specs.Steps.{Leads, Meets, branching, Place, quiet, nest, within, open_block}
use Rattle.wasm_steps.proofs.Compose.{stay, andthen, take_step, recount}
use Rattle.wasm_steps.proofs.Instructions.{local_get}
use Rattle.wasm_steps.proofs.Control.{br_table}

-- labels of blocks one within another
pub within-append : (front back : List Seq) (labels : List Label) → within (front ++ back) labels ≡ within front (within back labels)
within-append [] back labels = refl
within-append (code ∷ front) back labels = ap (λ ls. open_block code ∷ ls) (within-append front back labels)

-- all blocks are entered, one reduction each
pub nest_entered : {funcs : List Func} (codes : List Seq) (inner : Seq) (st : State) (labels : List Label) (frames : List CallFrame) →
    Leads funcs (length codes) [] (at (nest codes inner) (with_values st []) labels frames) (at inner (with_values st []) (within codes labels) frames)
unfolding act
nest_entered [] inner st labels frames = stay _
nest_entered (code ∷ codes) inner st labels frames =
    recount (let e : length codes + 1 ≡ length (code ∷ codes) = omega arith in e)
    (take_step (nest_entered codes (InBlock None inner code) st labels frames) refl)

-- a branch out of nested blocks goes on with what follows the block, within those around it
pub branch_nested : (front : List Seq) (code : Seq) (back : List Seq) (st : State) (labels : List Label) (frames : List CallFrame) →
    branch (length front) (with_values st []) (within (front ++ code ∷ back) labels) frames ≡ To (at code (with_values st []) (within back labels) frames)
branch_nested [] code back st labels frames = refl
branch_nested (c ∷ front) code back st labels frames = branch_nested front code back st labels frames

-- A local selects among the codes that follow nested blocks, and the block that ends just before it is
-- number 0: one reduction for each block, the `local.get` and the `br_table`.
pub dispatch : {funcs : List Func} (front : List Seq) (code : Seq) (back : List Seq) (table : LabelTable) (local x : ℕ) (st : State) (labels : List Label) (frames : List CallFrame) →
    slice_get st.locals local ≡ Some x → unwrap_or (slice_get table.labels x) table.other ≡ length front →
    Leads funcs (length (front ++ code ∷ back) + 2) []
    (at (nest (front ++ code ∷ back) (Plain (instr.LocalGet local) (Plain (instr.BrTable table) Nil))) (with_values st []) labels frames)
    (at code (with_values st []) (within back labels) frames)
dispatch front code back table local x st labels frames found chosen =
    let codes : List Seq = front ++ code ∷ back in
    let selector : Seq = Plain (instr.LocalGet local) (Plain (instr.BrTable table) Nil) in
    let inside : Place = record { rest = Plain (instr.BrTable table) Nil; labels = within codes labels; frames = frames } in
    let last : Place = record { rest = Nil; labels = within codes labels; frames = frames } in
    let chosen_branch : Meets _ (Plain (instr.BrTable table) Nil) 0 quiet (push x (with_values st [])) (branching (length front) (with_values st [])) =
    br_table (with_values st []) table x (length front) chosen in
    recount (let e : length codes + 1 + 0 + 1 ≡ length codes + 2 = omega arith in e)
    (take_step
    (andthen (andthen (nest_entered codes selector st labels frames) ((local_get (with_values st []) local x found).here inside)) (chosen_branch.leads last))
    (chosen_branch.reduces last ∙ branch_nested front code back st labels frames))
