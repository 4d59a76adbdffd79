-- The ends ahead of a place are right, and so are the jumps that are made from them.
use Rattle.std.proofs.Common.{◌≡◌, ◌≢◌, ℕ, ◌+◌, ◌-◌, ◌<◌, List, [], ◌∷◌, length, Some, refl, sym, ap, ◌∙◌, subst, arith, Bool, true, false, drop, ⊎_elim, get_or}
use Rattle.std.specs.Prelude.{slice_get, slice_set, if◌then◌else◌}
use Rattle.std.proofs.lemmas.List.{drop-drop, drop_all, length-set, get_or-set_same, get_or-set_other}
use Rattle.std.proofs.lemmas.Bool.{cases_lt}
use Rattle.std.proofs.lemmas.Option.{slice_get_within, slice_get-get_or, get_or_from_slice_get}
use Rattle.wasm_tree.specs.declared.instr.Instr.{Instr}
use Rattle.wasm_tree.specs.declared.instr.Instr.TheVariants as instr
use Rattle.wasm_tree.specs.Reduce.{Seq, Nil, Plain, InBlock, InLoop, InIf, Piece, pieces, onto, closing, closing_if, start_piece}
use Rattle.wasm_runner.specs.declared.jump.Jump.{Jump}
use Rattle.wasm_runner.specs.declared.jump.Ending.{Ending}
use Rattle.wasm_runner.specs.Jumps.{beyond, otherwise, IsJump, AreJumps}
use Rattle.wasm_runner.specs.Ends.{cut_block, cut_if, after_of, jump_if, jump_of, ends_step, ends_at, AreMade}
use Rattle.wasm_runner.proofs.Places.{drop_here, plain_pieces, block_pieces, loop_pieces, if_pieces, else_pieces, end_pieces, no_pieces}

record EndOk (code : List Instr) (e : Ending) (arm : Bool) (ps : List Piece) : Type 0 where
  mark : e.arm ≡ arm
  rest : pieces (drop e.after code) ≡ ps
  itself : pieces (drop (e.after - 1) code) ≡ start_piece arm ps

abbrev EndsOk : List Instr → List Ending → List Piece → Type 0
EndsOk code [] [] = Unit {0}
EndsOk code [] (p ∷ ps) = ⊥
EndsOk code (e ∷ es) [] = ⊥
EndsOk code (e ∷ es) (p ∷ ps) = EndOk code e p.arm ps × EndsOk code es ps

push_ok : (code : List Instr) (es : List Ending) (ps : List Piece) (f : Seq → Seq) → EndsOk code es ps → EndsOk code es (onto f ps)
push_ok code [] [] f h = tt
push_ok code [] (p ∷ ps) f h = absurd h
push_ok code (e ∷ es) [] f h = absurd h
push_ok code (e ∷ es) (p ∷ ps) f h = h

block_ok : (code : List Instr) (es : List Ending) (ps : List Piece) (f : Seq → Seq → Seq) → EndsOk code es ps → EndsOk code (cut_block es) (closing f ps)
block_ok code [] [] f h = tt
block_ok code [] (p ∷ ps) f h = absurd h
block_ok code (e ∷ es) [] f h = absurd h
block_ok code (e ∷ es) (p ∷ ps) f h = arms e.arm p.arm h.0.mark
  where
    arms : (a b : Bool) → a ≡ b → EndsOk code (if a then [] else es) (if b then [] else onto (f p.rest) ps)
    arms true true m = tt
    arms false false m = push_ok code es ps (f p.rest) h.1
    arms true false m = absurd (cc)
    arms false true m = absurd (cc)

if_ok : (code : List Instr) (es : List Ending) (ps : List Piece) (f : Seq → Seq → Seq → Seq) → EndsOk code es ps → EndsOk code (cut_if es) (closing_if f ps)
if_ok code [] [] f h = tt
if_ok code [] (p ∷ ps) f h = absurd h
if_ok code (e ∷ es) [] f h = absurd h
if_ok code (e ∷ es) (p ∷ ps) f h = arms e.arm p.arm h.0.mark
  where
    arms : (a b : Bool) → a ≡ b → EndsOk code (if a then cut_block es else es) (if b then closing (f p.rest) ps else onto (f p.rest Nil) ps)
    arms true true m = block_ok code es ps (f p.rest) h.1
    arms false false m = push_ok code es ps (f p.rest Nil) h.1
    arms true false m = absurd (cc)
    arms false true m = absurd (cc)

after_it : (code : List Instr) (p : ℕ) {i : Instr} (l : List Instr) → drop p code ≡ i ∷ l → drop (p + 1) code ≡ l
after_it code p l h = sym (drop-drop 1 p code) ∙ ap (drop 1) h

start_ok : (code : List Instr) (p : ℕ) (i : Instr) (arm : Bool) (l : List Instr) → drop p code ≡ i ∷ l → pieces (i ∷ l) ≡ start_piece arm (pieces l) →
    EndOk code (record { after = p + 1; arm = arm }) arm (pieces l)
start_ok code p i arm l h q =
    let e : p + 1 - 1 ≡ p = omega arith in
    record { mark = refl; rest = ap pieces (after_it code p l h); itself = ap (λ n. pieces (drop n code)) e ∙ ap pieces h ∙ q }

ends_ok : (code l : List Instr) (p : ℕ) → drop p code ≡ l → EndsOk code (ends_at p l) (pieces l)
ends_ok code [] p h = subst (EndsOk code []) (sym no_pieces) tt
ends_ok code (instr.Block r ∷ l) p h =
    subst (EndsOk code (cut_block (ends_at (p + 1) l))) (sym (block_pieces r l)) (block_ok code _ _ (InBlock r) (ends_ok code l (p + 1) (after_it code p l h)))
ends_ok code (instr.Loop r ∷ l) p h =
    subst (EndsOk code (cut_block (ends_at (p + 1) l))) (sym (loop_pieces r l)) (block_ok code _ _ (InLoop r) (ends_ok code l (p + 1) (after_it code p l h)))
ends_ok code (instr.If r ∷ l) p h =
    subst (EndsOk code (cut_if (ends_at (p + 1) l))) (sym (if_pieces r l)) (if_ok code _ _ (InIf r) (ends_ok code l (p + 1) (after_it code p l h)))
ends_ok code (instr.Else ∷ l) p h =
    subst (EndsOk code (ends_at p (instr.Else ∷ l))) (sym (else_pieces l)) (start_ok code p instr.Else true l h (else_pieces l), ends_ok code l (p + 1) (after_it code p l h))
ends_ok code (instr.End ∷ l) p h =
    subst (EndsOk code (ends_at p (instr.End ∷ l))) (sym (end_pieces l)) (start_ok code p instr.End false l h (end_pieces l), ends_ok code l (p + 1) (after_it code p l h))
ends_ok code (i ∷ l) p h =
    subst (EndsOk code (ends_at (p + 1) l)) (sym (plain_pieces i l tt)) (push_ok code _ _ (Plain i) (ends_ok code l (p + 1) (after_it code p l h)))

after_ok : (code : List Instr) (es : List Ending) (ps : List Piece) → EndsOk code es ps → pieces (drop (after_of es (length code)) code) ≡ drop 1 ps
after_ok code [] [] h = ap pieces (drop_all (length code) code (omega arith)) ∙ no_pieces
after_ok code [] (p ∷ ps) h = absurd h
after_ok code (e ∷ es) [] h = absurd h
after_ok code (e ∷ es) (p ∷ ps) h = h.0.rest

if_leads : (code : List Instr) (es : List Ending) (ps : List Piece) → EndsOk code es ps →
    (pieces (drop (jump_if es (length code)).after code) ≡ beyond ps) × (pieces (drop (jump_if es (length code)).other code) ≡ otherwise ps)
if_leads code [] [] h = let e = ap pieces (drop_all (length code) code (omega arith)) ∙ no_pieces in (e, e)
if_leads code [] (q ∷ ps) h = absurd h
if_leads code (e ∷ es) [] h = absurd h
if_leads code (e ∷ es) (p ∷ ps) h = arms e.arm p.arm h.0.mark h.0.itself
  where
    picked : Bool → Jump
    picked a = if a then record { other = e.after; after = after_of es (length code) } else record { other = e.after - 1; after = e.after }

    arms : (a b : Bool) → a ≡ b → pieces (drop (e.after - 1) code) ≡ start_piece b ps →
        (pieces (drop (picked a).after code) ≡ (if b then drop 1 ps else ps))
        × (pieces (drop (picked a).other code) ≡ (if b then ps else record { arm = false; rest = Nil } ∷ ps))
    arms true true m q = (after_ok code es ps h.1, h.0.rest)
    arms false false m q = (h.0.rest, q)
    arms true false m q = absurd (cc)
    arms false true m q = absurd (cc)

leads : (code : List Instr) (p : ℕ) (i : Instr) (es : List Ending) → EndsOk code es (pieces (drop (p + 1) code)) → IsJump code p i (jump_of i es (length code))
leads code p (instr.Block r) es h = after_ok code es _ h
leads code p (instr.If r) es h = if_leads code es _ h
leads code p instr.Else es h = after_ok code es _ h
leads code p _ es h = tt

pub table : (code : List Instr) (jumps : List Jump) → length jumps ≡ length code → AreMade code jumps 0 → AreJumps code jumps
table code jumps n m =
    record { long = n; each = λ p i j h hj. subst (IsJump code p i) (sym (m p i j (omega arith) h hj)) (leads code p i _ (ends_ok code (drop (p + 1) code) (p + 1) refl)) }

pub made_none : (code : List Instr) (jumps : List Jump) → AreMade code jumps (length code)
made_none code jumps p i j le h hj = let w = slice_get_within code p i h in absurd (omega arith)

pub made_more : (code : List Instr) (jumps : List Jump) (q : ℕ) (x : Instr) (v : Jump) → slice_get code q ≡ Some x → v ≡ jump_of x (ends_at (q + 1) (drop (q + 1) code)) (length code) → AreMade code jumps (q + 1) → AreMade code (slice_set jumps q v) q
made_more code jumps q x v hx e m p i j le h hj =
    let d : Jump = record { other = 0; after = 0 } in
    let now = get_or_from_slice_get (slice_set jumps q v) p j d hj in
    let w = slice_get_within (slice_set jumps q v) p j hj in
    let n = length-set jumps q v in
    let in_jumps : p < length jumps = omega arith in
    ⊎_elim
    (λ lt. let ne : p ≢ q = omega arith in
    let before = sym (get_or-set_other jumps q p v d ne) ∙ now in
    m p i j (omega arith) h (slice_get-get_or jumps p d in_jumps ∙ ap Some before))
    (λ ge. let same : p ≡ q = omega arith in
    let in_q : q < length jumps = omega arith in
    let is : j ≡ v = sym now ∙ ap (λ k. get_or (slice_set jumps q v) k d) same ∙ get_or-set_same jumps q v d in_q in
    let ix : x ≡ i = let t = ap (slice_get code) same in cc in
    is ∙ e ∙ ap (λ y. jump_of y (ends_at (q + 1) (drop (q + 1) code)) (length code)) ix ∙ ap (λ k. jump_of i (ends_at (k + 1) (drop (k + 1) code)) (length code)) (sym same))
    (cases_lt q p)

pub step_ends : (code : List Instr) (q at : ℕ) (x : Instr) (es r : List Ending) → slice_get code q ≡ Some x → q + 1 ≡ at → es ≡ ends_at at (drop at code) → r ≡ ends_step q x es → r ≡ ends_at q (drop q code)
step_ends code q at x es r h e i d =
    d ∙ ap (ends_step q x) (i ∙ ap (λ n. ends_at n (drop n code)) (sym e)) ∙ ap (ends_at q) (sym (drop_here code q x h))

pub step_jump : (code : List Instr) (q at : ℕ) (x : Instr) (es : List Ending) (v : Jump) → q + 1 ≡ at → es ≡ ends_at at (drop at code) → v ≡ jump_of x es (length code) → v ≡ jump_of x (ends_at (q + 1) (drop (q + 1) code)) (length code)
step_jump code q at x es v e i d = d ∙ ap (λ es. jump_of x es (length code)) (i ∙ ap (λ n. ends_at n (drop n code)) (sym e))

pub found : (code : List Instr) (q : ℕ) (x : Instr) → q < length code → x ≡ get_or code q x → slice_get code q ≡ Some x
found code q x h e = slice_get-get_or code q x h ∙ ap Some (sym e)

pub none_yet : (code : List Instr) (ends : List Ending) → length ends ≡ length code → drop (length code) ends ≡ ends_at (length code) (drop (length code) code)
none_yet code ends n = drop_all (length code) ends (omega arith) ∙ sym (ap (ends_at (length code)) (drop_all (length code) code (omega arith)))
