-- The lists of blocks that the code makes are those of the definition.
use Rattle.std.proofs.Common.{◌≡◌, ℕ, ◌+◌, List, [], ◌∷◌, ◌++◌, Bool, true, false, Option, Some, None, length, refl, sym, ap, ◌∙◌, subst, arith, append_assoc, length-append}
use Rattle.std.specs.Prelude.{slice_set, ◌||◌}
use Rattle.std.proofs.Math.Seq.{set-append_seam}
use Rattle.std.proofs.lemmas.List.{map-append, length-map, append-nil}
use Rattle.cm_core.specs.Code.{Expr, Test, Stmt, Nothing, Empty, Block, Locals, Cleared, Started, Assign, Update, Count, Perform, If, Loop, Times, While, Each, For, Break, Continue, Return, Answer, Advance, Write, Stmts, End, More}
use Rattle.cm_core.specs.World.{Todo, Do, Again}
use Rattle.cm_core.specs.Resume.{all}
use Rattle.cm_core.specs.Measures.{advances, any_advances}
use Rattle.advance_lowering.specs.Blocks.{Jump, Goto, Branch, Round, Suspend, Finish, Exits, B, Stands, is_orderly}
use Rattle.advance_lowering.specs.Lowered.{Open, Marked, Part, pushed, kept, at_end, closed, choose, if_part, Kind, loop_part, loop_kind, times_kind, while_kind, each_kind, for_kind, lower, lower_all, bare, IsPart, whole, whole_blocks}
use Rattle.advance_lowering.specs.Views.{IsArm, AreRounds, IsEnded}
use Rattle.advance_lowering.proofs.Whole.{whole_stands}

-- ---- which part a statement has

not_chosen : (t : Bool) (p q : Part) → t ≡ false → choose t p q ≡ q
not_chosen true p q e = let f : true ≡ false = e in cc
not_chosen false p q e = refl

chosen : (t : Bool) (p q : Part) → t ≡ true → choose t p q ≡ p
chosen true p q e = refl
chosen false p q e = let f : false ≡ true = e in cc

keeps : (s : Stmt) (base : ℕ) (c : Option Exits) (o : Open) (r : List Todo) → advances s ≡ false → lower s base c o r ≡ kept s o
keeps (Block ss) base c o r e = not_chosen _ _ _ e
keeps (If t a b) base c o r e = not_chosen _ _ _ e
keeps (Loop s) base c o r e = not_chosen _ _ _ e
keeps (Times x t s) base c o r e = not_chosen _ _ _ e
keeps (While t s) base c o r e = not_chosen _ _ _ e
keeps (Each x s) base c o r e = not_chosen _ _ _ e
keeps (For start t step s) base c o r e = not_chosen _ _ _ e
keeps Advance base c o r e = let f : true ≡ false = e in cc
keeps Nothing base c o r e = refl
keeps Empty base c o r e = refl
keeps (Locals ss) base c o r e = refl
keeps (Cleared x) base c o r e = refl
keeps (Started x t) base c o r e = refl
keeps (Assign x t) base c o r e = refl
keeps (Update x op kind t) base c o r e = refl
keeps (Count op x) base c o r e = refl
keeps (Perform f es) base c o r e = refl
keeps Break base c o r e = refl
keeps Continue base c o r e = refl
keeps Return base c o r e = refl
keeps (Answer t) base c o r e = refl
keeps (Write n t) base c o r e = refl

pub loop_is : (s : Stmt) (n : ℕ) (c : Option Exits) (o : Open) (r : List Todo) → advances (Loop s) ≡ true → lower (Loop s) n c o r ≡ loop_part loop_kind s (lower s) n c o r
loop_is s n c o r e = chosen (advances s) _ _ e

pub times_is : (x : ℕ) (t : Expr) (s : Stmt) (n : ℕ) (c : Option Exits) (o : Open) (r : List Todo) → advances (Times x t s) ≡ true →
    lower (Times x t s) n c o r ≡ loop_part (times_kind x t) s (lower s) n c o r
times_is x t s n c o r e = chosen (advances s) _ _ e

pub while_is : (t : Expr) (s : Stmt) (n : ℕ) (c : Option Exits) (o : Open) (r : List Todo) → advances (While t s) ≡ true →
    lower (While t s) n c o r ≡ loop_part (while_kind t) s (lower s) n c o r
while_is t s n c o r e = chosen (advances s) _ _ e

pub each_is : (x : ℕ) (s : Stmt) (n : ℕ) (c : Option Exits) (o : Open) (r : List Todo) → advances (Each x s) ≡ true → lower (Each x s) n c o r ≡ loop_part (each_kind x) s (lower s) n c o r
each_is x s n c o r e = chosen (advances s) _ _ e

pub for_is : (start : Stmt) (t : Test) (step s : Stmt) (n : ℕ) (c : Option Exits) (o : Open) (r : List Todo) → advances (For start t step s) ≡ true →
    lower (For start t step s) n c o r ≡ loop_part (for_kind start t step) s (lower s) n c o r
for_is start t step s n c o r e = chosen (advances s) _ _ e

-- ---- statements that are kept, `advance`, lists

pub keep_step : (s : Stmt) (c : Option Exits) (o top : Open) (r : List Todo) (l : List B) → advances s ≡ false → top ≡ pushed s o → IsPart (lower s (length l) c o r) l l top
keep_step s c o top r l e t =
    subst (λ p. IsPart p l l top) (sym (keeps s (length l) c o r e)) (record { blocks = sym (append-nil l); top_is = t })

pub advance_step : (s : Stmt) (c : Option Exits) (o top : Open) (r : List Todo) (l0 l1 : List B) (n : ℕ) → s ≡ Advance → n ≡ length l0 → l1 ≡ l0 ++ closed c o ∷ [] →
    top ≡ at_end (Suspend n) → IsPart (lower s (length l0) c o r) l0 l1 top
advance_step s c o top r l0 l1 n is hn h1 ht =
    subst (λ z. IsPart (lower z (length l0) c o r) l0 l1 top) (sym is) (record { blocks = h1; top_is = ht ∙ ap (λ k. at_end (Suspend k)) hn })

longer : (p : Part) (l l' : List B) (top : Open) → IsPart p l l' top → length l' ≡ length l + length p.blocks
longer p l l' top h = ap length h.blocks ∙ length-append l (bare p.blocks) ∙ ap (λ n. length l + n) (length-map p.blocks (λ x. x.1))

one_longer : (l l' : List B) (b : B) → l' ≡ l ++ b ∷ [] → length l' ≡ length l + 1
one_longer l l' b e = ap length e ∙ length-append l (b ∷ [])

pub all_start : (c : Option Exits) (o : Open) (r : List Todo) (l : List B) → IsPart (lower_all End (length l) c o r) l l o
all_start c o r l = record { blocks = sym (append-nil l); top_is = refl }

pub all_step : (s : Stmt) (ss : Stmts) (c : Option Exits) (o t t' : Open) (r : List Todo) (l0 l1 l2 : List B) → IsPart (lower_all ss (length l0) c o r) l0 l1 t →
    ((q : List Todo) → IsPart (lower s (length l1) c t q) l1 l2 t') → IsPart (lower_all (More s ss) (length l0) c o r) l0 l2 t'
all_step s ss c o t t' r l0 l1 l2 h k =
    let p : Part = lower_all ss (length l0) c o r in
    let k1 = subst (λ n. IsPart (lower s n c t (all ss ++ r)) l1 l2 t') (longer p l0 l1 t h) (k (all ss ++ r)) in
    let k2 = subst (λ u. IsPart (lower s (length l0 + length p.blocks) c u (all ss ++ r)) l1 l2 t') h.top_is k1 in
    let q : Part = lower s (length l0 + length p.blocks) c p.top (all ss ++ r) in
    record {
      blocks = k2.blocks ∙ ap (λ l. l ++ bare q.blocks) h.blocks ∙ append_assoc l0 (bare p.blocks) (bare q.blocks) ∙ ap (λ l. l0 ++ l) (sym (map-append (λ x. x.1) p.blocks q.blocks));
      top_is = k2.top_is;
    }

pub block_step : (s : Stmt) (ss : Stmts) (c : Option Exits) (o t : Open) (r : List Todo) (l0 l1 : List B) → s ≡ Block ss → advances s ≡ true →
    IsPart (lower_all ss (length l0) c o r) l0 l1 t → IsPart (lower s (length l0) c o r) l0 l1 t
block_step s ss c o t r l0 l1 is sp h =
    subst (λ p. IsPart p l0 l1 t) (sym (ap (λ z. lower z (length l0) c o r) is ∙ chosen (any_advances ss) _ _ (sym (ap advances is) ∙ sp))) h

-- ---- arms

pub arm_step : (s : Stmt) (c : Option Exits) (g t : Open) (j : Jump) (r : List Todo) (l0 l1 l2 : List B) (n : ℕ) → g ≡ at_end j → IsPart (lower s (length l0) c g r) l0 l1 t →
    n ≡ length l1 → l2 ≡ l1 ++ closed c t ∷ [] → IsArm (lower s (length l0) c (at_end j) r) c l0 l2 n
arm_step s c g t j r l0 l1 l2 n hg h hn h2 =
    let k = subst (λ z. IsPart (lower s (length l0) c z r) l0 l1 t) hg h in
    let p : Part = lower s (length l0) c (at_end j) r in
    record {
      blocks = h2 ∙ ap (λ z. l1 ++ closed c z ∷ []) k.top_is ∙ ap (λ l. l ++ closed c p.top ∷ []) k.blocks ∙ append_assoc l0 (bare p.blocks) (closed c p.top ∷ []);
      number_is = hn ∙ longer p l0 l1 t k;
    }

arm_longer : (p : Part) (c : Option Exits) (l l' : List B) (n : ℕ) → IsArm p c l l' n → length l' ≡ length l + length p.blocks + 1
arm_longer p c l l' n h =
    ap length h.blocks ∙ omega (arith, length-append l (bare p.blocks ++ closed c p.top ∷ []), length-append (bare p.blocks) (closed c p.top ∷ []), length-map p.blocks (λ x. x.1))

pub if_step : (s a b : Stmt) (e e' : Expr) (c : Option Exits) (o top : Open) (r : List Todo) (l0 l1 l2 l3 : List B) (j x y : ℕ) → s ≡ If e a b → advances s ≡ true →
    j ≡ length l0 → l1 ≡ l0 ++ closed c o ∷ [] → IsArm (lower a (length l1) c (at_end (Goto j)) r) c l1 l2 x → IsArm (lower b (length l2) c (at_end (Goto j)) r) c l2 l3 y →
    e' ≡ e → top ≡ at_end (Branch e' x y) → IsPart (lower s (length l0) c o r) l0 l3 top
if_step s a b e e' c o top r l0 l1 l2 l3 j x y is sp hj h1 ha hb he ht =
    let base : ℕ = length l0 in
    let g : Open = at_end (Goto base) in
    let n1 : length l1 ≡ base + 1 = one_longer l0 l1 (closed c o) h1 in
    let ha1 = subst (λ z. IsArm (lower a (length l1) c (at_end (Goto z)) r) c l1 l2 x) hj ha in
    let ha2 = subst (λ z. IsArm (lower a z c g r) c l1 l2 x) n1 ha1 in
    let pa : Part = lower a (base + 1) c g r in
    let x' : ℕ = base + 1 + length pa.blocks in
    let ex : x ≡ x' = ha2.number_is ∙ ap (λ z. z + length pa.blocks) n1 in
    let n2 : length l2 ≡ x' + 1 = arm_longer pa c l1 l2 x ha2 ∙ ap (λ z. z + length pa.blocks + 1) n1 in
    let hb1 = subst (λ z. IsArm (lower b (length l2) c (at_end (Goto z)) r) c l2 l3 y) hj hb in
    let hb2 = subst (λ z. IsArm (lower b z c g r) c l2 l3 y) n2 hb1 in
    let pb : Part = lower b (x' + 1) c g r in
    let ey : y ≡ x' + 1 + length pb.blocks = hb2.number_is ∙ ap (λ z. z + length pb.blocks) n2 in
    let part : lower s base c o r ≡ if_part e a b (λ n p. lower a n c p r) (λ n p. lower b n c p r) base c o r =
    ap (λ z. lower z base c o r) is ∙ chosen (advances a || advances b) _ _ (sym (ap advances is) ∙ sp) in
    let tail : List Marked = (Do b ∷ r, closed c pb.top) ∷ [] in
    let mid : List Marked = (Do a ∷ r, closed c pa.top) ∷ (pb.blocks ++ tail) in
    let list : l3 ≡ l0 ++ (closed c o ∷ (bare pa.blocks ++ (closed c pa.top ∷ (bare pb.blocks ++ closed c pb.top ∷ [])))) =
    hb2.blocks ∙ ap (λ l. l ++ (bare pb.blocks ++ closed c pb.top ∷ [])) (ha2.blocks ∙ ap (λ l. l ++ (bare pa.blocks ++ closed c pa.top ∷ [])) h1) ∙ (simp append_assoc) in
    subst (λ p. IsPart p l0 l3 top) (sym part)
    (record {
      blocks = list
          ∙ ap (λ m. l0 ++ (closed c o ∷ m))
          (ap (λ m. bare pa.blocks ++ (closed c pa.top ∷ m)) (sym (map-append (λ x. x.1) pb.blocks tail)) ∙ sym (map-append (λ x. x.1) pa.blocks mid));
      top_is = ht ∙ ap (λ z. at_end (Branch z x y)) he ∙ ap (λ z. at_end (Branch e z y)) ex ∙ ap (λ z. at_end (Branch e x' z)) ey;
    })

-- ---- loops

pub body_step : (s : Stmt) (c : Option Exits) (o : Open) (l0 l1 l2 : List B) (inner : Exits) (n : ℕ) → inner ≡ record { on_break = length l0; on_continue = length l0 + 1 } →
    l1 ≡ (l0 ++ closed c o ∷ []) ++ closed c (at_end Finish) ∷ [] → ((r : List Todo) → IsArm (lower s (length l1) (Some inner) (at_end (Goto inner.on_continue)) r) (Some inner) l1 l2 n) →
    AreRounds s c o l0 l2 inner n
body_step s c o l0 l1 l2 inner n hi h1 h =
    let e : l1 ≡ l0 ++ (closed c o ∷ (closed c (at_end Finish) ∷ [])) = h1 ∙ append_assoc l0 (closed c o ∷ []) (closed c (at_end Finish) ∷ []) in
    let two : length l1 ≡ length l0 + 2 = ap length e ∙ length-append l0 (closed c o ∷ (closed c (at_end Finish) ∷ [])) in
    let many = arm_longer _ (Some inner) l1 l2 n (h []) in
    let last = ap (λ x. x.on_continue) hi in
    record {
      inner_is = hi;
      arm = λ r. subst (λ l. IsArm (lower s (length l0 + 2) (Some inner) (at_end (Goto inner.on_continue)) r) (Some inner) l l2 n) e
          (subst (λ k. IsArm (lower s k (Some inner) (at_end (Goto inner.on_continue)) r) (Some inner) l1 l2 n) two (h r));
      room = omega (arith, two, many, last);
    }

-- the further rounds of a loop are written after its body
seam : (l0 : List B) (x y z : B) (m : List B) → slice_set ((l0 ++ (x ∷ (y ∷ []))) ++ m) (length l0 + 1) z ≡ l0 ++ (x ∷ (z ∷ m))
seam l0 x y z m =
    let same : (l0 ++ (x ∷ (y ∷ []))) ++ m ≡ (l0 ++ x ∷ []) ++ (y ∷ m) = simp append_assoc in
    let n : length l0 + 1 ≡ length (l0 ++ x ∷ []) = sym (length-append l0 (x ∷ [])) in
    ap (λ l. slice_set l (length l0 + 1) z) same ∙ ap (λ k. slice_set ((l0 ++ x ∷ []) ++ (y ∷ m)) k z) n ∙ set-append_seam (l0 ++ x ∷ []) y m z ∙ append_assoc l0 (x ∷ []) (z ∷ m)

pub loop_step : (k : Kind) (st me s : Stmt) (c : Option Exits) (o top : Open) (r : List Todo) (l0 l1 l2 : List B) (inner : Exits) (y : ℕ) → st ≡ me →
    lower me (length l0) c o r ≡ loop_part k s (lower s) (length l0) c o r → AreRounds s c o l0 l1 inner y → IsEnded k c inner y l1 l2 top → IsPart (lower st (length l0) c o r) l0 l2 top
loop_step k st me s c o top r l0 l1 l2 inner y is part h g =
    let base : ℕ = length l0 in
    let d : Exits = record { on_break = base; on_continue = base + 1 } in
    let q : List Todo = Again k.test k.step s ∷ r in
    let front : List B = l0 ++ (closed c o ∷ (closed c (at_end Finish) ∷ [])) in
    let a = subst (λ z. IsArm (lower s (base + 2) (Some z) (at_end (Goto z.on_continue)) q) (Some z) front l1 y) h.inner_is (h.arm q) in
    let p : Part = lower s (base + 2) (Some d) (at_end (Goto (base + 1))) q in
    let two : length front ≡ base + 2 = length-append l0 (closed c o ∷ (closed c (at_end Finish) ∷ [])) in
    let ey : y ≡ base + 2 + length p.blocks = a.number_is ∙ ap (λ z. z + length p.blocks) two in
    let z : B = closed c (record { body = k.steps; end = Round k.test (base + 2 + length p.blocks) base }) in
    let w : List B = bare p.blocks ++ closed (Some d) p.top ∷ [] in
    let written : l2 ≡ slice_set l1 (base + 1) z =
    g.blocks ∙ ap (λ i. slice_set l1 i.on_continue (closed c (record { body = k.steps; end = Round k.test y i.on_break }))) h.inner_is
    ∙ ap (λ v. slice_set l1 (base + 1) (closed c (record { body = k.steps; end = Round k.test v base }))) ey in
    subst (λ p. IsPart p l0 l2 top) (sym (ap (λ z. lower z base c o r) is ∙ part))
    (record {
      blocks = written ∙ ap (λ l. slice_set l (base + 1) z) a.blocks ∙ seam l0 (closed c o) (closed c (at_end Finish)) z w
          ∙ ap (λ m. l0 ++ (closed c o ∷ (z ∷ m))) (sym (map-append (λ x. x.1) p.blocks ((Do s ∷ q, closed (Some d) p.top) ∷ [])));
      top_is = g.top_is ∙ ap (λ i. record { body = k.start; end = k.first i.on_continue y i.on_break }) h.inner_is
          ∙ ap (λ v. record { body = k.start; end = k.first (base + 1) v base }) ey;
    })

-- ---- the whole

pub main_stands : (s : Stmt) (o t : Open) (l0 l1 l2 : List B) (start : ℕ) → is_orderly s ≡ true → l0 ≡ [] → o ≡ at_end Finish → IsPart (lower s (length l0) None o []) l0 l1 t →
    start ≡ length l1 → l2 ≡ l1 ++ closed None t ∷ [] → Stands s start l2
main_stands s o t l0 l1 l2 start q h0 ho h hs h2 =
    let p : Part = whole s in
    let ha = subst (λ k. IsPart (lower s (length l0) None k []) l0 l1 t) ho h in
    let hb = subst (λ l. IsPart (lower s (length l) None (at_end Finish) []) l l1 t) h0 ha in
    let len : start ≡ length p.blocks = hs ∙ ap length hb.blocks ∙ length-map p.blocks (λ x. x.1) in
    let list : l2 ≡ bare (whole_blocks s) =
    h2 ∙ ap (λ k. l1 ++ closed None k ∷ []) hb.top_is ∙ ap (λ l. l ++ closed None p.top ∷ []) hb.blocks ∙ sym (map-append (λ x. x.1) p.blocks ((Do s ∷ [], closed None p.top) ∷ [])) in
    subst (λ k. Stands s k l2) (sym len) (subst (λ l. Stands s (length p.blocks) l) (sym list) (whole_stands s q))

-- ---- the code's statements

pub loop_made : (k : Kind) (st me s s' : Stmt) (c : Option Exits) (o top : Open) (r : List Todo) (l0 l1 l2 : List B) (inner : Exits) (y : ℕ) → st ≡ me →
    lower me (length l0) c o r ≡ loop_part k s (lower s) (length l0) c o r → s' ≡ s → AreRounds s' c o l0 l1 inner y → IsEnded k c inner y l1 l2 top → IsPart (lower st (length l0) c o r) l0 l2 top
loop_made k st me s s' c o top r l0 l1 l2 inner y is part e h g = loop_step k st me s c o top r l0 l1 l2 inner y is part (subst (λ z. AreRounds z c o l0 l1 inner y) e h) g

pub for_made : (st start start' step step' s s' : Stmt) (t : Test) (c : Option Exits) (o top : Open) (r : List Todo) (l0 l1 l2 : List B) (inner : Exits) (y : ℕ) → st ≡ For start t step s →
    advances st ≡ true → s' ≡ s → start' ≡ start → step' ≡ step → AreRounds s' c o l0 l1 inner y → IsEnded (for_kind start' t step') c inner y l1 l2 top → IsPart (lower st (length l0) c o r) l0 l2 top
for_made st start start' step step' s s' t c o top r l0 l1 l2 inner y is sp e e1 e2 h g =
    loop_made (for_kind start t step) st (For start t step s) s s' c o top r l0 l1 l2 inner y is (for_is start t step s (length l0) c o r (sym (ap advances is) ∙ sp)) e h
    (subst (λ z. IsEnded (for_kind start t z) c inner y l1 l2 top) e2 (subst (λ z. IsEnded (for_kind z t step') c inner y l1 l2 top) e1 g))

pub if_made : (s a a' b b' : Stmt) (e : Expr) (c : Option Exits) (o top : Open) (r : List Todo) (l0 l1 l2 l3 : List B) (j x y : ℕ) → s ≡ If e a b → advances s ≡ true →
    j ≡ length l0 → l1 ≡ l0 ++ closed c o ∷ [] → a' ≡ a → IsArm (lower a' (length l1) c (at_end (Goto j)) r) c l1 l2 x → b' ≡ b → IsArm (lower b' (length l2) c (at_end (Goto j)) r) c l2 l3 y →
    top ≡ at_end (Branch e x y) → IsPart (lower s (length l0) c o r) l0 l3 top
if_made s a a' b b' e c o top r l0 l1 l2 l3 j x y is sp hj h1 ea ha eb hb ht =
    if_step s a b e e c o top r l0 l1 l2 l3 j x y is sp hj h1 (subst (λ z. IsArm (lower z (length l1) c (at_end (Goto j)) r) c l1 l2 x) ea ha)
    (subst (λ z. IsArm (lower z (length l2) c (at_end (Goto j)) r) c l2 l3 y) eb hb) refl ht
