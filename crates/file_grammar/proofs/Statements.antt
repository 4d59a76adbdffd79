-- What the parsers of statements meet.
use Rattle.std.proofs.Common.{◌≡◌, ℕ, zero, ◌-◌, ◌≤◌, suc, Bool, true, false, List, [], ◌∷◌, ◌++◌, Option, Some, None, refl, ap, sym, subst, ◌∙◌, append_assoc, inl, inr, arith}
use Rattle.cm_base.specs.declared.place.Place.{Place}
use Rattle.cm_tree.specs.declared.token.Token.{Token}
use Rattle.cm_tree.specs.declared.token.TokenKind.{TokenKind}
use Rattle.cm_tree.specs.declared.token.TokenKind.TheVariants as k
use Rattle.cm_tree.specs.declared.sign.Sign.TheVariants as s
use Rattle.cm_tree.specs.declared.reserved.Reserved.{Reserved}
use Rattle.cm_tree.specs.declared.reserved.Reserved.TheVariants as w
use Rattle.cm_tree.specs.declared.path.Path.{Path}
use Rattle.cm_tree.specs.declared.expr.Expr.{Expr}
use Rattle.cm_tree.specs.declared.type_expr.TypeExpr.{TypeExpr}
use Rattle.cm_tree.specs.declared.type_expr.TypeExpr.TheVariants as y
use Rattle.cm_tree.specs.declared.operator.Change.{Change}
use Rattle.cm_tree.specs.declared.operator.Change.TheVariants as c
use Rattle.cm_tree.specs.declared.simple.Var.{Var}
use Rattle.cm_tree.specs.declared.simple.Target.{Target}
use Rattle.cm_tree.specs.declared.simple.Simple.{Simple}
use Rattle.cm_tree.specs.declared.simple.Simple.TheVariants as simple
use Rattle.cm_tree.specs.declared.simple.Local.{Local}
use Rattle.cm_tree.specs.declared.simple.Local.TheVariants as local
use Rattle.cm_tree.specs.declared.stmt.Block.{Block}
use Rattle.cm_tree.specs.declared.stmt.Stmt.{Stmt, end_of-Stmt, more_of-Stmt}
use Rattle.cm_tree.specs.declared.stmt.Stmt.TheVariants as x
use Rattle.cm_tree.specs.Heights.{height}
use Rattle.cm_tree.specs.StmtHeights.{block_height, stmt_height-Block, stmt_height-If, stmt_height-IfElse, stmt_height-Loop, stmt_height-While, start_height, stmt_height-For, stmt_height-ForType, init_height, var_height, type_height, local_height, simple_height, stmt_height, stmt_height-Empty, stmt_height-Local, stmt_height-Simple, stmt_height-Assert, stmt_height-Return, stmt_height-Write}
use Rattle.cm_tree.specs.Lists.{Every, Further, Listed, Optional, highest-nil}
use Rattle.cm_tree.specs.declared.stmt.Stmt.TheBlock.{hidden-the_row-Stmt-1}
use denote.Hole.Carrier.{hidden}
use Rattle.cm_tree.specs.Lists as lists
use Rattle.cm_tree.specs.Spelling.{IsSign, IsReserved, IsWord, SpellsPath, SpellsBase, SpellsExpr, SpellsType}
use Rattle.cm_tree.specs.Spelling as e
use Rattle.cm_tree.specs.StmtSpelling.{assign_sign, change_sign, SpellsWord, SpellsInit, SpellsVar, SpellsTarget, SpellsLocal, SpellsSimple, SpellsStmt, SpellsStmts, SpellsStart, SpellsBlock, is_open}
use Rattle.cm_tree.specs.StmtSpelling as g
use Rattle.token_reader.specs.Parsers.{Outcome, Parser, and_then, ◌>>=◌, ◌>>◌, pure, look, see, sees, skip, expect, is_sign, is_reserved, is_other, same_sign}
use Rattle.token_reader.specs.Lists.{while_sees}
use Rattle.token_reader.specs.Local.{Takes}
use Rattle.token_reader.specs.Local as reach
use Rattle.token_reader.proofs.Inverses.{skipped, reserved_same, reserved_is, answer, bind_ok, if_ok, given, seen}
use Rattle.cm_parse_expr.proofs.Next.{closes, sign_seen}
use Rattle.file_grammar.specs.Words.{here, condition}
use Rattle.file_grammar.specs.Stmts.{named_stmt, based_stmt, stmts, block, if_rest, step_stmt, if_stmt, loop_stmt, while_stmt, reserved_stmt, stmt_by, one, stmt, body}
use Rattle.file_grammar.proofs.Far.{stmt_reads}
use Rattle.file_grammar.proofs.StmtFirst.{stmt_no_sign, stmt_other, stmt_no_else}
use Rattle.file_grammar.proofs.Meets.{Found, Meets, Any, Not, Ended, One, Then, meets_bind, meets_expect, meets_while, meets_optional}
use Rattle.file_grammar.proofs.Spelled.{Within, meets_expr}
use Rattle.file_grammar.proofs.Shapes.{Ending, ending, meets_up_to, Signed, signed, Seq, seq, Of, of, Led, led, semi, meets_seq, meets_of, meets_iff, meets_led, meets_semicolon, skip_same_then, skip_found, skip_read, stay_found}
use Rattle.file_grammar.proofs.Lows.{optional_of, of_optional, of_listed, every_of, of_every}
use Rattle.file_grammar.proofs.Beginnings.{in_parentheses}
use Rattle.file_grammar.proofs.Changes.{assign, after, before_it}
use Rattle.file_grammar.proofs.StmtParts.{UpTo, missing, there, Asserts, as_assert, meets_condition}
use Rattle.file_grammar.proofs.Closings.{StmtIn, Shut, Vars, meets_let_stmt, meets_var_stmt, meets_based_stmt, meets_step_stmt, meets_assert_stmt, meets_return_stmt, meets_advance_stmt, let_as, var_as, based_as, step_as, asserted_as, return_as, advance_as, break_as, continue_as, named_found, changed_read, write_read, call_read, typed_read}
use Rattle.file_grammar.proofs.ForHeads.{NoElse, no_else_as, ForRest, for_rest, ForHead, over_type, in_parts, meets_for}
use Rattle.cm_parse_expr.proofs.Complete.{height_some}
use Rattle.file_grammar.proofs.Targets.{head_same, here_ok, here_is}
use Rattle.file_grammar.proofs.Shapes.{meets_within}

-- ---- blocks

stmts_of : {xs : List Stmt} {u : List Token} → Every SpellsStmt xs u → SpellsStmts xs u
stmts_of lists.none = g.no_stmts
stmts_of (lists.more z zs first others one rest) = g.stmts z zs first others one (stmts_of rest)

of_stmts : {xs : List Stmt} {u : List Token} → SpellsStmts xs u → Every SpellsStmt xs u
of_stmts g.no_stmts = lists.none
of_stmts (g.stmts z zs first others one rest) = lists.more z zs first others one (of_stmts rest)

brace_ends : (n : ℕ) (all : List Stmt) (t : Token) (r : List Token) → IsSign s.RightBrace t → Ended (is_other s.RightBrace) NoElse all (t ∷ r)
unfolding same_sign
brace_ends n all t r is = record { ended = seen (is_other s.RightBrace) t r _ is.kind false refl; needs = λ z. record { no_else = λ i. seen (is_reserved w.Else) t r _ is.kind false refl } }

pub closed_found : {n : ℕ} {ts : List Token} {b : Stmt} {r : List Token} → Found (Shut n) Any ts b r → Found (StmtIn n) NoElse ts b r
closed_found f = record { used = f.used; parts = f.parts; spelled = f.spelled.stmt; follows = record { no_else = λ is. absurd (let shut = f.spelled.shut in cc) } }

is_open-IfElse : (p : Place) (z : Expr) (f d : Stmt) → is_open (x.IfElse p z f d) ≡ is_open d
unfolding is_open hidden-the_row-Stmt-1 hidden
is_open-IfElse p z f d = refl

is_open-If : (p : Place) (z : Expr) (f : Stmt) → is_open (x.If p z f) ≡ true
unfolding is_open hidden-the_row-Stmt-1 hidden
is_open-If p z f = refl

is_open-Loop : (p : Place) (z : Option Expr) (f : Stmt) → is_open (x.Loop p z f) ≡ is_open f
unfolding is_open hidden-the_row-Stmt-1 hidden
is_open-Loop p z f = refl

is_open-While : (p : Place) (z : Expr) (f : Stmt) → is_open (x.While p z f) ≡ is_open f
unfolding is_open hidden-the_row-Stmt-1 hidden
is_open-While p z f = refl

-- after an open statement there is no `else`
not_open_by : (b : Bool) → (b ≡ true → false ≡ true) → b ≡ false
not_open_by true no_else = absurd (let same = no_else refl in cc)
not_open_by false no_else = refl

not_open : (f : Stmt) (r : List Token) → NoElse f r → sees (is_reserved w.Else) r ≡ true → is_open f ≡ false
not_open f r h there_is = not_open_by (is_open f) (λ is. sym (h.no_else is) ∙ there_is)

-- ---- after the condition of an `if`

-- `else`, and then a part
data LedElse {A : Type 0} (R : A → List Token → Type 0) : A → List Token → Type 0 where
  led_else : (z : A) (t : Token) (u : List Token) → IsReserved w.Else t → R z u → LedElse R z (t ∷ u)

led_else_of : {A : Type 0} {R : A → List Token → Type 0} (z : A) (u : List Token) → Then (λ (y : Unit {0}) v. One (is_reserved w.Else) v) (λ (y : Unit {0}). R) z u → LedElse R z u
led_else_of {R = R} z u h =
    let whole : u ≡ h.begins.token ∷ h.back = h.parts ∙ ap (λ (l : List Token). l ++ h.back) h.begins.parts in
    subst (LedElse R z) (sym whole) (led_else z h.begins.token h.back (record { kind = reserved_is w.Else h.begins.token.kind h.begins.passes }) h.ends)

of_led_else : {A : Type 0} {R : A → List Token → Type 0} (z : A) (u : List Token) → LedElse R z u → Then (λ (y : Unit {0}) v. One (is_reserved w.Else) v) (λ (y : Unit {0}). R) z u
of_led_else _ _ (led_else z t u is h) = record { part = tt; front = t ∷ []; back = u; parts = refl; begins = record { token = t; parts = refl; passes = ap (is_reserved w.Else) is.kind ∙ reserved_same w.Else }; ends = h }

meets_led_else : {A : Type 0} {p : Parser A} {R G N : A → List Token → Type 0} → Meets p R G N → Meets (expect (is_reserved w.Else) >> p) (LedElse R) G N
meets_led_else m = meets_iff (meets_bind (meets_expect (is_reserved w.Else)) (λ y. m) (λ y b v r h g. tt)) led_else_of of_led_else

pub data IfTail (n : ℕ) (p : Place) (z : Expr) : Stmt → List Token → Type 0 where
  only : (f : Stmt) (u : List Token) → StmtIn n f u → IfTail n p z (x.If p z f) u
  both : (f d : Stmt) (t : Token) (front back : List Token) → StmtIn n f front → is_open f ≡ false → IsReserved w.Else t → StmtIn n d back → IfTail n p z (x.IfElse p z f d) (front ++ t ∷ back)

module _ (n : ℕ) (stmt : Parser Stmt) (local_stmt : reach.Local stmt) (takes_stmt : Takes stmt) (m : Meets stmt (StmtIn n) NoElse NoElse) where
  meets_row : Meets (while_sees (is_other s.RightBrace) stmt []) (Every (StmtIn n)) (Not (is_other s.RightBrace)) (Ended (is_other s.RightBrace) NoElse)
  meets_row = meets_while (is_other s.RightBrace) stmt local_stmt takes_stmt m (λ z v r h. stmt_other h.spelled r) (λ z i v r h. record { no_else = λ is. stmt_no_else h.spelled r })

  abbrev Braced : List Stmt → List Token → Type 0
  Braced = Seq (Every (StmtIn n)) (λ all. Of (λ (y : Unit {0}). all) (Signed s.RightBrace))

  pub meets_stmts : Meets (stmts n stmt) (Seq (Every (StmtIn n)) (λ all. Of (λ (y : Unit {0}). all) (Signed s.RightBrace))) Any Any
  unfolding stmts
  meets_stmts = meets_up_to meets_row (λ all t r is. brace_ends n all t r is)

  meets_block : (p : Place) → Meets (block n stmt p) (Of (λ all. x.Block p all) Braced) Any Any
  unfolding block
  meets_block p = meets_of {G = Any} {M = Any} (λ all. x.Block p all) meets_stmts (λ z r f. tt) (λ z r f. tt)

  block_as : (t : Token) → IsSign s.LeftBrace t → (b : Stmt) (u : List Token) → Of (λ all. x.Block t.place all) Braced b u → Shut (suc n) b (t ∷ u)
  unfolding is_open
  block_as t is _ _ (of _ _ (seq all _ inner _ h (of _ _ (signed _ v iv)))) =
      let rows = every_of stmt_height n SpellsStmt h in
      record { stmt = record { spelled = g.block all t v inner is (stmts_of rows.spelled) iv; low = omega (arith, stmt_height-Block t.place all, rows.low) }; shut = refl }

  -- ---- conditions

  meets_else : (p : Place) (z : Expr) (f : Stmt) → Meets (expect (is_reserved w.Else) >> stmt >>= (λ d. pure (x.IfElse p z f d))) (Of (λ d. x.IfElse p z f d) (LedElse (StmtIn n))) NoElse NoElse
  meets_else p z f = meets_of {G = NoElse} {M = NoElse} (λ d. x.IfElse p z f d) (meets_led_else m) (λ d r h. no_else_as d (x.IfElse p z f d) r (is_open-IfElse p z f d) h) (λ d r h. no_else_as (x.IfElse p z f d) d r (sym (is_open-IfElse p z f d)) h)

  both_as : (p : Place) (z : Expr) {f : Stmt} {front : List Token} → StmtIn n f front → is_open f ≡ false → (b : Stmt) (u : List Token) → Of (λ d. x.IfElse p z f d) (LedElse (StmtIn n)) b u → IfTail n p z b (front ++ u)
  both_as p z {f} {front} hf shut _ _ (of d _ (led_else _ t back is hd)) = both f d t front back hf shut is hd

  tail_found : (p : Place) (z : Expr) (ts : List Token) (b : Stmt) (r : List Token) → (stmt >>= (λ f. see (is_reserved w.Else) >>= if_rest n stmt p z f)) ts ≡ answer b r → Found (IfTail n p z) NoElse ts b r
  unfolding see
  tail_found p z ts b r h =
      let v = bind_ok (stmt ts) (λ f. see (is_reserved w.Else) >>= if_rest n stmt p z f) b r h in
      let f = m.sound ts v.0 v.1 v.2 in
      elim (if_ok (sees (is_reserved w.Else) v.1) _ _ v.1 _ v.3) [
        | inl q ↦
            let d = (meets_else p z v.0).sound v.1 b r (sym (skip_same_then (is_reserved w.Else) stmt (λ i. pure (x.IfElse p z v.0 i)) v.1 q.0) ∙ q.1) in
            record {
              used = f.used ++ d.used;
              parts = f.parts ∙ ap (λ (l : List Token). f.used ++ l) d.parts ∙ sym (append_assoc f.used d.used r);
              spelled = both_as p z f.spelled (not_open v.0 v.1 f.follows q.0) b d.used d.spelled;
              follows = d.follows;
            }
        | inr q ↦
            given (λ i l. Found (IfTail n p z) NoElse ts i l) (x.If p z v.0) b v.1 r q.1
            (record { used = f.used; parts = f.parts; spelled = only v.0 f.used f.spelled; follows = record { no_else = λ is. q.0 } })
      ]

  tail_read : (p : Place) (z : Expr) {b : Stmt} {u : List Token} → IfTail n p z b u → (r : List Token) → NoElse b r → (stmt >>= (λ f. see (is_reserved w.Else) >>= if_rest n stmt p z f)) (u ++ r) ≡ answer b r
  unfolding see
  tail_read p z (only f u h) r no_else =
      let none = no_else.no_else (is_open-If p z f) in
      let one = m.complete f u r h (record { no_else = λ is. none }) in
      rw (one, none) refl
  tail_read p z (both f d t front back hf shut is hd) r no_else =
      let there_is : sees (is_reserved w.Else) (t ∷ (back ++ r)) ≡ true = seen (is_reserved w.Else) t (back ++ r) _ is.kind true (reserved_same w.Else) in
      let one = m.complete f front (t ∷ (back ++ r)) hf (record { no_else = λ i. absurd cc }) in
      let two = (meets_else p z f).complete (x.IfElse p z f d) (t ∷ back) r (of d (t ∷ back) (led_else d t back is hd)) no_else in
      ap (stmt >>= (λ i. see (is_reserved w.Else) >>= if_rest n stmt p z i)) (append_assoc front (t ∷ back) r)
      ∙ rw (one, there_is) (skip_same_then (is_reserved w.Else) stmt (λ i. pure (x.IfElse p z f i)) (t ∷ (back ++ r)) there_is ∙ two)

  meets_tail : (p : Place) (z : Expr) → Meets (stmt >>= (λ f. see (is_reserved w.Else) >>= if_rest n stmt p z f)) (IfTail n p z) NoElse NoElse
  meets_tail p z = record { sound = tail_found p z; complete = λ b u r h no_else. tail_read p z h r no_else }

  abbrev IfStmt : Place → Stmt → List Token → Type 0
  IfStmt p = Ending s.RightParenthesis (Led s.LeftParenthesis (Within height n SpellsExpr)) (IfTail n p)

  meets_if : (p : Place) → Meets (if_stmt n stmt p) (IfStmt p) NoElse NoElse
  unfolding if_stmt
  meets_if p = meets_condition n (meets_tail p)

  if_as : (t : Token) → IsReserved w.If t → (b : Stmt) (u : List Token) → IfStmt t.place b u → StmtIn (suc n) b (t ∷ u)
  if_as t is _ _ (ending _ _ v _ _ (led z o test io sz) iv (only f u hf)) = record { spelled = g.if_only z f t o v test u is io sz.spelled iv hf.spelled; low = omega (arith, stmt_height-If t.place z f, sz.low, hf.low) }
  if_as t is _ _ (ending _ _ v _ _ (led z o test io sz) iv (both f d q front back hf shut iq hd)) =
      record { spelled = g.if_else z f d t o v q test front back is io sz.spelled iv hf.spelled shut iq hd.spelled; low = omega (arith, stmt_height-IfElse t.place z f d, sz.low, hf.low, hd.low) }

  -- ---- loops

  abbrev WhileStmt : Place → Stmt → List Token → Type 0
  WhileStmt p = Ending s.RightParenthesis (Led s.LeftParenthesis (Within height n SpellsExpr)) (λ z. Of (λ f. x.While p z f) (StmtIn n))

  meets_while_stmt : (p : Place) → Meets (while_stmt n stmt p) (WhileStmt p) NoElse NoElse
  unfolding while_stmt
  meets_while_stmt p = meets_condition n (λ z. meets_of {G = NoElse} {M = NoElse} (λ f. x.While p z f) m (λ f r h. no_else_as f (x.While p z f) r (is_open-While p z f) h) (λ f r h. no_else_as (x.While p z f) f r (sym (is_open-While p z f)) h))

  while_as : (t : Token) → IsReserved w.While t → (b : Stmt) (u : List Token) → WhileStmt t.place b u → StmtIn (suc n) b (t ∷ u)
  while_as t is _ _ (ending _ _ v _ _ (led z o test io sz) iv (of f u hf)) = record { spelled = g.while z f t o v test u is io sz.spelled iv hf.spelled; low = omega (arith, stmt_height-While t.place z f, sz.low, hf.low) }

  abbrev Counted : Expr → List Token → Type 0
  Counted = Seq (Led s.LeftParenthesis (Within height n SpellsExpr)) (λ z. Of (λ (y : Unit {0}). z) (Signed s.RightParenthesis))

  abbrev LoopStmt : Place → Stmt → List Token → Type 0
  LoopStmt p = Seq (Optional Counted) (λ z. Of (λ f. x.Loop p z f) (StmtIn n))

  meets_counted : Meets (condition n) Counted Any Any
  unfolding condition
  meets_counted = meets_up_to (meets_led s.LeftParenthesis (meets_expr n)) (λ z t r is. closes s.RightParenthesis refl t r z is)

  counted_starts : (z : Expr) (v r : List Token) → Counted z v → sees (is_sign s.LeftParenthesis) (v ++ r) ≡ true
  counted_starts _ _ r (seq _ _ _ _ (led z o test io sz) more) = sign_seen s.LeftParenthesis o _ io

  body_no_count : {p : Place} {z : Option Expr} (b : Stmt) (v r : List Token) → Of (λ f. x.Loop p z f) (StmtIn n) b v → sees (is_sign s.LeftParenthesis) (v ++ r) ≡ false
  body_no_count _ _ r (of f u hf) = stmt_no_sign s.LeftParenthesis refl hf.spelled r

  meets_loop : (p : Place) → Meets (loop_stmt n stmt p) (LoopStmt p) NoElse NoElse
  unfolding loop_stmt
  meets_loop p = meets_seq (meets_optional (is_sign s.LeftParenthesis) (Not (is_sign s.LeftParenthesis)) meets_counted counted_starts (λ r h. h) (λ z r h. tt))
      (λ z. meets_of {G = NoElse} {M = NoElse} (λ f. x.Loop p z f) m (λ f r h. no_else_as f (x.Loop p z f) r (is_open-Loop p z f) h) (λ f r h. no_else_as (x.Loop p z f) f r (sym (is_open-Loop p z f)) h))
      (λ z b v r h d. body_no_count b v r h)

  loop_as : (t : Token) → IsReserved w.Loop t → (b : Stmt) (u : List Token) → LoopStmt t.place b u → StmtIn (suc n) b (t ∷ u)
  loop_as t is _ _ (seq _ _ _ _ lists.absent (of f u hf)) = record { spelled = g.forever f t u is hf.spelled; low = omega (arith, stmt_height-Loop t.place None f, hf.low) }
  loop_as t is _ _ (seq _ _ _ _ (lists.present _ _ (seq _ _ _ _ (led z o test io sz) (of _ _ (signed _ v iv)))) (of f u hf)) =
      subst (λ (l : List Token). StmtIn (suc n) (x.Loop t.place (Some z) f) (t ∷ o ∷ l)) (sym (append_assoc test (v ∷ []) u))
      (record { spelled = g.times z f t o v test u is io sz.spelled iv hf.spelled; low = omega (arith, stmt_height-Loop t.place (Some z) f, sz.low, hf.low) })

  -- ---- `for`

  for_as : (t : Token) → IsReserved w.For t → (b : Stmt) (u : List Token) → Led s.LeftParenthesis (ForHead n t.place) b u → StmtIn (suc n) b (t ∷ u)
  for_as t is _ _ (led _ o _ io (over_type ty z f v q front body st iz iq hf)) =
      record { spelled = g.for_type ty z f t o v q front body is io st.spelled iz iq hf.spelled; low = omega (arith, stmt_height-ForType t.place ty z f, st.low, hf.low) }
  for_as t is _ _ (led _ o _ io (in_parts b _ first _ hb (for_rest _ i f u q _ next body iu (missing v iv) hi iq hf))) =
      let start_of = optional_of start_height n SpellsStart hb in
      let next_of = optional_of simple_height n SpellsSimple hi in
      record { spelled = g.for_parts b None i f t o u v q first [] next body is io start_of.spelled iu lists.absent iv next_of.spelled iq hf.spelled; low = omega (arith, stmt_height-For t.place b None i f, start_of.low, next_of.low, hf.low) }
  for_as t is _ _ (led _ o _ io (in_parts b _ first _ hb (for_rest _ i f u q _ next body iu (there z v test sz iv) hi iq hf))) =
      let start_of = optional_of start_height n SpellsStart hb in
      let next_of = optional_of simple_height n SpellsSimple hi in
      subst (λ (l : List Token). StmtIn (suc n) (x.For t.place b (Some z) i f) (t ∷ o ∷ (first ++ u ∷ l))) (sym (append_assoc test (v ∷ []) (next ++ q ∷ body)))
      (record {
        spelled = g.for_parts b (Some z) i f t o u v q first test next body is io start_of.spelled iu (lists.present z test sz.spelled) iv next_of.spelled iq hf.spelled;
        low = omega (arith, stmt_height-For t.place b (Some z) i f, start_of.low, sz.low, next_of.low, hf.low);
      })

  -- ---- any statement

  reserved_found : (t : Token) (ts : List Token) (kind : Reserved) → t.kind ≡ k.Reserved kind → (b : Stmt) (r : List Token) → reserved_stmt n stmt t.place kind (t ∷ ts) ≡ answer b r → Found (StmtIn (suc n)) NoElse (t ∷ ts) b r
  reserved_found t ts w.Let is b r h = closed_found (skip_found (meets_let_stmt n stmt t.place) t ts b r h (let_as n t (record { kind = is })))
  reserved_found t ts w.Var is b r h = closed_found (skip_found (meets_var_stmt n stmt t.place) t ts b r h (var_as n t (record { kind = is })))
  reserved_found t ts w.Bool is b r h = closed_found (stay_found (meets_based_stmt n) (t ∷ ts) b r h (based_as n))
  reserved_found t ts w.Int is b r h = closed_found (stay_found (meets_based_stmt n) (t ∷ ts) b r h (based_as n))
  reserved_found t ts w.Int32 is b r h = closed_found (stay_found (meets_based_stmt n) (t ∷ ts) b r h (based_as n))
  reserved_found t ts w.Int64 is b r h = closed_found (stay_found (meets_based_stmt n) (t ∷ ts) b r h (based_as n))
  reserved_found t ts w.Wrap is b r h = closed_found (stay_found (meets_based_stmt n) (t ∷ ts) b r h (based_as n))
  reserved_found t ts w.Clamp is b r h = closed_found (stay_found (meets_based_stmt n) (t ∷ ts) b r h (based_as n))
  reserved_found t ts w.StaticAssert is b r h = closed_found (skip_found (meets_assert_stmt n stmt t.place) t ts b r h (asserted_as n t (record { kind = is })))
  reserved_found t ts w.If is b r h = skip_found (meets_if t.place) t ts b r h (if_as t (record { kind = is }))
  reserved_found t ts w.Loop is b r h = skip_found (meets_loop t.place) t ts b r h (loop_as t (record { kind = is }))
  reserved_found t ts w.While is b r h = skip_found (meets_while_stmt t.place) t ts b r h (while_as t (record { kind = is }))
  reserved_found t ts w.For is b r h = skip_found (meets_for n stmt m t.place) t ts b r h (for_as t (record { kind = is }))
  reserved_found t ts w.Break is b r h = closed_found (skip_found (meets_semicolon (x.Break t.place)) t ts b r h (break_as n t (record { kind = is })))
  reserved_found t ts w.Continue is b r h = closed_found (skip_found (meets_semicolon (x.Continue t.place)) t ts b r h (continue_as n t (record { kind = is })))
  reserved_found t ts w.Return is b r h = closed_found (skip_found (meets_return_stmt n stmt t.place) t ts b r h (return_as n t (record { kind = is })))
  reserved_found t ts w.Advance is b r h = closed_found (skip_found (meets_advance_stmt n stmt t.place) t ts b r h (advance_as n t (record { kind = is })))
  reserved_found t ts _ is b r h = absurd cc

  empty_found : (t : Token) (ts : List Token) → t.kind ≡ k.Sign s.Semicolon → (b : Stmt) (r : List Token) → (skip >> pure (x.Empty t.place)) (t ∷ ts) ≡ answer b r → Found (Shut (suc n)) Any (t ∷ ts) b r
  unfolding is_open
  empty_found t ts is b r h =
      given (λ z l. Found (Shut (suc n)) Any (t ∷ ts) z l) (x.Empty t.place) b ts r (sym (ap (λ (o : Outcome (Unit {0})). and_then o (λ q. pure (x.Empty t.place))) (skipped t ts)) ∙ h) (record {
        used = t ∷ [];
        parts = refl;
        spelled = record { stmt = record { spelled = g.empty t (record { kind = is }); low = omega (arith, stmt_height-Empty t.place) }; shut = refl };
        follows = tt;
      })

  by_found : (t : Token) (ts : List Token) (kind : TokenKind) → t.kind ≡ kind → (b : Stmt) (r : List Token) → stmt_by n stmt t.place kind (t ∷ ts) ≡ answer b r → Found (StmtIn (suc n)) NoElse (t ∷ ts) b r
  by_found t ts (k.Sign s.LeftBrace) is b r h = closed_found (skip_found (meets_block t.place) t ts b r h (block_as t (record { kind = is })))
  by_found t ts (k.Sign s.Semicolon) is b r h = closed_found (empty_found t ts is b r h)
  by_found t ts (k.Sign s.PlusPlus) is b r h = closed_found (stay_found (meets_step_stmt n stmt) (t ∷ ts) b r h (step_as n))
  by_found t ts (k.Sign s.MinusMinus) is b r h = closed_found (stay_found (meets_step_stmt n stmt) (t ∷ ts) b r h (step_as n))
  by_found t ts (k.Reserved kind) is b r h = reserved_found t ts kind is b r h
  by_found t ts (k.Word text) is b r h = closed_found (named_found n (t ∷ ts) b r h)
  by_found t ts _ is b r h = absurd cc

  pub one_found : (ts : List Token) (b : Stmt) (r : List Token) → one n stmt ts ≡ answer b r → Found (StmtIn (suc n)) NoElse ts b r
  unfolding one look
  one_found [] b r h = absurd cc
  one_found (t ∷ ts) b r h = by_found t ts t.kind refl b r h

  -- ---- and what is spelled is read

  one_by : (t : Token) (ts : List Token) (kind : TokenKind) → t.kind ≡ kind → one n stmt (t ∷ ts) ≡ stmt_by n stmt t.place kind (t ∷ ts)
  unfolding one look
  one_by t ts kind is = ap (λ (z : TokenKind). stmt_by n stmt t.place z (t ∷ ts)) is

  one_base : {b : _} {front : List Token} → SpellsBase b front → (r : List Token) → one n stmt (front ++ r) ≡ based_stmt n (front ++ r)
  one_base (e.bool t is) r = one_by t r _ is.kind
  one_base (e.int t is) r = one_by t r _ is.kind
  one_base (e.int32 t is) r = one_by t r _ is.kind
  one_base (e.int64 t is) r = one_by t r _ is.kind
  one_base (e.wrap z t o d inner is io le sz id) r = one_by t _ _ is.kind
  one_base (e.clamp z t o d inner is io le sz id) r = one_by t _ _ is.kind

  one_path : {q : Path} {front : List Token} → SpellsPath q front → (r : List Token) → one n stmt (front ++ r) ≡ named_stmt n (front ++ r)
  one_path (e.path t z zs others is spelled) r = one_by t (others ++ r) _ is

  one_target : {v : Target} {front : List Token} → SpellsTarget v front → (r : List Token) → one n stmt (front ++ r) ≡ named_stmt n (front ++ r)
  one_target (g.target z steps t others is spelled) r = one_by t (others ++ r) _ is.kind

  one_change : (op : Change) (t : Token) (ts : List Token) → IsSign (change_sign op) t → one n stmt (t ∷ ts) ≡ step_stmt n stmt (t ∷ ts)
  one_change c.Increase t ts is = one_by t ts _ is.kind
  one_change c.Decrease t ts is = one_by t ts _ is.kind

  typed_there : {ty : TypeExpr} {front : List Token} → SpellsType ty front → type_height ty ≤ n → {xs : List Var} {u : List Token} → Vars n xs u → (end : Token) → IsSign s.Semicolon end → (r : List Token)
      → one n stmt (((front ++ u) ++ end ∷ []) ++ r) ≡ answer (x.Local (local.Typed ty xs)) r
  typed_there (e.base b sizes front others sb ss) low {xs} {u} h end ie r =
      let ty : TypeExpr = y.Base b sizes in
      let z : Stmt = x.Local (local.Typed ty xs) in
      let whole : (((front ++ others) ++ u) ++ end ∷ []) ++ r ≡ ((front ++ others) ++ (u ++ end ∷ [])) ++ r = ap (λ (l : List Token). l ++ r) (append_assoc (front ++ others) u (end ∷ [])) in
      let apart : ((front ++ others) ++ (u ++ end ∷ [])) ++ r ≡ front ++ (others ++ ((u ++ end ∷ []) ++ r)) = append_assoc (front ++ others) (u ++ end ∷ []) r ∙ append_assoc front others ((u ++ end ∷ []) ++ r) in
      ap (one n stmt) (whole ∙ apart) ∙ one_base sb (others ++ ((u ++ end ∷ []) ++ r)) ∙ ap (based_stmt n) (sym apart)
      ∙ (meets_based_stmt n).complete z ((front ++ others) ++ (u ++ end ∷ [])) r
      (seq ty z (front ++ others) (u ++ end ∷ []) (record { spelled = e.base b sizes front others sb ss; low = low }) (seq (local.Typed ty xs) z u (end ∷ []) (of xs u h) (semi end ie))) tt
  typed_there (e.named q sizes front others sq ss) low {xs} {u} h end ie r =
      let whole : (((front ++ others) ++ u) ++ end ∷ []) ++ r ≡ (front ++ others) ++ (u ++ end ∷ r) = append_assoc ((front ++ others) ++ u) (end ∷ []) r ∙ append_assoc (front ++ others) u (end ∷ r) in
      let apart : (front ++ others) ++ (u ++ end ∷ r) ≡ front ++ (others ++ (u ++ end ∷ r)) = append_assoc front others (u ++ end ∷ r) in
      ap (one n stmt) (whole ∙ apart) ∙ one_path sq (others ++ (u ++ end ∷ r)) ∙ ap (named_stmt n) (sym apart)
      ∙ typed_read n q sizes (front ++ others) (e.named q sizes front others sq ss) low h end ie r

  local_there : {z : Local} {front : List Token} → SpellsLocal z front → local_height z ≤ n → (end : Token) → IsSign s.Semicolon end → (r : List Token) → one n stmt ((front ++ end ∷ []) ++ r) ≡ answer (x.Local z) r
  local_there (g.constants xs t others is hx) low end ie r =
      one_by t ((others ++ end ∷ []) ++ r) _ is.kind
      ∙ skip_read (meets_let_stmt n stmt t.place) t (x.Local (local.Let t.place xs)) (others ++ end ∷ []) r
      (seq (local.Let t.place xs) (x.Local (local.Let t.place xs)) others (end ∷ []) (of xs others (of_listed init_height n SpellsInit hx low)) (semi end ie)) tt
  local_there (g.variables xs t others is hx) low end ie r =
      one_by t ((others ++ end ∷ []) ++ r) _ is.kind
      ∙ skip_read (meets_var_stmt n stmt t.place) t (x.Local (local.Var t.place xs)) (others ++ end ∷ []) r
      (seq (local.Var t.place xs) (x.Local (local.Var t.place xs)) others (end ∷ []) (of xs others (of_listed init_height n SpellsInit hx low)) (semi end ie)) tt
  local_there (g.typed ty xs front others st hx) low end ie r = typed_there st (omega arith) (of_listed var_height n SpellsVar hx (omega arith)) end ie r

  simple_there : {z : Simple} {front : List Token} → SpellsSimple z front → simple_height z ≤ n → (end : Token) → IsSign s.Semicolon end → (r : List Token) → one n stmt ((front ++ end ∷ []) ++ r) ≡ answer (x.Simple z) r
  simple_there (g.assign v op d t front value sv is sd) low end ie r =
      let whole : ((front ++ t ∷ value) ++ end ∷ []) ++ r ≡ front ++ ((t ∷ value) ++ end ∷ r) = append_assoc (front ++ t ∷ value) (end ∷ []) r ∙ append_assoc front (t ∷ value) (end ∷ r) in
      ap (one n stmt) whole ∙ one_target sv ((t ∷ value) ++ end ∷ r)
      ∙ changed_read n sv (omega arith) (simple.Assign v op d) (t ∷ value) (assign op d t value is (record { spelled = sd; low = omega arith })) end ie r
  simple_there (g.after v op t front sv is) low end ie r =
      let whole : ((front ++ t ∷ []) ++ end ∷ []) ++ r ≡ front ++ (t ∷ end ∷ r) = append_assoc (front ++ t ∷ []) (end ∷ []) r ∙ append_assoc front (t ∷ []) (end ∷ r) in
      ap (one n stmt) whole ∙ one_target sv (t ∷ end ∷ r) ∙ changed_read n sv low (simple.After v op) (t ∷ []) (after op t is) end ie r
  simple_there (g.before v op t others is sv) low end ie r =
      let z : Simple = simple.Before t.place op v in
      one_change op t ((others ++ end ∷ []) ++ r) is
      ∙ (meets_step_stmt n stmt).complete (x.Simple z) ((t ∷ others) ++ end ∷ []) r (seq z (x.Simple z) (t ∷ others) (end ∷ []) (before_it op v t others is (record { spelled = sv; low = low })) (semi end ie)) tt
  simple_there (g.call q xs o d front inner sq io sa id) low end ie r =
      let back : List Token = o ∷ (inner ++ d ∷ []) in
      let whole : ((front ++ back) ++ end ∷ []) ++ r ≡ (front ++ back) ++ end ∷ r = append_assoc (front ++ back) (end ∷ []) r in
      let apart : (front ++ back) ++ end ∷ r ≡ front ++ (back ++ end ∷ r) = append_assoc front back (end ∷ r) in
      ap (one n stmt) (whole ∙ apart) ∙ one_path sq (back ++ end ∷ r) ∙ ap (named_stmt n) (sym apart)
      ∙ call_read n q xs front back sq (in_parentheses xs o d inner io sa id (omega arith)) (omega arith) end ie r

  asserted_there : {z : _} {u : List Token} → Asserts n z u → (r : List Token) → one n stmt (u ++ r) ≡ answer (x.Assert z) r
  asserted_there {z} {u} h r =
      ap (λ (l : List Token). one n stmt (l ++ r)) h.parts ∙ one_by h.token (h.tokens ++ r) _ h.is.kind
      ∙ skip_read (meets_assert_stmt n stmt h.token.place) h.token (x.Assert z) h.tokens r (of z h.tokens h.spelled) tt

  abbrev optional_height : Option Expr → ℕ
  optional_height z = lists.optional height z

  up_to : {z : Option Expr} {test : List Token} → Optional SpellsExpr z test → optional_height z ≤ n → (v : Token) → IsSign s.Semicolon v → UpTo n z (test ++ v ∷ [])
  up_to lists.absent low v iv = missing v iv
  up_to (lists.present z test sz) low v iv = there z v test (record { spelled = sz; low = low }) iv

  one_read : {b : Stmt} {u : List Token} → SpellsStmt b u → stmt_height b ≤ suc n → (r : List Token) → NoElse b r → one n stmt (u ++ r) ≡ answer b r
  one_read (g.block all o v inner io ss iv) low r no_else =
      let rows = of_every stmt_height n SpellsStmt (of_stmts ss) (omega (arith, stmt_height-Block o.place all)) in
      one_by o ((inner ++ v ∷ []) ++ r) _ io.kind
      ∙ skip_read (meets_block o.place) o (x.Block o.place all) (inner ++ v ∷ []) r (of all (inner ++ v ∷ []) (seq all all inner (v ∷ []) rows (of tt (v ∷ []) (signed tt v iv)))) tt
  one_read (g.empty t is) low r no_else = one_by t r _ is.kind ∙ ap (λ (o : Outcome (Unit {0})). and_then o (λ q. pure (x.Empty t.place))) (skipped t r)
  one_read (g.declared z end front sz ie) low r no_else = local_there sz (omega (arith, stmt_height-Local z)) end ie r
  one_read (g.simple z end front sz ie) low r no_else = simple_there sz (omega (arith, stmt_height-Simple z)) end ie r
  one_read (g.asserted z tokens sz) low r no_else = asserted_there (as_assert n sz (omega (arith, stmt_height-Assert z))) r
  one_read (g.if_only z f t o v test front is io sz iv sf) low r no_else =
      let h = stmt_height-If t.place z f in
      one_by t _ _ is.kind
      ∙ skip_read (meets_if t.place) t (x.If t.place z f) (o ∷ (test ++ v ∷ front)) r
      (ending z (x.If t.place z f) v (o ∷ test) front (led z o test io (record { spelled = sz; low = omega arith })) iv (only f front (record { spelled = sf; low = omega arith }))) no_else
  one_read (g.if_else z f d t o v q test front back is io sz iv sf shut iq sd) low r no_else =
      let h = stmt_height-IfElse t.place z f d in
      one_by t _ _ is.kind
      ∙ skip_read (meets_if t.place) t (x.IfElse t.place z f d) (o ∷ (test ++ v ∷ (front ++ q ∷ back))) r
      (ending z (x.IfElse t.place z f d) v (o ∷ test) (front ++ q ∷ back) (led z o test io (record { spelled = sz; low = omega arith })) iv
      (both f d q front back (record { spelled = sf; low = omega arith }) shut iq (record { spelled = sd; low = omega arith }))) no_else
  one_read (g.forever f t front is sf) low r no_else =
      let h = stmt_height-Loop t.place None f in
      one_by t _ _ is.kind ∙ skip_read (meets_loop t.place) t (x.Loop t.place None f) front r (seq None (x.Loop t.place None f) [] front lists.absent (of f front (record { spelled = sf; low = omega arith }))) no_else
  one_read (g.times z f t o v count front is io sz iv sf) low r no_else =
      let h = stmt_height-Loop t.place (Some z) f in
      let b : Stmt = x.Loop t.place (Some z) f in
      let counted : Counted z (o ∷ (count ++ v ∷ [])) = seq z z (o ∷ count) (v ∷ []) (led z o count io (record { spelled = sz; low = omega arith })) (of tt (v ∷ []) (signed tt v iv)) in
      let spelled : LoopStmt t.place b ((o ∷ (count ++ v ∷ [])) ++ front) = seq (Some z) b (o ∷ (count ++ v ∷ [])) front (lists.present z (o ∷ (count ++ v ∷ [])) counted) (of f front (record { spelled = sf; low = omega arith })) in
      one_by t _ _ is.kind
      ∙ skip_read (meets_loop t.place) t b (o ∷ (count ++ v ∷ front)) r (subst (λ (l : List Token). LoopStmt t.place b (o ∷ l)) (append_assoc count (v ∷ []) front) spelled) no_else
  one_read (g.while z f t o v test front is io sz iv sf) low r no_else =
      let h = stmt_height-While t.place z f in
      one_by t _ _ is.kind
      ∙ skip_read (meets_while_stmt t.place) t (x.While t.place z f) (o ∷ (test ++ v ∷ front)) r
      (ending z (x.While t.place z f) v (o ∷ test) front (led z o test io (record { spelled = sz; low = omega arith })) iv (of f front (record { spelled = sf; low = omega arith }))) no_else
  one_read (g.for_type ty z f t o v q front rest is io st iz iq sf) low r no_else =
      let h = stmt_height-ForType t.place ty z f in
      one_by t _ _ is.kind
      ∙ skip_read (meets_for n stmt m t.place) t (x.ForType t.place ty z f) (o ∷ (front ++ v ∷ q ∷ rest)) r
      (led (x.ForType t.place ty z f) o (front ++ v ∷ q ∷ rest) io (over_type ty z f v q front rest (record { spelled = st; low = omega arith }) iz iq (record { spelled = sf; low = omega arith }))) no_else
  one_read (g.for_parts b z i f t o u v q first test next rest is io sb iu sz iv si iq sf) low r no_else =
      let h = stmt_height-For t.place b z i f in
      let d : Stmt = x.For t.place b z i f in
      let tail : ForRest n t.place b d (u ∷ ((test ++ v ∷ []) ++ (next ++ q ∷ rest))) =
      for_rest z i f u q (test ++ v ∷ []) next rest iu (up_to sz (omega arith) v iv) (of_optional simple_height n SpellsSimple si (omega arith)) iq (record { spelled = sf; low = omega arith }) in
      let tail2 : ForRest n t.place b d (u ∷ (test ++ v ∷ (next ++ q ∷ rest))) = subst (λ (l : List Token). ForRest n t.place b d (u ∷ l)) (append_assoc test (v ∷ []) (next ++ q ∷ rest)) tail in
      one_by t _ _ is.kind
      ∙ skip_read (meets_for n stmt m t.place) t d (o ∷ (first ++ u ∷ (test ++ v ∷ (next ++ q ∷ rest)))) r
      (led d o (first ++ u ∷ (test ++ v ∷ (next ++ q ∷ rest))) io (in_parts b d first (u ∷ (test ++ v ∷ (next ++ q ∷ rest))) (of_optional start_height n SpellsStart sb (omega arith)) tail2)) no_else
  one_read (g.break t end is ie) low r no_else = one_by t _ _ is.kind ∙ skip_read (meets_semicolon (x.Break t.place)) t (x.Break t.place) (end ∷ []) r (semi end ie) tt
  one_read (g.continue t end is ie) low r no_else = one_by t _ _ is.kind ∙ skip_read (meets_semicolon (x.Continue t.place)) t (x.Continue t.place) (end ∷ []) r (semi end ie) tt
  one_read (g.return z t end value is sz ie) low r no_else =
      let h = stmt_height-Return t.place z in
      one_by t _ _ is.kind ∙ skip_read (meets_return_stmt n stmt t.place) t (x.Return t.place z) (value ++ end ∷ []) r (of z (value ++ end ∷ []) (up_to sz (omega arith) end ie)) tt
  one_read (g.advance t o v end is io iv ie) low r no_else =
      one_by t _ _ is.kind
      ∙ skip_read (meets_advance_stmt n stmt t.place) t (x.Advance t.place) (o ∷ v ∷ end ∷ []) r (seq tt (x.Advance t.place) (o ∷ v ∷ []) (end ∷ []) (led tt o (v ∷ []) io (signed tt v iv)) (semi end ie)) tt
  one_read (g.write z f t arrow end value is ia sf ie) low r no_else =
      let h = stmt_height-Write z f in
      let some = height_some f in
      one_by t _ _ is.kind ∙ ap (λ (l : List Token). named_stmt n (t ∷ arrow ∷ l)) (append_assoc value (end ∷ []) r)
      ∙ write_read n z f t arrow end value is ia (record { spelled = sf; low = omega arith }) ie (omega arith) r

stmt_some : (b : Stmt) → 1 ≤ stmt_height b
unfolding stmt_height
stmt_some (x.Block' p sh all) = omega arith
stmt_some (x.Empty p) = omega arith
stmt_some (x.Local z) = omega arith
stmt_some (x.Simple z) = omega arith
stmt_some (x.Assert z) = omega arith
stmt_some (x.If' p z sh (more_of-Stmt f end_of-Stmt)) = omega arith
stmt_some (x.IfElse' p z sh (more_of-Stmt f end_of-Stmt) si (more_of-Stmt d end_of-Stmt)) = omega arith
stmt_some (x.Loop' p z sh (more_of-Stmt f end_of-Stmt)) = omega arith
stmt_some (x.While' p z sh (more_of-Stmt f end_of-Stmt)) = omega arith
stmt_some (x.ForType' p ty z sh (more_of-Stmt f end_of-Stmt)) = omega arith
stmt_some (x.For' p b z i sh (more_of-Stmt f end_of-Stmt)) = omega arith
stmt_some (x.Break p) = omega arith
stmt_some (x.Continue p) = omega arith
stmt_some (x.Return p z) = omega arith
stmt_some (x.Advance p) = omega arith
stmt_some (x.Write z f) = omega arith

no_stmt : Meets (stmt 0) (StmtIn 0) NoElse NoElse
unfolding stmt
no_stmt = record { sound = λ ts b r h. absurd cc; complete = λ b u r h needs. absurd (let some = stmt_some b in let low = h.low in omega arith) }

more_stmts : (n : ℕ) → Meets (stmt n) (StmtIn n) NoElse NoElse → Meets (stmt (suc n)) (StmtIn (suc n)) NoElse NoElse
unfolding stmt
more_stmts n m = let reads = stmt_reads n in record {
  sound = one_found n (stmt n) reads.local reads.takes m;
  complete = λ b u r h no_else. one_read n (stmt n) reads.local reads.takes m h.spelled h.low r no_else;
}

-- a statement is read where it is spelled, no higher than n, and no `else` goes on with it
pub meets_stmt : (n : ℕ) → Meets (stmt n) (StmtIn n) NoElse NoElse
meets_stmt zero = no_stmt
meets_stmt (suc n) = more_stmts n (meets_stmt n)

-- ---- bodies

body_as : (n : ℕ) → 1 ≤ n → (t : Token) (ts r : List Token) (p : Place) → t.place ≡ p → (all : List Stmt) (u : List Token) → t ∷ ts ≡ u ++ r → Led s.LeftBrace (Seq (Every (StmtIn (n - 1))) (λ all. Of (λ (y : Unit {0}). all) (Signed s.RightBrace))) all u
    → Within block_height n SpellsBlock (record { place = p; stmts = all }) u
body_as n some t ts r p place _ _ parts (led _ o _ io (seq all _ inner _ h (of _ _ (signed _ v iv)))) =
    let rows = every_of stmt_height (n - 1) SpellsStmt h in
    let same : o.place ≡ p = ap (λ (z : Token). z.place) (sym (head_same t o ts ((inner ++ v ∷ []) ++ r) parts)) ∙ place in
    subst (λ (z : Place). Within block_height n SpellsBlock (record { place = z; stmts = all }) (o ∷ (inner ++ v ∷ []))) same
    (record { spelled = g.block all o v inner io (stmts_of rows.spelled) iv; low = omega (arith, rows.low) })

body_found : (n : ℕ) → 1 ≤ n → (ts : List Token) (b : Block) (r : List Token) → (here >>= (λ p. expect (is_sign s.LeftBrace) >> stmts (n - 1) (stmt (n - 1)) >>= (λ all. pure (record { place = p; stmts = all })))) ts ≡ answer b r
    → Found (Within block_height n SpellsBlock) Any ts b r
body_found n some ts b r h =
    let v = bind_ok (here ts) (λ p. expect (is_sign s.LeftBrace) >> stmts (n - 1) (stmt (n - 1)) >>= (λ all. pure (record { place = p; stmts = all }))) b r h in
    let at = here_ok ts v.0 v.1 v.2 in
    let i = bind_ok ((expect (is_sign s.LeftBrace) >> stmts (n - 1) (stmt (n - 1))) v.1) (λ all. pure (record { place = v.0; stmts = all })) b r v.3 in
    let reads = stmt_reads (n - 1) in
    let f = (meets_led s.LeftBrace (meets_stmts (n - 1) (stmt (n - 1)) reads.local reads.takes (meets_stmt (n - 1)))).sound v.1 i.0 i.1 i.2 in
    let whole : ts ≡ f.used ++ i.1 = at.same ∙ f.parts in
    given (λ z l. Found (Within block_height n SpellsBlock) Any ts z l) (record { place = v.0; stmts = i.0 }) b i.1 r i.3
    (record { used = f.used; parts = whole; spelled = body_as n some at.token at.tokens i.1 v.0 at.place i.0 f.used (sym at.parts ∙ whole) f.spelled; follows = tt })

block_read : (n : ℕ) → 1 ≤ n → {b : Block} {u : List Token} → SpellsBlock b u → block_height b ≤ n → (r : List Token)
    → (here >>= (λ p. expect (is_sign s.LeftBrace) >> stmts (n - 1) (stmt (n - 1)) >>= (λ all. pure (record { place = p; stmts = all })))) (u ++ r) ≡ answer b r
block_read n some (g.block all o v inner io ss iv) low r =
    let reads = stmt_reads (n - 1) in
    let rows = of_every stmt_height (n - 1) SpellsStmt (of_stmts ss) (omega arith) in
    let read = (meets_led s.LeftBrace (meets_stmts (n - 1) (stmt (n - 1)) reads.local reads.takes (meets_stmt (n - 1)))).complete all (o ∷ (inner ++ v ∷ [])) r
    (led all o (inner ++ v ∷ []) io (seq all all inner (v ∷ []) rows (of tt (v ∷ []) (signed tt v iv)))) tt in
    rw (here_is o ((inner ++ v ∷ []) ++ r), read) refl

-- the body of a function or a handler
pub meets_body : (n : ℕ) → Meets (body n) (Within block_height n SpellsBlock) Any Any
unfolding body
meets_body n = meets_within n (λ some. record { sound = body_found n some; complete = λ b u r h any. block_read n some h.spelled h.low r }) (λ b u h. let low = h.low in omega arith)
