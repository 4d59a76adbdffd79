-- What the parsers of the head of a `for` meet.
use Rattle.std.proofs.Common.{◌≡◌, ℕ, ◌≤◌, Bool, true, false, List, [], ◌∷◌, ◌++◌, Option, Some, None, Ok, Err, refl, ap, sym, subst, ◌∙◌, append_assoc, inl, inr, arith}
use Rattle.cm_base.specs.declared.place.Place.{Place}
use Rattle.cm_tree.specs.declared.token.Token.{Token}
use Rattle.cm_tree.specs.declared.token.TokenKind.{TokenKind}
use Rattle.cm_tree.specs.declared.token.TokenKind.TheVariants as k
use Rattle.cm_tree.specs.declared.sign.Sign.TheVariants as s
use Rattle.cm_tree.specs.declared.reserved.Reserved.TheVariants as w
use Rattle.cm_tree.specs.declared.path.Path.{Path}
use Rattle.cm_tree.specs.declared.path.Word.{Word}
use Rattle.cm_tree.specs.declared.expr.Expr.{Expr}
use Rattle.cm_tree.specs.declared.type_expr.TypeExpr.{TypeExpr}
use Rattle.cm_tree.specs.declared.type_expr.TypeExpr.TheVariants as y
use Rattle.cm_tree.specs.declared.operator.Change.{Change}
use Rattle.cm_tree.specs.declared.operator.Change.TheVariants as c
use Rattle.cm_tree.specs.declared.simple.Var.{Var}
use Rattle.cm_tree.specs.declared.simple.Target.{Target}
use Rattle.cm_tree.specs.declared.simple.Simple.{Simple}
use Rattle.cm_tree.specs.declared.simple.Simple.TheVariants as simple
use Rattle.cm_tree.specs.declared.simple.Local.{Local}
use Rattle.cm_tree.specs.declared.simple.Local.TheVariants as local
use Rattle.cm_tree.specs.declared.stmt.Start.{Start}
use Rattle.cm_tree.specs.declared.stmt.Start.TheVariants as start
use Rattle.cm_tree.specs.declared.stmt.Stmt.{Stmt}
use Rattle.cm_tree.specs.declared.stmt.Stmt.TheVariants as x
use Rattle.cm_tree.specs.StmtHeights.{start_height, init_height, var_height, type_height, local_height, target_height, simple_height}
use Rattle.cm_tree.specs.Lists.{Every, Further, Listed, Optional, highest-nil}
use Rattle.cm_tree.specs.declared.stmt.Stmt.TheBlock.{hidden-the_row-Stmt-1}
use denote.Hole.Carrier.{hidden}
use Rattle.cm_tree.specs.Lists as lists
use Rattle.cm_tree.specs.Spelling.{IsSign, IsReserved, IsWord, SpellsPath, SpellsBase, SpellsExpr, SpellsType}
use Rattle.cm_tree.specs.Spelling as e
use Rattle.cm_tree.specs.StmtSpelling.{assign_sign, change_sign, SpellsWord, SpellsInit, SpellsVar, SpellsTarget, SpellsLocal, SpellsSimple, SpellsStmt, SpellsStart, is_open}
use Rattle.cm_tree.specs.StmtSpelling as g
use Rattle.token_reader.specs.Parsers.{Outcome, Parser, and_then, ◌>>=◌, ◌>>◌, pure, look, see, sees, skip, expect, is_sign, is_reserved, same_sign}
use Rattle.token_reader.proofs.Inverses.{answer, bind_ok, if_ok, seen}
use Rattle.cm_parse_expr.proofs.Next.{sign_seen}
use Rattle.file_grammar.specs.declared.begun.Begun.{Begun}
use Rattle.file_grammar.specs.declared.begun.Begun.TheVariants as begun
use Rattle.file_grammar.specs.Words.{is_name, word}
use Rattle.file_grammar.specs.Simples.{change_target, begun_by_name, vars_of, vars}
use Rattle.file_grammar.specs.Stmts.{for_parts, for_type_if, for_type, for_begun, for_base, for_name, for_step, for_let, for_var, for_by, for_at, for_stmt}
use Rattle.file_grammar.proofs.Meets.{Found, Meets}
use Rattle.file_grammar.proofs.Spelled.{Within, TypeEnds, meets_same, meets_word, meets_type, meets_vars}
use Rattle.file_grammar.proofs.Shapes.{Seq, seq, Of, of, Led, led, meets_seq, meets_of, meets_iff, meets_led, type_before_word, found_as, skip_same_then, skip_found, skip_read, stay_found}
use Rattle.file_grammar.proofs.Lows.{listed_of, of_listed}
use Rattle.file_grammar.proofs.Beginnings.{in_parentheses}
use Rattle.file_grammar.proofs.NameFirst.{Starts, typed, targeted, calling, meets_begun}
use Rattle.file_grammar.proofs.Changes.{Stops, Changed, assign, after, Before, before_it, stops_semicolon, stops_parenthesis, meets_change, meets_before, meets_let, meets_var_local, changed_spelled, call_spelled}
use Rattle.file_grammar.proofs.StmtParts.{UpTo, missing, there, meets_value_up_to, meets_third}
use Rattle.file_grammar.proofs.StmtParts as parts
use Rattle.file_grammar.proofs.Closings.{StmtIn, Inits, Vars, vars_word, changed_ends}

-- what follows doesn't begin with `else`, if the statement ends in an `if` without one
pub record NoElse (a : Stmt) (r : List Token) : Type 0 where
  pub no_else : is_open a ≡ true → sees (is_reserved w.Else) r ≡ false

-- from the first `;` on
pub data ForRest (n : ℕ) (p : Place) (b : Option Start) : Stmt → List Token → Type 0 where
  for_rest : (z : Option Expr) (i : Option Simple) (f : Stmt) (u q : Token) (test next body : List Token)
      → IsSign s.Semicolon u → UpTo n z test → Optional (Within simple_height n SpellsSimple) i next → IsSign s.RightParenthesis q → StmtIn n f body
      → ForRest n p b (x.For p b z i f) (u ∷ (test ++ (next ++ q ∷ body)))

-- after a type
pub data ForTyped (n : ℕ) (p : Place) (ty : TypeExpr) : Stmt → List Token → Type 0 where
  typed_over : (z : Word) (f : Stmt) (t q : Token) (body : List Token) → IsWord z t → IsSign s.RightParenthesis q → StmtIn n f body → ForTyped n p ty (x.ForType p ty z f) (t ∷ q ∷ body)
  typed_parts : (vs : List Var) (f : Stmt) (front rest : List Token) → Vars n vs front → ForRest n p (Some (start.Local (local.Typed ty vs))) f rest → ForTyped n p ty f (front ++ rest)

-- after the parenthesis
pub data ForHead (n : ℕ) (p : Place) : Stmt → List Token → Type 0 where
  over_type : (ty : TypeExpr) (z : Word) (f : Stmt) (t q : Token) (front body : List Token)
      → Within type_height n SpellsType ty front → IsWord z t → IsSign s.RightParenthesis q → StmtIn n f body → ForHead n p (x.ForType p ty z f) (front ++ t ∷ q ∷ body)
  in_parts : (b : Option Start) (f : Stmt) (first rest : List Token) → Optional (Within start_height n SpellsStart) b first → ForRest n p b f rest → ForHead n p f (first ++ rest)

is_open-For : (p : Place) (b : Option Start) (z : Option Expr) (i : Option Simple) (f : Stmt) → is_open (x.For p b z i f) ≡ is_open f
unfolding is_open hidden-the_row-Stmt-1 hidden
is_open-For p b z i f = refl

is_open-ForType : (p : Place) (ty : TypeExpr) (z : Word) (f : Stmt) → is_open (x.ForType p ty z f) ≡ is_open f
unfolding is_open hidden-the_row-Stmt-1 hidden
is_open-ForType p ty z f = refl

-- one statement ends as another does
pub no_else_as : (f g : Stmt) (r : List Token) → is_open g ≡ is_open f → NoElse f r → NoElse g r
no_else_as f g r same h = record { no_else = λ is. h.no_else (sym same ∙ is) }

-- ---- the names that are declared, but for the first

pub record VarsFrom (xs : List Var) (u : List Token) : Type 0 where
  pub name : Word
  pub token : Token
  pub tokens : List Token
  pub parts : u ≡ token ∷ tokens
  pub is : IsWord name token
  pub apart : (test : TokenKind → Bool) → test (k.Sign s.Assign) ≡ false → test (k.Sign s.Comma) ≡ false → (r : List Token) → sees test r ≡ false → sees test (tokens ++ r) ≡ false

further_apart : {n : ℕ} {xs : List Var} {u : List Token} → Further (Within var_height n SpellsVar) xs u → (test : TokenKind → Bool) → test (k.Sign s.Comma) ≡ false → (r : List Token) → sees test r ≡ false → sees test (u ++ r) ≡ false
further_apart lists.none test comma r fails = fails
further_apart (lists.more v vs t first others is one rest) test comma r fails = seen test t _ _ is.kind false comma

vars_from_by : {n : ℕ} {v : Var} {first : List Token} → SpellsVar v first → {xs : List Var} {u : List Token} → Further (Within var_height n SpellsVar) xs u → VarsFrom (v ∷ xs) (first ++ u)
vars_from_by (g.bare z t is) {xs} {u} rest = record { name = z; token = t; tokens = u; parts = refl; is = is; apart = λ test equals comma r fails. further_apart rest test comma r fails }
vars_from_by (g.init z e t equals value is ie se) {xs} {u} rest =
    record { name = z; token = t; tokens = equals ∷ (value ++ u); parts = refl; is = is; apart = λ test fails_equals comma r fails. seen test equals _ _ ie.kind false fails_equals }

pub vars_from : {n : ℕ} {xs : List Var} {u : List Token} → Vars n xs u → VarsFrom xs u
vars_from (lists.listed v xs first others one rest) = vars_from_by one.spelled rest

word_of : (t : Token) (ts : List Token) (z : Word) → IsWord z t → word (t ∷ ts) ≡ answer z ts
word_of t ts z is = meets_word.complete z (t ∷ []) ts (g.word z t is) tt

-- a name, and what follows it
pub vars_by : {B : Type 0} (n : ℕ) (f : List Var → Parser B) (t : Token) (ts : List Token) (z : Word) → IsWord z t → (vars n >>= f) (t ∷ ts) ≡ (vars_of n z >>= f) ts
unfolding vars
vars_by n f t ts z is = ap (λ (o : Outcome Word). and_then (and_then o (vars_of n)) f) (word_of t ts z is)

pub vars_after : {B : Type 0} (n : ℕ) (f : List Var → Parser B) (ts : List Token) (z : Word) (mid : List Token) → word ts ≡ answer z mid → (vars n >>= f) ts ≡ (vars_of n z >>= f) mid
unfolding vars
vars_after n f ts z mid is = ap (λ (o : Outcome Word). and_then (and_then o (vars_of n)) f) is

module _ (n : ℕ) (stmt : Parser Stmt) (m : Meets stmt (StmtIn n) NoElse NoElse) where
  abbrev RestBy : Place → Option Start → Stmt → List Token → Type 0
  RestBy p b = Seq (Led s.Semicolon (UpTo n)) (λ z. Seq (Optional (Within simple_height n SpellsSimple)) (λ i. Of (λ f. x.For p b z i f) (Led s.RightParenthesis (StmtIn n))))

  rest_of : (p : Place) (b : Option Start) (f : Stmt) (u : List Token) → RestBy p b f u → ForRest n p b f u
  rest_of p b _ _ (seq z _ _ _ (led _ u test iu hz) (seq i _ next _ hi (of f _ (led _ q body iq hf)))) = for_rest z i f u q test next body iu hz hi iq hf

  of_rest : (p : Place) (b : Option Start) (f : Stmt) (u : List Token) → ForRest n p b f u → RestBy p b f u
  of_rest p b _ _ (for_rest z i f u q test next body iu hz hi iq hf) =
      seq z (x.For p b z i f) (u ∷ test) (next ++ q ∷ body) (led z u test iu hz) (seq i (x.For p b z i f) next (q ∷ body) hi (of f (q ∷ body) (led f q body iq hf)))

  third_ends : {p : Place} {b : Option Start} {z : Option Expr} {i : Option Simple} (f : Stmt) (v r : List Token) → Of (λ d. x.For p b z i d) (Led s.RightParenthesis (StmtIn n)) f v → parts.Ended i (v ++ r)
  unfolding same_sign
  third_ends _ _ r (of f _ (led _ t u is h)) = record { there_is = seen (is_sign s.RightParenthesis) t (u ++ r) _ is.kind true refl; stops = stops_parenthesis t (u ++ r) is }

  meets_rest : (p : Place) (b : Option Start) → Meets (for_parts n stmt p b) (ForRest n p b) NoElse NoElse
  unfolding for_parts
  meets_rest p b = meets_iff
      (meets_seq (meets_led s.Semicolon (meets_value_up_to n))
      (λ z. meets_seq (meets_third n)
      (λ i. meets_of {G = NoElse} {M = NoElse} (λ f. x.For p b z i f) (meets_led s.RightParenthesis m) (λ f r h. no_else_as f (x.For p b z i f) r (is_open-For p b z i f) h) (λ f r h. no_else_as (x.For p b z i f) f r (sym (is_open-For p b z i f)) h))
      (λ i f v r h d. third_ends f v r h))
      (λ z f v r h d. tt))
      (rest_of p b) (of_rest p b)

  rest_stops : {p : Place} {b : Option Start} (f : Stmt) (v r : List Token) → ForRest n p b f v → Stops (v ++ r)
  rest_stops _ _ r (for_rest z i f u q test next body iu hz hi iq hf) = stops_semicolon u ((test ++ (next ++ q ∷ body)) ++ r) iu

  rest_no_name : {p : Place} {b : Option Start} {f : Stmt} {v : List Token} → ForRest n p b f v → (test : TokenKind → Bool) → test (k.Sign s.Semicolon) ≡ false → (r : List Token) → sees test (v ++ r) ≡ false
  rest_no_name (for_rest z i f u q test next body iu hz hi iq hf) check fails r = seen check u _ _ iu.kind false fails

  -- ---- after a type

  meets_typed_parts : (p : Place) (ty : TypeExpr) → Meets (vars n >>= (λ vs. for_parts n stmt p (Some (start.Local (local.Typed ty vs))))) (Seq (Vars n) (λ vs. ForRest n p (Some (start.Local (local.Typed ty vs))))) NoElse NoElse
  meets_typed_parts p ty = meets_seq (meets_vars n) (λ vs. meets_rest p (Some (start.Local (local.Typed ty vs))))
      (λ vs f v r h d. let stops = rest_stops f v r h in record { ended = stops.no_comma; needs = λ q. record { no_value = stops.no_value; closed = stops.closed } })

  meets_typed_over : (p : Place) (ty : TypeExpr) (z : Word) → Meets (expect (is_sign s.RightParenthesis) >> stmt >>= (λ f. pure (x.ForType p ty z f))) (Of (λ f. x.ForType p ty z f) (Led s.RightParenthesis (StmtIn n))) NoElse NoElse
  meets_typed_over p ty z = meets_of {G = NoElse} {M = NoElse} (λ f. x.ForType p ty z f) (meets_led s.RightParenthesis m) (λ f r h. no_else_as f (x.ForType p ty z f) r (is_open-ForType p ty z f) h) (λ f r h. no_else_as (x.ForType p ty z f) f r (sym (is_open-ForType p ty z f)) h)

  over_as : (p : Place) (ty : TypeExpr) {z : Word} {front : List Token} → SpellsWord z front → (f : Stmt) (u : List Token) → Of (λ d. x.ForType p ty z d) (Led s.RightParenthesis (StmtIn n)) f u → ForTyped n p ty f (front ++ u)
  over_as p ty (g.word z t is) _ _ (of f _ (led _ q body iq h)) = typed_over z f t q body is iq h

  parts_as : (p : Place) (ty : TypeExpr) (f : Stmt) (u : List Token) → Seq (Vars n) (λ vs. ForRest n p (Some (start.Local (local.Typed ty vs)))) f u → ForTyped n p ty f u
  parts_as p ty _ _ (seq vs f front rest hv hr) = typed_parts vs f front rest hv hr

  typed_found : (p : Place) (ty : TypeExpr) (ts : List Token) (f : Stmt) (r : List Token) → for_type n stmt p ty ts ≡ answer f r → Found (ForTyped n p ty) NoElse ts f r
  unfolding for_type see
  typed_found p ty ts f r h =
      let c = bind_ok (word ts) (λ name. see (is_sign s.RightParenthesis) >>= for_type_if n stmt p ty name) f r h in
      elim (if_ok (sees (is_sign s.RightParenthesis) c.1) _ _ c.1 _ c.3) [
        | inl q ↦
            let name = meets_word.sound ts c.0 c.1 c.2 in
            let d = (meets_typed_over p ty c.0).sound c.1 f r (sym (skip_same_then (is_sign s.RightParenthesis) stmt (λ d. pure (x.ForType p ty c.0 d)) c.1 q.0) ∙ q.1) in
            record {
              used = name.used ++ d.used;
              parts = name.parts ∙ ap (λ (l : List Token). name.used ++ l) d.parts ∙ sym (append_assoc name.used d.used r);
              spelled = over_as p ty name.spelled f d.used d.spelled;
              follows = d.follows;
            }
        | inr q ↦
            let d = (meets_typed_parts p ty).sound ts f r (vars_after n (λ vs. for_parts n stmt p (Some (start.Local (local.Typed ty vs)))) ts c.0 c.1 c.2 ∙ q.1) in
            found_as d (λ u e. parts_as p ty f u e)
      ]

  typed_by : (p : Place) (ty : TypeExpr) (z : Word) (t : Token) (ts : List Token) (b : Bool) → IsWord z t → sees (is_sign s.RightParenthesis) ts ≡ b → for_type n stmt p ty (t ∷ ts) ≡ for_type_if n stmt p ty z b ts
  unfolding for_type see
  typed_by p ty z t ts b is there_is = rw (word_of t ts z is, there_is) refl

  typed_read : (p : Place) (ty : TypeExpr) {f : Stmt} {u : List Token} → ForTyped n p ty f u → (r : List Token) → NoElse f r → for_type n stmt p ty (u ++ r) ≡ answer f r
  unfolding same_sign
  typed_read p ty (typed_over z f t q body is iq h) r no_else =
      let there_is = sign_seen s.RightParenthesis q (body ++ r) iq in
      typed_by p ty z t (q ∷ (body ++ r)) true is there_is
      ∙ skip_same_then (is_sign s.RightParenthesis) stmt (λ d. pure (x.ForType p ty z d)) (q ∷ (body ++ r)) there_is
      ∙ (meets_typed_over p ty z).complete (x.ForType p ty z f) (q ∷ body) r (of f (q ∷ body) (led f q body iq h)) no_else
  typed_read p ty (typed_parts vs f front rest hv hr) r no_else =
      let v = vars_from hv in
      let go : List Var → Parser Stmt = λ us. for_parts n stmt p (Some (start.Local (local.Typed ty us))) in
      let whole : (front ++ rest) ++ r ≡ v.token ∷ (v.tokens ++ (rest ++ r)) = append_assoc front rest r ∙ ap (λ (l : List Token). l ++ (rest ++ r)) v.parts in
      let none = v.apart (is_sign s.RightParenthesis) refl refl (rest ++ r) (rest_no_name hr (is_sign s.RightParenthesis) refl r) in
      ap (for_type n stmt p ty) whole
      ∙ typed_by p ty v.name v.token (v.tokens ++ (rest ++ r)) false v.is none
      ∙ sym (vars_by n go v.token (v.tokens ++ (rest ++ r)) v.name v.is)
      ∙ ap (vars n >>= go) (sym whole)
      ∙ (meets_typed_parts p ty).complete f (front ++ rest) r (seq vs f front rest hv hr) no_else

  pub meets_for_type : (p : Place) (ty : TypeExpr) → Meets (for_type n stmt p ty) (ForTyped n p ty) NoElse NoElse
  meets_for_type p ty = record { sound = typed_found p ty; complete = λ f u r h no_else. typed_read p ty h r no_else }

  -- ---- the head

  none_as : (p : Place) (f : Stmt) (u : List Token) → ForRest n p None f u → ForHead n p f u
  none_as p f u h = in_parts None f [] u lists.absent h

  meets_step_first : (p : Place) → Meets (for_step n stmt p) (Seq (Before n) (λ z. ForRest n p (Some (start.Simple z)))) NoElse NoElse
  unfolding for_step
  meets_step_first p = meets_seq (meets_before n) (λ z. meets_rest p (Some (start.Simple z))) (λ z f v r h d. rest_stops f v r h)

  meets_change_first : (p : Place) (v : Target) → Meets (change_target n v >>= (λ z. for_parts n stmt p (Some (start.Simple z)))) (Seq (Changed n v) (λ z. ForRest n p (Some (start.Simple z)))) NoElse NoElse
  meets_change_first p v = meets_seq (meets_change n v) (λ z. meets_rest p (Some (start.Simple z))) (λ z f v r h d. rest_stops f v r h)

  meets_let_first : (p q : Place) → Meets (for_let n stmt p q) (Seq (Of (λ xs. local.Let q xs) (Inits n)) (λ z. ForRest n p (Some (start.Local z)))) NoElse NoElse
  unfolding for_let
  meets_let_first p q = meets_seq (meets_let n q) (λ z. meets_rest p (Some (start.Local z))) (λ z f v r h d. rest_stops f v r h)

  meets_var_first : (p q : Place) → Meets (for_var n stmt p q) (Seq (Of (λ xs. local.Var q xs) (Inits n)) (λ z. ForRest n p (Some (start.Local z)))) NoElse NoElse
  unfolding for_var
  meets_var_first p q = meets_seq (meets_var_local n q) (λ z. meets_rest p (Some (start.Local z))) (λ z f v r h d. rest_stops f v r h)

  simple_first : (p : Place) {z : Simple} {front : List Token} → Within simple_height n SpellsSimple z front → (f : Stmt) (u : List Token) → ForRest n p (Some (start.Simple z)) f u → ForHead n p f (front ++ u)
  simple_first p {z} {front} one f u h = in_parts (Some (start.Simple z)) f front u (lists.present (start.Simple z) front (record { spelled = g.simple z front one.spelled; low = one.low })) h

  local_first : (p : Place) {z : Local} {front : List Token} → SpellsLocal z front → local_height z ≤ n → (f : Stmt) (u : List Token) → ForRest n p (Some (start.Local z)) f u → ForHead n p f (front ++ u)
  local_first p {z} {front} one low f u h = in_parts (Some (start.Local z)) f front u (lists.present (start.Local z) front (record { spelled = g.declared z front one; low = low })) h

  step_as : (p : Place) (f : Stmt) (u : List Token) → Seq (Before n) (λ z. ForRest n p (Some (start.Simple z))) f u → ForHead n p f u
  step_as p _ _ (seq _ f _ back (before_it op v t others is sv) h) = simple_first p (record { spelled = g.before v op t others is sv.spelled; low = sv.low }) f back h

  change_as : (p : Place) {v : Target} {front : List Token} → SpellsTarget v front → target_height v ≤ n → (f : Stmt) (u : List Token) → Seq (Changed n v) (λ z. ForRest n p (Some (start.Simple z))) f u → ForHead n p f (front ++ u)
  change_as p {v} {front} sv low _ _ (seq z f u back hz h) = subst (ForHead n p f) (append_assoc front u back) (simple_first p (changed_spelled n sv low z u hz) f back h)

  let_as : (p : Place) (t : Token) → IsReserved w.Let t → (f : Stmt) (u : List Token) → Seq (Of (λ xs. local.Let t.place xs) (Inits n)) (λ z. ForRest n p (Some (start.Local z))) f u → ForHead n p f (t ∷ u)
  let_as p t is _ _ (seq _ f _ back (of xs u hx) h) = let all = listed_of init_height n SpellsInit hx in local_first p (g.constants xs t u is all.spelled) all.low f back h

  var_as : (p : Place) (t : Token) → IsReserved w.Var t → (f : Stmt) (u : List Token) → Seq (Of (λ xs. local.Var t.place xs) (Inits n)) (λ z. ForRest n p (Some (start.Local z))) f u → ForHead n p f (t ∷ u)
  var_as p t is _ _ (seq _ f _ back (of xs u hx) h) = let all = listed_of init_height n SpellsInit hx in local_first p (g.variables xs t u is all.spelled) all.low f back h

  type_as : (p : Place) {ty : TypeExpr} {front : List Token} → SpellsType ty front → type_height ty ≤ n → (f : Stmt) (u : List Token) → ForTyped n p ty f u → ForHead n p f (front ++ u)
  type_as p {ty} {front} st low _ _ (typed_over z f t q body is iq h) = over_type ty z f t q front body (record { spelled = st; low = low }) is iq h
  type_as p {ty} {front} st low _ _ (typed_parts vs f u rest hv h) =
      let all = listed_of var_height n SpellsVar hv in
      subst (ForHead n p f) (append_assoc front u rest) (local_first p (g.typed ty vs front u st all.spelled) (omega (arith, all.low)) f rest h)

  typed_starts : (p : Place) (ty : TypeExpr) {f : Stmt} {u : List Token} → ForTyped n p ty f u → (P : List Token → Type 0) → ((t : Token) (ts : List Token) (text : List ℕ) → t.kind ≡ k.Word text → P (t ∷ ts)) → (r : List Token) → P (u ++ r)
  typed_starts p ty (typed_over z f t q body is iq h) P named r = named t ((q ∷ body) ++ r) z.text is.kind
  typed_starts p ty (typed_parts vs f front rest hv h) P named r = subst P (sym (append_assoc front rest r)) (vars_word hv P named (rest ++ r))

  meets_base_first : (p : Place) → Meets (for_base n stmt p) (Seq (Within type_height n SpellsType) (λ ty. ForTyped n p ty)) NoElse NoElse
  unfolding for_base
  meets_base_first p = meets_seq (meets_type n) (λ ty. meets_for_type p ty) (λ ty f v r h d. typed_starts p ty h (TypeEnds ty) (type_before_word ty) r)

  base_as : (p : Place) (f : Stmt) (u : List Token) → Seq (Within type_height n SpellsType) (λ ty. ForTyped n p ty) f u → ForHead n p f u
  base_as p _ _ (seq ty f front back st h) = type_as p st.spelled st.low f back h

  begun_found : (p : Place) {z : Begun} {u : List Token} → Starts n z u → (mid : List Token) (f : Stmt) (r : List Token) → for_begun n stmt p z mid ≡ answer f r → Found (ForHead n p) NoElse (u ++ mid) f r
  begun_found p (typed q sizes u st low) mid f r h =
      let d = typed_found p (y.Named q sizes) mid f r h in
      record { used = u ++ d.used; parts = ap (λ (l : List Token). u ++ l) d.parts ∙ sym (append_assoc u d.used r); spelled = type_as p st low f d.used d.spelled; follows = d.follows }
  begun_found p (targeted v u sv low) mid f r h =
      let d = (meets_change_first p v).sound mid f r h in
      record { used = u ++ d.used; parts = ap (λ (l : List Token). u ++ l) d.parts ∙ sym (append_assoc u d.used r); spelled = change_as p sv low f d.used d.spelled; follows = d.follows }
  begun_found p (calling q xs front back sq sa two) mid f r h =
      let d = (meets_rest p (Some (start.Simple (simple.Call q xs)))).sound mid f r h in
      record {
        used = (front ++ back) ++ d.used;
        parts = ap (λ (l : List Token). (front ++ back) ++ l) d.parts ∙ sym (append_assoc (front ++ back) d.used r);
        spelled = simple_first p (call_spelled n q xs front back sq sa two) f d.used d.spelled;
        follows = d.follows;
      }

  name_found : (p : Place) (ts : List Token) (f : Stmt) (r : List Token) → for_name n stmt p ts ≡ answer f r → Found (ForHead n p) NoElse ts f r
  unfolding for_name
  name_found p ts f r h =
      let z = bind_ok (begun_by_name n ts) (for_begun n stmt p) f r h in
      let d = (meets_begun n).sound ts z.0 z.1 z.2 in
      subst (λ (l : List Token). Found (ForHead n p) NoElse l f r) (sym d.parts) (begun_found p d.spelled z.1 f r z.3)

  by_found : (p : Place) (t : Token) (ts : List Token) (kind : TokenKind) → t.kind ≡ kind → (f : Stmt) (r : List Token) → for_by n stmt p t.place kind (t ∷ ts) ≡ answer f r → Found (ForHead n p) NoElse (t ∷ ts) f r
  by_found p t ts (k.Sign s.Semicolon) is f r h = stay_found (meets_rest p None) (t ∷ ts) f r h (none_as p)
  by_found p t ts (k.Sign s.PlusPlus) is f r h = stay_found (meets_step_first p) (t ∷ ts) f r h (step_as p)
  by_found p t ts (k.Sign s.MinusMinus) is f r h = stay_found (meets_step_first p) (t ∷ ts) f r h (step_as p)
  by_found p t ts (k.Reserved w.Let) is f r h = skip_found (meets_let_first p t.place) t ts f r h (let_as p t (record { kind = is }))
  by_found p t ts (k.Reserved w.Var) is f r h = skip_found (meets_var_first p t.place) t ts f r h (var_as p t (record { kind = is }))
  by_found p t ts (k.Reserved w.Bool) is f r h = stay_found (meets_base_first p) (t ∷ ts) f r h (base_as p)
  by_found p t ts (k.Reserved w.Int) is f r h = stay_found (meets_base_first p) (t ∷ ts) f r h (base_as p)
  by_found p t ts (k.Reserved w.Int32) is f r h = stay_found (meets_base_first p) (t ∷ ts) f r h (base_as p)
  by_found p t ts (k.Reserved w.Int64) is f r h = stay_found (meets_base_first p) (t ∷ ts) f r h (base_as p)
  by_found p t ts (k.Reserved w.Wrap) is f r h = stay_found (meets_base_first p) (t ∷ ts) f r h (base_as p)
  by_found p t ts (k.Reserved w.Clamp) is f r h = stay_found (meets_base_first p) (t ∷ ts) f r h (base_as p)
  by_found p t ts (k.Word text) is f r h = name_found p (t ∷ ts) f r h
  by_found p t ts _ is f r h = absurd cc

  head_found : (p : Place) (ts : List Token) (f : Stmt) (r : List Token) → (look >>= for_at n stmt p) ts ≡ answer f r → Found (ForHead n p) NoElse ts f r
  unfolding look
  head_found p [] f r h = absurd cc
  head_found p (t ∷ ts) f r h = by_found p t ts t.kind refl f r h

  -- ---- and what is spelled is read

  head_by : (p : Place) (t : Token) (ts : List Token) (kind : TokenKind) → t.kind ≡ kind → (look >>= for_at n stmt p) (t ∷ ts) ≡ for_by n stmt p t.place kind (t ∷ ts)
  unfolding look
  head_by p t ts kind is = ap (λ (z : TokenKind). for_by n stmt p t.place z (t ∷ ts)) is

  head_base : (p : Place) {b : _} {front : List Token} → SpellsBase b front → (r : List Token) → (look >>= for_at n stmt p) (front ++ r) ≡ for_base n stmt p (front ++ r)
  head_base p (e.bool t is) r = head_by p t r _ is.kind
  head_base p (e.int t is) r = head_by p t r _ is.kind
  head_base p (e.int32 t is) r = head_by p t r _ is.kind
  head_base p (e.int64 t is) r = head_by p t r _ is.kind
  head_base p (e.wrap z t o d inner is io le sz id) r = head_by p t _ _ is.kind
  head_base p (e.clamp z t o d inner is io le sz id) r = head_by p t _ _ is.kind

  head_target : (p : Place) {v : Target} {front : List Token} → SpellsTarget v front → (r : List Token) → (look >>= for_at n stmt p) (front ++ r) ≡ for_name n stmt p (front ++ r)
  head_target p (g.target z steps t others is spelled) r = head_by p t (others ++ r) _ is.kind

  head_path : (p : Place) {q : Path} {front : List Token} → SpellsPath q front → (r : List Token) → (look >>= for_at n stmt p) (front ++ r) ≡ for_name n stmt p (front ++ r)
  head_path p (e.path t z zs others is spelled) r = head_by p t (others ++ r) _ is

  name_by : (p : Place) (z : Begun) (ts mid r : List Token) (f : Stmt) → begun_by_name n ts ≡ answer z mid → for_begun n stmt p z mid ≡ answer f r → for_name n stmt p ts ≡ answer f r
  unfolding for_name
  name_by p z ts mid r f one two = rw one two

  name_is : (t : Token) (ts : List Token) (text : List ℕ) → t.kind ≡ k.Word text → sees is_name (t ∷ ts) ≡ true
  name_is t ts text is = seen is_name t ts _ is true refl

  -- a type first
  type_read : (p : Place) {ty : TypeExpr} {front : List Token} → SpellsType ty front → type_height ty ≤ n → {f : Stmt} {u : List Token} → ForTyped n p ty f u → (r : List Token) → NoElse f r
      → (look >>= for_at n stmt p) (front ++ (u ++ r)) ≡ answer f r
  type_read p (e.base b sizes front others sb ss) low {f} {u} h r no_else =
      ap (look >>= for_at n stmt p) (append_assoc front others (u ++ r)) ∙ head_base p sb (others ++ (u ++ r))
      ∙ ap (for_base n stmt p) (sym (append_assoc front others (u ++ r)) ∙ sym (append_assoc (front ++ others) u r))
      ∙ (meets_base_first p).complete f ((front ++ others) ++ u) r (seq (y.Base b sizes) f (front ++ others) u (record { spelled = e.base b sizes front others sb ss; low = low }) h) no_else
  type_read p (e.named q sizes front others sq ss) low {f} {u} h r no_else =
      ap (look >>= for_at n stmt p) (append_assoc front others (u ++ r)) ∙ head_path p sq (others ++ (u ++ r)) ∙ ap (for_name n stmt p) (sym (append_assoc front others (u ++ r)))
      ∙ name_by p (begun.Type (y.Named q sizes)) ((front ++ others) ++ (u ++ r)) (u ++ r) r f
      ((meets_begun n).complete (begun.Type (y.Named q sizes)) (front ++ others) (u ++ r) (typed q sizes (front ++ others) (e.named q sizes front others sq ss) low) (typed_starts p (y.Named q sizes) h (λ l. sees is_name l ≡ true) name_is r))
      (typed_read p (y.Named q sizes) h r no_else)

  change_read : (p : Place) {v : Target} {front : List Token} → SpellsTarget v front → target_height v ≤ n → (z : Simple) (u : List Token) → Changed n v z u → {f : Stmt} {rest : List Token} → ForRest n p (Some (start.Simple z)) f rest → (r : List Token) → NoElse f r
      → (look >>= for_at n stmt p) (front ++ (u ++ (rest ++ r))) ≡ answer f r
  change_read p {v} {front} sv low z u hz {f} {rest} h r no_else =
      head_target p sv (u ++ (rest ++ r))
      ∙ name_by p (begun.Target v) (front ++ (u ++ (rest ++ r))) (u ++ (rest ++ r)) r f
      ((meets_begun n).complete (begun.Target v) front (u ++ (rest ++ r)) (targeted v front sv low) (changed_ends n z u hz (rest ++ r)))
      (ap (change_target n v >>= (λ d. for_parts n stmt p (Some (start.Simple d)))) (sym (append_assoc u rest r)) ∙ (meets_change_first p v).complete f (u ++ rest) r (seq z f u rest hz h) no_else)

  change_begins : (op : Change) (p : Place) (t : Token) (ts : List Token) → IsSign (change_sign op) t → (look >>= for_at n stmt p) (t ∷ ts) ≡ for_step n stmt p (t ∷ ts)
  change_begins c.Increase p t ts is = head_by p t ts _ is.kind
  change_begins c.Decrease p t ts is = head_by p t ts _ is.kind

  simple_read : (p : Place) {z : Simple} {front : List Token} → SpellsSimple z front → simple_height z ≤ n → {f : Stmt} {rest : List Token} → ForRest n p (Some (start.Simple z)) f rest → (r : List Token) → NoElse f r
      → (look >>= for_at n stmt p) (front ++ (rest ++ r)) ≡ answer f r
  simple_read p (g.assign v op d t front value sv is sd) low {f} {rest} h r no_else =
      ap (look >>= for_at n stmt p) (append_assoc front (t ∷ value) (rest ++ r)) ∙ change_read p sv (omega arith) (simple.Assign v op d) (t ∷ value) (assign op d t value is (record { spelled = sd; low = omega arith })) h r no_else
  simple_read p (g.after v op t front sv is) low {f} {rest} h r no_else =
      ap (look >>= for_at n stmt p) (append_assoc front (t ∷ []) (rest ++ r)) ∙ change_read p sv low (simple.After v op) (t ∷ []) (after op t is) h r no_else
  simple_read p (g.before v op t others is sv) low {f} {rest} h r no_else =
      change_begins op p t (others ++ (rest ++ r)) is ∙ ap (λ (l : List Token). for_step n stmt p (t ∷ l)) (sym (append_assoc others rest r))
      ∙ (meets_step_first p).complete f ((t ∷ others) ++ rest) r (seq (simple.Before t.place op v) f (t ∷ others) rest (before_it op v t others is (record { spelled = sv; low = low })) h) no_else
  simple_read p (g.call q xs o d front inner sq io sa id) low {f} {rest} h r no_else =
      let back : List Token = o ∷ (inner ++ d ∷ []) in
      ap (look >>= for_at n stmt p) (append_assoc front back (rest ++ r)) ∙ head_path p sq (back ++ (rest ++ r)) ∙ ap (for_name n stmt p) (sym (append_assoc front back (rest ++ r)))
      ∙ name_by p (begun.Call q xs) ((front ++ back) ++ (rest ++ r)) (rest ++ r) r f
      ((meets_begun n).complete (begun.Call q xs) (front ++ back) (rest ++ r) (calling q xs front back sq (in_parentheses xs o d inner io sa id (omega arith)) (omega arith)) tt)
      ((meets_rest p (Some (start.Simple (simple.Call q xs)))).complete f rest r h no_else)

  local_read : (p : Place) {z : Local} {front : List Token} → SpellsLocal z front → local_height z ≤ n → {f : Stmt} {rest : List Token} → ForRest n p (Some (start.Local z)) f rest → (r : List Token) → NoElse f r
      → (look >>= for_at n stmt p) (front ++ (rest ++ r)) ≡ answer f r
  local_read p (g.constants xs t others is hx) low {f} {rest} h r no_else =
      head_by p t (others ++ (rest ++ r)) _ is.kind ∙ ap (λ (l : List Token). (skip >> for_let n stmt p t.place) (t ∷ l)) (sym (append_assoc others rest r))
      ∙ skip_read (meets_let_first p t.place) t f (others ++ rest) r (seq (local.Let t.place xs) f others rest (of xs others (of_listed init_height n SpellsInit hx low)) h) no_else
  local_read p (g.variables xs t others is hx) low {f} {rest} h r no_else =
      head_by p t (others ++ (rest ++ r)) _ is.kind ∙ ap (λ (l : List Token). (skip >> for_var n stmt p t.place) (t ∷ l)) (sym (append_assoc others rest r))
      ∙ skip_read (meets_var_first p t.place) t f (others ++ rest) r (seq (local.Var t.place xs) f others rest (of xs others (of_listed init_height n SpellsInit hx low)) h) no_else
  local_read p (g.typed ty xs front others st hx) low {f} {rest} h r no_else =
      ap (look >>= for_at n stmt p) (append_assoc front others (rest ++ r) ∙ ap (λ (l : List Token). front ++ l) (sym (append_assoc others rest r)))
      ∙ type_read p st (omega arith) (typed_parts xs f others rest (of_listed var_height n SpellsVar hx (omega arith)) h) r no_else

  start_read : (p : Place) {z : Start} {front : List Token} → SpellsStart z front → start_height z ≤ n → {f : Stmt} {rest : List Token} → ForRest n p (Some z) f rest → (r : List Token) → NoElse f r
      → (look >>= for_at n stmt p) (front ++ (rest ++ r)) ≡ answer f r
  start_read p (g.declared z tokens sz) low h r no_else = local_read p sz low h r no_else
  start_read p (g.simple z tokens sz) low h r no_else = simple_read p sz low h r no_else

  rest_read : (p : Place) {f : Stmt} {rest : List Token} → ForRest n p None f rest → (r : List Token) → NoElse f r → (look >>= for_at n stmt p) (rest ++ r) ≡ answer f r
  rest_read p (for_rest z i f u q test next body iu hz hi iq hf) r no_else =
      head_by p u ((test ++ (next ++ q ∷ body)) ++ r) _ iu.kind
      ∙ (meets_rest p None).complete (x.For p None z i f) (u ∷ (test ++ (next ++ q ∷ body))) r (for_rest z i f u q test next body iu hz hi iq hf) no_else

  parts_read : (p : Place) {b : Option Start} {first : List Token} → Optional (Within start_height n SpellsStart) b first → {f : Stmt} {rest : List Token} → ForRest n p b f rest → (r : List Token) → NoElse f r
      → (look >>= for_at n stmt p) (first ++ (rest ++ r)) ≡ answer f r
  parts_read p lists.absent h r no_else = rest_read p h r no_else
  parts_read p (lists.present z first one) h r no_else = start_read p one.spelled one.low h r no_else

  head_read : (p : Place) {f : Stmt} {u : List Token} → ForHead n p f u → (r : List Token) → NoElse f r → (look >>= for_at n stmt p) (u ++ r) ≡ answer f r
  head_read p (over_type ty z f t q front body st is iq h) r no_else =
      ap (look >>= for_at n stmt p) (append_assoc front (t ∷ q ∷ body) r) ∙ type_read p st.spelled st.low (typed_over z f t q body is iq h) r no_else
  head_read p (in_parts b f first rest hb h) r no_else =
      ap (look >>= for_at n stmt p) (append_assoc first rest r) ∙ parts_read p hb h r no_else

  meets_head : (p : Place) → Meets (look >>= for_at n stmt p) (ForHead n p) NoElse NoElse
  meets_head p = record { sound = head_found p; complete = λ f u r h no_else. head_read p h r no_else }

  for_assoc : (p : Place) (o : Outcome (Unit {0})) → and_then o (λ d. look >>= for_at n stmt p) ≡ and_then (and_then o (λ d. look)) (for_at n stmt p)
  for_assoc p (Ok q) = refl
  for_assoc p (Err l) = refl

  for_same : (p : Place) (ts : List Token) → (expect (is_sign s.LeftParenthesis) >> (look >>= for_at n stmt p)) ts ≡ for_stmt n stmt p ts
  unfolding for_stmt
  for_same p ts = for_assoc p (expect (is_sign s.LeftParenthesis) ts)

  pub meets_for : (p : Place) → Meets (for_stmt n stmt p) (Led s.LeftParenthesis (ForHead n p)) NoElse NoElse
  meets_for p = meets_same (for_same p) (meets_led s.LeftParenthesis (meets_head p))
