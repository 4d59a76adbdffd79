-- What the parsers of statements meet that hold no others.
use Rattle.std.proofs.Common.{◌≡◌, ℕ, ◌-◌, ◌≤◌, suc, Bool, true, false, List, [], ◌∷◌, ◌++◌, Some, None, refl, ap, sym, subst, ◌∙◌, append_assoc, inl, inr, arith}
use Rattle.cm_base.specs.declared.place.Place.{Place}
use Rattle.cm_tree.specs.declared.token.Token.{Token}
use Rattle.cm_tree.specs.declared.token.TokenKind.TheVariants as k
use Rattle.cm_tree.specs.declared.sign.Sign.TheVariants as s
use Rattle.cm_tree.specs.declared.reserved.Reserved.TheVariants as w
use Rattle.cm_tree.specs.declared.path.Path.{Path}
use Rattle.cm_tree.specs.declared.path.Word.{Word}
use Rattle.cm_tree.specs.declared.expr.Expr.{Expr}
use Rattle.cm_tree.specs.declared.type_expr.TypeExpr.{TypeExpr}
use Rattle.cm_tree.specs.declared.type_expr.TypeExpr.TheVariants as y
use Rattle.cm_tree.specs.declared.operator.Assign.{Assign}
use Rattle.cm_tree.specs.declared.operator.Assign.TheVariants as a
use Rattle.cm_tree.specs.declared.operator.Change.{Change}
use Rattle.cm_tree.specs.declared.operator.Change.TheVariants as c
use Rattle.cm_tree.specs.declared.simple.Init.{Init}
use Rattle.cm_tree.specs.declared.simple.Var.{Var}
use Rattle.cm_tree.specs.declared.simple.Step.{Step}
use Rattle.cm_tree.specs.declared.simple.Target.{Target}
use Rattle.cm_tree.specs.declared.simple.Simple.{Simple}
use Rattle.cm_tree.specs.declared.simple.Simple.TheVariants as simple
use Rattle.cm_tree.specs.declared.simple.Local.TheVariants as local
use Rattle.cm_tree.specs.declared.stmt.Stmt.{Stmt}
use Rattle.cm_tree.specs.declared.stmt.Stmt.TheVariants as x
use Rattle.cm_tree.specs.Heights.{height}
use Rattle.cm_tree.specs.StmtHeights.{step_height, init_height, var_height, type_height, target_height, simple_height, stmt_height, stmt_height-Local, stmt_height-Simple, stmt_height-Assert, stmt_height-Break, stmt_height-Continue, stmt_height-Return, stmt_height-Advance, stmt_height-Write}
use Rattle.cm_tree.specs.Lists.{Every, Listed, Optional, highest-nil}
use Rattle.cm_tree.specs.Lists as lists
use Rattle.cm_tree.specs.Spelling.{IsSign, IsReserved, IsWord, SpellsPath, SpellsExpr, SpellsType}
use Rattle.cm_tree.specs.StmtSpelling.{assign_sign, change_sign, SpellsWord, SpellsInit, SpellsVar, SpellsTarget, SpellsLocal, SpellsSimple, SpellsStmt, is_open}
use Rattle.cm_tree.specs.StmtSpelling as g
use Rattle.token_reader.specs.Parsers.{Parser, ◌>>=◌, ◌>>◌, see, sees, expect, is_sign, same_sign}
use Rattle.token_reader.proofs.Inverses.{answer, bind_ok, if_ok, seen}
use Rattle.cm_parse_expr.specs.Reading.{expr}
use Rattle.cm_parse_expr.proofs.Next.{Closed, closes}
use Rattle.file_grammar.specs.declared.begun.Begun.{Begun}
use Rattle.file_grammar.specs.declared.begun.Begun.TheVariants as begun
use Rattle.file_grammar.specs.Words.{is_name}
use Rattle.file_grammar.specs.Simples.{change_target, begun_by_name, typed_local}
use Rattle.file_grammar.specs.Stmts.{semicolon, write_if, may_write, is_plain, begun_stmt, named_stmt, based_stmt, return_stmt, advance_stmt, let_stmt, var_stmt, step_stmt, assert_stmt}
use Rattle.file_grammar.proofs.Meets.{Found, Meets, Any}
use Rattle.file_grammar.proofs.Spelled.{Within, TypeEnds, meets_expr, meets_type}
use Rattle.file_grammar.proofs.Shapes.{Signed, signed, Seq, seq, Of, of, Led, led, Semi, semi, meets_sign, meets_seq, meets_of, meets_led, meets_semicolon, starts_semi, type_before_word, skip_same_then}
use Rattle.file_grammar.proofs.Lows.{listed_of}
use Rattle.file_grammar.proofs.Beginnings.{Args}
use Rattle.file_grammar.proofs.NameFirst.{Starts, typed, targeted, calling, TargetEnds, meets_begun}
use Rattle.file_grammar.proofs.Changes.{Stops, Changed, assign, after, Before, before_it, stops_semicolon, meets_change, meets_before, meets_let, meets_var_local, meets_typed_local, changed_spelled, call_spelled, plain_arrow, plain_assign, plain_change, plain_ends}
use Rattle.file_grammar.proofs.StmtParts.{Asserting, UpTo, missing, there, meets_assertion, meets_value_up_to, assert_as}

abbrev pub StmtIn : ℕ → Stmt → List Token → Type 0
StmtIn n = Within stmt_height n SpellsStmt

-- a statement that doesn't end in an `if` without `else`
pub record Shut (n : ℕ) (b : Stmt) (u : List Token) : Type 0 where
  pub stmt : StmtIn n b u
  pub shut : is_open b ≡ false

pub stop_semi : {B : Type 0} (z b : B) (v r : List Token) → Semi z b v → Stops (v ++ r)
stop_semi z b v r h = starts_semi Stops z b stops_semicolon v r h

-- ---- declarations

abbrev pub Inits : ℕ → List Init → List Token → Type 0
Inits n = Listed (Within init_height n SpellsInit)

abbrev pub Vars : ℕ → List Var → List Token → Type 0
Vars n = Listed (Within var_height n SpellsVar)

abbrev pub LetStmt : ℕ → Place → Stmt → List Token → Type 0
LetStmt n p = Seq (Of (λ xs. local.Let p xs) (Inits n)) (λ z. Semi (x.Local z))

pub meets_let_stmt : (n : ℕ) (stmt : Parser Stmt) (p : Place) → Meets (let_stmt n stmt p) (LetStmt n p) Any Any
unfolding let_stmt
meets_let_stmt n stmt p = meets_seq (meets_let n p) (λ z. meets_semicolon (x.Local z)) (λ z b v r h m. stop_semi (x.Local z) b v r h)

pub let_as : (n : ℕ) (t : Token) → IsReserved w.Let t → (b : Stmt) (u : List Token) → LetStmt n t.place b u → Shut (suc n) b (t ∷ u)
unfolding is_open
let_as n t is _ _ (seq _ _ _ _ (of xs u h) (semi end ie)) =
    let all = listed_of init_height n SpellsInit h in
    record { stmt = record { spelled = g.declared (local.Let t.place xs) end (t ∷ u) (g.constants xs t u is all.spelled) ie; low = omega (arith, stmt_height-Local (local.Let t.place xs), all.low) }; shut = refl }

abbrev pub VarStmt : ℕ → Place → Stmt → List Token → Type 0
VarStmt n p = Seq (Of (λ xs. local.Var p xs) (Inits n)) (λ z. Semi (x.Local z))

pub meets_var_stmt : (n : ℕ) (stmt : Parser Stmt) (p : Place) → Meets (var_stmt n stmt p) (VarStmt n p) Any Any
unfolding var_stmt
meets_var_stmt n stmt p = meets_seq (meets_var_local n p) (λ z. meets_semicolon (x.Local z)) (λ z b v r h m. stop_semi (x.Local z) b v r h)

pub var_as : (n : ℕ) (t : Token) → IsReserved w.Var t → (b : Stmt) (u : List Token) → VarStmt n t.place b u → Shut (suc n) b (t ∷ u)
unfolding is_open
var_as n t is _ _ (seq _ _ _ _ (of xs u h) (semi end ie)) =
    let all = listed_of init_height n SpellsInit h in
    record { stmt = record { spelled = g.declared (local.Var t.place xs) end (t ∷ u) (g.variables xs t u is all.spelled) ie; low = omega (arith, stmt_height-Local (local.Var t.place xs), all.low) }; shut = refl }

-- names after a type
abbrev TypedStmt : ℕ → TypeExpr → Stmt → List Token → Type 0
TypedStmt n ty = Seq (Of (λ xs. local.Typed ty xs) (Vars n)) (λ z. Semi (x.Local z))

meets_typed_stmt : (n : ℕ) (ty : TypeExpr) → Meets (typed_local n ty >>= (λ z. semicolon (x.Local z))) (TypedStmt n ty) Any Any
meets_typed_stmt n ty = meets_seq (meets_typed_local n ty) (λ z. meets_semicolon (x.Local z)) (λ z b v r h m. stop_semi (x.Local z) b v r h)

typed_as : (n : ℕ) {ty : TypeExpr} {front : List Token} → SpellsType ty front → type_height ty ≤ n → (b : Stmt) (u : List Token) → TypedStmt n ty b u → Shut (suc n) b (front ++ u)
unfolding is_open
typed_as n {ty} {front} st low _ _ (seq _ _ _ _ (of xs u h) (semi end ie)) =
    let all = listed_of var_height n SpellsVar h in
    let stmt : StmtIn (suc n) (x.Local (local.Typed ty xs)) ((front ++ u) ++ end ∷ []) =
    record { spelled = g.declared (local.Typed ty xs) end (front ++ u) (g.typed ty xs front u st all.spelled) ie; low = omega (arith, stmt_height-Local (local.Typed ty xs), all.low, low) } in
    record { stmt = subst (StmtIn (suc n) (x.Local (local.Typed ty xs))) (append_assoc front u (end ∷ [])) stmt; shut = refl }

var_word : {v : Var} {u : List Token} → SpellsVar v u → (others : List Token) (P : List Token → Type 0) → ((t : Token) (ts : List Token) (text : List ℕ) → t.kind ≡ k.Word text → P (t ∷ ts)) → (r : List Token) → P ((u ++ others) ++ r)
var_word (g.bare z t is) others P f r = f t (others ++ r) z.text is.kind
var_word (g.init z b t equals value is ie sb) others P f r = f t ((equals ∷ (value ++ others)) ++ r) z.text is.kind

-- the names that are declared begin with a name
pub vars_word : {n : ℕ} {xs : List Var} {u : List Token} → Vars n xs u → (P : List Token → Type 0) → ((t : Token) (ts : List Token) (text : List ℕ) → t.kind ≡ k.Word text → P (t ∷ ts)) → (r : List Token) → P (u ++ r)
vars_word (lists.listed v xs first others one rest) P f r = var_word one.spelled others P f r

typed_word : (n : ℕ) (ty : TypeExpr) (b : Stmt) (v : List Token) → TypedStmt n ty b v → (P : List Token → Type 0) → ((t : Token) (ts : List Token) (text : List ℕ) → t.kind ≡ k.Word text → P (t ∷ ts)) → (r : List Token) → P (v ++ r)
typed_word n ty _ _ (seq _ _ _ back (of xs u h) more) P f r = subst P (sym (append_assoc u back r)) (vars_word h P f (back ++ r))

-- a declaration by a base type
abbrev pub BasedStmt : ℕ → Stmt → List Token → Type 0
BasedStmt n = Seq (Within type_height n SpellsType) (λ ty. TypedStmt n ty)

pub meets_based_stmt : (n : ℕ) → Meets (based_stmt n) (BasedStmt n) Any Any
unfolding based_stmt
meets_based_stmt n = meets_seq (meets_type n) (λ ty. meets_typed_stmt n ty) (λ ty b v r h m. typed_word n ty b v h (TypeEnds ty) (type_before_word ty) r)

pub based_as : (n : ℕ) (b : Stmt) (u : List Token) → BasedStmt n b u → Shut (suc n) b u
based_as n _ _ (seq ty b front back st more) = typed_as n st.spelled st.low b back more

-- ---- simple statements

pub simple_shut : (n : ℕ) (z : Simple) (u : List Token) → Within simple_height n SpellsSimple z u → (end : Token) → IsSign s.Semicolon end → Shut (suc n) (x.Simple z) (u ++ end ∷ [])
unfolding is_open
simple_shut n z u h end ie = record { stmt = record { spelled = g.simple z end u h.spelled ie; low = omega (arith, stmt_height-Simple z, h.low) }; shut = refl }

abbrev pub StepStmt : ℕ → Stmt → List Token → Type 0
StepStmt n = Seq (Before n) (λ z. Semi (x.Simple z))

pub meets_step_stmt : (n : ℕ) (stmt : Parser Stmt) → Meets (step_stmt n stmt) (StepStmt n) Any Any
unfolding step_stmt
meets_step_stmt n stmt = meets_seq (meets_before n) (λ z. meets_semicolon (x.Simple z)) (λ z b v r h m. stop_semi (x.Simple z) b v r h)

pub step_as : (n : ℕ) (b : Stmt) (u : List Token) → StepStmt n b u → Shut (suc n) b u
step_as n _ _ (seq _ _ _ _ (before_it op v t others is sv) (semi end ie)) = simple_shut n (simple.Before t.place op v) (t ∷ others) (record { spelled = g.before v op t others is sv.spelled; low = sv.low }) end ie

-- what is done with what is assigned, up to `;`
abbrev ChangeStmt : ℕ → Target → Stmt → List Token → Type 0
ChangeStmt n v = Seq (Changed n v) (λ z. Semi (x.Simple z))

meets_change_stmt : (n : ℕ) (v : Target) → Meets (change_target n v >>= (λ z. semicolon (x.Simple z))) (ChangeStmt n v) Any Any
meets_change_stmt n v = meets_seq (meets_change n v) (λ z. meets_semicolon (x.Simple z)) (λ z b w r h m. stop_semi (x.Simple z) b w r h)

change_as : (n : ℕ) {v : Target} {front : List Token} → SpellsTarget v front → target_height v ≤ n → (b : Stmt) (u : List Token) → ChangeStmt n v b u → Shut (suc n) b (front ++ u)
change_as n {v} {front} sv low _ _ (seq z _ u _ h (semi end ie)) = subst (Shut (suc n) (x.Simple z)) (append_assoc front u (end ∷ [])) (simple_shut n z (front ++ u) (changed_spelled n sv low z u h) end ie)

-- a write to an endpoint
abbrev WriteStmt : ℕ → Word → Stmt → List Token → Type 0
WriteStmt n name = Seq (Led s.LeftArrow (Within height n SpellsExpr)) (λ z. Semi (x.Write name z))

meets_write_stmt : (n : ℕ) (name : Word) → Meets (expect (is_sign s.LeftArrow) >> expr n >>= (λ z. semicolon (x.Write name z))) (WriteStmt n name) Any Any
meets_write_stmt n name = meets_seq (meets_led s.LeftArrow (meets_expr n)) (λ z. meets_semicolon (x.Write name z)) (λ z b w r h m. starts_semi (Closed z) (x.Write name z) b (λ t ts is. closes s.Semicolon refl t ts z is) w r h)

write_as : (n : ℕ) {v : Target} {front : List Token} → SpellsTarget v front → v.steps ≡ [] → (b : Stmt) (u : List Token) → WriteStmt n v.name b u → Shut (suc n) b (front ++ u)
unfolding is_open
write_as n (g.target z [] t _ is lists.none) none _ _ (seq _ _ _ _ (led value arrow u ia sx) (semi end ie)) =
    record { stmt = record { spelled = g.write z value t arrow end u is ia sx.spelled ie; low = omega (arith, stmt_height-Write z value, sx.low) }; shut = refl }
write_as n (g.target z (step ∷ steps) t others is spelled) none b u h = absurd cc

plain_none : (steps : List Step) → is_plain steps ≡ true → steps ≡ []
plain_none [] is = refl
plain_none (step ∷ steps) is = absurd cc

may_both : (v : Target) (arrow : Bool) → may_write v arrow ≡ true → (arrow ≡ true) × (v.steps ≡ [])
may_both v true is = (refl, plain_none v.steps is)
may_both v false is = absurd cc

written_found : (n : ℕ) {v : Target} {front : List Token} → SpellsTarget v front → target_height v ≤ n → (mid : List Token) (b : Stmt) (r : List Token) → (see (is_sign s.LeftArrow) >>= (λ arrow. write_if n v (may_write v arrow))) mid ≡ answer b r
    → Found (Shut (suc n)) Any (front ++ mid) b r
unfolding see
written_found n {v} {front} sv low mid b r h =
    elim (if_ok (may_write v (sees (is_sign s.LeftArrow) mid)) _ _ mid _ h) [
      | inl z ↦
          let both = may_both v (sees (is_sign s.LeftArrow) mid) z.0 in
          let f = (meets_write_stmt n v.name).sound mid b r (sym (skip_same_then (is_sign s.LeftArrow) (expr n) (λ q. semicolon (x.Write v.name q)) mid both.0) ∙ z.1) in
          record { used = front ++ f.used; parts = ap (λ (l : List Token). front ++ l) f.parts ∙ sym (append_assoc front f.used r); spelled = write_as n sv both.1 b f.used f.spelled; follows = tt }
      | inr z ↦
          let f = (meets_change_stmt n v).sound mid b r z.1 in
          record { used = front ++ f.used; parts = ap (λ (l : List Token). front ++ l) f.parts ∙ sym (append_assoc front f.used r); spelled = change_as n sv low b f.used f.spelled; follows = tt }
    ]

call_as : (n : ℕ) (q : Path) (xs : List Expr) (front : List Token) → Within simple_height n SpellsSimple (simple.Call q xs) front → (b : Stmt) (u : List Token) → Semi (x.Simple (simple.Call q xs)) b u → Shut (suc n) b (front ++ u)
call_as n q xs front h _ _ (semi end ie) = simple_shut n (simple.Call q xs) front h end ie

begun_found : (n : ℕ) {z : Begun} {u : List Token} → Starts n z u → (mid : List Token) (b : Stmt) (r : List Token) → begun_stmt n z mid ≡ answer b r → Found (Shut (suc n)) Any (u ++ mid) b r
begun_found n (typed q sizes u st low) mid b r h =
    let f = (meets_typed_stmt n (y.Named q sizes)).sound mid b r h in
    record { used = u ++ f.used; parts = ap (λ (l : List Token). u ++ l) f.parts ∙ sym (append_assoc u f.used r); spelled = typed_as n st low b f.used f.spelled; follows = tt }
begun_found n (targeted v u sv low) mid b r h = written_found n sv low mid b r h
begun_found n (calling q xs front back sq sa two) mid b r h =
    let f = (meets_semicolon (x.Simple (simple.Call q xs))).sound mid b r h in
    record { used = (front ++ back) ++ f.used; parts = ap (λ (l : List Token). (front ++ back) ++ l) f.parts ∙ sym (append_assoc (front ++ back) f.used r); spelled = call_as n q xs (front ++ back) (call_spelled n q xs front back sq sa two) b f.used f.spelled; follows = tt }

pub named_found : (n : ℕ) (ts : List Token) (b : Stmt) (r : List Token) → named_stmt n ts ≡ answer b r → Found (Shut (suc n)) Any ts b r
unfolding named_stmt
named_found n ts b r h =
    let z = bind_ok (begun_by_name n ts) (begun_stmt n) b r h in
    let f = (meets_begun n).sound ts z.0 z.1 z.2 in
    subst (λ (l : List Token). Found (Shut (suc n)) Any l b r) (sym f.parts) (begun_found n f.spelled z.1 b r z.3)

-- ---- and what is spelled is read

named_by : (n : ℕ) (z : Begun) (ts mid r : List Token) (b : Stmt) → begun_by_name n ts ≡ answer z mid → begun_stmt n z mid ≡ answer b r → named_stmt n ts ≡ answer b r
unfolding named_stmt
named_by n z ts mid r b one two = rw one two

target_begun : (n : ℕ) {v : Target} {front : List Token} → SpellsTarget v front → target_height v ≤ n → (mid : List Token) → TargetEnds mid → begun_by_name n (front ++ mid) ≡ answer (begun.Target v) mid
target_begun n {v} {front} sv low mid ends = (meets_begun n).complete (begun.Target v) front mid (targeted v front sv low) ends

no_arrow_assign : (op : Assign) → is_sign s.LeftArrow (k.Sign (assign_sign op)) ≡ false
unfolding same_sign
no_arrow_assign a.Set = refl
no_arrow_assign a.Add = refl
no_arrow_assign a.Subtract = refl
no_arrow_assign a.Multiply = refl
no_arrow_assign a.Divide = refl
no_arrow_assign a.Remainder = refl
no_arrow_assign a.BitAnd = refl
no_arrow_assign a.BitOr = refl
no_arrow_assign a.BitXor = refl
no_arrow_assign a.ShiftLeft = refl
no_arrow_assign a.ShiftRight = refl
no_arrow_assign a.ShiftRightZero = refl

no_arrow_change : (op : Change) → is_sign s.LeftArrow (k.Sign (change_sign op)) ≡ false
unfolding same_sign
no_arrow_change c.Increase = refl
no_arrow_change c.Decrease = refl

changed_no_arrow : (n : ℕ) {v : Target} (z : Simple) (u : List Token) → Changed n v z u → (r : List Token) → sees (is_sign s.LeftArrow) (u ++ r) ≡ false
changed_no_arrow n _ _ (assign op e t value is sx) r = seen (is_sign s.LeftArrow) t (value ++ r) _ is.kind false (no_arrow_assign op)
changed_no_arrow n _ _ (after op t is) r = seen (is_sign s.LeftArrow) t r _ is.kind false (no_arrow_change op)

pub changed_ends : (n : ℕ) {v : Target} (z : Simple) (u : List Token) → Changed n v z u → (r : List Token) → TargetEnds (u ++ r)
changed_ends n _ _ (assign op e t value is sx) r = plain_ends (assign_sign op) (plain_assign op) t (value ++ r) is
changed_ends n _ _ (after op t is) r = plain_ends (change_sign op) (plain_change op) t r is

-- an assignment or another change
pub changed_read : (n : ℕ) {v : Target} {front : List Token} → SpellsTarget v front → target_height v ≤ n → (z : Simple) (u : List Token) → Changed n v z u → (end : Token) → IsSign s.Semicolon end → (r : List Token)
    → named_stmt n (front ++ (u ++ end ∷ r)) ≡ answer (x.Simple z) r
unfolding see
changed_read n {v} {front} sv low z u h end ie r =
    let read = (meets_change_stmt n v).complete (x.Simple z) (u ++ end ∷ []) r (seq z (x.Simple z) u (end ∷ []) h (semi end ie)) tt in
    let no_arrow = changed_no_arrow n z u h (end ∷ r) in
    let regroup : (u ++ end ∷ []) ++ r ≡ u ++ end ∷ r = append_assoc u (end ∷ []) r in
    named_by n (begun.Target v) (front ++ (u ++ end ∷ r)) (u ++ end ∷ r) r (x.Simple z) (target_begun n sv low (u ++ end ∷ r) (changed_ends n z u h (end ∷ r)))
    (ap (λ (b : Bool). write_if n v (may_write v b) (u ++ end ∷ r)) no_arrow ∙ ap (change_target n v >>= (λ q. semicolon (x.Simple q))) (sym regroup) ∙ read)

-- a write
pub write_read : (n : ℕ) (z : Word) (value : Expr) (t arrow end : Token) (u : List Token) → IsWord z t → IsSign s.LeftArrow arrow → Within height n SpellsExpr value u → IsSign s.Semicolon end → 1 ≤ n → (r : List Token)
    → named_stmt n (t ∷ arrow ∷ (u ++ end ∷ r)) ≡ answer (x.Write z value) r
unfolding see same_sign
write_read n z value t arrow end u is ia sx ie some r =
    let v : Target = record { name = z; steps = [] } in
    let sv : SpellsTarget v (t ∷ []) = g.target z [] t [] is lists.none in
    let mid : List Token = arrow ∷ (u ++ end ∷ r) in
    let there_is : sees (is_sign s.LeftArrow) mid ≡ true = seen (is_sign s.LeftArrow) arrow (u ++ end ∷ r) _ ia.kind true refl in
    let read = (meets_write_stmt n z).complete (x.Write z value) (arrow ∷ (u ++ end ∷ [])) r (seq value (x.Write z value) (arrow ∷ u) (end ∷ []) (led value arrow u ia sx) (semi end ie)) tt in
    let regroup : arrow ∷ ((u ++ end ∷ []) ++ r) ≡ mid = ap (λ (l : List Token). arrow ∷ l) (append_assoc u (end ∷ []) r) in
    named_by n (begun.Target v) (t ∷ mid) mid r (x.Write z value) (target_begun n sv (omega (arith, highest-nil step_height)) mid (plain_ends s.LeftArrow plain_arrow arrow (u ++ end ∷ r) ia))
    (ap (λ (b : Bool). write_if n v (may_write v b) mid) there_is ∙ skip_same_then (is_sign s.LeftArrow) (expr n) (λ q. semicolon (x.Write z q)) mid there_is
    ∙ ap (expect (is_sign s.LeftArrow) >> expr n >>= (λ q. semicolon (x.Write z q))) (sym regroup) ∙ read)

-- a call
pub call_read : (n : ℕ) (q : Path) (xs : List Expr) (front back : List Token) → SpellsPath q front → Args (n - 1) xs back → 2 ≤ n → (end : Token) → IsSign s.Semicolon end → (r : List Token)
    → named_stmt n ((front ++ back) ++ end ∷ r) ≡ answer (x.Simple (simple.Call q xs)) r
call_read n q xs front back sq sa two end ie r =
    named_by n (begun.Call q xs) ((front ++ back) ++ end ∷ r) (end ∷ r) r (x.Simple (simple.Call q xs)) ((meets_begun n).complete (begun.Call q xs) (front ++ back) (end ∷ r) (calling q xs front back sq sa two) tt)
    ((meets_semicolon (x.Simple (simple.Call q xs))).complete (x.Simple (simple.Call q xs)) (end ∷ []) r (semi end ie) tt)

name_there : (t : Token) (ts : List Token) (text : List ℕ) → t.kind ≡ k.Word text → sees is_name (t ∷ ts) ≡ true
name_there t ts text is = seen is_name t ts _ is true refl

-- a declaration by the name of a type
pub typed_read : (n : ℕ) (q : Path) (sizes : List Expr) (front : List Token) → SpellsType (y.Named q sizes) front → type_height (y.Named q sizes) ≤ n → {xs : List Var} {u : List Token} → Vars n xs u → (end : Token) → IsSign s.Semicolon end → (r : List Token)
    → named_stmt n (front ++ (u ++ end ∷ r)) ≡ answer (x.Local (local.Typed (y.Named q sizes) xs)) r
typed_read n q sizes front st low {xs} {u} h end ie r =
    let ty : TypeExpr = y.Named q sizes in
    let b : Stmt = x.Local (local.Typed ty xs) in
    let read = (meets_typed_stmt n ty).complete b (u ++ end ∷ []) r (seq (local.Typed ty xs) b u (end ∷ []) (of xs u h) (semi end ie)) tt in
    let regroup : (u ++ end ∷ []) ++ r ≡ u ++ end ∷ r = append_assoc u (end ∷ []) r in
    named_by n (begun.Type ty) (front ++ (u ++ end ∷ r)) (u ++ end ∷ r) r b
    ((meets_begun n).complete (begun.Type ty) front (u ++ end ∷ r) (typed q sizes front st low) (vars_word h (λ l. sees is_name l ≡ true) name_there (end ∷ r)))
    (ap (typed_local n ty >>= (λ z. semicolon (x.Local z))) (sym regroup) ∙ read)

-- ---- the others

pub meets_assert_stmt : (n : ℕ) (stmt : Parser Stmt) (p : Place) → Meets (assert_stmt n stmt p) (Of (λ z. x.Assert z) (Asserting n p)) Any Any
unfolding assert_stmt
meets_assert_stmt n stmt p = meets_of {G = Any} {M = Any} (λ z. x.Assert z) (meets_assertion n p) (λ z r f. tt) (λ z r f. tt)

pub asserted_as : (n : ℕ) (t : Token) → IsReserved w.StaticAssert t → (b : Stmt) (u : List Token) → Of (λ z. x.Assert z) (Asserting n t.place) b u → Shut (suc n) b (t ∷ u)
unfolding is_open
asserted_as n t is _ _ (of z u h) = let one = assert_as n t is z u h in record { stmt = record { spelled = g.asserted z (t ∷ u) one.spelled; low = omega (arith, stmt_height-Assert z, one.low) }; shut = refl }

pub meets_return_stmt : (n : ℕ) (stmt : Parser Stmt) (p : Place) → Meets (return_stmt n stmt p) (Of (λ z. x.Return p z) (UpTo n)) Any Any
unfolding return_stmt
meets_return_stmt n stmt p = meets_of {G = Any} {M = Any} (λ z. x.Return p z) (meets_value_up_to n) (λ z r f. tt) (λ z r f. tt)

pub return_as : (n : ℕ) (t : Token) → IsReserved w.Return t → (b : Stmt) (u : List Token) → Of (λ z. x.Return t.place z) (UpTo n) b u → Shut (suc n) b (t ∷ u)
unfolding is_open
return_as n t is _ _ (of _ _ (missing end ie)) = record { stmt = record { spelled = g.return None t end [] is lists.absent ie; low = omega (arith, stmt_height-Return t.place None) }; shut = refl }
return_as n t is _ _ (of _ _ (there z end u sx ie)) = record { stmt = record { spelled = g.return (Some z) t end u is (lists.present z u sx.spelled) ie; low = omega (arith, stmt_height-Return t.place (Some z), sx.low) }; shut = refl }

abbrev pub AdvanceStmt : Place → Stmt → List Token → Type 0
AdvanceStmt p = Seq (Led s.LeftParenthesis (Signed s.RightParenthesis)) (λ z. Semi (x.Advance p))

pub meets_advance_stmt : (n : ℕ) (stmt : Parser Stmt) (p : Place) → Meets (advance_stmt n stmt p) (AdvanceStmt p) Any Any
unfolding advance_stmt
meets_advance_stmt n stmt p = meets_seq (meets_led s.LeftParenthesis (meets_sign s.RightParenthesis)) (λ z. meets_semicolon (x.Advance p)) (λ z b v r h m. tt)

pub advance_as : (n : ℕ) (t : Token) → IsReserved w.Advance t → (b : Stmt) (u : List Token) → AdvanceStmt t.place b u → Shut (suc n) b (t ∷ u)
unfolding is_open
advance_as n t is _ _ (seq _ _ _ _ (led _ o _ io (signed _ p ip)) (semi end ie)) = record { stmt = record { spelled = g.advance t o p end is io ip ie; low = omega (arith, stmt_height-Advance t.place) }; shut = refl }

pub break_as : (n : ℕ) (t : Token) → IsReserved w.Break t → (b : Stmt) (u : List Token) → Semi (x.Break t.place) b u → Shut (suc n) b (t ∷ u)
unfolding is_open
break_as n t is _ _ (semi end ie) = record { stmt = record { spelled = g.break t end is ie; low = omega (arith, stmt_height-Break t.place) }; shut = refl }

pub continue_as : (n : ℕ) (t : Token) → IsReserved w.Continue t → (b : Stmt) (u : List Token) → Semi (x.Continue t.place) b u → Shut (suc n) b (t ∷ u)
unfolding is_open
continue_as n t is _ _ (semi end ie) = record { stmt = record { spelled = g.continue t end is ie; low = omega (arith, stmt_height-Continue t.place) }; shut = refl }
