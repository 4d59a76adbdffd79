-- What the parsers of assignments, of other changes and of local declarations meet.
use Rattle.std.proofs.Common.{◌≡◌, ℕ, ◌-◌, ◌≤◌, true, false, List, [], ◌∷◌, ◌++◌, Option, Some, None, refl, ap, sym, subst, ◌∙◌, append_assoc, inl, inr, arith}
use Rattle.cm_base.specs.declared.place.Place.{Place}
use Rattle.cm_tree.specs.declared.token.Token.{Token}
use Rattle.cm_tree.specs.declared.token.TokenKind.{TokenKind}
use Rattle.cm_tree.specs.declared.token.TokenKind.TheVariants as k
use Rattle.cm_tree.specs.declared.sign.Sign.{Sign}
use Rattle.cm_tree.specs.declared.sign.Sign.TheVariants as s
use Rattle.cm_tree.specs.declared.path.Path.{Path}
use Rattle.cm_tree.specs.declared.expr.Expr.{Expr}
use Rattle.cm_tree.specs.declared.type_expr.TypeExpr.{TypeExpr}
use Rattle.cm_tree.specs.declared.operator.Assign.{Assign}
use Rattle.cm_tree.specs.declared.operator.Assign.TheVariants as a
use Rattle.cm_tree.specs.declared.operator.Change.{Change}
use Rattle.cm_tree.specs.declared.operator.Change.TheVariants as c
use Rattle.cm_tree.specs.declared.simple.Target.{Target}
use Rattle.cm_tree.specs.declared.simple.Simple.{Simple}
use Rattle.cm_tree.specs.declared.simple.Simple.TheVariants as simple
use Rattle.cm_tree.specs.declared.simple.Local.TheVariants as local
use Rattle.cm_tree.specs.Heights.{height}
use Rattle.cm_tree.specs.StmtHeights.{init_height, var_height, target_height, simple_height}
use Rattle.cm_tree.specs.Lists.{Listed}
use Rattle.cm_tree.specs.Spelling.{IsSign, SpellsPath, SpellsExpr}
use Rattle.cm_tree.specs.Spelling as e
use Rattle.cm_tree.specs.StmtSpelling.{assign_sign, change_sign, SpellsInit, SpellsVar, SpellsTarget, SpellsSimple}
use Rattle.cm_tree.specs.StmtSpelling as g
use Rattle.token_reader.specs.Parsers.{Outcome, and_then, pure, look, see, sees, is_sign, same_sign}
use Rattle.token_reader.proofs.Inverses.{answer, bind_ok, if_ok, given, seen, skipped}
use Rattle.cm_parse_expr.specs.Reading.{colons}
use Rattle.cm_parse_expr.proofs.Next.{Closed, closes}
use Rattle.file_grammar.specs.declared.begun.Begun.{Begun}
use Rattle.file_grammar.specs.declared.begun.Begun.TheVariants as begun
use Rattle.file_grammar.specs.Words.{is_name}
use Rattle.file_grammar.specs.Simples.{is_step, begun_by_name, assign_of, change_of, after_target, change_target, changed_by, before, simple_by, simple_stmt, typed_local, let_local, var_local}
use Rattle.file_grammar.proofs.Meets.{Found, Meets, Any}
use Rattle.file_grammar.proofs.Spelled.{Within, meets_expr, meets_inits, meets_vars}
use Rattle.file_grammar.proofs.Shapes.{Of, meets_of, skip_of_found, skip_of_read}
use Rattle.file_grammar.proofs.Beginnings.{Args, in_parentheses, meets_target}
use Rattle.file_grammar.proofs.NameFirst.{Starts, typed, targeted, calling, TargetEnds, meets_begun}

-- ---- what ends a simple statement or a declaration

pub record Stops (r : List Token) : Type 0 where
  pub closed : (x : Expr) → Closed x r
  pub no_step : sees is_step r ≡ false
  pub no_comma : sees (is_sign s.Comma) r ≡ false
  pub no_value : sees (is_sign s.Assign) r ≡ false

pub stops_semicolon : (t : Token) (ts : List Token) → IsSign s.Semicolon t → Stops (t ∷ ts)
unfolding same_sign
stops_semicolon t ts is = record {
  closed = λ x. closes s.Semicolon refl t ts x is;
  no_step = seen is_step t ts _ is.kind false refl;
  no_comma = seen (is_sign s.Comma) t ts _ is.kind false refl;
  no_value = seen (is_sign s.Assign) t ts _ is.kind false refl;
}

pub stops_parenthesis : (t : Token) (ts : List Token) → IsSign s.RightParenthesis t → Stops (t ∷ ts)
unfolding same_sign
stops_parenthesis t ts is = record {
  closed = λ x. closes s.RightParenthesis refl t ts x is;
  no_step = seen is_step t ts _ is.kind false refl;
  no_comma = seen (is_sign s.Comma) t ts _ is.kind false refl;
  no_value = seen (is_sign s.Assign) t ts _ is.kind false refl;
}

abbrev pub Stop : {A : Type 0} → A → List Token → Type 0
Stop a r = Stops r

-- ---- the signs of changes

assign_sign_of : (kind : TokenKind) (op : Assign) → assign_of kind ≡ Some op → kind ≡ k.Sign (assign_sign op)
assign_sign_of (k.Sign s.Assign) op is = let same : a.Set ≡ op = cc in ap (λ (y : Assign). k.Sign (assign_sign y)) same
assign_sign_of (k.Sign s.PlusAssign) op is = let same : a.Add ≡ op = cc in ap (λ (y : Assign). k.Sign (assign_sign y)) same
assign_sign_of (k.Sign s.MinusAssign) op is = let same : a.Subtract ≡ op = cc in ap (λ (y : Assign). k.Sign (assign_sign y)) same
assign_sign_of (k.Sign s.StarAssign) op is = let same : a.Multiply ≡ op = cc in ap (λ (y : Assign). k.Sign (assign_sign y)) same
assign_sign_of (k.Sign s.SlashAssign) op is = let same : a.Divide ≡ op = cc in ap (λ (y : Assign). k.Sign (assign_sign y)) same
assign_sign_of (k.Sign s.PercentAssign) op is = let same : a.Remainder ≡ op = cc in ap (λ (y : Assign). k.Sign (assign_sign y)) same
assign_sign_of (k.Sign s.AmpersandAssign) op is = let same : a.BitAnd ≡ op = cc in ap (λ (y : Assign). k.Sign (assign_sign y)) same
assign_sign_of (k.Sign s.BarAssign) op is = let same : a.BitOr ≡ op = cc in ap (λ (y : Assign). k.Sign (assign_sign y)) same
assign_sign_of (k.Sign s.CaretAssign) op is = let same : a.BitXor ≡ op = cc in ap (λ (y : Assign). k.Sign (assign_sign y)) same
assign_sign_of (k.Sign s.ShiftLeftAssign) op is = let same : a.ShiftLeft ≡ op = cc in ap (λ (y : Assign). k.Sign (assign_sign y)) same
assign_sign_of (k.Sign s.ShiftRightAssign) op is = let same : a.ShiftRight ≡ op = cc in ap (λ (y : Assign). k.Sign (assign_sign y)) same
assign_sign_of (k.Sign s.ShiftRightZeroAssign) op is = let same : a.ShiftRightZero ≡ op = cc in ap (λ (y : Assign). k.Sign (assign_sign y)) same
assign_sign_of _ op is = absurd cc

assign_is : (op : Assign) → assign_of (k.Sign (assign_sign op)) ≡ Some op
assign_is a.Set = refl
assign_is a.Add = refl
assign_is a.Subtract = refl
assign_is a.Multiply = refl
assign_is a.Divide = refl
assign_is a.Remainder = refl
assign_is a.BitAnd = refl
assign_is a.BitOr = refl
assign_is a.BitXor = refl
assign_is a.ShiftLeft = refl
assign_is a.ShiftRight = refl
assign_is a.ShiftRightZero = refl

change_sign_of : (kind : TokenKind) (op : Change) → change_of kind ≡ Some op → kind ≡ k.Sign (change_sign op)
change_sign_of (k.Sign s.PlusPlus) op is = let same : c.Increase ≡ op = cc in ap (λ (y : Change). k.Sign (change_sign y)) same
change_sign_of (k.Sign s.MinusMinus) op is = let same : c.Decrease ≡ op = cc in ap (λ (y : Change). k.Sign (change_sign y)) same
change_sign_of _ op is = absurd cc

change_is : (op : Change) → change_of (k.Sign (change_sign op)) ≡ Some op
change_is c.Increase = refl
change_is c.Decrease = refl

change_no_assign : (op : Change) → assign_of (k.Sign (change_sign op)) ≡ None
change_no_assign c.Increase = refl
change_no_assign c.Decrease = refl

-- a sign that neither continues what is assigned nor is a name
pub record Plain (x : Sign) : Type 0 where
  pub no_step : is_step (k.Sign x) ≡ false
  pub no_colons : colons (k.Sign x) ≡ false
  pub no_call : is_sign s.LeftParenthesis (k.Sign x) ≡ false

plain_by : (x : Sign) → is_step (k.Sign x) ≡ false → colons (k.Sign x) ≡ false → is_sign s.LeftParenthesis (k.Sign x) ≡ false → Plain x
plain_by x a b c = record { no_step = a; no_colons = b; no_call = c }

pub plain_assign : (op : Assign) → Plain (assign_sign op)
unfolding same_sign
plain_assign a.Set = plain_by s.Assign refl refl refl
plain_assign a.Add = plain_by s.PlusAssign refl refl refl
plain_assign a.Subtract = plain_by s.MinusAssign refl refl refl
plain_assign a.Multiply = plain_by s.StarAssign refl refl refl
plain_assign a.Divide = plain_by s.SlashAssign refl refl refl
plain_assign a.Remainder = plain_by s.PercentAssign refl refl refl
plain_assign a.BitAnd = plain_by s.AmpersandAssign refl refl refl
plain_assign a.BitOr = plain_by s.BarAssign refl refl refl
plain_assign a.BitXor = plain_by s.CaretAssign refl refl refl
plain_assign a.ShiftLeft = plain_by s.ShiftLeftAssign refl refl refl
plain_assign a.ShiftRight = plain_by s.ShiftRightAssign refl refl refl
plain_assign a.ShiftRightZero = plain_by s.ShiftRightZeroAssign refl refl refl

pub plain_change : (op : Change) → Plain (change_sign op)
unfolding same_sign
plain_change c.Increase = plain_by s.PlusPlus refl refl refl
plain_change c.Decrease = plain_by s.MinusMinus refl refl refl

pub plain_arrow : Plain s.LeftArrow
unfolding same_sign
plain_arrow = plain_by s.LeftArrow refl refl refl

pub plain_ends : (x : Sign) → Plain x → (t : Token) (ts : List Token) → IsSign x t → TargetEnds (t ∷ ts)
plain_ends x p t ts is = record {
  no_step = seen is_step t ts _ is.kind false p.no_step;
  no_name = seen is_name t ts _ is.kind false refl;
  no_colons = seen colons t ts _ is.kind false p.no_colons;
  no_call = seen (is_sign s.LeftParenthesis) t ts _ is.kind false p.no_call;
}

-- ---- what is done with what is assigned

pub data Changed (n : ℕ) (v : Target) : Simple → List Token → Type 0 where
  assign : (op : Assign) (x : Expr) (t : Token) (value : List Token) → IsSign (assign_sign op) t → Within height n SpellsExpr x value → Changed n v (simple.Assign v op x) (t ∷ value)
  after : (op : Change) (t : Token) → IsSign (change_sign op) t → Changed n v (simple.After v op) (t ∷ [])

module _ (n : ℕ) (v : Target) where
  change_found_by : (t : Token) (ts : List Token) (x : Simple) (r : List Token) (o : Option Assign) (p : Option Change) → assign_of t.kind ≡ o → change_of t.kind ≡ p → after_target n v t.kind o p (t ∷ ts) ≡ answer x r
      → Found (Changed n v) Any (t ∷ ts) x r
  change_found_by t ts x r (Some op) p is also h = skip_of_found (λ z. simple.Assign v op z) (meets_expr n) t ts x r h (λ z u w. assign op z t u (record { kind = assign_sign_of t.kind op is }) w)
  change_found_by t ts x r None (Some op) is also h =
      given (λ z l. Found (Changed n v) Any (t ∷ ts) z l) (simple.After v op) x ts r (sym (ap (λ (o : Outcome (Unit {0})). and_then o (λ _. pure (simple.After v op))) (skipped t ts)) ∙ h)
      (record { used = t ∷ []; parts = refl; spelled = after op t (record { kind = change_sign_of t.kind op also }); follows = tt })
  change_found_by t ts x r None None is also h = absurd cc

  change_found : (ts : List Token) (x : Simple) (r : List Token) → change_target n v ts ≡ answer x r → Found (Changed n v) Any ts x r
  unfolding change_target look
  change_found [] x r h = absurd cc
  change_found (t ∷ ts) x r h = change_found_by t ts x r (assign_of t.kind) (change_of t.kind) refl refl h

  change_is_by : (t : Token) (ts : List Token) (kind : TokenKind) → t.kind ≡ kind → change_target n v (t ∷ ts) ≡ after_target n v kind (assign_of kind) (change_of kind) (t ∷ ts)
  unfolding change_target look
  change_is_by t ts kind is = ap (λ (z : TokenKind). after_target n v z (assign_of z) (change_of z) (t ∷ ts)) is

  change_read : (x : Simple) (u r : List Token) → Changed n v x u → Stops r → change_target n v (u ++ r) ≡ answer x r
  change_read _ _ r (assign op x t value is spelled) stops =
      change_is_by t (value ++ r) _ is.kind
      ∙ ap (λ (o : Option Assign). after_target n v (k.Sign (assign_sign op)) o (change_of (k.Sign (assign_sign op))) (t ∷ (value ++ r))) (assign_is op)
      ∙ skip_of_read (λ z. simple.Assign v op z) (meets_expr n) t x value r spelled (stops.closed x)
  change_read _ _ r (after op t is) stops =
      change_is_by t r _ is.kind ∙ rw (change_no_assign op, change_is op, skipped t r) refl

  pub meets_change : Meets (change_target n v) (Changed n v) Any Stop
  meets_change = record { sound = change_found; complete = change_read }

-- ---- a change before what is changed

pub data Before (n : ℕ) : Simple → List Token → Type 0 where
  before_it : (op : Change) (v : Target) (t : Token) (others : List Token) → IsSign (change_sign op) t → Within target_height n SpellsTarget v others → Before n (simple.Before t.place op v) (t ∷ others)

module _ (n : ℕ) where
  before_found_by : (t : Token) (ts : List Token) (x : Simple) (r : List Token) (p : Option Change) → change_of t.kind ≡ p → changed_by n t.place p (t ∷ ts) ≡ answer x r → Found (Before n) Any (t ∷ ts) x r
  before_found_by t ts x r None is h = absurd cc
  before_found_by t ts x r (Some op) is h =
      skip_of_found (λ z. simple.Before t.place op z) (meets_target n) t ts x r h (λ z u w. before_it op z t u (record { kind = change_sign_of t.kind op is }) w)

  before_found : (ts : List Token) (x : Simple) (r : List Token) → before n ts ≡ answer x r → Found (Before n) Any ts x r
  unfolding before look
  before_found [] x r h = absurd cc
  before_found (t ∷ ts) x r h = before_found_by t ts x r (change_of t.kind) refl h

  before_read : (x : Simple) (u r : List Token) → Before n x u → Stops r → before n (u ++ r) ≡ answer x r
  unfolding before look
  before_read _ _ r (before_it op v t others is spelled) stops =
      ap (λ (z : TokenKind). changed_by n t.place (change_of z) (t ∷ (others ++ r))) is.kind
      ∙ ap (λ (p : Option Change). changed_by n t.place p (t ∷ (others ++ r))) (change_is op)
      ∙ skip_of_read (λ z. simple.Before t.place op z) (meets_target n) t v others r spelled stops.no_step

  pub meets_before : Meets (before n) (Before n) Any Stop
  meets_before = record { sound = before_found; complete = before_read }

  -- ---- simple statements

  pub changed_spelled : {v : Target} {front : List Token} → SpellsTarget v front → target_height v ≤ n → (x : Simple) (u : List Token) → Changed n v x u → Within simple_height n SpellsSimple x (front ++ u)
  changed_spelled {v} {front} sv low _ _ (assign op x t value is spelled) = record { spelled = g.assign v op x t front value sv is spelled.spelled; low = omega (arith, spelled.low) }
  changed_spelled {v} {front} sv low _ _ (after op t is) = record { spelled = g.after v op t front sv is; low = low }

  pub call_spelled : (q : Path) (xs : List Expr) (front back : List Token) → SpellsPath q front → Args (n - 1) xs back → 2 ≤ n → Within simple_height n SpellsSimple (simple.Call q xs) (front ++ back)
  call_spelled q xs front _ sq (in_parentheses _ o c inner opens sa ends low) two = record { spelled = g.call q xs o c front inner sq opens sa ends; low = omega arith }

  begun_found : {b : Begun} {u : List Token} → Starts n b u → (mid : List Token) (x : Simple) (r : List Token) → simple_by n b mid ≡ answer x r → Found (Within simple_height n SpellsSimple) Any (u ++ mid) x r
  begun_found (typed q sizes u spelled low) mid x r h = absurd cc
  begun_found (targeted v u spelled low) mid x r h =
      let f = change_found n v mid x r h in
      record { used = u ++ f.used; parts = ap (λ (l : List Token). u ++ l) f.parts ∙ sym (append_assoc u f.used r); spelled = changed_spelled spelled low x f.used f.spelled; follows = tt }
  begun_found (calling q xs front back sq sa two) mid x r h =
      given (λ z l. Found (Within simple_height n SpellsSimple) Any ((front ++ back) ++ mid) z l) (simple.Call q xs) x mid r h
      (record { used = front ++ back; parts = refl; spelled = call_spelled q xs front back sq sa two; follows = tt })

  before_spelled : (x : Simple) (u : List Token) → Before n x u → Within simple_height n SpellsSimple x u
  before_spelled _ _ (before_it op v t others is spelled) = record { spelled = g.before v op t others is spelled.spelled; low = spelled.low }

  simple_found : (ts : List Token) (x : Simple) (r : List Token) → simple_stmt n ts ≡ answer x r → Found (Within simple_height n SpellsSimple) Any ts x r
  unfolding simple_stmt see
  simple_found ts x r h =
      elim (if_ok (sees is_name ts) _ _ ts _ h) [
        | inl y ↦
            let z = bind_ok (begun_by_name n ts) (simple_by n) x r y.1 in
            let f = (meets_begun n).sound ts z.0 z.1 z.2 in
            subst (λ (l : List Token). Found (Within simple_height n SpellsSimple) Any l x r) (sym f.parts) (begun_found f.spelled z.1 x r z.3)
        | inr y ↦ let f = before_found ts x r y.1 in record { used = f.used; parts = f.parts; spelled = before_spelled x f.used f.spelled; follows = tt }
      ]

  pub target_named : {v : Target} {front : List Token} → SpellsTarget v front → (r : List Token) → sees is_name (front ++ r) ≡ true
  target_named (g.target w steps t others is spelled) r = seen is_name t (others ++ r) _ is.kind true refl

  pub path_named : {q : Path} {front : List Token} → SpellsPath q front → (r : List Token) → sees is_name (front ++ r) ≡ true
  path_named (e.path t m ms others is spelled) r = seen is_name t (others ++ r) _ is true refl

  named_read : (x : Simple) (b : Begun) (ts mid r : List Token) → sees is_name ts ≡ true → begun_by_name n ts ≡ answer b mid → simple_by n b mid ≡ answer x r → simple_stmt n ts ≡ answer x r
  unfolding simple_stmt see
  named_read x b ts mid r there one two = rw (there, one) two

  sign_no_name : (y : Sign) (t : Token) (ts : List Token) → IsSign y t → sees is_name (t ∷ ts) ≡ false
  sign_no_name y t ts is = seen is_name t ts _ is.kind false refl

  unnamed_read : (x : Simple) (ts r : List Token) → sees is_name ts ≡ false → before n ts ≡ answer x r → simple_stmt n ts ≡ answer x r
  unfolding simple_stmt see
  unnamed_read x ts r none one = rw none one

  simple_read : {x : Simple} {u : List Token} → SpellsSimple x u → simple_height x ≤ n → (r : List Token) → Stops r → simple_stmt n (u ++ r) ≡ answer x r
  simple_read (g.assign v op x t front value sv is sx) low r stops =
      ap (simple_stmt n) (append_assoc front (t ∷ value) r)
      ∙ named_read (simple.Assign v op x) (begun.Target v) (front ++ (t ∷ (value ++ r))) (t ∷ (value ++ r)) r (target_named sv (t ∷ (value ++ r)))
      ((meets_begun n).complete (begun.Target v) front (t ∷ (value ++ r)) (targeted v front sv (omega arith)) (plain_ends (assign_sign op) (plain_assign op) t (value ++ r) is))
      (change_read n v (simple.Assign v op x) (t ∷ value) r (assign op x t value is (record { spelled = sx; low = omega arith })) stops)
  simple_read (g.after v op t front sv is) low r stops =
      ap (simple_stmt n) (append_assoc front (t ∷ []) r)
      ∙ named_read (simple.After v op) (begun.Target v) (front ++ (t ∷ r)) (t ∷ r) r (target_named sv (t ∷ r))
      ((meets_begun n).complete (begun.Target v) front (t ∷ r) (targeted v front sv low) (plain_ends (change_sign op) (plain_change op) t r is))
      (change_read n v (simple.After v op) (t ∷ []) r (after op t is) stops)
  simple_read (g.before v op t others is sv) low r stops =
      unnamed_read (simple.Before t.place op v) (t ∷ (others ++ r)) r (sign_no_name (change_sign op) t (others ++ r) is)
      (before_read (simple.Before t.place op v) (t ∷ others) r (before_it op v t others is (record { spelled = sv; low = low })) stops)
  simple_read (g.call q xs o c front inner sq opens sa ends) low r stops =
      let back : List Token = o ∷ (inner ++ c ∷ []) in
      ap (simple_stmt n) (append_assoc front back r)
      ∙ named_read (simple.Call q xs) (begun.Call q xs) (front ++ (back ++ r)) r r (path_named sq (back ++ r))
      (ap (begun_by_name n) (sym (append_assoc front back r)) ∙ (meets_begun n).complete (begun.Call q xs) (front ++ back) r (calling q xs front back sq (in_parentheses xs o c inner opens sa ends (omega arith)) (omega arith)) tt)
      refl

  pub meets_simple : Meets (simple_stmt n) (Within simple_height n SpellsSimple) Any Stop
  meets_simple = record { sound = simple_found; complete = λ x u r h stops. simple_read h.spelled h.low r stops }

  -- ---- local declarations

  pub meets_let : (p : Place) → Meets (let_local n p) (Of (λ xs. local.Let p xs) (Listed (Within init_height n SpellsInit))) Any Stop
  unfolding let_local
  meets_let p = meets_of {G = Any} {M = Stop} (λ xs. local.Let p xs) (meets_inits n) (λ a r f. tt) (λ a r stops. record { ended = stops.no_comma; needs = λ x. stops.closed x.value })

  pub meets_var_local : (p : Place) → Meets (var_local n p) (Of (λ xs. local.Var p xs) (Listed (Within init_height n SpellsInit))) Any Stop
  unfolding var_local
  meets_var_local p = meets_of {G = Any} {M = Stop} (λ xs. local.Var p xs) (meets_inits n) (λ a r f. tt) (λ a r stops. record { ended = stops.no_comma; needs = λ x. stops.closed x.value })

  pub meets_typed_local : (ty : TypeExpr) → Meets (typed_local n ty) (Of (λ vs. local.Typed ty vs) (Listed (Within var_height n SpellsVar))) Any Stop
  unfolding typed_local
  meets_typed_local ty = meets_of {G = Any} {M = Stop} (λ vs. local.Typed ty vs) (meets_vars n) (λ a r f. tt) (λ a r stops. record { ended = stops.no_comma; needs = λ x. record { no_value = stops.no_value; closed = stops.closed } })
