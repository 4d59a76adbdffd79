-- What the parsers of the parts of statements meet.
use Rattle.std.proofs.Common.{◌≡◌, ℕ, ◌≤◌, true, false, List, [], ◌∷◌, ◌++◌, Option, Some, None, refl, ap, sym, subst, ◌∙◌, append_assoc}
use Rattle.cm_base.specs.declared.place.Place.{Place}
use Rattle.cm_tree.specs.declared.token.Token.{Token}
use Rattle.cm_tree.specs.declared.token.TokenKind.TheVariants as k
use Rattle.cm_tree.specs.declared.sign.Sign.TheVariants as s
use Rattle.cm_tree.specs.declared.reserved.Reserved.TheVariants as w
use Rattle.cm_tree.specs.declared.expr.Expr.{Expr}
use Rattle.cm_tree.specs.declared.simple.Simple.{Simple}
use Rattle.cm_tree.specs.declared.stmt.Assert.{Assert}
use Rattle.cm_tree.specs.Heights.{height}
use Rattle.cm_tree.specs.StmtHeights.{simple_height}
use Rattle.cm_tree.specs.Lists.{Optional}
use Rattle.cm_tree.specs.Lists as lists
use Rattle.cm_tree.specs.Spelling.{IsSign, IsReserved, SpellsPath, SpellsExpr}
use Rattle.cm_tree.specs.Spelling as e
use Rattle.cm_tree.specs.StmtSpelling.{change_sign, SpellsTarget, SpellsSimple, SpellsAssert}
use Rattle.cm_tree.specs.StmtSpelling as g
use Rattle.cm_tree.specs.declared.operator.Change.{Change}
use Rattle.cm_tree.specs.declared.operator.Change.TheVariants as c
use Rattle.token_reader.specs.Parsers.{Parser, ◌>>=◌, pure, sees, is_sign, same_sign}
use Rattle.token_reader.specs.Lists.{text}
use Rattle.token_reader.proofs.Inverses.{answer, seen, text_ok, text_there}
use Rattle.cm_parse_expr.proofs.Next.{Closed, closes, sign_seen}
use Rattle.file_grammar.specs.Words.{condition}
use Rattle.file_grammar.specs.Stmts.{then_text, assertion, value_up_to, third}
use Rattle.file_grammar.proofs.Meets.{Found, Meets, Any, Not, Is, meets_pure, meets_optional}
use Rattle.file_grammar.proofs.Spelled.{Within, meets_expr}
use Rattle.file_grammar.proofs.Shapes.{Signed, signed, Seq, seq, Of, of, Led, led, Choice, one_way, other_way, Ending, meets_sign, meets_seq, meets_of, meets_iff, meets_weaker, meets_led, meets_choice, meets_ending, skip_same, starts_of}
use Rattle.file_grammar.proofs.FirstTokens.{expr_first, no_sign_first}
use Rattle.file_grammar.proofs.Changes.{Stops, Stop, meets_simple}

-- ---- strings

pub data Quoted : Place × List ℕ → List Token → Type 0 where
  quoted : (t : Token) (bytes : List ℕ) → t.kind ≡ k.Text bytes → Quoted (t.place, bytes) (t ∷ [])

text_found : (ts : List Token) (p : Place × List ℕ) (r : List Token) → text ts ≡ answer p r → Found Quoted Any ts p r
text_found ts p r h =
    let f = text_ok ts p r h in
    record { used = f.token ∷ []; parts = f.parts; spelled = subst (λ (z : Place). Quoted (z, p.1) (f.token ∷ [])) f.place (quoted f.token p.1 f.kind); follows = tt }

text_read : (p : Place × List ℕ) (u r : List Token) → Quoted p u → text (u ++ r) ≡ answer p r
text_read _ _ r (quoted t bytes is) = text_there t r bytes is

pub meets_text : Meets text Quoted Any Any
meets_text = record { sound = text_found; complete = λ p u r h any. text_read p u r h }

-- ---- assertions

abbrev pub made_assert : Place → Expr → Option (List ℕ) → Assert
made_assert p x t = record { place = p; condition = x; text = t }

abbrev Told : List ℕ → List Token → Type 0
Told = Of (λ (t : Place × List ℕ). t.1) (Led s.Comma Quoted)

abbrev pub Asserting : ℕ → Place → Assert → List Token → Type 0
Asserting n p = Seq (Led s.LeftParenthesis (Within height n SpellsExpr)) (λ x. Seq (Optional Told) (λ t. Of (λ (y : Unit {0}). made_assert p x t) (Led s.RightParenthesis (Signed s.Semicolon))))

meets_told : Meets then_text Told Any Any
meets_told = meets_of {G = Any} {M = Any} (λ (t : Place × List ℕ). t.1) (meets_led s.Comma meets_text) (λ a r f. tt) (λ a r f. tt)

told_starts : (x : List ℕ) (v r : List Token) → Told x v → sees (is_sign s.Comma) (v ++ r) ≡ true
unfolding same_sign
told_starts _ _ r (of _ _ (led _ t u is h)) = seen (is_sign s.Comma) t (u ++ r) _ is.kind true refl

told_closes : {p : Place} {x : Expr} (y : Expr) (b : Assert) (v r : List Token) → Seq (Optional Told) (λ t. Of (λ (y : Unit {0}). made_assert p x t) (Led s.RightParenthesis (Signed s.Semicolon))) b v → Closed y (v ++ r)
told_closes y _ _ r (seq _ _ _ _ lists.absent (of _ _ (led _ t u is h))) = closes s.RightParenthesis refl t (u ++ r) y is
told_closes y _ _ r (seq _ _ _ back (lists.present _ _ (of _ _ (led _ t u is h))) more) = closes s.Comma refl t ((u ++ back) ++ r) y is

no_told : {b : Assert} {f : Unit {0} → Assert} (v r : List Token) → Of f (Led s.RightParenthesis (Signed s.Semicolon)) b v → sees (is_sign s.Comma) (v ++ r) ≡ false
unfolding same_sign
no_told _ r (of _ _ (led _ t u is h)) = seen (is_sign s.Comma) t (u ++ r) _ is.kind false refl

pub meets_assertion : (n : ℕ) (p : Place) → Meets (assertion n p) (Asserting n p) Any Any
unfolding assertion
meets_assertion n p =
    meets_seq (meets_led s.LeftParenthesis (meets_expr n))
    (λ x. meets_seq (meets_optional (is_sign s.Comma) (Not (is_sign s.Comma)) meets_told told_starts (λ r m. m) (λ y r m. tt))
    (λ t. meets_of {G = Any} {M = Any} (λ (y : Unit {0}). made_assert p x t) (meets_led s.RightParenthesis (meets_sign s.Semicolon)) (λ a r f. tt) (λ a r f. tt))
    (λ t b v r h m. no_told v r h))
    (λ x b v r h m. told_closes x b v r h)

pub assert_as : (n : ℕ) (t : Token) → IsReserved w.StaticAssert t → (a : Assert) (u : List Token) → Asserting n t.place a u → Within (λ (x : Assert). height x.condition) n SpellsAssert a (t ∷ u)
assert_as n t is _ _ (seq _ _ _ _ (led x o inner io sx) (seq _ _ _ _ lists.absent (of _ _ (led _ c _ ic (signed _ end ie))))) = record { spelled = g.bare x t o c end inner is io sx.spelled ic ie; low = sx.low }
assert_as n t is _ _ (seq _ _ _ _ (led x o inner io sx) (seq _ _ _ _ (lists.present _ _ (of _ _ (led _ comma _ im (quoted v bytes iv)))) (of _ _ (led _ c _ ic (signed _ end ie))))) =
    record { spelled = g.told x bytes t o comma v c end inner is io sx.spelled im iv ic ie; low = sx.low }

pub record Asserts (n : ℕ) (a : Assert) (v : List Token) : Type 0 where
  pub token : Token
  pub tokens : List Token
  pub parts : v ≡ token ∷ tokens
  pub is : IsReserved w.StaticAssert token
  pub spelled : Asserting n token.place a tokens

pub as_assert : (n : ℕ) {a : Assert} {u : List Token} → SpellsAssert a u → height a.condition ≤ n → Asserts n a u
as_assert n (g.bare x t o c end inner is io sx ic ie) low = record {
  token = t;
  tokens = o ∷ (inner ++ c ∷ end ∷ []);
  parts = refl;
  is = is;
  spelled = seq x (made_assert t.place x None) (o ∷ inner) (c ∷ end ∷ []) (led x o inner io (record { spelled = sx; low = low }))
      (seq None (made_assert t.place x None) [] (c ∷ end ∷ []) lists.absent (of tt (c ∷ end ∷ []) (led tt c (end ∷ []) ic (signed tt end ie))));
}
as_assert n (g.told x bytes t o comma v c end inner is io sx im iv ic ie) low = record {
  token = t;
  tokens = o ∷ (inner ++ comma ∷ v ∷ c ∷ end ∷ []);
  parts = refl;
  is = is;
  spelled = seq x (made_assert t.place x (Some bytes)) (o ∷ inner) (comma ∷ v ∷ c ∷ end ∷ []) (led x o inner io (record { spelled = sx; low = low }))
      (seq (Some bytes) (made_assert t.place x (Some bytes)) (comma ∷ v ∷ []) (c ∷ end ∷ []) (lists.present bytes (comma ∷ v ∷ []) (of (v.place, bytes) (comma ∷ v ∷ []) (led (v.place, bytes) comma (v ∷ []) im (quoted v bytes iv))))
      (of tt (c ∷ end ∷ []) (led tt c (end ∷ []) ic (signed tt end ie))));
}

-- ---- conditions

pub meets_condition : {B : Type 0} (n : ℕ) {q : Expr → Parser B} {S : Expr → B → List Token → Type 0} {G M : B → List Token → Type 0} → ((x : Expr) → Meets (q x) (S x) G M)
    → Meets (condition n >>= q) (Ending s.RightParenthesis (Led s.LeftParenthesis (Within height n SpellsExpr)) S) G M
unfolding condition
meets_condition n m = meets_ending (meets_led s.LeftParenthesis (meets_expr n)) (λ x t r is. closes s.RightParenthesis refl t r x is) m

-- ---- a value up to `;`

pub data UpTo (n : ℕ) : Option Expr → List Token → Type 0 where
  missing : (t : Token) → IsSign s.Semicolon t → UpTo n None (t ∷ [])
  there : (x : Expr) (t : Token) (u : List Token) → Within height n SpellsExpr x u → IsSign s.Semicolon t → UpTo n (Some x) (u ++ t ∷ [])

abbrev nothing : Unit {0} → Option Expr
nothing y = None

abbrev Valued : ℕ → Option Expr → List Token → Type 0
Valued n = Choice (Of nothing (Signed s.Semicolon)) (Seq (Within height n SpellsExpr) (λ x. Of (λ (y : Unit {0}). Some x) (Signed s.Semicolon)))

up_to_of : (n : ℕ) (a : Option Expr) (u : List Token) → Valued n a u → UpTo n a u
up_to_of n _ _ (one_way _ _ (of _ _ (signed _ t is))) = missing t is
up_to_of n _ _ (other_way _ _ (seq x _ u _ sx (of _ _ (signed _ t is)))) = there x t u sx is

of_up_to : (n : ℕ) (a : Option Expr) (u : List Token) → UpTo n a u → Valued n a u
of_up_to n _ _ (missing t is) = one_way None (t ∷ []) (of tt (t ∷ []) (signed tt t is))
of_up_to n _ _ (there x t u sx is) = other_way (Some x) (u ++ t ∷ []) (seq x (Some x) u (t ∷ []) sx (of tt (t ∷ []) (signed tt t is)))

value_first : (n : ℕ) (a : Option Expr) (u r : List Token) → Seq (Within height n SpellsExpr) (λ x. Of (λ (y : Unit {0}). Some x) (Signed s.Semicolon)) a u → sees (is_sign s.Semicolon) (u ++ r) ≡ false
value_first n _ _ r (seq x _ u v sx more) = ap (sees (is_sign s.Semicolon)) (append_assoc u v r) ∙ no_sign_first s.Semicolon refl (expr_first sx.spelled) (v ++ r)

semicolon_first : {f : Unit {0} → Option Expr} (a : Option Expr) (u r : List Token) → Of f (Signed s.Semicolon) a u → sees (is_sign s.Semicolon) (u ++ r) ≡ true
semicolon_first _ _ r (of _ _ (signed _ t is)) = sign_seen s.Semicolon t r is

pub meets_value_up_to : (n : ℕ) → Meets (value_up_to n) (UpTo n) Any Any
unfolding value_up_to
meets_value_up_to n = meets_iff
    (meets_choice (is_sign s.Semicolon) (λ ts is. skip_same (is_sign s.Semicolon) (pure None) ts is)
    (meets_of {G = Any} {M = Any} nothing (meets_sign s.Semicolon) (λ a r f. tt) (λ a r f. tt))
    (meets_seq (meets_expr n) (λ x. meets_of {G = Any} {M = Any} (λ (y : Unit {0}). Some x) (meets_sign s.Semicolon) (λ a r f. tt) (λ a r f. tt)) (λ x b v r h m. starts_of (Closed x) (λ t ts is. closes s.Semicolon refl t ts x is) b v r h))
    (λ a u r h m. semicolon_first a u r h) (λ a u r h m. value_first n a u r h) (λ a r m. m) (λ a r m. m))
    (up_to_of n) (of_up_to n)

-- ---- the third part of the head of a `for`

change_no_parenthesis : (op : Change) → is_sign s.RightParenthesis (k.Sign (change_sign op)) ≡ false
unfolding same_sign
change_no_parenthesis c.Increase = refl
change_no_parenthesis c.Decrease = refl

target_no_parenthesis : {v : _} {u : List Token} → SpellsTarget v u → (r : List Token) → sees (is_sign s.RightParenthesis) (u ++ r) ≡ false
target_no_parenthesis (g.target w steps t others is spelled) r = seen (is_sign s.RightParenthesis) t (others ++ r) _ is.kind false refl

path_no_parenthesis : {q : _} {u : List Token} → SpellsPath q u → (r : List Token) → sees (is_sign s.RightParenthesis) (u ++ r) ≡ false
path_no_parenthesis (e.path t m ms others is spelled) r = seen (is_sign s.RightParenthesis) t (others ++ r) _ is false refl

simple_no_parenthesis : {x : Simple} {u : List Token} → SpellsSimple x u → (r : List Token) → sees (is_sign s.RightParenthesis) (u ++ r) ≡ false
simple_no_parenthesis (g.assign v op a t front value sv is sa) r = ap (sees (is_sign s.RightParenthesis)) (append_assoc front (t ∷ value) r) ∙ target_no_parenthesis sv (t ∷ (value ++ r))
simple_no_parenthesis (g.after v op t front sv is) r = ap (sees (is_sign s.RightParenthesis)) (append_assoc front (t ∷ []) r) ∙ target_no_parenthesis sv (t ∷ r)
simple_no_parenthesis (g.before v op t others is sv) r = seen (is_sign s.RightParenthesis) t (others ++ r) _ is.kind false (change_no_parenthesis op)
simple_no_parenthesis (g.call q xs o c front inner sq io sa ic) r = ap (sees (is_sign s.RightParenthesis)) (append_assoc front (o ∷ (inner ++ c ∷ [])) r) ∙ path_no_parenthesis sq ((o ∷ (inner ++ c ∷ [])) ++ r)

pub record Ended {A : Type 0} (a : A) (r : List Token) : Type 0 where
  pub there_is : sees (is_sign s.RightParenthesis) r ≡ true
  pub stops : Stops r

abbrev ThirdBy : ℕ → Option Simple → List Token → Type 0
ThirdBy n = Choice (Is None) (Of (λ x. Some x) (Within simple_height n SpellsSimple))

third_of : (n : ℕ) (a : Option Simple) (u : List Token) → ThirdBy n a u → Optional (Within simple_height n SpellsSimple) a u
third_of n a u (one_way _ _ h) = subst (λ (l : List Token). Optional (Within simple_height n SpellsSimple) a l) (sym h.none) (subst (λ (x : Option Simple). Optional (Within simple_height n SpellsSimple) x []) (sym h.same) lists.absent)
third_of n _ _ (other_way _ _ (of x u h)) = lists.present x u h

of_third : (n : ℕ) (a : Option Simple) (u : List Token) → Optional (Within simple_height n SpellsSimple) a u → ThirdBy n a u
of_third n _ _ lists.absent = one_way None [] (record { same = refl; none = refl })
of_third n _ _ (lists.present x u h) = other_way (Some x) u (of x u h)

some_no_parenthesis : (n : ℕ) (a : Option Simple) (u r : List Token) → Of (λ x. Some x) (Within simple_height n SpellsSimple) a u → sees (is_sign s.RightParenthesis) (u ++ r) ≡ false
some_no_parenthesis n _ _ r (of x u h) = simple_no_parenthesis h.spelled r

abbrev no_simple : Option Simple
no_simple = None

no_third : Meets (pure no_simple) (Is None) Any Ended
no_third = meets_weaker (meets_pure None) (λ a r f. tt) (λ a r m. tt)

pub meets_third : (n : ℕ) → Meets (third n) (Optional (Within simple_height n SpellsSimple)) Any Ended
unfolding third
meets_third n = meets_iff
    (meets_choice (is_sign s.RightParenthesis) (λ ts is. refl) no_third
    (meets_of {G = Any} {M = Stop} (λ x. Some x) (meets_simple n) (λ a r f. tt) (λ a r m. m))
    (λ a u r h m. ap (λ (l : List Token). sees (is_sign s.RightParenthesis) (l ++ r)) h.none ∙ m.there_is) (λ a u r h m. some_no_parenthesis n a u r h)
    (λ a r m. m) (λ a r m. m.stops))
    (third_of n) (of_third n)
