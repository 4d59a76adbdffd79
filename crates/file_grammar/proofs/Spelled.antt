-- What the parsers of names and values meet: the grammar's relations, within a height.
use Rattle.std.proofs.Common.{◌≡◌, ℕ, ◌≤◌, true, false, List, [], ◌∷◌, ◌++◌, Option, Some, None, Ok, Err, refl, ap, sym, subst, ◌∙◌, arith}
use Rattle.cm_base.specs.declared.place.Place.{Place}
use Rattle.cm_tree.specs.declared.token.Token.{Token}
use Rattle.cm_tree.specs.declared.sign.Sign.{Sign}
use Rattle.cm_tree.specs.declared.sign.Sign.TheVariants as s
use Rattle.cm_tree.specs.declared.path.Word.{Word}
use Rattle.cm_tree.specs.declared.expr.Expr.{Expr}
use Rattle.cm_tree.specs.declared.type_expr.TypeExpr.{TypeExpr}
use Rattle.cm_tree.specs.declared.simple.Init.{Init}
use Rattle.cm_tree.specs.declared.simple.Var.{Var}
use Rattle.cm_tree.specs.Heights.{height}
use Rattle.cm_tree.specs.StmtHeights.{type_height, init_height, var_height}
use Rattle.cm_tree.specs.Lists.{Every, Further, Listed, Optional}
use Rattle.cm_tree.specs.Lists as lists
use Rattle.cm_tree.specs.Spelling.{IsSign, SpellsPath, SpellsExpr, SpellsType}
use Rattle.cm_tree.specs.StmtSpelling.{SpellsWord, SpellsInit, SpellsVar}
use Rattle.cm_tree.specs.StmtSpelling as g
use Rattle.token_reader.specs.Parsers.{Outcome, Parser, and_then, ◌>>=◌, ◌>>◌, pure, sees, expect, is_sign, same_sign}
use Rattle.token_reader.specs.Lists.{name, separated, while_sees}
use Rattle.token_reader.proofs.Inverses.{answer, bind_ok, given, name_ok, named, seen, sign_is, sign_same}
use Rattle.cm_parse_expr.specs.Reading.{colons, path, expr, type_expr}
use Rattle.cm_parse_expr.proofs.Next.{Closed, closes}
use Rattle.cm_parse_expr.proofs.Complete.{read, path_read}
use Rattle.cm_parse_expr.proofs.Sound.{expr_sound, path_sound}
use Rattle.cm_parse_expr.proofs.Types.{type_sound, type_read}
use Rattle.file_grammar.specs.Words.{word}
use Rattle.file_grammar.specs.Simples.{value, init, inits, var_of, var, next_var, more_vars, vars_of, vars}
use Rattle.file_grammar.proofs.Far.{local_init, local_var}
use Rattle.file_grammar.proofs.Meets.{Found, Meets, Any, Not, One, Then, Ended, meets_as, meets_bind, meets_map, meets_expect, meets_optional, meets_separated}

-- spelled, and no higher than n
pub record Within {A : Type 0} (h : A → ℕ) (n : ℕ) (P : A → List Token → Type 0) (a : A) (u : List Token) : Type 0 where
  pub spelled : P a u
  pub low : h a ≤ n

-- ---- expressions, types, paths

pub meets_expr : (n : ℕ) → Meets (expr n) (Within height n SpellsExpr) Closed Closed
meets_expr n = record {
  sound = λ ts a r h.
      let f = expr_sound n ts a r h in
      record { used = f.gives.used; parts = f.gives.parts; spelled = record { spelled = f.gives.spelled; low = f.gives.low }; follows = f.closed };
  complete = λ a u r h closed. (read h.spelled).whole n r h.low closed;
}

-- neither a size nor a further name follows
pub record TypeEnds (ty : TypeExpr) (r : List Token) : Type 0 where
  pub no_size : sees (is_sign s.LeftBracket) r ≡ false
  pub no_name : sees colons r ≡ false

pub meets_type : (n : ℕ) → Meets (type_expr n) (Within type_height n SpellsType) (Not (is_sign s.LeftBracket)) TypeEnds
meets_type n = record {
  sound = λ ts a r h.
      let f = type_sound n ts a r h in
      record { used = f.used; parts = f.parts; spelled = record { spelled = f.spelled; low = f.low }; follows = f.ended };
  complete = λ a u r h ends. type_read h.spelled n r h.low ends.no_size ends.no_name;
}

pub meets_path : Meets path SpellsPath (Not colons) (Not colons)
meets_path = record {
  sound = λ ts a r h. let f = path_sound ts a r h in record { used = f.used; parts = f.parts; spelled = f.spelled; follows = f.ended };
  complete = λ a u r h ends. path_read h r ends;
}

-- ---- names

abbrev made_word : Place × List ℕ → Word
made_word w = record { place = w.0; text = w.1 }

word_found : (ts : List Token) (x : Word) (r : List Token) → word ts ≡ answer x r → Found SpellsWord Any ts x r
unfolding word
word_found ts x r h =
    let b = bind_ok (name ts) (λ w. pure (made_word w)) x r h in
    let n = name_ok ts b.0 b.1 b.2 in
    given (λ y l. Found SpellsWord Any ts y l) (made_word b.0) x b.1 r b.3 (record {
      used = n.token ∷ [];
      parts = n.parts;
      spelled = g.word (made_word b.0) n.token (record { kind = n.kind; place = sym n.place });
      follows = tt;
    })

word_there : {x : Word} {u : List Token} → SpellsWord x u → (r : List Token) → word (u ++ r) ≡ answer x r
unfolding word
word_there (g.word x t is) r = rw (named t r x.text is.kind) (ap (λ (p : Place). answer (made_word (p, x.text)) r) (sym is.place))

pub meets_word : Meets word SpellsWord Any Any
meets_word = record { sound = word_found; complete = λ a u r h any. word_there h r }

-- ---- names with their values

-- a sign, and then a part
pub record After {A : Type 0} (sign : Sign) (R : A → List Token → Type 0) (x : A) (u : List Token) : Type 0 where
  pub token : Token
  pub tokens : List Token
  pub parts : u ≡ token ∷ tokens
  pub is : IsSign sign token
  pub spelled : R x tokens

after_of : {A : Type 0} (sign : Sign) {R : A → List Token → Type 0} (x : A) (w : List Token) → Then (λ (y : Unit {0}) u. One (is_sign sign) u) (λ (y : Unit {0}). R) x w → After sign R x w
after_of sign x w h = record {
  token = h.begins.token;
  tokens = h.back;
  parts = h.parts ∙ ap (λ (l : List Token). l ++ h.back) h.begins.parts;
  is = record { kind = sign_is sign h.begins.token.kind h.begins.passes };
  spelled = h.ends;
}

of_after : {A : Type 0} (sign : Sign) {R : A → List Token → Type 0} (x : A) (w : List Token) → After sign R x w → Then (λ (y : Unit {0}) u. One (is_sign sign) u) (λ (y : Unit {0}). R) x w
of_after sign x w h = record {
  part = tt;
  front = h.token ∷ [];
  back = h.tokens;
  parts = h.parts;
  begins = record { token = h.token; parts = refl; passes = ap (is_sign sign) h.is.kind ∙ sign_same sign };
  ends = h.spelled;
}

pub meets_after : {A : Type 0} (sign : Sign) {part : Parser A} {R G N : A → List Token → Type 0} → Meets part R G N → Meets (expect (is_sign sign) >> part) (After sign R) G N
meets_after sign m = meets_as (meets_bind (meets_expect (is_sign sign)) (λ _. m) (λ x b v r h g. tt)) (after_of sign) (of_after sign) (λ a r f. f) (λ a r f. f)

pub after_seen : {A : Type 0} (sign : Sign) {R : A → List Token → Type 0} (x : A) (v r : List Token) → After sign R x v → sees (is_sign sign) (v ++ r) ≡ true
after_seen sign x v r h = ap (λ (l : List Token). sees (is_sign sign) (l ++ r)) h.parts ∙ seen (is_sign sign) h.token (h.tokens ++ r) _ h.is.kind true (sign_same sign)

pub meets_value : (n : ℕ) → Meets (value n) (After s.Assign (Within height n SpellsExpr)) Closed Closed
unfolding value
meets_value n = meets_after s.Assign (meets_expr n)

-- a tree made of a part
pub record Made {A B : Type 0} (f : A → B) (R : A → List Token → Type 0) (b : B) (u : List Token) : Type 0 where
  pub part : A
  pub same : b ≡ f part
  pub spelled : R part u

pub meets_made : {A B : Type 0} {p : Parser A} {R F N : A → List Token → Type 0} {G M : B → List Token → Type 0} (f : A → B)
    → Meets p R F N → ((a : A) (r : List Token) → F a r → G (f a) r) → ((a : A) (r : List Token) → M (f a) r → N a r) → Meets (p >>= (λ a. pure (f a))) (Made f R) G M
meets_made f m follows back = meets_map f m (λ a u h. record { part = a; same = refl; spelled = h }) (λ b u h. (h.part, h.same, h.spelled)) follows back

abbrev made_init : Word → Expr → Init
made_init w e = record { name = w; value = e }

abbrev pub InitEnds : Init → List Token → Type 0
InitEnds a r = Closed a.value r

init_made : (n : ℕ) {w : Word} (e : Expr) {u v : List Token} → SpellsWord w u → After s.Assign (Within height n SpellsExpr) e v → Within init_height n SpellsInit (made_init w e) (u ++ v)
init_made n e {v = v} (g.word w t is) h = record {
  spelled = subst (λ (l : List Token). SpellsInit (made_init w e) (t ∷ l)) (sym h.parts) (g.init w e t h.token h.tokens is h.is h.spelled.spelled);
  low = h.spelled.low;
}

init_of : (n : ℕ) (b : Init) (u : List Token) → Then SpellsWord (λ (w : Word). Made (made_init w) (After s.Assign (Within height n SpellsExpr))) b u → Within init_height n SpellsInit b u
init_of n b u h =
    let made = init_made n h.ends.part h.begins h.ends.spelled in
    subst (λ (y : Init). Within init_height n SpellsInit y u) (sym h.ends.same) (subst (Within init_height n SpellsInit (made_init h.part h.ends.part)) (sym h.parts) made)

of_init_by : (n : ℕ) {b : Init} {u : List Token} → SpellsInit b u → init_height b ≤ n → Then SpellsWord (λ (w : Word). Made (made_init w) (After s.Assign (Within height n SpellsExpr))) b u
of_init_by n (g.init w a t equals others iw is sa) low = record {
  part = w;
  front = t ∷ [];
  back = equals ∷ others;
  parts = refl;
  begins = g.word w t iw;
  ends = record { part = a; same = refl; spelled = record { token = equals; tokens = others; parts = refl; is = is; spelled = record { spelled = sa; low = low } } };
}

pub meets_init : (n : ℕ) → Meets (init n) (Within init_height n SpellsInit) InitEnds InitEnds
unfolding init
meets_init n = meets_as (meets_bind meets_word (λ w. meets_made {G = InitEnds} {M = InitEnds} (made_init w) (meets_value n) (λ a r f. f) (λ a r f. f)) (λ x b v r h g. tt))
    (init_of n) (λ b u h. of_init_by n h.spelled h.low) (λ a r f. f) (λ a r f. f)

init_commas : (x : Init) (t : Token) (r : List Token) → IsSign s.Comma t → InitEnds x (t ∷ r)
init_commas x t r is = closes s.Comma refl t r x.value is

pub meets_inits : (n : ℕ) → Meets (inits n) (Listed (Within init_height n SpellsInit)) (Not (is_sign s.Comma)) (Ended (is_sign s.Comma) InitEnds)
unfolding inits
meets_inits n = meets_separated (init n) (local_init n) (meets_init n) init_commas

abbrev made_var : Word → Option Expr → Var
made_var w e = record { name = w; value = e }

-- what follows continues neither the value nor adds one
pub record VarEnds (a : Var) (r : List Token) : Type 0 where
  pub no_value : sees (is_sign s.Assign) r ≡ false
  pub closed : (e : Expr) → Closed e r

record ValueEnds (a : Option Expr) (r : List Token) : Type 0 where
  no_value : sees (is_sign s.Assign) r ≡ false
  closed : (e : Expr) → Closed e r

abbrev VarValue : ℕ → Option Expr → List Token → Type 0
VarValue n = Optional (After s.Assign (Within height n SpellsExpr))

meets_var_of : (n : ℕ) (w : Word) → Meets (var_of n w) (Made (made_var w) (VarValue n)) Any VarEnds
unfolding var_of
meets_var_of n w = meets_made {G = Any} {M = VarEnds} (made_var w)
    (meets_optional (is_sign s.Assign) ValueEnds (meets_value n) (after_seen s.Assign) (λ r e. e.no_value) (λ x r e. e.closed x))
    (λ a r f. tt) (λ a r e. record { no_value = e.no_value; closed = e.closed })

var_made : (n : ℕ) {w : Word} {o : Option Expr} {u v : List Token} → SpellsWord w u → VarValue n o v → Within var_height n SpellsVar (made_var w o) (u ++ v)
var_made n (g.word w t is) lists.absent = record { spelled = g.bare w t is; low = omega arith }
var_made n (g.word w t is) (lists.present e v h) = record {
  spelled = subst (λ (l : List Token). SpellsVar (made_var w (Some e)) (t ∷ l)) (sym h.parts) (g.init w e t h.token h.tokens is h.is h.spelled.spelled);
  low = h.spelled.low;
}

var_as : (n : ℕ) (b : Var) (u : List Token) → Then SpellsWord (λ (w : Word). Made (made_var w) (VarValue n)) b u → Within var_height n SpellsVar b u
var_as n b u h =
    let made = var_made n h.begins h.ends.spelled in
    subst (λ (y : Var). Within var_height n SpellsVar y u) (sym h.ends.same) (subst (Within var_height n SpellsVar (made_var h.part h.ends.part)) (sym h.parts) made)

as_var : (n : ℕ) {b : Var} {u : List Token} → SpellsVar b u → var_height b ≤ n → Then SpellsWord (λ (w : Word). Made (made_var w) (VarValue n)) b u
as_var n (g.bare w t iw) low = record { part = w; front = t ∷ []; back = []; parts = refl; begins = g.word w t iw; ends = record { part = None; same = refl; spelled = lists.absent } }
as_var n (g.init w a t equals others iw is sa) low = record {
  part = w;
  front = t ∷ [];
  back = equals ∷ others;
  parts = refl;
  begins = g.word w t iw;
  ends = record { part = Some a; same = refl; spelled = lists.present a (equals ∷ others) (record { token = equals; tokens = others; parts = refl; is = is; spelled = record { spelled = sa; low = low } }) };
}

pub meets_var : (n : ℕ) → Meets (var n) (Within var_height n SpellsVar) Any VarEnds
unfolding var
meets_var n = meets_as (meets_bind meets_word (λ w. meets_var_of n w) (λ x b v r h e. tt)) (var_as n) (λ b u h. as_var n h.spelled h.low) (λ a r f. f) (λ a r e. e)

var_commas : (x : Var) (t : Token) (r : List Token) → IsSign s.Comma t → VarEnds x (t ∷ r)
unfolding same_sign
var_commas x t r is = record { no_value = seen (is_sign s.Assign) t r _ is.kind false refl; closed = λ e. closes s.Comma refl t r e is }

pub meets_same : {A : Type 0} {p q : Parser A} {R G N : A → List Token → Type 0} → ((ts : List Token) → p ts ≡ q ts) → Meets p R G N → Meets q R G N
meets_same same m = record { sound = λ ts a r h. m.sound ts a r (same ts ∙ h); complete = λ a u r h e. sym (same (u ++ r)) ∙ m.complete a u r h e }

bind_assoc : {A B C : Type 0} (o : Outcome A) (f : A → Parser B) (h : B → Parser C) → and_then (and_then o f) h ≡ and_then o (λ x. f x >>= h)
bind_assoc (Ok q) f h = refl
bind_assoc (Err e) f h = refl

vars_same : (n : ℕ) (ts : List Token) → separated (is_sign s.Comma) (var n) ts ≡ vars n ts
unfolding separated vars vars_of more_vars next_var var
vars_same n ts = bind_assoc (word ts) (var_of n) (λ v. while_sees (is_sign s.Comma) (expect (is_sign s.Comma) >> var n) (v ∷ []))

pub meets_vars : (n : ℕ) → Meets (vars n) (Listed (Within var_height n SpellsVar)) (Not (is_sign s.Comma)) (Ended (is_sign s.Comma) VarEnds)
meets_vars n = meets_same (vars_same n) (meets_separated (var n) (local_var n) (meets_var n) var_commas)
