-- The first token of an expression.
use Rattle.std.proofs.Common.{◌≡◌, Bool, true, false, List, [], ◌∷◌, ◌++◌, refl, ap, sym, ◌∙◌}
use Rattle.cm_tree.specs.declared.token.Token.{Token}
use Rattle.cm_tree.specs.declared.token.TokenKind.{TokenKind}
use Rattle.cm_tree.specs.declared.token.TokenKind.TheVariants as k
use Rattle.cm_tree.specs.declared.sign.Sign.{Sign}
use Rattle.cm_tree.specs.declared.sign.Sign.TheVariants as s
use Rattle.cm_tree.specs.declared.reserved.Reserved.TheVariants as w
use Rattle.cm_tree.specs.declared.operator.Unary.{Unary}
use Rattle.cm_tree.specs.declared.operator.Unary.TheVariants as un
use Rattle.cm_tree.specs.declared.expr.Expr.{Expr}
use Rattle.cm_tree.specs.declared.expr.Base.{Base}
use Rattle.cm_tree.specs.declared.type_expr.TypeExpr.{TypeExpr}
use Rattle.cm_tree.specs.declared.path.Path.{Path}
use Rattle.cm_tree.specs.Levels.{unary_sign}
use Rattle.cm_tree.specs.Spelling.{IsSign, SpellsPath, SpellsExpr, SpellsBase, SpellsType}
use Rattle.cm_tree.specs.Spelling as e
use Rattle.token_reader.specs.Parsers.{sees, is_sign, is_other}
use Rattle.token_reader.proofs.Inverses.{sign_is}
use Rattle.file_grammar.specs.Members.{is_text}
use Rattle.file_grammar.proofs.Targets.{head_same}

-- what an expression may begin with
abbrev pub begins_expr : TokenKind → Bool
begins_expr (k.Number v x) = true
begins_expr (k.Word text) = true
begins_expr (k.Reserved w.True) = true
begins_expr (k.Reserved w.False) = true
begins_expr (k.Reserved w.Bool) = true
begins_expr (k.Reserved w.Int) = true
begins_expr (k.Reserved w.Int32) = true
begins_expr (k.Reserved w.Int64) = true
begins_expr (k.Reserved w.Wrap) = true
begins_expr (k.Reserved w.Clamp) = true
begins_expr (k.Sign s.LeftParenthesis) = true
begins_expr (k.Sign s.Minus) = true
begins_expr (k.Sign s.Exclamation) = true
begins_expr (k.Sign s.Tilde) = true
begins_expr _ = false

pub record First (test : TokenKind → Bool) (u : List Token) : Type 0 where
  pub token : Token
  pub tokens : List Token
  pub parts : u ≡ token ∷ tokens
  pub begins : test token.kind ≡ true

pub first_is : (test : TokenKind → Bool) (t : Token) (ts : List Token) (kind : TokenKind) → t.kind ≡ kind → test kind ≡ true → First test (t ∷ ts)
first_is test t ts kind is holds = record { token = t; tokens = ts; parts = refl; begins = ap test is ∙ holds }

pub first_append : {test : TokenKind → Bool} {u : List Token} → First test u → (v : List Token) → First test (u ++ v)
first_append f v = record { token = f.token; tokens = f.tokens ++ v; parts = ap (λ (l : List Token). l ++ v) f.parts; begins = f.begins }

pub path_first : {q : Path} {u : List Token} → SpellsPath q u → First begins_expr u
path_first (e.path t n ns others is spelled) = first_is begins_expr t others _ is refl

pub base_first : {b : Base} {u : List Token} → SpellsBase b u → First begins_expr u
base_first (e.bool t is) = first_is begins_expr t _ _ is.kind refl
base_first (e.int t is) = first_is begins_expr t _ _ is.kind refl
base_first (e.int32 t is) = first_is begins_expr t _ _ is.kind refl
base_first (e.int64 t is) = first_is begins_expr t _ _ is.kind refl
base_first (e.wrap a t o c inner is io le sa ic) = first_is begins_expr t _ _ is.kind refl
base_first (e.clamp a t o c inner is io le sa ic) = first_is begins_expr t _ _ is.kind refl

pub type_first : {ty : TypeExpr} {u : List Token} → SpellsType ty u → First begins_expr u
type_first (e.base b sizes front others sb ss) = first_append (base_first sb) others
type_first (e.named q sizes front others sq ss) = first_append (path_first sq) others

unary_begins : (x : Unary) → begins_expr (k.Sign (unary_sign x)) ≡ true
unary_begins un.Minus = refl
unary_begins un.Not = refl
unary_begins un.Complement = refl

pub expr_first : {a : Expr} {u : List Token} → SpellsExpr a u → First begins_expr u
expr_first (e.number t v x is) = first_is begins_expr t [] _ is refl
expr_first (e.yes t is) = first_is begins_expr t [] _ is.kind refl
expr_first (e.no t is) = first_is begins_expr t [] _ is.kind refl
expr_first (e.name q tokens sq) = path_first sq
expr_first (e.call q xs o c front inner sq io sa ic) = first_append (path_first sq) (o ∷ (inner ++ c ∷ []))
expr_first (e.construct b sizes xs o c front middle inner sb ss io sa ic) = first_append (base_first sb) (middle ++ o ∷ (inner ++ c ∷ []))
expr_first (e.paren a o c inner io sa ic) = first_is begins_expr o _ _ io.kind refl
expr_first (e.field a x dot t left le sa id it) = first_append (expr_first sa) (dot ∷ t ∷ [])
expr_first (e.index a i o c left inner le sa io si ic) = first_append (expr_first sa) (o ∷ (inner ++ c ∷ []))
expr_first (e.unary x a t inner is le sa) = first_is begins_expr t inner _ is.kind (unary_begins x)
expr_first (e.binary x a b t left right lea sa is leb sb) = first_append (expr_first sa) (t ∷ right)
expr_first (e.choice c a b t v test left right le sc it sa iv sb) = first_append (expr_first sc) (t ∷ (left ++ v ∷ right))

-- a sign with which no expression begins
sign_apart_by : (x : Sign) (kind : TokenKind) (b : Bool) → is_sign x kind ≡ b → begins_expr (k.Sign x) ≡ false → begins_expr kind ≡ true → b ≡ false
sign_apart_by x kind true is fails begins = absurd (let same = sign_is x kind is in let both : begins_expr (k.Sign x) ≡ true = ap begins_expr (sym same) ∙ begins in cc)
sign_apart_by x kind false is fails begins = refl

sign_apart : (x : Sign) (kind : TokenKind) → begins_expr (k.Sign x) ≡ false → begins_expr kind ≡ true → is_sign x kind ≡ false
sign_apart x kind fails begins = let b = sign_apart_by x kind (is_sign x kind) refl fails begins in b

pub no_sign_first : (x : Sign) → begins_expr (k.Sign x) ≡ false → {u : List Token} → First begins_expr u → (r : List Token) → sees (is_sign x) (u ++ r) ≡ false
unfolding sees
no_sign_first x fails f r = ap (λ (l : List Token). sees (is_sign x) (l ++ r)) f.parts ∙ sign_apart x f.token.kind fails f.begins

pub sees_first : {test : TokenKind → Bool} {u : List Token} → First test u → (r : List Token) → sees test (u ++ r) ≡ true
unfolding sees
sees_first {test} f r = ap (λ (l : List Token). sees test (l ++ r)) f.parts ∙ f.begins

-- no expression begins with a string
no_text : (kind : TokenKind) → begins_expr kind ≡ true → is_text kind ≡ false
no_text (k.Text b) begins = absurd cc
no_text (k.Word text) begins = refl
no_text (k.Number v x) begins = refl
no_text (k.Reserved r) begins = refl
no_text (k.Sign x) begins = refl

pub no_text_first : {u : List Token} → First begins_expr u → (r : List Token) → sees is_text (u ++ r) ≡ false
unfolding sees
no_text_first f r = ap (λ (l : List Token). sees is_text (l ++ r)) f.parts ∙ no_text f.token.kind f.begins

-- a type begins with another token than `}`
path_other : {q : Path} {u : List Token} → SpellsPath q u → First (is_other s.RightBrace) u
path_other (e.path t n ns others is spelled) = first_is (is_other s.RightBrace) t others _ is refl

base_other : {b : Base} {u : List Token} → SpellsBase b u → First (is_other s.RightBrace) u
base_other (e.bool t is) = first_is (is_other s.RightBrace) t _ _ is.kind refl
base_other (e.int t is) = first_is (is_other s.RightBrace) t _ _ is.kind refl
base_other (e.int32 t is) = first_is (is_other s.RightBrace) t _ _ is.kind refl
base_other (e.int64 t is) = first_is (is_other s.RightBrace) t _ _ is.kind refl
base_other (e.wrap a t o c inner is io le sa ic) = first_is (is_other s.RightBrace) t _ _ is.kind refl
base_other (e.clamp a t o c inner is io le sa ic) = first_is (is_other s.RightBrace) t _ _ is.kind refl

pub type_other : {ty : TypeExpr} {u : List Token} → SpellsType ty u → First (is_other s.RightBrace) u
type_other (e.base b sizes front others sb ss) = first_append (base_other sb) others
type_other (e.named q sizes front others sq ss) = first_append (path_other sq) others

-- what a type may begin with
abbrev pub begins_type : TokenKind → Bool
begins_type (k.Word text) = true
begins_type (k.Reserved w.Bool) = true
begins_type (k.Reserved w.Int) = true
begins_type (k.Reserved w.Int32) = true
begins_type (k.Reserved w.Int64) = true
begins_type (k.Reserved w.Wrap) = true
begins_type (k.Reserved w.Clamp) = true
begins_type _ = false

path_begins : {q : Path} {u : List Token} → SpellsPath q u → First begins_type u
path_begins (e.path t n ns others is spelled) = first_is begins_type t others _ is refl

base_begins : {b : Base} {u : List Token} → SpellsBase b u → First begins_type u
base_begins (e.bool t is) = first_is begins_type t _ _ is.kind refl
base_begins (e.int t is) = first_is begins_type t _ _ is.kind refl
base_begins (e.int32 t is) = first_is begins_type t _ _ is.kind refl
base_begins (e.int64 t is) = first_is begins_type t _ _ is.kind refl
base_begins (e.wrap a t o c inner is io le sa ic) = first_is begins_type t _ _ is.kind refl
base_begins (e.clamp a t o c inner is io le sa ic) = first_is begins_type t _ _ is.kind refl

pub type_begins : {ty : TypeExpr} {u : List Token} → SpellsType ty u → First begins_type u
type_begins (e.base b sizes front others sb ss) = first_append (base_begins sb) others
type_begins (e.named q sizes front others sq ss) = first_append (path_begins sq) others

-- the test holds of the first token that is known
pub begins_at : {test : TokenKind → Bool} (t : Token) (ts : List Token) → First test (t ∷ ts) → test t.kind ≡ true
begins_at {test} t ts f = ap (λ (x : Token). test x.kind) (head_same t f.token ts f.tokens f.parts) ∙ f.begins
