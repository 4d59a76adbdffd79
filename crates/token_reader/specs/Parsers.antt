-- Parsers as functions on token lists. A parser answers what it read and the tokens that are left, or, where it
-- refuses, the tokens from the refused one on.
use Rattle.std.specs.Prelude.{◌≡◌, ℕ, zero, suc, Bool, true, false, not, if◌then◌else◌, List, [], ◌∷◌, length, Option, Some, None, Result, Ok, Err}
use Rattle.std.specs.Str.{bytes_eq}
use Rattle.cm_tree.specs.declared.token.Token.{Token}
use Rattle.cm_tree.specs.declared.token.TokenKind.{TokenKind}
use Rattle.cm_tree.specs.declared.token.TokenKind.TheVariants as k
use Rattle.cm_tree.specs.declared.sign.Sign.{Sign}
use Rattle.cm_tree.specs.declared.reserved.Reserved.{Reserved}
use denote.Enum.Bare.{sameb}
use Rattle.cm_tree.specs.contracts.sign.Sign as signs
use Rattle.cm_tree.specs.contracts.reserved.Reserved as words
use Rattle.token_reader.specs.declared.cursor.Stop.{Stop}
use Rattle.token_reader.specs.declared.cursor.Stop.TheVariants.{Here, NoMemory}

abbrev pub Outcome : Type 0 → Type 0
Outcome A = Result (A × List Token) (List Token)

abbrev pub Parser : Type 0 → Type 0
Parser A = List Token → Outcome A

-- ---- one after the other

abbrev pub and_then : {A B : Type 0} → Outcome A → (A → Parser B) → Outcome B
and_then (Ok p) f = f p.0 p.1
and_then (Err e) f = Err e

infixl 10 ◌>>=◌
abbrev pub ◌>>=◌ : {A B : Type 0} → Parser A → (A → Parser B) → Parser B
p >>= f = λ ts. and_then (p ts) f

infixl 10 ◌>>◌
abbrev pub ◌>>◌ : {A B : Type 0} → Parser A → Parser B → Parser B
p >> q = p >>= (λ _. q)

abbrev pub pure : {A : Type 0} → A → Parser A
pure a = λ ts. Ok (a, ts)

infixr 11 ◌<$>◌
abbrev pub ◌<$>◌ : {A B : Type 0} → (A → B) → Parser A → Parser B
f <$> p = p >>= (λ x. pure (f x))

-- ---- the next token

abbrev pub refuse : {A : Type 0} → Parser A
refuse = λ ts. Err ts

abbrev pub first : List Token → Option Token
first [] = None
first (t ∷ ts) = Some t

abbrev pub rest : List Token → List Token
rest [] = []
rest (t ∷ ts) = ts

unfoldable pub look : Parser (Option Token)
look = λ ts. Ok (first ts, ts)

unfoldable pub skip : Parser (Unit {0})
skip = λ ts. Ok (tt, rest ts)

unfoldable pub same_sign : Sign → Sign → Bool
same_sign = sameb signs.the_type

unfoldable pub same_reserved : Reserved → Reserved → Bool
same_reserved = sameb words.the_type

-- it is this sign
abbrev pub is_sign : Sign → TokenKind → Bool
is_sign s (k.Sign r) = same_sign r s
is_sign s _ = false

-- it is this reserved word
abbrev pub is_reserved : Reserved → TokenKind → Bool
is_reserved w (k.Reserved r) = same_reserved r w
is_reserved w _ = false

-- it is a name with this text
abbrev pub is_word : List ℕ → TokenKind → Bool
is_word text (k.Word name) = bytes_eq name text
is_word text _ = false

-- it is another token than this sign
abbrev pub is_other : Sign → TokenKind → Bool
is_other s kind = not (is_sign s kind)

-- it is any token
abbrev pub is_any : TokenKind → Bool
is_any kind = true

abbrev pub sees_at : (TokenKind → Bool) → Option Token → Bool
sees_at test None = false
sees_at test (Some t) = test t.kind

-- there is a next token, and it passes the test
unfoldable pub sees : (TokenKind → Bool) → List Token → Bool
sees test ts = sees_at test (first ts)

unfoldable pub see : (TokenKind → Bool) → Parser Bool
see test = λ ts. Ok (sees test ts, ts)

unfoldable pub expect : (TokenKind → Bool) → Parser (Unit {0})
expect test = λ ts. if sees test ts then Ok (tt, rest ts) else Err ts

-- ---- loops

pub data Turn (S A : Type 0) : Type 0 where
  more : S → Turn S A
  done : A → Turn S A

abbrev pub goes : {S A : Type 0} → (S → Parser A) → Turn S A → Parser A
goes loop (more s) = loop s
goes loop (done a) = pure a

unfoldable pub iterate : {S A : Type 0} → (S → Parser (Turn S A)) → ℕ → S → Parser A
iterate turn zero s = refuse
iterate turn (suc n) s = turn s >>= goes (iterate turn n)

-- turns from a state on, until one is the last
unfoldable pub repeat : {S A : Type 0} → (S → Parser (Turn S A)) → S → Parser A
repeat turn s = λ ts. iterate turn (suc (length ts)) s ts

-- ---- what a method that parses ensures: the outcome on lists, unless memory runs out

abbrev pub Reads : {A : Type 0} → Outcome A → Result A Stop → List Token → Type 0
Reads outcome (Ok a) new = outcome ≡ Ok (a, new)
Reads outcome (Err Here) new = outcome ≡ Err new
Reads outcome (Err NoMemory) new = Unit {0}
