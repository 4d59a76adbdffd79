-- Names, and lists of parts.
use Rattle.std.specs.Prelude.{ℕ, Bool, if◌then◌else◌, List, [], ◌∷◌, ◌++◌, Option, Some, None}
use Rattle.cm_tree.specs.declared.token.Token.{Token}
use Rattle.cm_tree.specs.declared.token.TokenKind.{TokenKind}
use Rattle.cm_tree.specs.declared.token.TokenKind.TheVariants as k
use Rattle.cm_base.specs.declared.place.Place.{Place}
use Rattle.token_reader.specs.Parsers.{Parser, ◌>>=◌, ◌>>◌, pure, refuse, look, skip, see, expect, Turn, more, done, repeat}

abbrev pub name_by : Place → TokenKind → Parser (Place × List ℕ)
name_by p (k.Word text) = skip >> pure (p, text)
name_by p _ = refuse

abbrev pub name_at : Option Token → Parser (Place × List ℕ)
name_at None = refuse
name_at (Some t) = name_by t.place t.kind

-- a name, with its place
unfoldable pub name : Parser (Place × List ℕ)
name = look >>= name_at

abbrev pub text_by : Place → TokenKind → Parser (Place × List ℕ)
text_by p (k.Text bytes) = skip >> pure (p, bytes)
text_by p _ = refuse

abbrev pub text_at : Option Token → Parser (Place × List ℕ)
text_at None = refuse
text_at (Some t) = text_by t.place t.kind

-- a string as it stands in the file, with its place
unfoldable pub text : Parser (Place × List ℕ)
text = look >>= text_at

-- ---- what may be missing

abbrev pub none_unless : {A : Type 0} → Parser A → Bool → Parser (Option A)
none_unless part there = if there then part >>= (λ x. pure (Some x)) else pure None

-- the part, if the next token passes the test
unfoldable pub optional : {A : Type 0} → (TokenKind → Bool) → Parser A → Parser (Option A)
optional test part = see test >>= none_unless part

-- ---- lists of parts

abbrev pub turn_if : {A : Type 0} → Parser A → List A → Bool → Parser (Turn (List A) (List A))
turn_if part found goes_on = if goes_on then part >>= (λ x. pure (more (found ++ x ∷ []))) else pure (done found)

unfoldable pub turn_while : {A : Type 0} → (TokenKind → Bool) → Parser A → List A → Parser (Turn (List A) (List A))
turn_while test part found = see test >>= turn_if part found

-- further parts, as long as the next token passes the test
unfoldable pub while_sees : {A : Type 0} → (TokenKind → Bool) → Parser A → List A → Parser (List A)
while_sees test part = repeat (turn_while test part)

-- one part or more, with a token that passes the test between any two
unfoldable pub separated : {A : Type 0} → (TokenKind → Bool) → Parser A → Parser (List A)
separated test part = part >>= (λ x. while_sees test (expect test >> part) (x ∷ []))
