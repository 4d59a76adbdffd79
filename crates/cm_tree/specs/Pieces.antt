-- The pieces that the text of a file is cut into: gaps, tokens, and faulty pieces, at which the file is refused. Each is a relation
-- on the bytes of the piece alone. docs/LANGUAGE.md, "Tokens".
use Rattle.std.specs.Prelude.{ℕ, ◌≡◌, ◌+◌, ◌^◌, ◌<◌, ◌≤◌, ◌==◌, ◌||◌, ◌⊎◌, Bool, true, false, IsTrue, IsFalse, if◌then◌else◌, nat_le, List, [], ◌∷◌, ◌++◌, length, Option, Some, None, pos, codes}
use Rattle.std.specs.Char.{is_ascii_alphabetic, is_ascii_digit}
use Rattle.std.specs.Int.{w32, w64}
use Rattle.std.specs.List.{AllByRecursion}
use Rattle.std.specs.Str.{bytes_eq}
use Rattle.std.specs.Str.Parse.{IsNumeral, digits_value}
use Rattle.cm_base.specs.declared.cause.Cause.{Cause}
use Rattle.cm_base.specs.declared.cause.Cause.TheVariants.{BadByte, OpenComment, OpenString, BadEscape, BadLiteral, LiteralSize, Float, OutOfProfile}
use Rattle.cm_number.specs.Conversion.{to_signed}
use Rattle.cm_tree.specs.declared.reserved.Reserved.{Reserved}
use Rattle.cm_tree.specs.declared.reserved.Reserved.TheVariants as reserved
use Rattle.cm_tree.specs.declared.sign.Sign.{Sign}
use Rattle.cm_tree.specs.declared.sign.Sign.TheVariants as sign
use Rattle.cm_tree.specs.declared.token.TokenKind.{TokenKind}
use Rattle.cm_tree.specs.declared.token.TokenKind.TheVariants as kind

-- the bytes of a file, or some of them
abbrev pub Text : Type 0
Text = List ℕ

-- each byte passes the test
abbrev pub Passes : (ℕ → Bool) → Text → Type 0
Passes test text = AllByRecursion (λ byte. IsTrue (test byte)) text

-- what stands beside this text in a table
abbrev pub entry : {A : Type 0} → List (Text × A) → Text → Option A
entry [] text = None
entry (e ∷ es) text = if bytes_eq e.0 text then Some e.1 else entry es text

-- ---- bytes

-- space, tab, line feed and carriage return
abbrev pub is_space : ℕ → Bool
is_space byte = byte == 32 || byte == 9 || byte == 10 || byte == 13

-- an ASCII letter or `_`
abbrev pub is_letter : ℕ → Bool
is_letter byte = is_ascii_alphabetic byte || byte == 95

-- a letter, a digit or `_`
abbrev pub is_word_byte : ℕ → Bool
is_word_byte byte = is_letter byte || is_ascii_digit byte

-- any byte but a line feed
abbrev pub is_in_line : ℕ → Bool
is_in_line byte = if byte == 10 then false else true

-- ---- gaps

-- `*/` stands in the text
pub record Closes (text : Text) : Type 0 where
  pub before : Text
  pub after : Text
  pub is : text ≡ before ++ (42 ∷ 47 ∷ after)

-- what separates tokens
pub data IsGap : Text → Type 0 where
  -- a space
  space : (byte : ℕ) → IsTrue (is_space byte) → IsGap (byte ∷ [])
  -- `//` and bytes of the line
  line_comment : (body : Text) → Passes is_in_line body → IsGap (47 ∷ 47 ∷ body)
  -- `/*` and the bytes up to the next `*/`, with it
  block_comment : (body : Text) → ¬ Closes (body ++ (42 ∷ [])) → IsGap (47 ∷ 42 ∷ (body ++ (42 ∷ 47 ∷ [])))

-- ---- words

-- a letter or `_`, and then letters, digits and `_`
abbrev pub IsWord : Text → Type 0
IsWord [] = ⊥
IsWord (byte ∷ bytes) = IsTrue (is_letter byte) × Passes is_word_byte bytes

-- the reserved words
unfoldable pub reserved_words : List (Text × Reserved)
reserved_words =
    (codes "namespace", reserved.Namespace) ∷ (codes "processor", reserved.Processor) ∷ (codes "graph", reserved.Graph) ∷ (codes "struct", reserved.Struct)
    ∷ (codes "using", reserved.Using) ∷ (codes "let", reserved.Let) ∷ (codes "var", reserved.Var) ∷ (codes "input", reserved.Input)
    ∷ (codes "output", reserved.Output) ∷ (codes "event", reserved.Event) ∷ (codes "node", reserved.Node) ∷ (codes "connection", reserved.Connection)
    ∷ (codes "if", reserved.If) ∷ (codes "else", reserved.Else) ∷ (codes "loop", reserved.Loop) ∷ (codes "while", reserved.While)
    ∷ (codes "for", reserved.For) ∷ (codes "break", reserved.Break) ∷ (codes "continue", reserved.Continue) ∷ (codes "return", reserved.Return)
    ∷ (codes "advance", reserved.Advance) ∷ (codes "void", reserved.Void) ∷ (codes "bool", reserved.Bool) ∷ (codes "int", reserved.Int)
    ∷ (codes "int32", reserved.Int32) ∷ (codes "int64", reserved.Int64) ∷ (codes "wrap", reserved.Wrap) ∷ (codes "clamp", reserved.Clamp)
    ∷ (codes "true", reserved.True) ∷ (codes "false", reserved.False) ∷ (codes "static_assert", reserved.StaticAssert) ∷ []

-- words of Cmajor that this language leaves out, each with the cause of its refusal
unfoldable pub refused_words : List (Text × Cause)
refused_words =
    (codes "float", Float) ∷ (codes "float32", Float) ∷ (codes "float64", Float)
    ∷ (codes "complex", Float) ∷ (codes "complex32", Float) ∷ (codes "complex64", Float)
    ∷ (codes "string", OutOfProfile) ∷ (codes "enum", OutOfProfile) ∷ (codes "external", OutOfProfile)
    ∷ (codes "const", OutOfProfile) ∷ (codes "import", OutOfProfile) ∷ []

-- a word that is neither reserved nor refused
pub record IsName (text : Text) : Type 0 where
  pub word : IsWord text
  pub free : entry reserved_words text ≡ None
  pub allowed : entry refused_words text ≡ None

-- ---- numbers

-- what may stand before the digits of a number, with the radix
unfoldable pub prefixes : List (Text × ℕ)
prefixes = ([], 10) ∷ (codes "0x", 16) ∷ (codes "0b", 2) ∷ []

-- what a suffix says of the type of a number: nothing, `int32` or `int64`
pub data Suffix : Type 0 where
  Unmarked : Suffix
  Narrow : Suffix
  Wide : Suffix

-- what may stand after the digits
unfoldable pub suffixes : List (Text × Suffix)
suffixes =
    ([], Unmarked) ∷ (codes "L", Wide) ∷ (codes "_L", Wide) ∷ (codes "i64", Wide) ∷ (codes "_i64", Wide)
    ∷ (codes "i32", Narrow) ∷ (codes "_i32", Narrow) ∷ []

-- what is written in a number
pub record Literal : Type 0 where
  pub radix : ℕ
  pub value : ℕ
  pub suffix : Suffix

-- a prefix, digits and a suffix
pub record IsLiteral (literal : Literal) (text : Text) : Type 0 where
  pub before : Text
  pub digits : Text
  pub after : Text
  pub is : text ≡ before ++ (digits ++ after)
  pub marked : entry prefixes before ≡ Some literal.radix
  pub numeral : IsNumeral literal.radix digits
  pub value : literal.value ≡ digits_value literal.radix digits
  pub ends : entry suffixes after ≡ Some literal.suffix

-- the values are below this: 2 ^ 32 for `int32`, and else 2 ^ 64, but decimal digits write 2 ^ 63 at most
abbrev pub limit : ℕ → Suffix → ℕ
limit radix Narrow = 2 ^ 32
limit radix Wide = if radix == 10 then 2 ^ 63 + 1 else 2 ^ 64
limit radix Unmarked = if radix == 10 then 2 ^ 63 + 1 else 2 ^ 64

-- Whether the type is `int64`. Without a suffix it is `int32` where the value is below 2 ^ 31 for decimal digits and below 2 ^ 32 for others.
abbrev pub is_wide : ℕ → ℕ → Suffix → Bool
is_wide radix value Narrow = false
is_wide radix value Wide = true
is_wide radix value Unmarked = nat_le (if radix == 10 then 2 ^ 31 else 2 ^ 32) value

-- the number of 32 or 64 bits, by two's complement
abbrev pub number : Bool → ℕ → TokenKind
number wide value = kind.Number (to_signed (if wide then w64 else w32) (pos value)) wide

abbrev pub number_of : Literal → TokenKind
number_of literal = number (is_wide literal.radix literal.value literal.suffix) literal.value

-- what after decimal digits makes a floating-point number: `.` and a digit, `e` or `E` with an optional sign and a digit, `f`, or `_f`
pub data IsFloatTail : Text → Type 0 where
  point : (digit : ℕ) → IsTrue (is_ascii_digit digit) → IsFloatTail (46 ∷ digit ∷ [])
  exponent : (e digit : ℕ) → (e ≡ 101) ⊎ (e ≡ 69) → IsTrue (is_ascii_digit digit) → IsFloatTail (e ∷ digit ∷ [])
  signed_exponent : (e sign digit : ℕ) → (e ≡ 101) ⊎ (e ≡ 69) → (sign ≡ 43) ⊎ (sign ≡ 45) → IsTrue (is_ascii_digit digit) → IsFloatTail (e ∷ sign ∷ digit ∷ [])
  letter : IsFloatTail (102 ∷ [])
  spaced_letter : IsFloatTail (95 ∷ 102 ∷ [])

-- decimal digits, such a tail, and then letters, digits and `_`
pub record IsFloat (text : Text) : Type 0 where
  pub digits : Text
  pub tail : Text
  pub after : Text
  pub is : text ≡ digits ++ (tail ++ after)
  pub numeral : IsNumeral 10 digits
  pub floats : IsFloatTail tail
  pub word : Passes is_word_byte after

-- a digit, and then letters, digits and `_`
abbrev pub BeginsWithDigit : Text → Type 0
BeginsWithDigit [] = ⊥
BeginsWithDigit (byte ∷ bytes) = IsTrue (is_ascii_digit byte) × Passes is_word_byte bytes

-- such a text that is neither a number nor a floating-point number
pub record IsBadLiteral (text : Text) : Type 0 where
  pub begins : BeginsWithDigit text
  pub no_float : ¬ IsFloat text
  pub no_literal : (literal : Literal) → ¬ IsLiteral literal text

-- ---- strings

-- a byte that stands in a string for itself: none of `"`, `\` and line feed
abbrev pub is_plain : ℕ → Bool
is_plain byte = if byte == 34 || byte == 92 || byte == 10 then false else true

-- a byte that stands in a string behind `\`: `"`, `\`, `n` or `t`
abbrev pub is_escape : ℕ → Bool
is_escape byte = byte == 34 || byte == 92 || byte == 110 || byte == 116

-- what stands between the quotes of a string
pub data IsQuoted : Text → Type 0 where
  empty : IsQuoted []
  plain : (byte : ℕ) → (text : Text) → IsTrue (is_plain byte) → IsQuoted text → IsQuoted (byte ∷ text)
  escape : (byte : ℕ) → (text : Text) → IsTrue (is_escape byte) → IsQuoted text → IsQuoted (92 ∷ byte ∷ text)

-- ---- signs

unfoldable pub signs : List (Text × Sign)
signs =
    (codes ">>>=", sign.ShiftRightZeroAssign)
    ∷ (codes "<<=", sign.ShiftLeftAssign) ∷ (codes ">>=", sign.ShiftRightAssign) ∷ (codes ">>>", sign.ShiftRightZero)
    ∷ (codes "::", sign.DoubleColon) ∷ (codes "->", sign.Arrow) ∷ (codes "<-", sign.LeftArrow)
    ∷ (codes "+=", sign.PlusAssign) ∷ (codes "-=", sign.MinusAssign) ∷ (codes "*=", sign.StarAssign) ∷ (codes "/=", sign.SlashAssign)
    ∷ (codes "%=", sign.PercentAssign) ∷ (codes "&=", sign.AmpersandAssign) ∷ (codes "|=", sign.BarAssign) ∷ (codes "^=", sign.CaretAssign)
    ∷ (codes "==", sign.Equal) ∷ (codes "!=", sign.NotEqual) ∷ (codes "<=", sign.LessEqual) ∷ (codes ">=", sign.GreaterEqual)
    ∷ (codes "<<", sign.ShiftLeft) ∷ (codes ">>", sign.ShiftRight) ∷ (codes "&&", sign.And) ∷ (codes "||", sign.Or)
    ∷ (codes "++", sign.PlusPlus) ∷ (codes "--", sign.MinusMinus)
    ∷ (codes "{", sign.LeftBrace) ∷ (codes "}", sign.RightBrace) ∷ (codes "(", sign.LeftParenthesis) ∷ (codes ")", sign.RightParenthesis)
    ∷ (codes "[", sign.LeftBracket) ∷ (codes "]", sign.RightBracket) ∷ (codes ",", sign.Comma) ∷ (codes ";", sign.Semicolon)
    ∷ (codes ":", sign.Colon) ∷ (codes ".", sign.Dot) ∷ (codes "?", sign.Question)
    ∷ (codes "+", sign.Plus) ∷ (codes "-", sign.Minus) ∷ (codes "*", sign.Star) ∷ (codes "/", sign.Slash) ∷ (codes "%", sign.Percent)
    ∷ (codes "&", sign.Ampersand) ∷ (codes "|", sign.Bar) ∷ (codes "^", sign.Caret) ∷ (codes "~", sign.Tilde) ∷ (codes "!", sign.Exclamation)
    ∷ (codes "=", sign.Assign) ∷ (codes "<", sign.Less) ∷ (codes ">", sign.Greater) ∷ []

-- ---- tokens

pub data IsToken : TokenKind → Text → Type 0 where
  name : (text : Text) → IsName text → IsToken (kind.Word text) text
  reserved_word : (text : Text) → (word : Reserved) → entry reserved_words text ≡ Some word → IsToken (kind.Reserved word) text
  number_literal : (text : Text) → (literal : Literal) → IsLiteral literal text → literal.value < limit literal.radix literal.suffix → IsToken (number_of literal) text
  -- a string keeps its quotes and escapes
  quoted : (body : Text) → IsQuoted body → IsToken (kind.Text (34 ∷ (body ++ (34 ∷ [])))) (34 ∷ (body ++ (34 ∷ [])))
  sign_token : (text : Text) → (sign : Sign) → entry signs text ≡ Some sign → IsToken (kind.Sign sign) text

-- ---- faults

-- A piece at which the file is refused: the cause, and how many of its bytes stand before the place.
pub data IsFaulty : Cause → ℕ → Text → Type 0 where
  -- a byte with which no gap and no token begins
  bad_byte : (byte : ℕ) → IsFalse (is_space byte) → ((kind : TokenKind) → (more : Text) → ¬ IsToken kind (byte ∷ more)) → IsFaulty BadByte 0 (byte ∷ [])
  -- a comment that isn't closed
  open_comment : (body : Text) → ¬ Closes body → IsFaulty OpenComment 0 (47 ∷ 42 ∷ body)
  -- a string as far as it goes
  open_string : (body : Text) → IsQuoted body → IsFaulty OpenString 0 (34 ∷ body)
  -- the place is that of the `\`
  bad_escape : (body : Text) → IsQuoted body → IsFaulty BadEscape (length body + 1) (34 ∷ (body ++ (92 ∷ [])))
  bad_literal : (text : Text) → IsBadLiteral text → IsFaulty BadLiteral 0 text
  large_literal : (text : Text) → (literal : Literal) → IsLiteral literal text → limit literal.radix literal.suffix ≤ literal.value → IsFaulty LiteralSize 0 text
  float : (text : Text) → IsFloat text → IsFaulty Float 0 text
  refused_word : (text : Text) → (cause : Cause) → entry refused_words text ≡ Some cause → IsFaulty cause 0 text

-- ---- pieces

pub data Piece : Type 0 where
  Gap : Piece
  Token : (kind : TokenKind) → Piece
  Fault : (cause : Cause) → (at : ℕ) → Piece

-- the text is such a piece
abbrev pub IsPiece : Piece → Text → Type 0
IsPiece Gap text = IsGap text
IsPiece (Token kind) text = IsToken kind text
IsPiece (Fault cause at) text = IsFaulty cause at text

-- At the front of `front ++ rest` stands this piece, which has the bytes of the front, and no longer front is a piece.
pub record IsLongest (piece : Piece) (front rest : Text) : Type 0 where
  pub is : IsPiece piece front
  pub longest : (other : Piece) → (more left : Text) → front ++ rest ≡ more ++ left → IsPiece other more → length more ≤ length front
