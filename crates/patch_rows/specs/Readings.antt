-- What the tokens and the declarations of a text are: docs/LANGUAGE.md, "Tokens" and "Grammar".
use Rattle.std.specs.Prelude.{◌≡◌, List, Some}
use Rattle.std.specs.Str.{IsUtf8}
use Rattle.cm_tree.specs.declared.token.Token.{Token}
use Rattle.cm_tree.specs.declared.decl.Decl.{Decl}
use Rattle.cm_tree.specs.Pieces.{Text}
use Rattle.cm_tree.specs.Tokens.{IsTokens, place_after}
use Rattle.cm_tree.specs.Faults.{IsFile}
use Rattle.patch_rows.specs.Source.{tokens_in, decls_in}

-- what is computed are the tokens of the file, if it is UTF-8
abbrev pub TokensAreRead : Type 0
TokensAreRead = (text : Text) (tokens : List Token) → IsUtf8 text → tokens_in text ≡ Some tokens → IsTokens 1 text (record { list = tokens; last = place_after 1 text })

-- what is computed is the file that these tokens spell
abbrev pub FileIsRead : Type 0
FileIsRead = (text : Text) (all : List Decl) → decls_in text ≡ Some all → (tokens : List Token) × (tokens_in text ≡ Some tokens) × IsFile 256 tokens (record { decls = all })
