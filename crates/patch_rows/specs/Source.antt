-- The tokens and the declarations of a text, computed by the functions that the lexer and the parser are proved to follow.
use Rattle.std.specs.Prelude.{ℕ, zero, suc, ◌+◌, List, [], ◌∷◌, length, take, drop, fold, Option, Some, None, option_map, Ok}
use Rattle.cm_base.specs.declared.place.Place.{Place}
use Rattle.cm_tree.specs.declared.token.Token.{Token as Lexeme}
use Rattle.cm_tree.specs.declared.decl.Decl.{Decl}
use Rattle.cm_tree.specs.Pieces as pieces
use Rattle.cm_tree.specs.Pieces.{Text, Piece, Gap, Token, Fault}
use Rattle.cm_lexer.specs.Moving.{moved}
use Rattle.cm_lexer.specs.Scan as scan
use Rattle.cm_parse_expr.specs.Reading as expr
use Rattle.token_reader.specs.Parsers as parsers
use Rattle.token_reader.specs.Lists as lists
use Rattle.file_grammar.specs.Words as words
use Rattle.file_grammar.specs.Simples as simples
use Rattle.file_grammar.specs.Stmts as stmts
use Rattle.file_grammar.specs.Members as members
use Rattle.file_grammar.specs.Files as files
use Rattle.cm_tree.specs.Heights as heights
use Rattle.cm_tree.specs.Lists.{highest}
use Rattle.token_reader.specs.Parsers.{Outcome}

-- the tokens of a text that begins at a place, where so many bytes of the file are before it
abbrev pub Cut : Type 0
Cut = ℕ → Place → Text → Option (List Lexeme)

abbrev pub with_piece : Cut → ℕ → Place → Text → Piece → ℕ → Option (List Lexeme)
with_piece go offset at text Gap len = go (offset + len) (fold moved at (take len text)) (drop len text)
with_piece go offset at text (Token kind) len =
    option_map (λ (others : List Lexeme). record { kind = kind; start = offset; end = offset + len; place = at } ∷ others)
    (go (offset + len) (fold moved at (take len text)) (drop len text))
with_piece go offset at text (Fault cause place) len = None

abbrev pub with_found : Cut → ℕ → Place → Text → scan.Found → Option (List Lexeme)
with_found go offset at text found = with_piece go offset at text found.piece found.len

-- of fewer pieces than this
unfoldable pub cut : ℕ → Cut
cut zero offset at text = None
cut (suc most) offset at [] = Some []
cut (suc most) offset at (byte ∷ text) = with_found (cut most) offset at (byte ∷ text) (scan.scan (byte ∷ text))

unfoldable pub tokens_in : Text → Option (List Lexeme)
unfolding cut scan.scan_sign scan.close_len scan.scan_slash scan.scan_word scan.literal_piece scan.word_literal scan.tail_len scan.scan_number scan.item_len scan.body_len scan.scan_quoted scan.scan pieces.reserved_words pieces.refused_words pieces.prefixes pieces.suffixes pieces.signs
tokens_in text = cut (suc (length text)) 0 (record { file = 1; line = 1; column = 1 }) text

abbrev pub whole : Outcome (List Decl) → Option (List Decl)
whole (Ok (all, [])) = Some all
whole _ = None

abbrev pub parsed : Option (List Lexeme) → Option (List Decl)
parsed None = None
parsed (Some tokens) = whole (files.decls 256 tokens)

-- the declarations of a text; none where it is no file
unfoldable pub decls_in : Text → Option (List Decl)
unfolding tokens_in highest expr.operator expr.see_operator expr.further_name expr.path expr.bracketed expr.sizes expr.args expr.limit expr.base expr.sized_base expr.construct expr.named expr.paren expr.atom expr.field expr.index expr.step expr.steps expr.post expr.operand expr.turn expr.climb expr.operation expr.choice expr.tail expr.type_one expr.base_arg expr.arg_one expr.binary expr.type_expr expr.arg parsers.look parsers.skip parsers.same_sign parsers.same_reserved parsers.sees parsers.see parsers.expect parsers.iterate parsers.repeat lists.name lists.text lists.optional lists.turn_while lists.while_sees lists.separated words.here words.word words.bracket words.condition words.typed words.in_parentheses simples.value simples.init simples.inits simples.var_of simples.var simples.next_var simples.more_vars simples.vars_of simples.vars simples.step_of simples.target_of simples.target simples.after_indices simples.called simples.begun_by_name simples.change_target simples.before simples.simple_stmt simples.typed_local simples.let_local simples.var_local stmts.assertion stmts.semicolon stmts.value_up_to stmts.named_stmt stmts.based_stmt stmts.third stmts.for_parts stmts.for_type stmts.for_base stmts.for_name stmts.for_step stmts.for_let stmts.for_var stmts.for_stmt stmts.stmts stmts.block stmts.if_stmt stmts.loop_stmt stmts.while_stmt stmts.return_stmt stmts.advance_stmt stmts.let_stmt stmts.var_stmt stmts.step_stmt stmts.assert_stmt stmts.one stmts.stmt stmts.body members.in_braces members.group members.key_value members.one_key members.keys members.end_name members.end_names members.one_end members.ends members.fields members.structure members.alias members.constants members.asserted members.function_of members.void_function members.args members.index members.factor members.one_node members.nodes members.dotted members.point members.delay members.link_of members.link members.connection members.handler members.variables members.latency members.typed_member members.processor_member members.graph_member files.one_param files.params files.below files.unit_of files.processor files.graph files.typed_function files.namespace_of files.one files.decl files.decls heights.height heights.sized
decls_in text = parsed (tokens_in text)
