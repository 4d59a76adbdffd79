-- What the private functions of the crate find in trees. `Form` says what is looked for.
use Rattle.std.specs.Prelude.{◌&&◌, Bool, true, false, not, if◌then◌else◌, List, [], ◌∷◌, Option, Some, None, codes}
use Rattle.std.specs.Option.{option_map, option_and_then}
use Rattle.std.specs.Str.{bytes_eq}
use Rattle.cm_base.specs.declared.host.Flow.{Flow}
use Rattle.cm_base.specs.declared.host.Flow.TheVariants.{Input, Output}
use Rattle.cm_base.specs.declared.host.Kind.{Kind}
use Rattle.cm_base.specs.declared.host.Kind.TheVariants.{Stream, Value, Event}
use Rattle.cm_tree.specs.declared.expr.Expr.{Expr}
use Rattle.cm_tree.specs.declared.expr.Expr.TheVariants as e
use Rattle.cm_tree.specs.declared.expr.Base.{Base}
use Rattle.cm_tree.specs.declared.expr.Base.TheVariants as b
use Rattle.cm_tree.specs.declared.type_expr.TypeExpr.{TypeExpr}
use Rattle.cm_tree.specs.declared.type_expr.TypeExpr.TheVariants as y
use Rattle.cm_tree.specs.declared.stmt.Stmt.{Stmt, Stmt-F, out-Stmt}
use Rattle.cm_tree.specs.declared.stmt.Stmt.TheOpen as o
use Rattle.cm_tree.specs.declared.stmt.Stmt.TheVariants as x
use Rattle.cm_tree.specs.declared.shared.Function.{Function}
use Rattle.cm_tree.specs.declared.member.Key.{Key}
use Rattle.cm_tree.specs.declared.member.EndName.{EndName}
use Rattle.cm_tree.specs.declared.member.End.{End}
use Rattle.cm_tree.specs.declared.member.Member.{Member}
use Rattle.cm_tree.specs.declared.member.Member.TheVariants as m
use Rattle.cm_tree.specs.declared.decl.UnitDecl.{UnitDecl}
use Rattle.cm_tree.specs.declared.decl.Decl.{Decl}
use Rattle.cm_tree.specs.declared.decl.Decl.TheVariants as d
use Rattle.cm_tree.specs.declared.file.File.{File}
use Rattle.cm_tree.specs.Pieces.{Text}
use Rattle.cm_front.specs.Form.{decls_of}
use Rattle.cm_front.specs.declared.form.Names.{Names as FoundNames}
use Rattle.cm_front.specs.declared.form.Endpoints.{Endpoints as FoundEndpoints}

-- the one item of a list
abbrev pub only : {A : Type 0} → List A → Option A
only [] = None
only (a ∷ []) = Some a
only (a ∷ c ∷ others) = None

abbrev pub is_empty : {A : Type 0} → List A → Bool
is_empty [] = true
is_empty (a ∷ others) = false

abbrev pub is_none : {A : Type 0} → Option A → Bool
is_none None = true
is_none (Some a) = false

abbrev pub is_main : Text → Bool
is_main text = bytes_eq text (codes "main")

-- ---- endpoints

abbrev pub is_int_base : Base → Bool
is_int_base (b.Int place) = true
is_int_base _ = false

abbrev pub is_int : TypeExpr → Bool
is_int (y.Base base sizes) = is_int_base base && is_empty sizes
is_int (y.Named path sizes) = false

abbrev pub is_stream : Kind → Bool
is_stream Stream = true
is_stream Value = false
is_stream Event = false

abbrev pub is_flow : Flow → Flow → Bool
is_flow Input Input = true
is_flow Input Output = false
is_flow Output Input = false
is_flow Output Output = true

-- a name without an annotation
abbrev pub bare_name : EndName → Option Text
bare_name end_name = if is_empty end_name.keys then Some end_name.name.text else None

-- the name of a stream of integers
abbrev pub end_name : End → Option Text
end_name end = if is_stream end.kind && is_int end.ty then option_and_then bare_name (only end.names) else None

abbrev pub ends_name : List End → Option Text
ends_name ends = option_and_then end_name (only ends)

abbrev pub stream_name : Flow → Member → Option Text
stream_name flow (m.Ends place found ends) = if is_flow found flow then ends_name ends else None
stream_name flow _ = None

-- ---- `main`

-- the endpoints of `OUTPUT <- INPUT;`
pub record Endpoints : Type 0 where
  pub input : Text
  pub output : Text

abbrev pub endpoints_of : FoundEndpoints → Endpoints
endpoints_of found = record { input = found.input.now; output = found.output.now }

-- a path of one name
abbrev pub value_name : Expr → Option Text
value_name (e.Name path) = only path.names
value_name _ = None

abbrev pub write_names : Stmt → Option Endpoints
write_names (x.Write to value) = option_map (λ (input : Text). record { input = input; output = to.text }) (value_name value)
write_names _ = None

abbrev pub is_advance : Stmt → Bool
is_advance (x.Advance place) = true
is_advance _ = false

-- `OUTPUT <- INPUT; advance();`
abbrev pub body_names : List Stmt → Option Endpoints
body_names [] = None
body_names (first ∷ []) = None
body_names (first ∷ second ∷ []) = if is_advance second then write_names first else None
body_names (first ∷ second ∷ third ∷ others) = None

-- the statements of a block
abbrev pub opened_block : Stmt-F Stmt → Option (List Stmt)
opened_block (o.Block place all) = Some all
opened_block _ = None

abbrev pub block_stmts : Stmt → Option (List Stmt)
block_stmts stmt = opened_block (out-Stmt stmt)

-- the body of a `loop` without a count
abbrev pub opened_loop : Stmt-F Stmt → Option Stmt
opened_loop (o.Loop place None body) = Some body
opened_loop _ = None

abbrev pub loop_body : Stmt → Option Stmt
loop_body stmt = opened_loop (out-Stmt stmt)

abbrev pub loop_names : List Stmt → Option Endpoints
loop_names stmts = option_and_then body_names (option_and_then block_stmts (option_and_then loop_body (only stmts)))

abbrev pub function_names : Function → Option Endpoints
function_names function =
    if is_none function.result && is_empty function.params && is_main function.name.text then loop_names function.body.stmts else None

abbrev pub main_names : Member → Option Endpoints
main_names (m.Function function) = function_names function
main_names _ = None

-- ---- the processor

pub record Names : Type 0 where
  pub processor : Text
  pub input : Text
  pub output : Text

abbrev pub names_of : FoundNames → Names
names_of found = record { processor = found.processor.now; input = found.input.now; output = found.output.now }

abbrev pub is_bare_main : Key → Bool
is_bare_main key = is_none key.value && is_main key.name.text

abbrev pub is_main_mark : List Key → Bool
is_main_mark [] = false
is_main_mark (key ∷ []) = is_bare_main key
is_main_mark (key ∷ other ∷ others) = false

-- whether three names differ from each other and from `main`
abbrev pub are_names : Names → Bool
are_names names =
    not (bytes_eq names.processor names.input) && not (bytes_eq names.processor names.output) && not (bytes_eq names.input names.output)
    && not (is_main names.processor) && not (is_main names.input) && not (is_main names.output)

-- whether the input of these names is passed to their output, and they are names of the form
abbrev pub is_passed : Names → Endpoints → Bool
is_passed names ends = bytes_eq names.input ends.input && bytes_eq names.output ends.output && are_names names

-- a step, and the next one where it gives something
infixl 10 ◌>>=◌
abbrev pub ◌>>=◌ : {A B : Type 0} → Option A → (A → Option B) → Option B
None >>= f = None
(Some a) >>= f = f a

-- the names, where the input is passed to the output
abbrev pub passed_names : Names → Endpoints → Option Names
passed_names names ends = if is_passed names ends then Some names else None

-- of a processor with this name and these members
unfoldable pub member_names : Text → Member → Member → Member → Option Names
member_names processor first second third = do
  input ← stream_name Input first
  output ← stream_name Output second
  ends ← main_names third
  passed_names (record { processor = processor; input = input; output = output }) ends

abbrev pub members_names : Text → List Member → Option Names
members_names processor [] = None
members_names processor (first ∷ []) = None
members_names processor (first ∷ second ∷ []) = None
members_names processor (first ∷ second ∷ third ∷ []) = member_names processor first second third
members_names processor (first ∷ second ∷ third ∷ fourth ∷ others) = None

abbrev pub unit_names : UnitDecl → Option Names
unit_names found = if is_empty found.params && is_main_mark found.keys then members_names found.name.text found.members else None

abbrev pub decl_names : Decl → Option Names
decl_names (d.Processor found) = unit_names found
decl_names _ = None

-- of all files together
unfoldable pub files_names : List File → Option Names
files_names files = option_and_then decl_names (only (decls_of files))
