-- The places of a patch where a name is used or declared, and a few others with rules of their own, each with what is
-- visible there: docs/LANGUAGE.md, "Names". Here are the kinds of places, and those of expressions and types; `BodySites`
-- has those of statements and `PatchSites` those of declarations. The walk follows the order of the text.
use Rattle.std.specs.Prelude.{List, [], ◌∷◌, ◌++◌, flat_map, Option, Some, None}
use Rattle.cm_base.specs.declared.place.Place.{Place}
use Rattle.cm_tree.specs.declared.path.Path.{Path}
use Rattle.cm_tree.specs.declared.path.Word.{Word}
use Rattle.cm_tree.specs.declared.expr.Expr.{Expr, Row_of-Expr, end_of-Expr, more_of-Expr, items-the_row-Expr}
use Rattle.cm_tree.specs.declared.expr.Base.{Base}
use Rattle.cm_tree.specs.declared.expr.Expr.TheVariants as e
use Rattle.cm_tree.specs.declared.expr.Base.TheVariants as b
use Rattle.cm_tree.specs.declared.type_expr.TypeExpr.{TypeExpr}
use Rattle.cm_tree.specs.declared.type_expr.TypeExpr.TheVariants as y
use Rattle.cm_tree.specs.declared.type_expr.Arg.{Arg}
use Rattle.cm_tree.specs.declared.type_expr.Arg.TheVariants as g
use Rattle.cm_tree.specs.declared.shared.Function.{Function as FunctionDecl}
use Rattle.cm_tree.specs.declared.member.Node.{Node as NodeDecl}
use Rattle.cm_tree.specs.declared.member.Point.{Point}
use Rattle.cm_meaning.specs.Declared.{Declared}
use Rattle.cm_meaning.specs.Scopes.{Around}

-- what a parameter of a processor or a graph takes, where it is known
pub data Taken : Type 0 where
  TakesType : Taken
  TakesValue : Taken
  TakesAny : Taken

-- a use of a name or another place with a rule, by its role
pub data Part : Type 0 where
  -- a value is read by its name
  Reads : Path → Part
  -- a function is called, or a value is made of a named type
  Calls : Path → List Expr → Part
  -- an argument of a call or of what makes a value
  TakesArgument : Expr → Part
  -- a type is named
  NamesType : Path → Part
  -- `out <- ..`
  Writes : Word → Part
  -- what is assigned, by its name
  Assigns : Word → Part
  -- a local is declared in the innermost scope; its type, where it is written, stands where this is round it
  Declares : Around → Declared → Part
  -- the declarations of a scope that begins here, other than a namespace's
  Opens : List Declared → Part
  -- the fields of a struct, or the inputs that the handlers of a processor name: none of them twice
  KeepsApart : List Word → Part
  -- the latencies of a processor: at most one
  HasLatencies : List Place → Part
  -- a function
  Defines : FunctionDecl → Part
  -- a handler's event input
  Handles : Word → Part
  -- a node
  DeclaresNode : NodeDecl → Part
  -- an argument of a node
  GivesNode : Taken → Arg → Part
  -- an end of a connection
  Joins : Point → Part
  -- `break` or `continue`
  Jumps : Place → Part
  -- `advance`
  Advances : Place → Part

pub record Site : Type 0 where
  pub around : Around
  pub part : Part

abbrev pub site : Around → Part → Site
site r part = record { around = r; part = part }

abbrev pub path_of_word : Word → Path
path_of_word w = record { place = w.place; names = w.text ∷ [] }

-- the path that is looked up at a site; a single name is a path of one name
abbrev pub looked_up : Part → Option Path
looked_up (Reads q) = Some q
looked_up (Calls q args) = Some q
looked_up (NamesType q) = Some q
looked_up (Writes w) = Some (path_of_word w)
looked_up (Assigns w) = Some (path_of_word w)
looked_up (Handles w) = Some (path_of_word w)
looked_up (DeclaresNode a) = Some a.path
looked_up (GivesNode t (g.Value (e.Name q))) = Some q
looked_up (Joins a) = Some (path_of_word a.name)
looked_up _ = None

-- ---- expressions and types

unfoldable mutual
  pub expr_sites : Around → Expr → List Site
  expr_sites r (e.Number p v w) = []
  expr_sites r (e.Truth p t) = []
  expr_sites r (e.Name q) = site r (Reads q) ∷ []
  expr_sites r (e.Call' q sh args) = site r (Calls q (items-the_row-Expr _ args)) ∷ argument_sites r args
  expr_sites r (e.Construct' b sh sizes i args) = base_sites r b ++ (expr_sites_row r sizes ++ argument_sites r args)
  expr_sites r (e.Paren' p sh (more_of-Expr a end_of-Expr)) = expr_sites r a
  expr_sites r (e.Field' p sh (more_of-Expr a end_of-Expr) w) = expr_sites r a
  expr_sites r (e.Index' p sh (more_of-Expr a end_of-Expr) i (more_of-Expr c end_of-Expr)) = expr_sites r a ++ expr_sites r c
  expr_sites r (e.Unary' p o sh (more_of-Expr a end_of-Expr)) = expr_sites r a
  expr_sites r (e.Binary' p o sh (more_of-Expr a end_of-Expr) i (more_of-Expr c end_of-Expr)) = expr_sites r a ++ expr_sites r c
  expr_sites r (e.Choice' p sh (more_of-Expr t end_of-Expr) i (more_of-Expr a end_of-Expr) j (more_of-Expr c end_of-Expr)) =
      expr_sites r t ++ (expr_sites r a ++ expr_sites r c)

  -- array sizes
  pub expr_sites_row : Around → {n : _} → Row_of-Expr n → List Site
  expr_sites_row r end_of-Expr = []
  expr_sites_row r (more_of-Expr a others) = expr_sites r a ++ expr_sites_row r others

  pub argument_sites : Around → {n : _} → Row_of-Expr n → List Site
  argument_sites r end_of-Expr = []
  argument_sites r (more_of-Expr a others) = site r (TakesArgument a) ∷ (expr_sites r a ++ argument_sites r others)

  pub base_sites : Around → Base → List Site
  base_sites r (b.Bool p) = []
  base_sites r (b.Int p) = []
  base_sites r (b.Int32 p) = []
  base_sites r (b.Int64 p) = []
  base_sites r (b.Wrap' p sh (more_of-Expr a end_of-Expr)) = expr_sites r a
  base_sites r (b.Clamp' p sh (more_of-Expr a end_of-Expr)) = expr_sites r a

-- of the arguments of a call
abbrev pub arguments_sites : Around → List Expr → List Site
arguments_sites r args = flat_map (λ (a : Expr). site r (TakesArgument a) ∷ expr_sites r a) args

-- an expression that may be absent
abbrev pub optional_sites : Around → Option Expr → List Site
optional_sites r None = []
optional_sites r (Some a) = expr_sites r a

abbrev pub type_sites : Around → TypeExpr → List Site
type_sites r (y.Base b sizes) = base_sites r b ++ flat_map (expr_sites r) sizes
type_sites r (y.Named q sizes) = site r (NamesType q) ∷ flat_map (expr_sites r) sizes
