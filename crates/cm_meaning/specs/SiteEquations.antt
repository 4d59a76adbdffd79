-- What the walk over trees gives for each kind of part, one equation for each: for proofs, and to be read beside the grammar.
use Rattle.std.specs.Prelude.{ℤ, Bool, ◌≡◌, refl, List, [], ◌∷◌, ◌++◌, flat_map, Option}
use Rattle.std.proofs.Common.{ap, ◌∙◌}
use Rattle.cm_base.specs.declared.place.Place.{Place}
use Rattle.cm_tree.specs.declared.path.Path.{Path}
use Rattle.cm_tree.specs.declared.path.Word.{Word}
use Rattle.cm_tree.specs.declared.operator.Unary.{Unary}
use Rattle.cm_tree.specs.declared.operator.Binary.{Binary}
use Rattle.cm_tree.specs.declared.expr.Expr.{Expr, items-the_row-Expr}
use Rattle.cm_tree.specs.declared.expr.Base.{Base}
use Rattle.cm_tree.specs.declared.expr.Expr.TheVariants as e
use Rattle.cm_tree.specs.declared.expr.Base.TheVariants as b
use Rattle.cm_tree.specs.declared.expr.Base.TheBlock.{hidden-the_row-Expr-0, hidden-the_row-Expr-1}
use Rattle.cm_tree.specs.declared.type_expr.TypeExpr.{TypeExpr}
use Rattle.cm_tree.specs.declared.simple.Local.{Local}
use Rattle.cm_tree.specs.declared.simple.Simple.{Simple}
use Rattle.cm_tree.specs.declared.stmt.Assert.{Assert}
use Rattle.cm_tree.specs.declared.stmt.Start.{Start}
use Rattle.cm_tree.specs.declared.stmt.Stmt.{Stmt}
use Rattle.cm_tree.specs.declared.stmt.Stmt.TheVariants as x
use Rattle.cm_tree.specs.declared.stmt.Stmt.TheBlock.{hidden-the_row-Stmt-0, hidden-the_row-Stmt-1}
use Rattle.cm_tree.specs.declared.decl.Decl.{Decl}
use Rattle.cm_tree.specs.declared.decl.Decl.TheVariants as d
use Rattle.cm_tree.specs.declared.decl.Decl.TheBlock.{hidden-the_row-Decl-0}
use denote.Hole.Carrier.{hidden}
use Rattle.cm_meaning.specs.Declared.{Space, Declared}
use Rattle.cm_meaning.specs.Scopes.{Around, scoped, looped, within, opened, decl_names, decl_names_row}
use Rattle.cm_meaning.specs.Sites.{Site, site, Calls, TakesArgument, Declares, Jumps, Advances, Reads, Writes, expr_sites, expr_sites_row, argument_sites, base_sites, arguments_sites, optional_sites, type_sites}
use Rattle.cm_meaning.specs.BodySites.{after, after_start, counter, local_sites, simple_sites, start_sites, next_sites, stmt_sites, stmts_row, stmts_sites}
use Rattle.cm_meaning.specs.PatchSites.{decl_sites, decl_sites_row}

-- ---- expressions

pub expr_sites-Number : (r : Around) (p : Place) (v : ℤ) (w : Bool) → expr_sites r (e.Number p v w) ≡ []
unfolding expr_sites
expr_sites-Number r p v w = refl

pub expr_sites-Truth : (r : Around) (p : Place) (t : Bool) → expr_sites r (e.Truth p t) ≡ []
unfolding expr_sites
expr_sites-Truth r p t = refl

pub expr_sites-Name : (r : Around) (q : Path) → expr_sites r (e.Name q) ≡ site r (Reads q) ∷ []
unfolding expr_sites
expr_sites-Name r q = refl

abbrev called_with : Expr → List Expr
called_with (e.Call' q sh args) = items-the_row-Expr _ args
called_with _ = []

abbrev call_arguments : Around → Expr → List Site
call_arguments r (e.Call' q sh args) = argument_sites r args
call_arguments r _ = []

items-row : (q : Path) (args : List Expr) → called_with (e.Call q args) ≡ args
unfolding hidden-the_row-Expr-0 hidden-the_row-Expr-1 hidden
items-row q [] = refl
items-row q (a ∷ args) = ap (λ (all : List Expr). a ∷ all) (items-row q args)

arguments-row : (r : Around) (q : Path) (args : List Expr) → call_arguments r (e.Call q args) ≡ arguments_sites r args
unfolding expr_sites argument_sites hidden-the_row-Expr-0 hidden-the_row-Expr-1 hidden
arguments-row r q [] = refl
arguments-row r q (a ∷ args) = ap (λ (all : List Site). site r (TakesArgument a) ∷ (expr_sites r a ++ all)) (arguments-row r q args)

pub expr_sites-Call : (r : Around) (q : Path) (args : List Expr) → expr_sites r (e.Call q args) ≡ site r (Calls q args) ∷ arguments_sites r args
unfolding expr_sites hidden-the_row-Expr-0 hidden-the_row-Expr-1 hidden
expr_sites-Call r q args =
    ap (λ (all : List Expr). site r (Calls q all) ∷ call_arguments r (e.Call q args)) (items-row q args)
    ∙ ap (λ (all : List Site). site r (Calls q args) ∷ all) (arguments-row r q args)

abbrev size_sites : Around → Expr → List Site
size_sites r (e.Construct' b sh sizes i args) = expr_sites_row r sizes
size_sites r _ = []

abbrev value_sites : Around → Expr → List Site
value_sites r (e.Construct' b sh sizes i args) = argument_sites r args
value_sites r _ = []

sizes-row : (r : Around) (b : Base) (sizes args : List Expr) → size_sites r (e.Construct b sizes args) ≡ flat_map (expr_sites r) sizes
unfolding expr_sites expr_sites_row hidden-the_row-Expr-0 hidden-the_row-Expr-1 hidden
sizes-row r b [] args = refl
sizes-row r b (a ∷ sizes) args = ap (λ (all : List Site). expr_sites r a ++ all) (sizes-row r b sizes args)

values-row : (r : Around) (b : Base) (sizes args : List Expr) → value_sites r (e.Construct b sizes args) ≡ arguments_sites r args
unfolding expr_sites argument_sites hidden-the_row-Expr-0 hidden-the_row-Expr-1 hidden
values-row r b sizes [] = refl
values-row r b sizes (a ∷ args) = ap (λ (all : List Site). site r (TakesArgument a) ∷ (expr_sites r a ++ all)) (values-row r b sizes args)

pub expr_sites-Construct : (r : Around) (b : Base) (sizes args : List Expr)
    → expr_sites r (e.Construct b sizes args) ≡ base_sites r b ++ (flat_map (expr_sites r) sizes ++ arguments_sites r args)
unfolding expr_sites hidden-the_row-Expr-0 hidden-the_row-Expr-1 hidden
expr_sites-Construct r b sizes args =
    ap (λ (all : List Site). base_sites r b ++ (all ++ value_sites r (e.Construct b sizes args))) (sizes-row r b sizes args)
    ∙ ap (λ (all : List Site). base_sites r b ++ (flat_map (expr_sites r) sizes ++ all)) (values-row r b sizes args)

pub expr_sites-Paren : (r : Around) (p : Place) (a : Expr) → expr_sites r (e.Paren p a) ≡ expr_sites r a
unfolding expr_sites hidden-the_row-Expr-0 hidden-the_row-Expr-1 hidden
expr_sites-Paren r p a = refl

pub expr_sites-Field : (r : Around) (p : Place) (a : Expr) (w : Word) → expr_sites r (e.Field p a w) ≡ expr_sites r a
unfolding expr_sites hidden-the_row-Expr-0 hidden-the_row-Expr-1 hidden
expr_sites-Field r p a w = refl

pub expr_sites-Index : (r : Around) (p : Place) (a c : Expr) → expr_sites r (e.Index p a c) ≡ expr_sites r a ++ expr_sites r c
unfolding expr_sites hidden-the_row-Expr-0 hidden-the_row-Expr-1 hidden
expr_sites-Index r p a c = refl

pub expr_sites-Unary : (r : Around) (p : Place) (o : Unary) (a : Expr) → expr_sites r (e.Unary p o a) ≡ expr_sites r a
unfolding expr_sites hidden-the_row-Expr-0 hidden-the_row-Expr-1 hidden
expr_sites-Unary r p o a = refl

pub expr_sites-Binary : (r : Around) (p : Place) (o : Binary) (a c : Expr) → expr_sites r (e.Binary p o a c) ≡ expr_sites r a ++ expr_sites r c
unfolding expr_sites hidden-the_row-Expr-0 hidden-the_row-Expr-1 hidden
expr_sites-Binary r p o a c = refl

pub expr_sites-Choice : (r : Around) (p : Place) (t a c : Expr) → expr_sites r (e.Choice p t a c) ≡ expr_sites r t ++ (expr_sites r a ++ expr_sites r c)
unfolding expr_sites hidden-the_row-Expr-0 hidden-the_row-Expr-1 hidden
expr_sites-Choice r p t a c = refl

pub base_sites-Bool : (r : Around) (p : Place) → base_sites r (b.Bool p) ≡ []
unfolding expr_sites base_sites
base_sites-Bool r p = refl

pub base_sites-Int : (r : Around) (p : Place) → base_sites r (b.Int p) ≡ []
unfolding expr_sites base_sites
base_sites-Int r p = refl

pub base_sites-Int32 : (r : Around) (p : Place) → base_sites r (b.Int32 p) ≡ []
unfolding expr_sites base_sites
base_sites-Int32 r p = refl

pub base_sites-Int64 : (r : Around) (p : Place) → base_sites r (b.Int64 p) ≡ []
unfolding expr_sites base_sites
base_sites-Int64 r p = refl

pub base_sites-Wrap : (r : Around) (p : Place) (a : Expr) → base_sites r (b.Wrap p a) ≡ expr_sites r a
unfolding expr_sites base_sites hidden-the_row-Expr-0 hidden-the_row-Expr-1 hidden
base_sites-Wrap r p a = refl

pub base_sites-Clamp : (r : Around) (p : Place) (a : Expr) → base_sites r (b.Clamp p a) ≡ expr_sites r a
unfolding expr_sites base_sites hidden-the_row-Expr-0 hidden-the_row-Expr-1 hidden
base_sites-Clamp r p a = refl

pub ruleset expr_equations = (
  expr_sites-Number,
  expr_sites-Truth,
  expr_sites-Name,
  expr_sites-Call,
  expr_sites-Construct,
  expr_sites-Paren,
  expr_sites-Field,
  expr_sites-Index,
  expr_sites-Unary,
  expr_sites-Binary,
  expr_sites-Choice,
  base_sites-Bool,
  base_sites-Int,
  base_sites-Int32,
  base_sites-Int64,
  base_sites-Wrap,
  base_sites-Clamp,
)

-- ---- statements

abbrev block_row : Around → Stmt → List Site
block_row r (x.Block' p sh all) = stmts_row r all
block_row r _ = []

block-row : (r : Around) (p : Place) (all : List Stmt) → block_row r (x.Block p all) ≡ stmts_sites r all
unfolding stmt_sites stmts_row stmts_sites hidden-the_row-Stmt-0 hidden
block-row r p [] = refl
block-row r p (a ∷ all) = ap (λ (more : List Site). stmt_sites r a ++ more) (block-row (after r a) p all)

pub stmt_sites-Block : (r : Around) (p : Place) (all : List Stmt) → stmt_sites r (x.Block p all) ≡ stmts_sites (scoped r []) all
unfolding stmt_sites hidden-the_row-Stmt-0 hidden
stmt_sites-Block r p all = block-row (scoped r []) p all

pub stmt_sites-Empty : (r : Around) (p : Place) → stmt_sites r (x.Empty p) ≡ []
unfolding stmt_sites
stmt_sites-Empty r p = refl

pub stmt_sites-Local : (r : Around) (a : Local) → stmt_sites r (x.Local a) ≡ local_sites r a
unfolding stmt_sites
stmt_sites-Local r a = refl

pub stmt_sites-Simple : (r : Around) (a : Simple) → stmt_sites r (x.Simple a) ≡ simple_sites r a
unfolding stmt_sites
stmt_sites-Simple r a = refl

pub stmt_sites-Assert : (r : Around) (a : Assert) → stmt_sites r (x.Assert a) ≡ expr_sites r a.condition
unfolding stmt_sites
stmt_sites-Assert r a = refl

pub stmt_sites-If : (r : Around) (p : Place) (c : Expr) (a : Stmt) → stmt_sites r (x.If p c a) ≡ expr_sites r c ++ stmt_sites (scoped r []) a
unfolding stmt_sites hidden-the_row-Stmt-1 hidden
stmt_sites-If r p c a = refl

pub stmt_sites-IfElse : (r : Around) (p : Place) (c : Expr) (a b : Stmt)
    → stmt_sites r (x.IfElse p c a b) ≡ expr_sites r c ++ (stmt_sites (scoped r []) a ++ stmt_sites (scoped r []) b)
unfolding stmt_sites hidden-the_row-Stmt-1 hidden
stmt_sites-IfElse r p c a b = refl

pub stmt_sites-Loop : (r : Around) (p : Place) (c : Option Expr) (a : Stmt) → stmt_sites r (x.Loop p c a) ≡ optional_sites r c ++ stmt_sites (scoped (looped r) []) a
unfolding stmt_sites hidden-the_row-Stmt-1 hidden
stmt_sites-Loop r p c a = refl

pub stmt_sites-While : (r : Around) (p : Place) (c : Expr) (a : Stmt) → stmt_sites r (x.While p c a) ≡ expr_sites r c ++ stmt_sites (scoped (looped r) []) a
unfolding stmt_sites hidden-the_row-Stmt-1 hidden
stmt_sites-While r p c a = refl

pub stmt_sites-ForType : (r : Around) (p : Place) (ty : TypeExpr) (w : Word) (a : Stmt)
    → stmt_sites r (x.ForType p ty w a)
    ≡ type_sites r ty ++ (site (scoped r []) (Declares r (counter r ty w)) ∷ stmt_sites (scoped (scoped (looped r) (counter r ty w ∷ [])) []) a)
unfolding stmt_sites hidden-the_row-Stmt-1 hidden
stmt_sites-ForType r p ty w a = refl

pub stmt_sites-For : (r : Around) (p : Place) (s : Option Start) (c : Option Expr) (n : Option Simple) (a : Stmt)
    → stmt_sites r (x.For p s c n a)
    ≡ start_sites (scoped r []) s
    ++ (optional_sites (after_start (scoped r []) s) c
    ++ (next_sites (after_start (scoped r []) s) n ++ stmt_sites (scoped (looped (after_start (scoped r []) s)) []) a))
unfolding stmt_sites hidden-the_row-Stmt-1 hidden
stmt_sites-For r p s c n a = refl

pub stmt_sites-Break : (r : Around) (p : Place) → stmt_sites r (x.Break p) ≡ site r (Jumps p) ∷ []
unfolding stmt_sites
stmt_sites-Break r p = refl

pub stmt_sites-Continue : (r : Around) (p : Place) → stmt_sites r (x.Continue p) ≡ site r (Jumps p) ∷ []
unfolding stmt_sites
stmt_sites-Continue r p = refl

pub stmt_sites-Return : (r : Around) (p : Place) (c : Option Expr) → stmt_sites r (x.Return p c) ≡ optional_sites r c
unfolding stmt_sites
stmt_sites-Return r p c = refl

pub stmt_sites-Advance : (r : Around) (p : Place) → stmt_sites r (x.Advance p) ≡ site r (Advances p) ∷ []
unfolding stmt_sites
stmt_sites-Advance r p = refl

pub stmt_sites-Write : (r : Around) (w : Word) (a : Expr) → stmt_sites r (x.Write w a) ≡ site r (Writes w) ∷ expr_sites r a
unfolding stmt_sites
stmt_sites-Write r w a = refl

pub ruleset stmt_equations = (
  stmt_sites-Block,
  stmt_sites-Empty,
  stmt_sites-Local,
  stmt_sites-Simple,
  stmt_sites-Assert,
  stmt_sites-If,
  stmt_sites-IfElse,
  stmt_sites-Loop,
  stmt_sites-While,
  stmt_sites-ForType,
  stmt_sites-For,
  stmt_sites-Break,
  stmt_sites-Continue,
  stmt_sites-Return,
  stmt_sites-Advance,
  stmt_sites-Write,
)

-- ---- namespaces

abbrev inner_names : Space → Decl → List Declared
inner_names space (d.Namespace' p path sh all) = decl_names_row space all
inner_names space _ = []

names-row : (space : Space) (p : Place) (path : Path) (all : List Decl) → inner_names space (d.Namespace p path all) ≡ flat_map (decl_names space) all
unfolding decl_names decl_names_row hidden-the_row-Decl-0 hidden
names-row space p path [] = refl
names-row space p path (a ∷ all) = ap (λ (more : List Declared). decl_names space a ++ more) (names-row space p path all)

pub decl_names-Namespace : (space : Space) (p : Place) (path : Path) (all : List Decl)
    → decl_names space (d.Namespace p path all) ≡ opened space path.place path.names ++ flat_map (decl_names (within space path.names)) all
unfolding decl_names decl_names_row hidden-the_row-Decl-0 hidden
decl_names-Namespace space p path all = ap (λ (more : List Declared). opened space path.place path.names ++ more) (names-row (within space path.names) p path all)

pub decl_sites-Namespace : (all : List Declared) (space : Space) (p : Place) (path : Path) (decls : List Decl)
    → decl_sites all space (d.Namespace p path decls) ≡ flat_map (decl_sites all (within space path.names)) decls
unfolding decl_sites decl_sites_row hidden-the_row-Decl-0 hidden
decl_sites-Namespace all space p path [] = refl
decl_sites-Namespace all space p path (a ∷ decls) = ap (λ (more : List Site). decl_sites all (within space path.names) a ++ more) (decl_sites-Namespace all space p path decls)
