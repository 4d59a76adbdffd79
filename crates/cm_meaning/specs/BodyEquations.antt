-- What the demands of statements are for each kind of statement, and which surely return: one equation for each.
use Rattle.std.specs.Prelude.{Bool, true, false, not, ◌&&◌, ◌||◌, ◌≡◌, refl, List, [], ◌∷◌, ◌++◌, Option, None}
use Rattle.std.specs.List.{list_any}
use Rattle.std.proofs.Common.{ap}
use Rattle.cm_base.specs.declared.place.Place.{Place}
use Rattle.cm_tree.specs.declared.path.Word.{Word}
use Rattle.cm_tree.specs.declared.expr.Expr.{Expr}
use Rattle.cm_tree.specs.declared.type_expr.TypeExpr.{TypeExpr}
use Rattle.cm_tree.specs.declared.simple.Local.{Local}
use Rattle.cm_tree.specs.declared.simple.Simple.{Simple}
use Rattle.cm_tree.specs.declared.stmt.Assert.{Assert}
use Rattle.cm_tree.specs.declared.stmt.Start.{Start}
use Rattle.cm_tree.specs.declared.stmt.Stmt.{Stmt}
use Rattle.cm_tree.specs.declared.stmt.Stmt.TheVariants as x
use Rattle.cm_tree.specs.declared.stmt.Stmt.TheBlock.{hidden-the_row-Stmt-0, hidden-the_row-Stmt-1}
use denote.Hole.Carrier.{hidden}
use Rattle.cm_meaning.specs.Scopes.{Around, scoped, looped}
use Rattle.cm_meaning.specs.BodySites.{after, after_start, counter}
use Rattle.cm_meaning.specs.Demands.{Demanded, demanded, Fits, IsCounter, OfEndpoint, type_demands, needed, condition_demands, optional_condition, optional_number, local_demands, simple_demands, start_demands, next_demands, assert_demands, return_demands, stmt_demands, stmt_demands_row, stmts_demands}
use Rattle.cm_meaning.specs.Endings.{has_break, has_break_row, surely, surely_row, surely_all}

-- ---- demands of statements

abbrev block_row : Around → Stmt → List Demanded
block_row r (x.Block' p sh all) = stmt_demands_row r all
block_row r _ = []

block-row : (r : Around) (p : Place) (all : List Stmt) → block_row r (x.Block p all) ≡ stmts_demands r all
unfolding stmt_demands stmt_demands_row stmts_demands hidden-the_row-Stmt-0 hidden-the_row-Stmt-1 hidden
block-row r p [] = refl
block-row r p (v ∷ all) = ap (λ (more : List Demanded). stmt_demands r v ++ more) (block-row (after r v) p all)

pub stmt_demands-Block : (r : Around) (p : Place) (all : List Stmt) → stmt_demands r (x.Block p all) ≡ stmts_demands (scoped r []) all
unfolding stmt_demands hidden-the_row-Stmt-0 hidden-the_row-Stmt-1 hidden
stmt_demands-Block r p all = block-row (scoped r []) p all

pub stmt_demands-Empty : (r : Around) (p : Place) → stmt_demands r (x.Empty p) ≡ []
unfolding stmt_demands hidden-the_row-Stmt-0 hidden-the_row-Stmt-1 hidden
stmt_demands-Empty r p = refl

pub stmt_demands-Local : (r : Around) (v : Local) → stmt_demands r (x.Local v) ≡ local_demands r v
unfolding stmt_demands hidden-the_row-Stmt-0 hidden-the_row-Stmt-1 hidden
stmt_demands-Local r v = refl

pub stmt_demands-Simple : (r : Around) (v : Simple) → stmt_demands r (x.Simple v) ≡ simple_demands r v
unfolding stmt_demands hidden-the_row-Stmt-0 hidden-the_row-Stmt-1 hidden
stmt_demands-Simple r v = refl

pub stmt_demands-Assert : (r : Around) (v : Assert) → stmt_demands r (x.Assert v) ≡ assert_demands r v
unfolding stmt_demands hidden-the_row-Stmt-0 hidden-the_row-Stmt-1 hidden
stmt_demands-Assert r v = refl

pub stmt_demands-If : (r : Around) (p : Place) (t : Expr) (v : Stmt) → stmt_demands r (x.If p t v) ≡ condition_demands r t ++ stmt_demands (scoped r []) v
unfolding stmt_demands hidden-the_row-Stmt-0 hidden-the_row-Stmt-1 hidden
stmt_demands-If r p t v = refl

pub stmt_demands-IfElse : (r : Around) (p : Place) (t : Expr) (v w : Stmt) → stmt_demands r (x.IfElse p t v w) ≡ condition_demands r t ++ (stmt_demands (scoped r []) v ++ stmt_demands (scoped r []) w)
unfolding stmt_demands hidden-the_row-Stmt-0 hidden-the_row-Stmt-1 hidden
stmt_demands-IfElse r p t v w = refl

pub stmt_demands-Loop : (r : Around) (p : Place) (t : Option Expr) (v : Stmt) → stmt_demands r (x.Loop p t v) ≡ optional_number r t ++ stmt_demands (scoped (looped r) []) v
unfolding stmt_demands hidden-the_row-Stmt-0 hidden-the_row-Stmt-1 hidden
stmt_demands-Loop r p t v = refl

pub stmt_demands-While : (r : Around) (p : Place) (t : Expr) (v : Stmt) → stmt_demands r (x.While p t v) ≡ condition_demands r t ++ stmt_demands (scoped (looped r) []) v
unfolding stmt_demands hidden-the_row-Stmt-0 hidden-the_row-Stmt-1 hidden
stmt_demands-While r p t v = refl

pub stmt_demands-ForType : (r : Around) (p : Place) (ty : TypeExpr) (w : Word) (v : Stmt) → stmt_demands r (x.ForType p ty w v) ≡ type_demands r ty ++ (demanded r (IsCounter ty) ∷ stmt_demands (scoped (scoped (looped r) (counter r ty w ∷ [])) []) v)
unfolding stmt_demands hidden-the_row-Stmt-0 hidden-the_row-Stmt-1 hidden
stmt_demands-ForType r p ty w v = refl

pub stmt_demands-For : (r : Around) (p : Place) (s : Option Start) (t : Option Expr) (n : Option Simple) (v : Stmt) → stmt_demands r (x.For p s t n v) ≡ start_demands (scoped r []) s
    ++ (optional_condition (after_start (scoped r []) s) t
    ++ (next_demands (after_start (scoped r []) s) n ++ stmt_demands (scoped (looped (after_start (scoped r []) s)) []) v))
unfolding stmt_demands hidden-the_row-Stmt-0 hidden-the_row-Stmt-1 hidden
stmt_demands-For r p s t n v = refl

pub stmt_demands-Break : (r : Around) (p : Place) → stmt_demands r (x.Break p) ≡ []
unfolding stmt_demands hidden-the_row-Stmt-0 hidden-the_row-Stmt-1 hidden
stmt_demands-Break r p = refl

pub stmt_demands-Continue : (r : Around) (p : Place) → stmt_demands r (x.Continue p) ≡ []
unfolding stmt_demands hidden-the_row-Stmt-0 hidden-the_row-Stmt-1 hidden
stmt_demands-Continue r p = refl

pub stmt_demands-Return : (r : Around) (p : Place) (v : Option Expr) → stmt_demands r (x.Return p v) ≡ return_demands r p v
unfolding stmt_demands hidden-the_row-Stmt-0 hidden-the_row-Stmt-1 hidden
stmt_demands-Return r p v = refl

pub stmt_demands-Advance : (r : Around) (p : Place) → stmt_demands r (x.Advance p) ≡ []
unfolding stmt_demands hidden-the_row-Stmt-0 hidden-the_row-Stmt-1 hidden
stmt_demands-Advance r p = refl

pub stmt_demands-Write : (r : Around) (w : Word) (v : Expr) → stmt_demands r (x.Write w v) ≡ needed r v (Fits (OfEndpoint w) v)
unfolding stmt_demands hidden-the_row-Stmt-0 hidden-the_row-Stmt-1 hidden
stmt_demands-Write r w v = refl

pub ruleset statement_equations = (
  stmt_demands-Block,
  stmt_demands-Empty,
  stmt_demands-Local,
  stmt_demands-Simple,
  stmt_demands-Assert,
  stmt_demands-If,
  stmt_demands-IfElse,
  stmt_demands-Loop,
  stmt_demands-While,
  stmt_demands-ForType,
  stmt_demands-For,
  stmt_demands-Break,
  stmt_demands-Continue,
  stmt_demands-Return,
  stmt_demands-Advance,
  stmt_demands-Write,
)

-- ---- what surely returns

abbrev break_row : Stmt → Bool
break_row (x.Block' p sh all) = has_break_row all
break_row _ = false

break-row : (p : Place) (all : List Stmt) → break_row (x.Block p all) ≡ list_any has_break all
unfolding has_break has_break_row hidden-the_row-Stmt-0 hidden-the_row-Stmt-1 hidden
break-row p [] = refl
break-row p (a ∷ all) = ap (λ (more : Bool). has_break a || more) (break-row p all)

pub has_break-Block : (p : Place) (all : List Stmt) → has_break (x.Block p all) ≡ list_any has_break all
unfolding has_break hidden-the_row-Stmt-0 hidden-the_row-Stmt-1 hidden
has_break-Block p all = break-row p all

pub has_break-If : (p : Place) (c : Expr) (a : Stmt) → has_break (x.If p c a) ≡ has_break a
unfolding has_break hidden-the_row-Stmt-0 hidden-the_row-Stmt-1 hidden
has_break-If p c a = refl

pub has_break-IfElse : (p : Place) (c : Expr) (a b : Stmt) → has_break (x.IfElse p c a b) ≡ (has_break a || has_break b)
unfolding has_break hidden-the_row-Stmt-0 hidden-the_row-Stmt-1 hidden
has_break-IfElse p c a b = refl

abbrev ending_row : Stmt → Bool
ending_row (x.Block' p sh all) = surely_row all
ending_row _ = false

ending-row : (p : Place) (all : List Stmt) → ending_row (x.Block p all) ≡ surely_all all
unfolding surely surely_row surely_all hidden-the_row-Stmt-0 hidden-the_row-Stmt-1 hidden
ending-row p [] = refl
ending-row p (a ∷ []) = refl
ending-row p (a ∷ b ∷ more) = ending-row p (b ∷ more)

pub surely-Block : (p : Place) (all : List Stmt) → surely (x.Block p all) ≡ surely_all all
unfolding surely hidden-the_row-Stmt-0 hidden-the_row-Stmt-1 hidden
surely-Block p all = ending-row p all

pub surely-IfElse : (p : Place) (c : Expr) (a b : Stmt) → surely (x.IfElse p c a b) ≡ (surely a && surely b)
unfolding surely hidden-the_row-Stmt-0 hidden-the_row-Stmt-1 hidden
surely-IfElse p c a b = refl

pub surely-Loop : (p : Place) (a : Stmt) → surely (x.Loop p None a) ≡ not (has_break a)
unfolding surely hidden-the_row-Stmt-0 hidden-the_row-Stmt-1 hidden
surely-Loop p a = refl

pub surely-Return : (p : Place) (v : Option Expr) → surely (x.Return p v) ≡ true
unfolding surely
surely-Return p v = refl

pub ruleset endings = (has_break-Block, has_break-If, has_break-IfElse, surely-Block, surely-IfElse, surely-Loop, surely-Return)
