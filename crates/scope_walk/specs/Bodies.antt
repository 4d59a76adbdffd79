-- The sites of parts that the walk goes over by themselves: docs/LANGUAGE.md, "Statements".
use Rattle.std.specs.Prelude.{List, [], ◌∷◌, ◌++◌, Option, Some, None}
use Rattle.cm_tree.specs.declared.path.Path.{Path}
use Rattle.cm_tree.specs.declared.path.Word.{Word}
use Rattle.cm_tree.specs.declared.expr.Expr.{Expr}
use Rattle.cm_tree.specs.declared.expr.Expr.TheVariants as e
use Rattle.cm_tree.specs.declared.type_expr.TypeExpr.{TypeExpr}
use Rattle.cm_tree.specs.declared.simple.Simple.{Simple}
use Rattle.cm_tree.specs.declared.stmt.Start.{Start}
use Rattle.cm_tree.specs.declared.stmt.Stmt.{Stmt}
use Rattle.cm_meaning.specs.Scopes.{Around, looped, scoped}
use Rattle.cm_meaning.specs.Sites.{Site, site, Declares, TakesArgument, expr_sites, optional_sites}
use Rattle.cm_meaning.specs.BodySites.{after_start, counter, next_sites, start_sites, stmt_sites}

-- the path that an expression is, if it is no more
abbrev pub alone : Expr → Option Path
alone (e.Name q) = Some q
alone _ = None

-- an argument of a call or of what makes a value
abbrev pub argument_sites : Around → Expr → List Site
argument_sites r a = site r (TakesArgument a) ∷ expr_sites r a

-- the variable of for (wrap<4> i) and the body
abbrev pub counted_sites : Around → TypeExpr → Word → Stmt → List Site
counted_sites r ty w a = site (scoped r []) (Declares r (counter r ty w)) ∷ stmt_sites (scoped (scoped (looped r) (counter r ty w ∷ [])) []) a

-- a `for` of three parts, seen from within its scope
abbrev pub for_sites : Around → Option Start → Option Expr → Option Simple → Stmt → List Site
for_sites r s c n a = start_sites r s ++ (optional_sites (after_start r s) c ++ (next_sites (after_start r s) n ++ stmt_sites (scoped (looped (after_start r s)) []) a))
