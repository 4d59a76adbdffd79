-- Which statements surely return: docs/LANGUAGE.md, "Bodies". A block that ends in one does; so does an `if` both of whose
-- arms do, and a `loop` without count and without a `break` of its own.
use Rattle.std.specs.Prelude.{Bool, true, false, not, ◌&&◌, ◌||◌, List, [], ◌∷◌, None, is_none}
use Rattle.cm_tree.specs.declared.shared.Function.{Function as FunctionDecl}
use Rattle.cm_tree.specs.declared.stmt.Stmt.{Stmt, Row_of-Stmt, end_of-Stmt, more_of-Stmt}
use Rattle.cm_tree.specs.declared.stmt.Stmt.TheVariants as x

-- a `break` of the loop round the statement, and of no loop in it
unfoldable mutual
  pub has_break : Stmt → Bool
  has_break (x.Block' p sh all) = has_break_row all
  has_break (x.If' p c sh (more_of-Stmt a end_of-Stmt)) = has_break a
  has_break (x.IfElse' p c sh (more_of-Stmt a end_of-Stmt) si (more_of-Stmt b end_of-Stmt)) = has_break a || has_break b
  has_break (x.Break p) = true
  has_break _ = false

  pub has_break_row : {n : _} → Row_of-Stmt n → Bool
  has_break_row end_of-Stmt = false
  has_break_row (more_of-Stmt a others) = has_break a || has_break_row others

-- the answer of the last of some statements: that of this one, if none follows
abbrev pub last_of : {n : _} → Row_of-Stmt n → Bool → Bool → Bool
last_of end_of-Stmt this others = this
last_of (more_of-Stmt a more) this others = others

abbrev pub last_or : List Stmt → Bool → Bool → Bool
last_or [] this others = this
last_or (a ∷ more) this others = others

unfoldable mutual
  pub surely : Stmt → Bool
  surely (x.Block' p sh all) = surely_row all
  surely (x.IfElse' p c sh (more_of-Stmt a end_of-Stmt) si (more_of-Stmt b end_of-Stmt)) = surely a && surely b
  surely (x.Loop' p None sh (more_of-Stmt a end_of-Stmt)) = not (has_break a)
  surely (x.Return p v) = true
  surely _ = false

  pub surely_row : {n : _} → Row_of-Stmt n → Bool
  surely_row end_of-Stmt = false
  surely_row (more_of-Stmt a others) = last_of others (surely a) (surely_row others)

-- the statements of a body end in one that surely returns
unfoldable pub surely_all : List Stmt → Bool
surely_all [] = false
surely_all (a ∷ others) = last_or others (surely a) (surely_all others)

-- a function with a result surely returns
abbrev pub has_ending : FunctionDecl → Bool
has_ending f = is_none f.result || surely_all f.body.stmts
