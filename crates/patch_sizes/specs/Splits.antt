-- The split points of a `main`: docs/LANGUAGE.md, "Sizes".
use Rattle.std.specs.Prelude.{ℕ, ◌+◌, Bool, true, false, ◌||◌, List, [], ◌∷◌}
use Rattle.cm_tree.specs.declared.stmt.Stmt.{Stmt, Row_of-Stmt, end_of-Stmt, more_of-Stmt}
use Rattle.cm_tree.specs.declared.stmt.Stmt.TheVariants as x

-- whether a statement is or contains an `advance`
unfoldable mutual
  pub advances : Stmt → Bool
  advances (x.Block' p sh all) = any_advances all
  advances (x.If' p c sh (more_of-Stmt a end_of-Stmt)) = advances a
  advances (x.IfElse' p c sh (more_of-Stmt a end_of-Stmt) si (more_of-Stmt b end_of-Stmt)) = advances a || advances b
  advances (x.Loop' p c sh (more_of-Stmt a end_of-Stmt)) = advances a
  advances (x.While' p c sh (more_of-Stmt a end_of-Stmt)) = advances a
  advances (x.ForType' p ty w sh (more_of-Stmt a end_of-Stmt)) = advances a
  advances (x.For' p s c n sh (more_of-Stmt a end_of-Stmt)) = advances a
  advances (x.Advance p) = true
  advances _ = false

  pub any_advances : {n : _} → Row_of-Stmt n → Bool
  any_advances end_of-Stmt = false
  any_advances (more_of-Stmt a others) = advances a || any_advances others

abbrev pub counted : Bool → ℕ
counted true = 1
counted false = 0

-- the statements in a statement, itself among them, that are or contain an `advance`; blocks are statements
unfoldable mutual
  pub splits_in : Stmt → ℕ
  splits_in (x.Block' p sh all) = counted (any_advances all) + splits_among all
  splits_in (x.If' p c sh (more_of-Stmt a end_of-Stmt)) = counted (advances a) + splits_in a
  splits_in (x.IfElse' p c sh (more_of-Stmt a end_of-Stmt) si (more_of-Stmt b end_of-Stmt)) = counted (advances a || advances b) + splits_in a + splits_in b
  splits_in (x.Loop' p c sh (more_of-Stmt a end_of-Stmt)) = counted (advances a) + splits_in a
  splits_in (x.While' p c sh (more_of-Stmt a end_of-Stmt)) = counted (advances a) + splits_in a
  splits_in (x.ForType' p ty w sh (more_of-Stmt a end_of-Stmt)) = counted (advances a) + splits_in a
  splits_in (x.For' p s c n sh (more_of-Stmt a end_of-Stmt)) = counted (advances a) + splits_in a
  splits_in (x.Advance p) = 1
  splits_in _ = 0

  pub splits_among : {n : _} → Row_of-Stmt n → ℕ
  splits_among end_of-Stmt = 0
  splits_among (more_of-Stmt a others) = splits_in a + splits_among others

-- of the statements of a body; the block that is the body isn't counted
abbrev pub splits_of : List Stmt → ℕ
splits_of [] = 0
splits_of (a ∷ all) = splits_in a + splits_of all
