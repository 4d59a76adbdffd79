-- The mains of lawful units are orderly.
use Rattle.std.proofs.Common.{◌≡◌, Bool, true, false, None, refl}
use Rattle.std.specs.Prelude.{◌&&◌}
use Rattle.cm_core.specs.Code.{Stmt, Nothing, Empty, Block, Locals, Cleared, Started, Assign, Update, Count, Perform, If, Loop, Times, While, Each, For, Break, Continue, Return, Answer, Advance, Write, Stmts, End, More, body_of}
use Rattle.cm_core.specs.declared.unit.Home.TheVariants as home
use Rattle.cm_core.specs.Lawful.{standing}
use Rattle.cm_core.specs.Bodies.{Standing, in_loop, is_simple, is_declared as is_local, AreDeclared, IsStmt, AreStmts}
use Rattle.advance_lowering.specs.Blocks.{is_declared, are_declared, goes_on, is_orderly, are_orderly}
use Rattle.advance_lowering.specs.Orderly.{LawfulMainsAreOrderly}

both : (a b : Bool) → a ≡ true → b ≡ true → (a && b) ≡ true
both true b p q = q
both false b p q = p

-- ---- declarations and the heads of loops

local_declared : (s : Stmt) → is_local s ≡ true → is_declared s ≡ true
local_declared (Cleared x) p = refl
local_declared (Started x e) p = refl
local_declared Nothing p = p
local_declared Empty p = p
local_declared (Block ss) p = p
local_declared (Locals ss) p = p
local_declared (Assign target e) p = p
local_declared (Update target op kind e) p = p
local_declared (Count op target) p = p
local_declared (Perform f es) p = p
local_declared (If c a b) p = p
local_declared (Loop s) p = p
local_declared (Times x c s) p = p
local_declared (While c s) p = p
local_declared (Each x s) p = p
local_declared (For start c step s) p = p
local_declared Break p = p
local_declared Continue p = p
local_declared Return p = p
local_declared (Answer e) p = p
local_declared Advance p = p
local_declared (Write n e) p = p

locals_declared : (ss : Stmts) → AreDeclared ss → are_declared ss ≡ true
locals_declared End p = refl
locals_declared (More s ss) p = both (is_declared s) (are_declared ss) (local_declared s p.0) (locals_declared ss p.1)

-- what may stand in the head of a `for` only hands on
simple_goes_on : (p : Standing) (s : Stmt) → is_simple s ≡ true → IsStmt p s → goes_on s ≡ true
simple_goes_on p (Locals ss) q t = locals_declared ss t.0
simple_goes_on p (Cleared x) q t = q
simple_goes_on p (Started x e) q t = q
simple_goes_on p Nothing q t = q
simple_goes_on p Empty q t = q
simple_goes_on p (Block ss) q t = q
simple_goes_on p (Assign target e) q t = q
simple_goes_on p (Update target op kind e) q t = q
simple_goes_on p (Count op target) q t = q
simple_goes_on p (Perform f es) q t = q
simple_goes_on p (If c a b) q t = q
simple_goes_on p (Loop s) q t = q
simple_goes_on p (Times x c s) q t = q
simple_goes_on p (While c s) q t = q
simple_goes_on p (Each x s) q t = q
simple_goes_on p (For start c step s) q t = q
simple_goes_on p Break q t = q
simple_goes_on p Continue q t = q
simple_goes_on p Return q t = q
simple_goes_on p (Answer e) q t = q
simple_goes_on p Advance q t = q
simple_goes_on p (Write n e) q t = q

-- ---- all statements

mutual
  pub typed_orderly : (p : Standing) (s : Stmt) → IsStmt p s → is_orderly s ≡ true
  typed_orderly p (Block ss) t = all_typed_orderly p ss t
  typed_orderly p (Locals ss) t = locals_declared ss t.0
  typed_orderly p (If c a b) t = both (is_orderly a) (is_orderly b) (typed_orderly p a t.1) (typed_orderly p b t.2)
  typed_orderly p (Loop s) t = typed_orderly (in_loop p) s t
  typed_orderly p (Times x c s) t = typed_orderly (in_loop p) s t.3
  typed_orderly p (While c s) t = typed_orderly (in_loop p) s t.1
  typed_orderly p (Each x s) t = typed_orderly (in_loop p) s t.2
  typed_orderly p (For start c step s) t =
      both (goes_on start) (goes_on step && is_orderly s) (simple_goes_on p start t.0 t.2)
      (both (goes_on step) (is_orderly s) (simple_goes_on p step t.1 t.4) (typed_orderly (in_loop p) s t.5))
  typed_orderly p (Cleared x) t = refl
  typed_orderly p (Started x e) t = refl
  typed_orderly p Nothing t = refl
  typed_orderly p Empty t = refl
  typed_orderly p (Assign target e) t = refl
  typed_orderly p (Update target op kind e) t = refl
  typed_orderly p (Count op target) t = refl
  typed_orderly p (Perform f es) t = refl
  typed_orderly p Break t = refl
  typed_orderly p Continue t = refl
  typed_orderly p Return t = refl
  typed_orderly p (Answer e) t = refl
  typed_orderly p Advance t = refl
  typed_orderly p (Write n e) t = refl

  pub all_typed_orderly : (p : Standing) (ss : Stmts) → AreStmts p ss → are_orderly ss ≡ true
  all_typed_orderly p End t = refl
  all_typed_orderly p (More s ss) t = both (is_orderly s) (are_orderly ss) (typed_orderly p s t.0) (all_typed_orderly p ss t.1)

-- for callers of `lower`, who know that a unit is lawful
pub lawful_orderly : LawfulMainsAreOrderly
lawful_orderly structs unit lawful = typed_orderly (standing structs unit home.Main 0 None) (body_of unit.main) lawful.main.typed
