-- What typed code calls: functions that its names allow.
use Rattle.std.proofs.Common.{◌≡◌, ℕ, true}
use Rattle.cm_core.specs.Code.{Expr, Number, Truth, Variable, Input, Constant, Field, Index, Call, Construct, Convert, Unary, Binary, Logic, Choose, Exprs, Last, With, Test, Always, Holds, Down, Next, Stmt, Nothing, Empty, Block, Locals, Cleared, Started, Assign, Update, Count, Perform, If, Loop, Times, While, Each, For, Break, Continue, Return, Answer, Advance, Write, Stmts, End, More}
use Rattle.cm_core.specs.Typing.{Names, IsTyped, AreTyped}
use Rattle.cm_core.specs.Bodies.{Standing, IsTest, IsStmt, AreStmts}
use Rattle.cm_core.specs.Uses.{Calls, CallsAll, CallsTest, Uses, UsesAll}

module _ (call write : ℕ → Type 0) (writes : (e : ℕ) → write e) where
  mutual
    typed_calls : (n : Names) → ((f : ℕ) → n.calls f ≡ true → call f) → (e : Expr) → IsTyped n e → Calls call e
    typed_calls n ok (Number value wide) t = tt
    typed_calls n ok (Truth value) t = tt
    typed_calls n ok (Variable x) t = tt
    typed_calls n ok (Input e) t = tt
    typed_calls n ok (Constant c) t = tt
    typed_calls n ok (Field a k) t = typed_calls n ok a t.0
    typed_calls n ok (Index a i) t = (typed_calls n ok a t.0, typed_calls n ok i t.2)
    typed_calls n ok (Call f es) t = (typed_all n ok es t.0, ok f t.1.0)
    typed_calls n ok (Construct ty es) t = typed_all n ok es t.1
    typed_calls n ok (Convert kind a) t = typed_calls n ok a t.0
    typed_calls n ok (Unary op kind a) t = typed_calls n ok a t.0
    typed_calls n ok (Binary op kind a b) t = (typed_calls n ok a t.0, typed_calls n ok b t.1)
    typed_calls n ok (Logic op a b) t = (typed_calls n ok a t.0, typed_calls n ok b t.1)
    typed_calls n ok (Choose c a b) t = (typed_calls n ok c t.0, typed_calls n ok a t.1, typed_calls n ok b t.2)

    typed_all : (n : Names) → ((f : ℕ) → n.calls f ≡ true → call f) → (es : Exprs) → AreTyped n es → CallsAll call es
    typed_all n ok Last t = tt
    typed_all n ok (With e es) t = (typed_calls n ok e t.0, typed_all n ok es t.1)

  typed_test : (p : Standing) → ((f : ℕ) → p.names.calls f ≡ true → call f) → (t : Test) → IsTest p t → CallsTest call t
  typed_test p ok Always t = tt
  typed_test p ok (Holds e) t = typed_calls p.names ok e t.0
  typed_test p ok (Down x) t = tt
  typed_test p ok (Next x) t = tt

  mutual
    pub typed_uses : (p : Standing) → ((f : ℕ) → p.names.calls f ≡ true → call f) → (s : Stmt) → IsStmt p s → Uses call write s
    typed_uses p ok Nothing t = tt
    typed_uses p ok Empty t = tt
    typed_uses p ok (Block ss) t = typed_uses_all p ok ss t
    typed_uses p ok (Locals ss) t = typed_uses_all p ok ss t.1
    typed_uses p ok (Cleared x) t = tt
    typed_uses p ok (Started x e) t = typed_calls p.names ok e t.1.0
    typed_uses p ok (Assign target e) t = (typed_calls p.names ok target t.0.1, typed_calls p.names ok e t.1.0)
    typed_uses p ok (Update target op kind e) t = (typed_calls p.names ok target t.0.1, typed_calls p.names ok e t.1)
    typed_uses p ok (Count op target) t = typed_calls p.names ok target t.0.1
    typed_uses p ok (Perform f es) t = (typed_all p.names ok es t.0, ok f t.1.0)
    typed_uses p ok (If c a b) t = (typed_calls p.names ok c t.0.0, typed_uses p ok a t.1, typed_uses p ok b t.2)
    typed_uses p ok (Loop s) t = typed_uses _ ok s t
    typed_uses p ok (Times x c s) t = (typed_calls p.names ok c t.2.0, typed_uses _ ok s t.3)
    typed_uses p ok (While c s) t = (typed_calls p.names ok c t.0.0, typed_uses _ ok s t.1)
    typed_uses p ok (Each x s) t = typed_uses _ ok s t.2
    typed_uses p ok (For start c step s) t = (typed_uses p ok start t.2, typed_test p ok c t.3, typed_uses p ok step t.4, typed_uses _ ok s t.5)
    typed_uses p ok Break t = tt
    typed_uses p ok Continue t = tt
    typed_uses p ok Return t = tt
    typed_uses p ok (Answer e) t = typed_calls p.names ok e t.0
    typed_uses p ok Advance t = tt
    typed_uses p ok (Write e value) t = (typed_calls p.names ok value t.1, writes e)

    typed_uses_all : (p : Standing) → ((f : ℕ) → p.names.calls f ≡ true → call f) → (ss : Stmts) → AreStmts p ss → UsesAll call write ss
    typed_uses_all p ok End t = tt
    typed_uses_all p ok (More s ss) t = (typed_uses p ok s t.0, typed_uses_all p ok ss t.1)
