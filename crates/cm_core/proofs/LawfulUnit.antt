-- A whole unit that is lawful.
use Rattle.std.proofs.Common.{◌≡◌, ℕ, zero, suc, All, false, [], ◌∷◌, Some, None, refl, ap, subst, inl, arith, pos}
use Rattle.std.specs.Prelude.{nat_eq, is_some, unwrap_or, slice_get, FitsSigned}
use Rattle.std.specs.Int.{w32}
use Rattle.std.specs.List.{IsDistinct}
use Rattle.std.proofs.lemmas.Bool.{false≢true}
use Rattle.cm_base.specs.declared.host.Flow.{Flow}
use Rattle.cm_base.specs.declared.host.Flow.TheVariants as flows
use Rattle.cm_base.specs.declared.host.Kind.TheVariants as carries
use Rattle.cm_base.specs.declared.host.Scalar.TheVariants as kinds
use Rattle.cm_core.specs.declared.operator.BinaryOp.TheVariants.{Add, Multiply}
use Rattle.cm_core.specs.declared.expr.CoreExpr.TheVariants as e
use Rattle.cm_core.specs.declared.expr.CoreExpr.TheBlock.{hidden-the_row-CoreExpr-0, hidden-the_row-CoreExpr-1}
use Rattle.cm_core.specs.declared.stmt.CoreStmt.TheVariants as s
use Rattle.cm_core.specs.declared.stmt.CoreStmt.TheBlock.{hidden-the_row-CoreStmt-0, hidden-the_row-CoreStmt-1}
use Rattle.cm_core.specs.declared.unit.Unit.{Unit as CoreUnit}
use Rattle.cm_core.specs.declared.core_type.CoreType.{CoreType}
use Rattle.cm_core.specs.declared.unit.Var.{Var}
use Rattle.cm_core.specs.declared.unit.Function.{Function}
use Rattle.cm_core.specs.declared.unit.Handler.{Handler}
use Rattle.cm_core.specs.declared.unit.Home.TheVariants as home
use denote.Hole.Carrier.{hidden}
use Rattle.cm_core.specs.Code.{Variable, Input, Binary, expr_of, expr_row, stmt_of, stmt_row}
use Rattle.cm_core.specs.Typing.{IsType, IsTyped}
use Rattle.cm_core.specs.Lawful.{names_in, HasType, IsEnd, IsVar, IsLocal, IsFunction, IsHandler, IsUnit}
use Rattle.cm_core.proofs.Build.{end, int, number, loop, local, var}

-- a processor with a stream input and output, an event input, a state with an initial value, a function and a handler:
-- int s = 3; int twice (int x) { return x * 2; } event e (int v) { s = v; }
-- void main() { loop { out <- twice (in + s); advance(); } }
abbrev twice : Function
twice = record { params = var kinds.Int32 None ∷ []; first = 2; result = Some int; body = s.Block (s.Return (Some (e.Binary Multiply kinds.Int32 (e.Variable 2) (number 2))) ∷ []) }

abbrev hears : Handler
hears = record { end = 2; param = var kinds.Int32 None; first = 1; body = s.Block (s.Assign (e.Variable 0) (e.Variable 1) ∷ []) }

abbrev whole_unit : CoreUnit
whole_unit =
    record {
      ends = end flows.Input carries.Stream kinds.Int32 ∷ end flows.Output carries.Stream kinds.Int32 ∷ end flows.Input carries.Event kinds.Int32 ∷ [];
      state = var kinds.Int32 (Some (number 3)) ∷ [];
      locals = local kinds.Int32 (home.Handler 0) ∷ local kinds.Int32 (home.Function 0) ∷ [];
      constants = [];
      functions = twice ∷ [];
      init = None;
      main = Some (s.Block (loop (s.Write 1 (e.Call 0 (e.Binary Add kinds.Int32 (e.Input 0) (e.Variable 0) ∷ [])) ∷ s.Advance ∷ []) ∷ []));
      handlers = hears ∷ [];
      latency = 0;
      factor = 1;
    }

small : FitsSigned w32 (pos 3)
small = record { sfits = omega arith }

small_two : FitsSigned w32 (pos 2)
small_two = record { sfits = omega arith }

int_typed : HasType [] int (kinds.Int32 ∷ [])
int_typed = (record { base = tt; lengths = λ k d le. absurd (omega arith); few = omega arith }, refl)

streams : (flow : Flow) → IsEnd [] (end flow carries.Stream kinds.Int32)
streams flow = record { type = int_typed; stream = λ is. (kinds.Int32, refl, inl refl) }

events : IsEnd [] (end flows.Input carries.Event kinds.Int32)
events = record { type = int_typed; stream = λ is. (kinds.Int32, refl, inl refl) }

ends_typed : All (IsEnd []) whole_unit.ends
ends_typed zero d le = streams flows.Input
ends_typed (suc zero) d le = streams flows.Output
ends_typed (suc (suc zero)) d le = events
ends_typed (suc (suc (suc k))) d le = absurd (omega arith)

state_typed : All (IsVar [] whole_unit) whole_unit.state
unfolding hidden-the_row-CoreStmt-0 hidden-the_row-CoreStmt-1 hidden-the_row-CoreExpr-0 hidden-the_row-CoreExpr-1 hidden expr_of expr_row stmt_of stmt_row
state_typed zero d le = record { type = int_typed; first = record { typed = small; type = refl; constant = refl; shallow = omega arith } }
state_typed (suc k) d le = absurd (omega arith)

locals_typed : All (IsLocal [] whole_unit) whole_unit.locals
locals_typed zero d le = record { type = int_typed; home = omega arith }
locals_typed (suc zero) d le = record { type = int_typed; home = omega arith }
locals_typed (suc (suc k)) d le = absurd (omega arith)

param_typed : All (λ (p : Var). HasType [] p.ty p.shape) (var kinds.Int32 None ∷ [])
param_typed zero d le = int_typed
param_typed (suc k) d le = absurd (omega arith)

result_typed : (ty : CoreType) → Some int ≡ Some ty → IsType [] ty
result_typed ty is = subst (IsType []) (ap (λ o. unwrap_or o int) is) int_typed.0

twice_typed : IsFunction [] whole_unit 0 twice
unfolding hidden-the_row-CoreStmt-0 hidden-the_row-CoreStmt-1 hidden-the_row-CoreExpr-0 hidden-the_row-CoreExpr-1 hidden expr_of expr_row stmt_of stmt_row
twice_typed =
    record {
      params = (omega arith, refl, refl, tt);
      types = param_typed;
      result = result_typed;
      body = record { whole = refl; typed = (((refl, small_two, inl (inl refl), refl, inl refl, λ is. absurd (false≢true is)), refl), tt); shallow = omega arith };
      returns = refl;
    }

functions_typed : (f : ℕ) (function : Function) → slice_get whole_unit.functions f ≡ Some function → IsFunction [] whole_unit f function
functions_typed zero function at = subst (IsFunction [] whole_unit 0) (ap (λ o. unwrap_or o twice) at) twice_typed
functions_typed (suc f) function at = absurd (false≢true (ap is_some at))

hears_typed : IsHandler [] whole_unit 0 hears
unfolding hidden-the_row-CoreStmt-0 hidden-the_row-CoreStmt-1 hidden-the_row-CoreExpr-0 hidden-the_row-CoreExpr-1 hidden expr_of expr_row stmt_of stmt_row
hears_typed =
    record {
      end = end flows.Input carries.Event kinds.Int32;
      found = refl;
      flow = refl;
      kind = refl;
      param = (omega arith, refl, refl, tt);
      type = int_typed;
      taken = inl refl;
      body = record { whole = refl; typed = (((refl, refl), (refl, refl)), tt); shallow = omega arith };
    }

handlers_typed : (k : ℕ) (handler : Handler) → slice_get whole_unit.handlers k ≡ Some handler → IsHandler [] whole_unit k handler
handlers_typed zero handler at = subst (IsHandler [] whole_unit 0) (ap (λ o. unwrap_or o hears) at) hears_typed
handlers_typed (suc k) handler at = absurd (false≢true (ap is_some at))

one_handler : IsDistinct nat_eq (2 ∷ [])
unfolding IsDistinct
one_handler = (tt, tt)

sum_typed : IsTyped (names_in [] whole_unit home.Main 0) (Binary Add kinds.Int32 (Input 0) (Variable 0))
sum_typed = ((refl, refl), refl, inl (inl refl), refl, inl refl, λ is. absurd (false≢true is))

whole_typed : IsUnit [] whole_unit
unfolding hidden-the_row-CoreStmt-0 hidden-the_row-CoreStmt-1 hidden-the_row-CoreExpr-0 hidden-the_row-CoreExpr-1 hidden expr_of expr_row stmt_of stmt_row
whole_typed =
    record {
      ends = ends_typed;
      state = state_typed;
      locals = locals_typed;
      order = (omega arith, (omega arith, tt));
      constants = λ k d le. absurd (omega arith);
      functions = functions_typed;
      handlers = handlers_typed;
      once = one_handler;
      init = record { whole = refl; typed = tt; shallow = omega arith };
      silent = record { reached = λ f. false; first = tt; further = λ f function at r. absurd (false≢true r) };
      main =
          record {
            whole = refl;
            typed = (((refl, ((sum_typed, tt), (refl, refl), refl), (refl, refl)), (refl, tt)), tt);
            shallow = omega arith;
          };
      latency = omega arith;
      factor_least = omega arith;
      factor_most = omega arith;
    }
