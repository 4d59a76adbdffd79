-- What statements do that neither branch nor pause: docs/LANGUAGE.md, "Statements". Locals are declared, places are assigned,
-- and functions are called.
use Rattle.std.specs.Prelude.{List, [], ◌∷◌, Option, Some, None, unwrap_or, pos}
use Rattle.cm_base.specs.declared.place.Place.{Place}
use Rattle.cm_tree.specs.declared.operator.Assign.{Assign}
use Rattle.cm_tree.specs.declared.operator.Assign.TheVariants as a
use Rattle.cm_tree.specs.declared.operator.Binary.{Binary}
use Rattle.cm_tree.specs.declared.operator.Binary.TheVariants as o
use Rattle.cm_tree.specs.declared.operator.Change.{Change}
use Rattle.cm_tree.specs.declared.operator.Change.TheVariants as c
use Rattle.cm_tree.specs.declared.expr.Expr.{Expr}
use Rattle.cm_tree.specs.declared.type_expr.TypeExpr.{TypeExpr}
use Rattle.cm_tree.specs.declared.simple.Init.{Init}
use Rattle.cm_tree.specs.declared.simple.Var.{Var}
use Rattle.cm_tree.specs.declared.simple.Local.{Local}
use Rattle.cm_tree.specs.declared.simple.Local.TheVariants as l
use Rattle.cm_tree.specs.declared.simple.Step.{Step}
use Rattle.cm_tree.specs.declared.simple.Step.TheVariants as st
use Rattle.cm_tree.specs.declared.simple.Target.{Target}
use Rattle.cm_tree.specs.declared.simple.Simple.{Simple}
use Rattle.cm_tree.specs.declared.simple.Simple.TheVariants as i
use Rattle.cm_tree.specs.declared.stmt.Start.{Start}
use Rattle.cm_tree.specs.declared.stmt.Start.TheVariants as f
use Rattle.cm_meaning.specs.Declared.{Home, Declared}
use Rattle.cm_meaning.specs.Scopes.{Around, declare, local_constant, inferred_local, typed_local, find, find_word}
use Rattle.cm_meaning.specs.Types.{CmType, int32, Value, Number}
use Rattle.cm_meaning.specs.Conversions.{Valued, cast, operate}
use Rattle.cm_meaning.specs.Constants.{type_of_expr}
use Rattle.cm_meaning.specs.Stores.{or_missing, number_in, zero_in, as_type, Store, with_cell, changed, Picked, OfField, OfElement, assigned}
use Rattle.cm_meaning.specs.World.{store_at, with_store}
use Rattle.cm_meaning.specs.Acts.{Act, Done, done, andthen, after, gives, change, quiet}
use Rattle.cm_meaning.specs.Eval.{Hooks, called, eval, eval_all}

-- ---- stores

abbrev pub change_store : Hooks → (Store → Store) → Act Done
change_store h step = change (λ w. with_store h.leaf (step (store_at h.leaf w)) w)

-- a declaration of the innermost scope
abbrev pub put : Hooks → Place → Valued → Act Done
put h p v = change_store h (with_cell p v)

-- ---- locals

-- each local is visible to those after it
abbrev pub put_inits : (Home → Init → Declared) → List Init → Around → Hooks → Act Done
put_inits named [] r h = gives done
put_inits named (a ∷ all) r h = andthen (eval a.value r h) (λ v. after (put h a.name.place v) (put_inits named all (declare r (named r.home a)) h))

-- an initial value, or else zero, of a type
abbrev pub first_value : Option Expr → Option CmType → Around → Hooks → Act Valued
first_value None t r h = gives (zero_in t)
first_value (Some a) t r h = andthen (eval a r h) (λ v. gives (as_type t v))

-- the type is written in front of them all
abbrev pub put_vars : TypeExpr → Option CmType → List Var → Around → Hooks → Act Done
put_vars ty t [] r h = gives done
put_vars ty t (a ∷ all) r h =
    andthen (first_value a.value t r h) (λ v. after (put h a.name.place v) (put_vars ty t all (declare r (typed_local r.home ty a)) h))

abbrev pub put_locals : Local → Around → Hooks → Act Done
put_locals (l.Let p inits) r h = put_inits local_constant inits r h
put_locals (l.Var p inits) r h = put_inits inferred_local inits r h
put_locals (l.Typed ty vars) r h = put_vars ty (type_of_expr r h.known.look ty) vars r h

-- ---- assignments

-- the indices of what is assigned, from left to right
abbrev pub target_steps : List Step → Around → Hooks → Act (List Picked)
target_steps [] r h = gives []
target_steps (st.Field w ∷ steps) r h = andthen (target_steps steps r h) (λ others. gives (OfField w.text ∷ others))
target_steps (st.Index p a ∷ steps) r h = andthen (eval a r h) (λ v. andthen (target_steps steps r h) (λ others. gives (OfElement (number_in v) ∷ others)))

-- the operator in front of the `=`
abbrev pub operator : Assign → Option Binary
operator a.Set = None
operator a.Add = Some o.Add
operator a.Subtract = Some o.Subtract
operator a.Multiply = Some o.Multiply
operator a.Divide = Some o.Divide
operator a.Remainder = Some o.Remainder
operator a.BitAnd = Some o.BitAnd
operator a.BitOr = Some o.BitOr
operator a.BitXor = Some o.BitXor
operator a.ShiftLeft = Some o.ShiftLeft
operator a.ShiftRight = Some o.ShiftRight
operator a.ShiftRightZero = Some o.ShiftRightZero

-- what is stored: a value, converted; or what the operator gives for the old value and this one, cast
abbrev pub stored : Option Binary → Valued → CmType → Value → Value
stored None right t old = (as_type (Some t) right).value
stored (Some op) right t old = unwrap_or (cast t (or_missing (operate op (record { ty = t; value = old }) right)).value) old

-- the old value is read last
abbrev pub store : Option Declared → List Picked → Option Binary → Valued → Hooks → Act Done
store None steps op right h = gives done
store (Some x) steps op right h = change_store h (changed x.word.place (assigned steps (stored op right)))

abbrev pub one : Valued
one = record { ty = int32; value = Number (pos 1) }

-- `++` adds 1 and `--` subtracts it
abbrev pub count : Target → Change → Around → Hooks → Act Done
count t c.Increase r h = andthen (target_steps t.steps r h) (λ steps. store (find_word r t.name) steps (Some o.Add) one h)
count t c.Decrease r h = andthen (target_steps t.steps r h) (λ steps. store (find_word r t.name) steps (Some o.Subtract) one h)

abbrev pub perform : Simple → Around → Hooks → Act Done
perform (i.Assign t op a) r h =
    andthen (target_steps t.steps r h) (λ steps. andthen (eval a r h) (λ right. store (find_word r t.name) steps (operator op) right h))
perform (i.After t change) r h = count t change r h
perform (i.Before p change t) r h = count t change r h
perform (i.Call q args) r h = andthen (eval_all args r h) (λ values. quiet (called h (find r q) values))

-- the start of a `for`
abbrev pub start : Option Start → Around → Hooks → Act Done
start None r h = gives done
start (Some (f.Local a)) r h = put_locals a r h
start (Some (f.Simple a)) r h = perform a r h
