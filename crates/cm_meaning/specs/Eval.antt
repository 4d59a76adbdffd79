-- What expressions give: docs/LANGUAGE.md, "Evaluation". A path stands for what it finds where it is written.
use Rattle.std.specs.Prelude.{ℕ, Bool, true, not, if◌then◌else◌, List, [], ◌∷◌, ◌++◌, Option, Some, None}
use Rattle.cm_tree.specs.declared.operator.Binary.{Binary}
use Rattle.cm_tree.specs.declared.operator.Binary.TheVariants as o
use Rattle.cm_tree.specs.declared.expr.Expr.{Expr, Row_of-Expr, end_of-Expr, more_of-Expr}
use Rattle.cm_tree.specs.declared.expr.Expr.TheVariants as e
use Rattle.cm_meaning.specs.Declared.{Named, Constant, Endpoint, ValueParameter, Declared, is_function}
use Rattle.cm_meaning.specs.Scopes.{Around, find}
use Rattle.cm_meaning.specs.Types.{CmType, int32, int64, Number}
use Rattle.cm_meaning.specs.Conversions.{Valued, chosen, operate, operate_alone}
use Rattle.cm_meaning.specs.Constants.{value_in, type_in, arrays, eval_row as constant_row, base_type}
use Rattle.cm_meaning.specs.TypeOf.{Knowledge, both_types, type_of}
use Rattle.cm_meaning.specs.Stores.{or_missing, missing, number_in, is_true, truth_value, as_type, made_of, held_at, Picked, OfField, OfElement, part_of}
use Rattle.cm_meaning.specs.World.{World, store_at}
use Rattle.cm_meaning.specs.Acts.{Act, Done, andthen, gives, look}

-- What code stands in and is tied to: the number of its leaf, what is known in its instance, what an input is at a moment, a
-- call of a function, and a write to an output.
pub record Hooks : Type 0 where
  pub leaf : ℕ
  pub known : Knowledge
  pub input : Declared → World → Valued
  pub call : Declared → List Valued → Act Valued
  pub write : Declared → Valued → Act Done

-- ---- names

-- constants and value parameters have one value; inputs are read; all else is looked up in the store
abbrev pub name_value : Hooks → Declared → World → Valued
name_value h x w = by x.named where
  by : Named → Valued
  by (Constant value) = or_missing (value_in (Some (h.known.look x)))
  by (ValueParameter i ty) = or_missing (value_in (Some (h.known.look x)))
  by (Endpoint flow kind ty keys) = h.input x w
  by _ = or_missing (held_at x.word.place (store_at h.leaf w))

-- ---- selections

-- what a selection begins with: a name, which is read last, or a value
pub data Root : Type 0 where
  OfName : (declared : Declared) → Root
  OfValue : (value : Valued) → Root

pub record Selection : Type 0 where
  pub root : Root
  pub steps : List Picked

abbrev pub whole : Root → Selection
whole root = record { root = root; steps = [] }

abbrev pub further : Picked → Selection → Selection
further p s = record s { steps = s.steps ++ p ∷ [] }

abbrev pub made : Valued → Selection
made v = whole (OfValue v)

abbrev pub named : Option Declared → Selection
named None = made missing
named (Some x) = whole (OfName x)

abbrev pub root_value : Hooks → Root → World → Valued
root_value h (OfName x) w = name_value h x w
root_value h (OfValue v) w = v

-- the value of what is selected
abbrev pub read : Hooks → Act Selection → Act Valued
read h found = andthen found (λ s. look (λ w. part_of s.steps (root_value h s.root w)))

-- ---- operators and calls

-- `&&` needs its right side where the left one is true, and `||` where it is false
abbrev pub needs_right : Binary → Bool → Bool
needs_right o.And left = left
needs_right o.Or left = not left
needs_right _ left = true

-- the type of both arms of `?:`
abbrev pub arms_type : Around → Knowledge → Expr → Expr → Option CmType
arms_type r k a b = both_types chosen (type_of r k a) (type_of r k b)

-- a function is called, or a value of a type is made
abbrev pub called : Hooks → Option Declared → List Valued → Act Valued
called h None values = gives missing
called h (Some x) values = if is_function x.named then h.call x values else gives (made_of (type_in (Some (h.known.look x))) values)

-- ---- expressions

-- Operands go from left to right. Fields and indices on a name are one selection: its indices are evaluated from left to
-- right, and only then is the selected part of the name read.
unfoldable mutual
  pub found : Expr → Around → Hooks → Act Selection
  found (e.Number p z wide) r h = gives (made (record { ty = if wide then int64 else int32; value = Number z }))
  found (e.Truth p t) r h = gives (made (truth_value t))
  found (e.Name q) r h = gives (named (find r q))
  found (e.Call' q sh args) r h = andthen (values_row args r h) (λ values. andthen (called h (find r q) values) (λ v. gives (made v)))
  found (e.Construct' t sh sizes i args) r h =
      andthen (values_row args r h) (λ values. gives (made (made_of (arrays (base_type r h.known.look t) (constant_row r h.known.look sizes)) values)))
  found (e.Paren' p sh (more_of-Expr a end_of-Expr)) r h = found a r h
  found (e.Field' p sh (more_of-Expr a end_of-Expr) w) r h = andthen (found a r h) (λ s. gives (further (OfField w.text) s))
  found (e.Index' p sh (more_of-Expr a end_of-Expr) i (more_of-Expr c end_of-Expr)) r h =
      andthen (found a r h) (λ s. andthen (read h (found c r h)) (λ v. gives (further (OfElement (number_in v)) s)))
  found (e.Unary' p op sh (more_of-Expr a end_of-Expr)) r h = andthen (read h (found a r h)) (λ v. gives (made (or_missing (operate_alone op v))))
  found (e.Binary' p op sh (more_of-Expr a end_of-Expr) i (more_of-Expr c end_of-Expr)) r h =
      andthen (read h (found a r h))
      (λ v.
      if needs_right op (is_true v)
      then andthen (read h (found c r h)) (λ u. gives (made (or_missing (operate op v u))))
      else gives (made (truth_value (is_true v))))
  found (e.Choice' p sh (more_of-Expr t end_of-Expr) i (more_of-Expr a end_of-Expr) j (more_of-Expr c end_of-Expr)) r h =
      andthen (read h (found t r h))
      (λ v.
      andthen (if is_true v then read h (found a r h) else read h (found c r h))
      (λ u. gives (made (as_type (arms_type r h.known a c) u))))

  pub values_row : {n : _} → Row_of-Expr n → Around → Hooks → Act (List Valued)
  values_row end_of-Expr r h = gives []
  values_row (more_of-Expr a others) r h = andthen (read h (found a r h)) (λ v. andthen (values_row others r h) (λ values. gives (v ∷ values)))

-- the value of an expression
abbrev pub eval : Expr → Around → Hooks → Act Valued
eval a r h = read h (found a r h)

abbrev pub eval_all : List Expr → Around → Hooks → Act (List Valued)
eval_all [] r h = gives []
eval_all (a ∷ all) r h = andthen (eval a r h) (λ v. andthen (eval_all all r h) (λ values. gives (v ∷ values)))

abbrev pub holds : Expr → Around → Hooks → Act Bool
holds a r h = andthen (eval a r h) (λ v. gives (is_true v))
