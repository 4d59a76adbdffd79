-- What expressions give: docs/LANGUAGE.md, "Evaluation".
use Rattle.std.specs.Prelude.{ℕ, ◌+◌, ◌*◌, Bool, if◌then◌else◌, List, [], ◌∷◌, map, flat_map, replicate, slice_index_or, ℤ, pos}
use Rattle.cm_number.specs.Conversion.{floor_modulus, to_bool}
use Rattle.cm_scalar.specs.Scalars.{converted}
use Rattle.cm_core.specs.declared.core_type.BaseType.{BaseType}
use Rattle.cm_core.specs.declared.core_type.BaseType.TheVariants as base
use Rattle.cm_core.specs.declared.core_type.CoreType.{CoreType}
use Rattle.cm_core.specs.declared.core_type.StructType.{StructType}
use Rattle.cm_core.specs.declared.unit.Unit.{Unit as CoreUnit}
use Rattle.cm_core.specs.declared.unit.Constant.{Constant as CoreConstant}
use Rattle.cm_core.specs.Code.{Expr, Number, Truth, Variable, Input, Constant, Field, Index, Call, Construct, Convert, Unary, Binary, Logic, Choose, Exprs, Last, With}
use Rattle.cm_core.specs.Types.{count_of, zero_of, field_start, element_type, length_of, type_of}
use Rattle.cm_core.specs.Operators.{truth, unary, binary, needs_right}
use Rattle.cm_core.specs.World.{World, variable_at, part_at}
use Rattle.cm_core.specs.Acts.{Given, Gives, Short, Act, Done, done, andthen, gives, look}

-- What code stands in and is tied to: the structs of the program, the unit, the number of its leaf, what an input is at a
-- moment, a call, and a write.
pub record Hooks : Type 0 where
  pub structs : List StructType
  pub unit : CoreUnit
  pub leaf : ℕ
  pub input : ℕ → World → List ℤ
  pub call : ℕ → List (List ℤ) → Act (List ℤ)
  pub write : ℕ → List ℤ → Act Done

-- the number that a value of one scalar is
abbrev pub number_of : List ℤ → ℤ
number_of value = slice_index_or value 0 (pos 0)

abbrev pub constant_value : CoreUnit → ℕ → List ℤ
constant_value unit c = slice_index_or (map (λ (c : CoreConstant). c.value) unit.constants) c []

-- values one after another
abbrev pub joined : List (List ℤ) → List ℤ
joined values = flat_map (λ v. v) values

-- one value for all elements, or one for each
abbrev pub array_of : ℕ → List (List ℤ) → List ℤ
array_of n (value ∷ []) = joined (replicate n value)
array_of n values = joined values

abbrev pub made_by : BaseType → List ℕ → List (List ℤ) → List ℤ
made_by (base.Scalar kind) [] values = map (λ value. converted kind (number_of value)) values
made_by (base.Struct s) [] values = joined values
made_by b (n ∷ ns) values = array_of n values

-- a cast or constructor: zero without a value, the cast of a number, a struct of its fields, or an array
abbrev pub constructed : List StructType → CoreType → List (List ℤ) → List ℤ
constructed structs ty [] = zero_of structs ty
constructed structs ty (value ∷ values) = made_by ty.base ty.lengths (value ∷ values)

-- what a selection begins with: a name, which is read last, or a value
pub data Root : Type 0 where
  OfVariable : (variable : ℕ) → Root
  OfInput : (end : ℕ) → Root
  OfConstant : (constant : ℕ) → Root
  OfValue : (value : List ℤ) → Root

-- a part of it, from this scalar on
pub record Part : Type 0 where
  pub root : Root
  pub start : ℕ

abbrev pub whole : Root → Part
whole root = record { root = root; start = 0 }

abbrev pub further : ℕ → Part → Part
further by part = record part { start = part.start + by }

abbrev pub root_value : Hooks → Root → World → List ℤ
root_value h (OfVariable x) w = variable_at h.leaf x w
root_value h (OfInput e) w = h.input e w
root_value h (OfConstant c) w = constant_value h.unit c
root_value h (OfValue value) w = value

abbrev pub type_in : Hooks → Expr → CoreType
type_in h e = type_of h.structs h.unit e

abbrev pub count_in : Hooks → CoreType → ℕ
count_in h ty = count_of h.structs ty

-- the value of an expression that a part is found for
abbrev pub read : Hooks → Expr → Act Part → Act (List ℤ)
read h e found = andthen found (λ part. look (λ w. part_at part.start (count_in h (type_in h e)) (root_value h part.root w)))

abbrev pub made : List ℤ → Part
made value = whole (OfValue value)

abbrev pub number : ℤ → Part
number z = made (z ∷ [])

-- where the element of this index begins, which is reduced by floor modulus
abbrev pub element_start : Hooks → CoreType → ℤ → ℕ
element_start h ty z = floor_modulus z (length_of ty) * count_in h (element_type ty)

-- Operands go from left to right. Fields and indices on a name are one selection: its indices are evaluated from left to
-- right, and only then is the selected part of the name read.
abbrev mutual
  pub found : Expr → Hooks → Act Part
  found (Number value wide) h = gives (number value)
  found (Truth value) h = gives (number (truth value))
  found (Variable x) h = gives (whole (OfVariable x))
  found (Input e) h = gives (whole (OfInput e))
  found (Constant c) h = gives (whole (OfConstant c))
  found (Field a k) h = andthen (found a h) (λ part. gives (further (field_start h.structs (type_in h a) k) part))
  found (Index a i) h =
      andthen (found a h) (λ part. andthen (read h i (found i h)) (λ at. gives (further (element_start h (type_in h a) (number_of at)) part)))
  found (Call f es) h = andthen (eval_all es h) (λ values. andthen (h.call f values) (λ value. gives (made value)))
  found (Construct ty es) h = andthen (eval_all es h) (λ values. gives (made (constructed h.structs ty values)))
  found (Convert kind a) h = andthen (read h a (found a h)) (λ x. gives (number (converted kind (number_of x))))
  found (Unary op kind a) h = andthen (read h a (found a h)) (λ x. gives (number (unary op kind (number_of x))))
  found (Binary op kind a b) h =
      andthen (read h a (found a h)) (λ x. andthen (read h b (found b h)) (λ y. gives (number (binary op kind (number_of x) (number_of y)))))
  found (Logic op a b) h =
      andthen (read h a (found a h))
      (λ x. if needs_right op (to_bool (number_of x)) then andthen (read h b (found b h)) (λ y. gives (made y)) else gives (made x))
  found (Choose c a b) h =
      andthen (read h c (found c h))
      (λ x. if to_bool (number_of x) then andthen (read h a (found a h)) (λ y. gives (made y)) else andthen (read h b (found b h)) (λ y. gives (made y)))

  pub eval_all : Exprs → Hooks → Act (List (List ℤ))
  eval_all Last h = gives []
  eval_all (With e es) h = andthen (read h e (found e h)) (λ value. andthen (eval_all es h) (λ values. gives (value ∷ values)))

-- the value of an expression
abbrev pub eval : Expr → Hooks → Act (List ℤ)
eval e h = read h e (found e h)

abbrev pub holds : Expr → Hooks → Act Bool
holds e h = andthen (eval e h) (λ value. gives (to_bool (number_of value)))

-- ---- constants

abbrev pub blank : World
blank = record { leaves = []; current = []; streams = []; history = []; frame = 0; trace = [] }

-- code that reads no input, calls nothing and writes nothing
abbrev pub still : List StructType → CoreUnit → Hooks
still structs unit =
    record { structs = structs; unit = unit; leaf = 0; input = λ e w. []; call = λ f values. gives []; write = λ e value. gives done }

abbrev pub value_given : Given (List ℤ) → List ℤ
value_given (Gives value world turns) = value
value_given (Short world) = []

-- a constant needs no world and no turn
abbrev pub constant_of : List StructType → CoreUnit → Expr → List ℤ
constant_of structs unit e = value_given (eval e (still structs unit) blank 0)
