-- Where the variables of a processor and the parameters and locals of its bodies have their values: docs/LANGUAGE.md,
-- "Evaluation". A declaration is told by the place of its name.
use Rattle.std.specs.Prelude.{ℕ, zero, suc, ℤ, pos, Bool, if◌then◌else◌, List, [], ◌∷◌, Option, Some, None, is_some, option_map, unwrap_or, bytes_eq}
use Rattle.std.specs.Option.{option_or}
use Rattle.cm_base.specs.declared.place.Place.{Place}
use Rattle.cm_number.specs.Conversion.{floor_modulus, to_bool}
use Rattle.cm_meaning.specs.Types.{CmType, Array, Record, FieldTypes, Field, int32, bool, is_place, Value, Number, Truth, Many, Values, NoValues, Then, zero_of, number_of}
use Rattle.cm_meaning.specs.Conversions.{Valued, fitted, with_type}
use Rattle.cm_meaning.specs.Constants.{constructed, field_of, element_in}

-- ---- values

-- what stands where a value is missing, which it is nowhere in a patch without a fault
abbrev pub missing : Valued
missing = record { ty = int32; value = Number (pos 0) }

abbrev pub or_missing : Option Valued → Valued
or_missing v = unwrap_or v missing

abbrev pub number_in : Valued → ℤ
number_in v = unwrap_or (number_of v.value) (pos 0)

abbrev pub is_true : Valued → Bool
is_true v = to_bool (number_in v)

abbrev pub truth_value : Bool → Valued
truth_value b = record { ty = bool; value = Truth b }

-- the zero of a type
abbrev pub zero_in : Option CmType → Valued
zero_in t = or_missing (option_map (λ (ty : CmType). record { ty = ty; value = zero_of ty }) t)

-- a value where one of a type is needed: it itself, or what it converts to
abbrev pub as_type : Option CmType → Valued → Valued
as_type None v = v
as_type (Some t) v = unwrap_or (with_type t (fitted t v)) v

-- a cast or constructor
abbrev pub made_of : Option CmType → List Valued → Valued
made_of None values = missing
made_of (Some t) values = or_missing (with_type t (constructed t values))

-- ---- stores

pub record Cell : Type 0 where
  pub place : Place
  pub held : Valued

-- a finite map from declarations to values
abbrev pub Scope : Type 0
Scope = List Cell

-- the scopes, innermost first; the outermost one is the state of the processor
abbrev pub Store : Type 0
Store = List Scope

abbrev pub cell : Place → Valued → Cell
cell place v = record { place = place; held = v }

abbrev pub held_in : Place → Scope → Option Valued
held_in p [] = None
held_in p (c ∷ scope) = if is_place c.place p then Some c.held else held_in p scope

-- the value of a declaration, from the innermost scope outward
abbrev pub held_at : Place → Store → Option Valued
held_at p [] = None
held_at p (scope ∷ outer) = option_or (held_in p scope) (held_at p outer)

-- a declaration in the innermost scope, with its value
abbrev pub with_cell : Place → Valued → Store → Store
with_cell p v [] = (cell p v ∷ []) ∷ []
with_cell p v (scope ∷ outer) = (cell p v ∷ scope) ∷ outer

abbrev pub changed_in : Place → (Valued → Valued) → Scope → Scope
changed_in p f [] = []
changed_in p f (c ∷ scope) = if is_place c.place p then record c { held = f c.held } ∷ scope else c ∷ changed_in p f scope

-- the value of a declaration becomes another one, where it stands
abbrev pub changed : Place → (Valued → Valued) → Store → Store
changed p f [] = []
changed p f (scope ∷ outer) = if is_some (held_in p scope) then changed_in p f scope ∷ outer else scope ∷ changed p f outer

-- a scope begins, and ends
abbrev pub with_scope : Store → Store
with_scope store = [] ∷ store

abbrev pub without_scope : Store → Store
without_scope [] = []
without_scope (scope ∷ outer) = outer

-- the outermost scope alone, and a store with another outermost scope
abbrev pub state_of : Store → Store
state_of [] = []
state_of (scope ∷ []) = scope ∷ []
state_of (scope ∷ inner ∷ outer) = state_of (inner ∷ outer)

abbrev pub with_state : Store → Store → Store
with_state state [] = state
with_state state (scope ∷ []) = state
with_state state (scope ∷ inner ∷ outer) = scope ∷ with_state state (inner ∷ outer)

-- ---- parts

-- a step from a value to a part of it; an index is reduced by floor modulus of the size
pub data Picked : Type 0 where
  OfField : (name : List ℕ) → Picked
  OfElement : (index : ℤ) → Picked

abbrev pub element_at : ℤ → CmType → Value → Option Valued
element_at z (Array n t) (Many all) = element_in t all (floor_modulus z n)
element_at z t v = None

abbrev pub picked : Picked → Valued → Valued
picked (OfField n) v = or_missing (field_of n v)
picked (OfElement z) v = or_missing (element_at z v.ty v.value)

-- the part of a value, by steps from left to right
abbrev pub part_of : List Picked → Valued → Valued
part_of [] v = v
part_of (p ∷ steps) v = part_of steps (picked p v)

abbrev pub changed_field : List ℕ → (CmType → Value → Value) → FieldTypes → Values → Values
changed_field n f (Field k t fields) (Then v others) = if bytes_eq k n then Then (f t v) others else Then v (changed_field n f fields others)
changed_field n f _ all = all

abbrev pub changed_element : ℕ → (Value → Value) → Values → Values
changed_element i f NoValues = NoValues
changed_element zero f (Then v others) = Then (f v) others
changed_element (suc i) f (Then v others) = Then v (changed_element i f others)

abbrev pub in_field : List ℕ → (CmType → Value → Value) → CmType → Value → Value
in_field n f (Record p fields) (Many all) = Many (changed_field n f fields all)
in_field n f t v = v

abbrev pub in_element : ℤ → (CmType → Value → Value) → CmType → Value → Value
in_element z f (Array n t) (Many all) = Many (changed_element (floor_modulus z n) (f t) all)
in_element z f t v = v

-- a value whose part becomes another one by its type and what it was
abbrev pub changed_part : List Picked → (CmType → Value → Value) → CmType → Value → Value
changed_part [] f t v = f t v
changed_part (OfField n ∷ steps) f t v = in_field n (changed_part steps f) t v
changed_part (OfElement z ∷ steps) f t v = in_element z (changed_part steps f) t v

abbrev pub assigned : List Picked → (CmType → Value → Value) → Valued → Valued
assigned steps f v = record v { value = changed_part steps f v.ty v.value }
