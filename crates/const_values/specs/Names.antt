-- What names mean where a constant is needed, and when an answer about a name is what the name means at a place.
use Rattle.std.specs.Prelude.{ℕ, ◌≡◌, true, List, slice_get, Option, Some, None, option_map, is_some, Contains}
use Rattle.cm_tree.specs.declared.path.Path.{Path}
use Rattle.cm_types.specs.Lawful.{IsLawfulType, IsSound}
use Rattle.cm_types.specs.Meant.{meant_type, meant_valued}
use Rattle.cm_meaning.specs.Declared.{Declared}
use Rattle.cm_meaning.specs.Scopes.{find}
use Rattle.cm_meaning.specs.Sites.{Site, looked_up}
use Rattle.cm_meaning.specs.Types.{CmType}
use Rattle.cm_meaning.specs.Conversions.{Valued}
use Rattle.cm_meaning.specs.Constants.{Meaning, AsValue, AsType, value_in, type_in}
use Rattle.cm_meaning.specs.TypeOf.{is_constant_name, is_type_name}
use Rattle.cm_meaning.specs.TypeRows.{is_small}
use Rattle.const_values.specs.declared.names.Found.{Found}
use Rattle.const_values.specs.declared.names.Found.TheVariants as f
use Rattle.const_values.specs.declared.names.Argument.{Argument}
use Rattle.const_values.specs.declared.names.Argument.TheVariants as g

-- what a path is found to be
pub data Known : Type 0 where
  -- a constant with its value
  IsValue : (value : Valued) → Known
  -- a type
  IsType : (ty : CmType) → Known
  -- a parameter of the processor or graph, by its position
  IsParameter : (position : ℕ) → Known
  -- anything else, or nothing
  IsOther : Known

abbrev pub seen : Found → Known
seen (f.Value v) = IsValue (meant_valued v.now)
seen (f.Type t) = IsType (meant_type t.now)
seen (f.Param i) = IsParameter i
seen f.Other = IsOther

abbrev pub meant_argument : Argument → Meaning
meant_argument (g.OfType t) = AsType (meant_type t)
meant_argument (g.OfValue v) = AsValue (meant_valued v)

-- what it means, with these arguments of the processor or graph
abbrev pub means : List Argument → Known → Option Meaning
means args (IsValue v) = Some (AsValue v)
means args (IsType t) = Some (AsType t)
means args (IsParameter i) = option_map meant_argument (slice_get args i)
means args IsOther = None

-- a type that a patch can have: each count in it is one, and it has no more scalars than a type may have
pub record IsSoundType (t : CmType) : Type 0 where
  pub lawful : IsLawfulType t
  pub small : is_small t ≡ true

-- a value of such a type, or the type
abbrev pub IsSoundFound : Found → Type 0
IsSoundFound (f.Value v) = IsSound (meant_valued v.now)
IsSoundFound (f.Type t) = IsSoundType (meant_type t.now)
IsSoundFound _ = Unit {0}

abbrev pub IsSoundArgument : Argument → Type 0
IsSoundArgument (g.OfValue v) = IsSound (meant_valued v)
IsSoundArgument (g.OfType t) = IsSoundType (meant_type t)

-- all arguments are sound
abbrev pub AreSoundArguments : List Argument → Type 0
AreSoundArguments args = (i : ℕ) (a : Argument) → slice_get args i ≡ Some a → IsSoundArgument a

-- what is answered for a name is what its declaration means: a constant's value, or a type
pub record Agrees (meaning : Option Meaning) (found : Option Declared) (look : Declared → Meaning) : Type 0 where
  pub named_value : is_constant_name found ≡ is_some (value_in meaning)
  pub value : is_constant_name found ≡ true → value_in (option_map look found) ≡ value_in meaning
  pub named_type : is_type_name found ≡ is_some (type_in meaning)
  pub ty : is_type_name found ≡ true → type_in (option_map look found) ≡ type_in meaning

-- so are the answers for all names at these sites
pub record AgreesOn (finds : Path → Known) (args : List Argument) (look : Declared → Meaning) (sites : List Site) : Type 0 where
  pub at : (s : Site) (q : Path) → Contains sites s → looked_up s.part ≡ Some q → Agrees (means args (finds q)) (find s.around q) look
