-- What is answered for the arguments of a cast or constructor, one after another.
use Rattle.std.specs.Prelude.{◌≡◌, Bool, true, List, [], ◌∷◌, ◌++◌, flat_map, Option, Some, None, Result, Ok, Err}
use Rattle.std.specs.List.{list_all}
use Rattle.cm_base.specs.declared.cause.Cause.TheVariants as cause
use Rattle.cm_base.specs.declared.place.Place.{Place}
use Rattle.cm_base.specs.declared.failure.Fail.{Fail}
use Rattle.cm_tree.specs.declared.path.Path.{Path}
use Rattle.cm_tree.specs.declared.expr.Expr.{Expr}
use Rattle.cm_tree.specs.Levels.{place}
use Rattle.cm_types.specs.declared.valued.Valued.{Valued as CodeValued}
use Rattle.cm_meaning.specs.Scopes.{Around}
use Rattle.cm_meaning.specs.Faults.{Fault, unless}
use Rattle.cm_meaning.specs.Types.{CmType}
use Rattle.cm_meaning.specs.Conversions.{with_type}
use Rattle.cm_meaning.specs.Constants.{eval, constructed}
use Rattle.cm_meaning.specs.TypeOf.{Knowledge, type_of, is_constant}
use Rattle.cm_meaning.specs.TypeRows.{is_small}
use Rattle.const_values.specs.declared.names.Argument.{Argument}
use Rattle.const_values.specs.declared.construct.Given.{Given as CodeGiven}
use Rattle.const_values.specs.Names.{Known}
use Rattle.const_values.specs.Answers.{Refuses, Gives, own_faults, Stands}
use Rattle.const_values.specs.Construct.{Given, meant_givens, values_of, made_faults}

-- the answers about the names of each expression are right
abbrev pub AllStand : (Path → Known) → List Argument → Around → Knowledge → List Expr → Type 0
AllStand finds args r k [] = Unit {0}
AllStand finds args r k (a ∷ all) = Stands finds args r k a × AllStand finds args r k all

-- whether all are constants by their form
pub record JudgesAll (finds : Path → Known) (args : List Argument) (all : List Expr) (result : Bool) : Type 0 where
  pub told : (r : Around) (k : Knowledge) → AllStand finds args r k all → list_all (is_constant r) all ≡ result

-- an expression in which nothing is wrong, with its value and place
pub record IsGiven (r : Around) (k : Knowledge) (a : Expr) (g : Given) : Type 0 where
  pub at : g.place ≡ place a
  pub right : own_faults r k a ≡ []
  pub value : eval r k.look a ≡ Some g.valued
  pub ty : type_of r k a ≡ Some g.valued.ty

abbrev pub AreGiven : Around → Knowledge → List Expr → List Given → Type 0
AreGiven r k [] [] = Unit {0}
AreGiven r k (a ∷ all) (g ∷ given) = IsGiven r k a g × AreGiven r k all given
AreGiven r k _ _ = ⊥

-- each with its value, or else a fault of one of them
abbrev pub GivesAll : Around → Knowledge → List Expr → Result (List CodeGiven) Fail → Type 0
GivesAll r k all (Ok given) = AreGiven r k all (meant_givens given)
GivesAll r k all (Err x) = Refuses (flat_map (own_faults r k) all) x

-- the values of what are constants by their form
pub record TellsAll (finds : Path → Known) (args : List Argument) (all : List Expr) (result : Result (List CodeGiven) Fail) : Type 0 where
  pub told : (r : Around) (k : Knowledge) → AllStand finds args r k all → list_all (is_constant r) all ≡ true → GivesAll r k all result

-- a value of a type that is made of values; the place is that of the type
abbrev pub GivesMade : Place → CmType → List Given → Result CodeValued Fail → Type 0
GivesMade p t given result = Gives (made_faults p t given) (with_type t (constructed t (values_of given))) (Some t) result

-- the same of the type of a name, where it is one
abbrev pub GivesCall : Place → Option CmType → List Given → Result CodeValued Fail → Type 0
GivesCall p None given result = Unit {0}
GivesCall p (Some t) given result = GivesMade p t given result

-- a type has no more scalars than one may have
abbrev pub small_faults : Place → CmType → List Fault
small_faults p t = unless (is_small t) cause.TooManyElements p

-- the same of a type that is written at the place
abbrev pub GivesComposed : Place → CmType → List Given → Result CodeValued Fail → Type 0
GivesComposed p t given result = Gives (small_faults p t ++ made_faults p t given) (with_type t (constructed t (values_of given))) (Some t) result
