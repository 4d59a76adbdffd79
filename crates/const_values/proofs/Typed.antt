-- A name that is a constant has the type of its value.
use Rattle.std.specs.Prelude.{◌≡◌, refl, true, false, List, Option, Some, None, option_map, option_and_then}
use Rattle.cm_tree.specs.declared.path.Word.{Word}
use Rattle.cm_meaning.specs.Declared.{Named, Namespace, Processor, Graph, Struct, Using, Constant, Function, State, Endpoint, Node, TypeParameter, ValueParameter, Parameter, LocalConstant, LocalVariable, Counter, Home, Declared}
use Rattle.cm_meaning.specs.Constants.{value_in}
use Rattle.cm_meaning.specs.TypeOf.{Knowledge, named_type, type_of_value, is_constant_name}

abbrev declared_as : Word → Home → Named → Declared
declared_as w h n = record { word = w; home = h; named = n }

apart : false ≡ true → ⊥
apart h = cc

no : {A : Type 0} → false ≡ true → A
no h = absurd (apart h)

by_kind : (all : List Declared) (k : Knowledge) (w : Word) (h : Home) (n : Named) → is_constant_name (Some (declared_as w h n)) ≡ true
    → named_type all k (declared_as w h n) ≡ type_of_value (value_in (Some (k.look (declared_as w h n))))
by_kind all k w h (Constant value) is = refl
by_kind all k w h (ValueParameter i ty) is = refl
by_kind all k w h (Namespace path) is = no is
by_kind all k w h (Processor unit) is = no is
by_kind all k w h (Graph unit) is = no is
by_kind all k w h (Struct p fields) is = no is
by_kind all k w h (Using ty) is = no is
by_kind all k w h (Function f) is = no is
by_kind all k w h (State ty v) is = no is
by_kind all k w h (Endpoint a b ty keys) is = no is
by_kind all k w h (Node a) is = no is
by_kind all k w h (TypeParameter i) is = no is
by_kind all k w h (Parameter ty) is = no is
by_kind all k w h (LocalConstant v) is = no is
by_kind all k w h (LocalVariable ty v) is = no is
by_kind all k w h (Counter ty) is = no is

pub constant_type : (all : List Declared) (k : Knowledge) (found : Option Declared) → is_constant_name found ≡ true
    → option_and_then (named_type all k) found ≡ type_of_value (value_in (option_map k.look found))
constant_type all k None is = no is
constant_type all k (Some x) is = by_kind all k x.word x.home x.named is
