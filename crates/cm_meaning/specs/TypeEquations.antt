-- What the values of constants and the types of expressions are for each kind of expression, one equation for each.
use Rattle.std.specs.Prelude.{ℤ, Bool, ◌≡◌, refl, if◌then◌else◌, List, [], ◌∷◌, map, Option, Some, option_and_then}
use Rattle.std.proofs.Common.{ap, ◌∙◌}
use Rattle.cm_base.specs.declared.place.Place.{Place}
use Rattle.cm_tree.specs.declared.path.Path.{Path}
use Rattle.cm_tree.specs.declared.path.Word.{Word}
use Rattle.cm_tree.specs.declared.operator.Unary.{Unary}
use Rattle.cm_tree.specs.declared.operator.Binary.{Binary}
use Rattle.cm_tree.specs.declared.expr.Expr.{Expr}
use Rattle.cm_tree.specs.declared.expr.Base.{Base}
use Rattle.cm_tree.specs.declared.expr.Expr.TheVariants as e
use Rattle.cm_tree.specs.declared.expr.Base.TheVariants as b
use Rattle.cm_tree.specs.declared.expr.Base.TheBlock.{hidden-the_row-Expr-0, hidden-the_row-Expr-1}
use denote.Hole.Carrier.{hidden}
use Rattle.cm_base.specs.declared.host.Scalar.TheVariants as kind
use Rattle.cm_meaning.specs.Declared.{Declared}
use Rattle.cm_meaning.specs.Scopes.{Around, find}
use Rattle.cm_meaning.specs.Types.{Single, int32, int64, bool, Number, Truth}
use Rattle.cm_meaning.specs.Conversions.{Valued, operated, operated_alone, chosen, operate, operate_alone, choose}
use Rattle.cm_meaning.specs.Constants.{Meaning, value_in, type_in, meant_by, arrays, made, field_of, element_of, both, counted, eval, eval_row, base_type}
use Rattle.cm_meaning.specs.TypeOf.{Knowledge, member_type, element_type, both_types, named_type, called_type, type_of}

-- ---- values of constants

pub eval-Number : (r : Around) (look : Declared → Meaning) (p : Place) (z : ℤ) (wide : Bool) → eval r look (e.Number p z wide) ≡ Some (record { ty = if wide then int64 else int32; value = Number z })
unfolding eval base_type hidden-the_row-Expr-0 hidden-the_row-Expr-1 hidden
eval-Number r look p z wide = refl

pub eval-Truth : (r : Around) (look : Declared → Meaning) (p : Place) (t : Bool) → eval r look (e.Truth p t) ≡ Some (record { ty = bool; value = Truth t })
unfolding eval base_type hidden-the_row-Expr-0 hidden-the_row-Expr-1 hidden
eval-Truth r look p t = refl

pub eval-Name : (r : Around) (look : Declared → Meaning) (q : Path) → eval r look (e.Name q) ≡ value_in (meant_by r look q)
unfolding eval base_type hidden-the_row-Expr-0 hidden-the_row-Expr-1 hidden
eval-Name r look q = refl

abbrev call_values : Around → (Declared → Meaning) → Expr → List (Option Valued)
call_values r look (e.Call' q sh args) = eval_row r look args
call_values r look _ = []

call-values : (r : Around) (look : Declared → Meaning) (q : Path) (args : List Expr) → call_values r look (e.Call q args) ≡ map (eval r look) args
unfolding eval eval_row hidden-the_row-Expr-0 hidden-the_row-Expr-1 hidden
call-values r look q [] = refl
call-values r look q (a ∷ args) = ap (λ (all : List (Option Valued)). eval r look a ∷ all) (call-values r look q args)

pub eval-Call : (r : Around) (look : Declared → Meaning) (q : Path) (args : List Expr) → eval r look (e.Call q args) ≡ made (type_in (meant_by r look q)) (map (eval r look) args)
unfolding eval hidden-the_row-Expr-0 hidden-the_row-Expr-1 hidden
eval-Call r look q args = ap (made (type_in (meant_by r look q))) (call-values r look q args)

abbrev size_values : Around → (Declared → Meaning) → Expr → List (Option Valued)
size_values r look (e.Construct' b sh sizes i args) = eval_row r look sizes
size_values r look _ = []

abbrev part_values : Around → (Declared → Meaning) → Expr → List (Option Valued)
part_values r look (e.Construct' b sh sizes i args) = eval_row r look args
part_values r look _ = []

size-values : (r : Around) (look : Declared → Meaning) (b : Base) (sizes args : List Expr) → size_values r look (e.Construct b sizes args) ≡ map (eval r look) sizes
unfolding eval eval_row hidden-the_row-Expr-0 hidden-the_row-Expr-1 hidden
size-values r look b [] args = refl
size-values r look b (a ∷ sizes) args = ap (λ (all : List (Option Valued)). eval r look a ∷ all) (size-values r look b sizes args)

part-values : (r : Around) (look : Declared → Meaning) (b : Base) (sizes args : List Expr) → part_values r look (e.Construct b sizes args) ≡ map (eval r look) args
unfolding eval eval_row hidden-the_row-Expr-0 hidden-the_row-Expr-1 hidden
part-values r look b sizes [] = refl
part-values r look b sizes (a ∷ args) = ap (λ (all : List (Option Valued)). eval r look a ∷ all) (part-values r look b sizes args)

pub eval-Construct : (r : Around) (look : Declared → Meaning) (b : Base) (sizes args : List Expr)
    → eval r look (e.Construct b sizes args) ≡ made (arrays (base_type r look b) (map (eval r look) sizes)) (map (eval r look) args)
unfolding eval hidden-the_row-Expr-0 hidden-the_row-Expr-1 hidden
eval-Construct r look b sizes args =
    ap (λ (all : List (Option Valued)). made (arrays (base_type r look b) all) (part_values r look (e.Construct b sizes args))) (size-values r look b sizes args)
    ∙ ap (made (arrays (base_type r look b) (map (eval r look) sizes))) (part-values r look b sizes args)

pub eval-Paren : (r : Around) (look : Declared → Meaning) (p : Place) (a : Expr) → eval r look (e.Paren p a) ≡ eval r look a
unfolding eval base_type hidden-the_row-Expr-0 hidden-the_row-Expr-1 hidden
eval-Paren r look p a = refl

pub eval-Field : (r : Around) (look : Declared → Meaning) (p : Place) (a : Expr) (w : Word) → eval r look (e.Field p a w) ≡ option_and_then (field_of w.text) (eval r look a)
unfolding eval base_type hidden-the_row-Expr-0 hidden-the_row-Expr-1 hidden
eval-Field r look p a w = refl

pub eval-Index : (r : Around) (look : Declared → Meaning) (p : Place) (a i : Expr) → eval r look (e.Index p a i) ≡ both element_of (eval r look a) (eval r look i)
unfolding eval base_type hidden-the_row-Expr-0 hidden-the_row-Expr-1 hidden
eval-Index r look p a i = refl

pub eval-Unary : (r : Around) (look : Declared → Meaning) (p : Place) (o : Unary) (a : Expr) → eval r look (e.Unary p o a) ≡ option_and_then (operate_alone o) (eval r look a)
unfolding eval base_type hidden-the_row-Expr-0 hidden-the_row-Expr-1 hidden
eval-Unary r look p o a = refl

pub eval-Binary : (r : Around) (look : Declared → Meaning) (p : Place) (o : Binary) (a c : Expr) → eval r look (e.Binary p o a c) ≡ both (operate o) (eval r look a) (eval r look c)
unfolding eval base_type hidden-the_row-Expr-0 hidden-the_row-Expr-1 hidden
eval-Binary r look p o a c = refl

pub eval-Choice : (r : Around) (look : Declared → Meaning) (p : Place) (t a c : Expr) → eval r look (e.Choice p t a c) ≡ option_and_then (λ (x : Valued). both (choose x) (eval r look a) (eval r look c)) (eval r look t)
unfolding eval base_type hidden-the_row-Expr-0 hidden-the_row-Expr-1 hidden
eval-Choice r look p t a c = refl

pub base_type-Bool : (r : Around) (look : Declared → Meaning) (p : Place) → base_type r look (b.Bool p) ≡ Some bool
unfolding eval base_type hidden-the_row-Expr-0 hidden-the_row-Expr-1 hidden
base_type-Bool r look p = refl

pub base_type-Int : (r : Around) (look : Declared → Meaning) (p : Place) → base_type r look (b.Int p) ≡ Some int32
unfolding eval base_type hidden-the_row-Expr-0 hidden-the_row-Expr-1 hidden
base_type-Int r look p = refl

pub base_type-Int32 : (r : Around) (look : Declared → Meaning) (p : Place) → base_type r look (b.Int32 p) ≡ Some int32
unfolding eval base_type hidden-the_row-Expr-0 hidden-the_row-Expr-1 hidden
base_type-Int32 r look p = refl

pub base_type-Int64 : (r : Around) (look : Declared → Meaning) (p : Place) → base_type r look (b.Int64 p) ≡ Some int64
unfolding eval base_type hidden-the_row-Expr-0 hidden-the_row-Expr-1 hidden
base_type-Int64 r look p = refl

pub base_type-Wrap : (r : Around) (look : Declared → Meaning) (p : Place) (a : Expr) → base_type r look (b.Wrap p a) ≡ counted (λ n. Single (kind.Wrap n)) (eval r look a)
unfolding eval base_type hidden-the_row-Expr-0 hidden-the_row-Expr-1 hidden
base_type-Wrap r look p a = refl

pub base_type-Clamp : (r : Around) (look : Declared → Meaning) (p : Place) (a : Expr) → base_type r look (b.Clamp p a) ≡ counted (λ n. Single (kind.Clamp n)) (eval r look a)
unfolding eval base_type hidden-the_row-Expr-0 hidden-the_row-Expr-1 hidden
base_type-Clamp r look p a = refl

pub ruleset eval_equations = (
  eval-Number,
  eval-Truth,
  eval-Name,
  eval-Call,
  eval-Construct,
  eval-Paren,
  eval-Field,
  eval-Index,
  eval-Unary,
  eval-Binary,
  eval-Choice,
  base_type-Bool,
  base_type-Int,
  base_type-Int32,
  base_type-Int64,
  base_type-Wrap,
  base_type-Clamp,
)

-- ---- types of expressions

pub type_of-Number : (r : Around) (k : Knowledge) (p : Place) (z : ℤ) (wide : Bool) → type_of r k (e.Number p z wide) ≡ Some (if wide then int64 else int32)
unfolding type_of hidden-the_row-Expr-0 hidden-the_row-Expr-1 hidden
type_of-Number r k p z wide = refl

pub type_of-Truth : (r : Around) (k : Knowledge) (p : Place) (t : Bool) → type_of r k (e.Truth p t) ≡ Some bool
unfolding type_of hidden-the_row-Expr-0 hidden-the_row-Expr-1 hidden
type_of-Truth r k p t = refl

pub type_of-Name : (r : Around) (k : Knowledge) (q : Path) → type_of r k (e.Name q) ≡ option_and_then (named_type r.all k) (find r q)
unfolding type_of hidden-the_row-Expr-0 hidden-the_row-Expr-1 hidden
type_of-Name r k q = refl

pub type_of-Call : (r : Around) (k : Knowledge) (q : Path) (args : List Expr) → type_of r k (e.Call q args) ≡ option_and_then (called_type r.all k) (find r q)
unfolding type_of hidden-the_row-Expr-0 hidden-the_row-Expr-1 hidden
type_of-Call r k q args = refl

pub type_of-Construct : (r : Around) (k : Knowledge) (b : Base) (sizes args : List Expr) → type_of r k (e.Construct b sizes args) ≡ arrays (base_type r k.look b) (map (eval r k.look) sizes)
unfolding type_of hidden-the_row-Expr-0 hidden-the_row-Expr-1 hidden
type_of-Construct r k b sizes args = ap (arrays (base_type r k.look b)) (size-values r k.look b sizes args)

pub type_of-Paren : (r : Around) (k : Knowledge) (p : Place) (a : Expr) → type_of r k (e.Paren p a) ≡ type_of r k a
unfolding type_of hidden-the_row-Expr-0 hidden-the_row-Expr-1 hidden
type_of-Paren r k p a = refl

pub type_of-Field : (r : Around) (k : Knowledge) (p : Place) (a : Expr) (w : Word) → type_of r k (e.Field p a w) ≡ option_and_then (member_type w.text) (type_of r k a)
unfolding type_of hidden-the_row-Expr-0 hidden-the_row-Expr-1 hidden
type_of-Field r k p a w = refl

pub type_of-Index : (r : Around) (k : Knowledge) (p : Place) (a i : Expr) → type_of r k (e.Index p a i) ≡ option_and_then element_type (type_of r k a)
unfolding type_of hidden-the_row-Expr-0 hidden-the_row-Expr-1 hidden
type_of-Index r k p a i = refl

pub type_of-Unary : (r : Around) (k : Knowledge) (p : Place) (o : Unary) (a : Expr) → type_of r k (e.Unary p o a) ≡ option_and_then (operated_alone o) (type_of r k a)
unfolding type_of hidden-the_row-Expr-0 hidden-the_row-Expr-1 hidden
type_of-Unary r k p o a = refl

pub type_of-Binary : (r : Around) (k : Knowledge) (p : Place) (o : Binary) (a c : Expr) → type_of r k (e.Binary p o a c) ≡ both_types (operated o) (type_of r k a) (type_of r k c)
unfolding type_of hidden-the_row-Expr-0 hidden-the_row-Expr-1 hidden
type_of-Binary r k p o a c = refl

pub type_of-Choice : (r : Around) (k : Knowledge) (p : Place) (t a c : Expr) → type_of r k (e.Choice p t a c) ≡ both_types chosen (type_of r k a) (type_of r k c)
unfolding type_of hidden-the_row-Expr-0 hidden-the_row-Expr-1 hidden
type_of-Choice r k p t a c = refl

pub ruleset type_equations = (
  type_of-Number,
  type_of-Truth,
  type_of-Name,
  type_of-Call,
  type_of-Construct,
  type_of-Paren,
  type_of-Field,
  type_of-Index,
  type_of-Unary,
  type_of-Binary,
  type_of-Choice,
)
