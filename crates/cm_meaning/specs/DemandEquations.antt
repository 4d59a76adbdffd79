-- What the demands of expressions are for each kind of expression, and what is a constant by its form: one equation for
-- each.
use Rattle.std.specs.Prelude.{ℤ, Bool, true, ◌&&◌, ◌≡◌, refl, List, [], ◌∷◌, ◌++◌, flat_map}
use Rattle.std.specs.List.{list_all}
use Rattle.std.proofs.Common.{ap, ◌∙◌}
use Rattle.cm_base.specs.declared.place.Place.{Place}
use Rattle.cm_tree.specs.declared.path.Path.{Path}
use Rattle.cm_tree.specs.declared.path.Word.{Word}
use Rattle.cm_tree.specs.declared.operator.Unary.{Unary}
use Rattle.cm_tree.specs.declared.operator.Binary.{Binary}
use Rattle.cm_tree.specs.declared.expr.Expr.{Expr, items-the_row-Expr}
use Rattle.cm_tree.specs.declared.expr.Base.{Base}
use Rattle.cm_tree.specs.declared.expr.Expr.TheVariants as e
use Rattle.cm_tree.specs.declared.expr.Base.TheVariants as b
use Rattle.cm_tree.specs.declared.expr.Base.TheBlock.{hidden-the_row-Expr-0, hidden-the_row-Expr-1}
use denote.Hole.Carrier.{hidden}
use Rattle.cm_meaning.specs.Scopes.{Around, find}
use Rattle.cm_meaning.specs.TypeOf.{is_constant_name, is_type_name, is_constant, are_constant}
use Rattle.cm_meaning.specs.Demands.{Demanded, demanded, Operates, OperatesAlone, Chooses, Selects, Indexes, UsesCall, Makes, IsCondition, count_demands, counted_demands, expr_demands, expr_demands_row, size_demands, base_demands}

-- ---- demands of expressions

pub expr_demands-Number : (r : Around) (p : Place) (z : ℤ) (w : Bool) → expr_demands r (e.Number p z w) ≡ []
unfolding expr_demands base_demands hidden-the_row-Expr-0 hidden-the_row-Expr-1 hidden
expr_demands-Number r p z w = refl

pub expr_demands-Truth : (r : Around) (p : Place) (t : Bool) → expr_demands r (e.Truth p t) ≡ []
unfolding expr_demands base_demands hidden-the_row-Expr-0 hidden-the_row-Expr-1 hidden
expr_demands-Truth r p t = refl

pub expr_demands-Name : (r : Around) (q : Path) → expr_demands r (e.Name q) ≡ []
unfolding expr_demands base_demands hidden-the_row-Expr-0 hidden-the_row-Expr-1 hidden
expr_demands-Name r q = refl

-- what a call and a base type are given, as lists
abbrev given : Expr → List Expr
given (e.Call' q sh args) = items-the_row-Expr _ args
given (e.Construct' t sh sizes i args) = items-the_row-Expr _ args
given _ = []

abbrev given_sizes : Expr → List Expr
given_sizes (e.Construct' t sh sizes i args) = items-the_row-Expr _ sizes
given_sizes _ = []

abbrev of_given : Around → Expr → List Demanded
of_given r (e.Call' q sh args) = expr_demands_row r args
of_given r (e.Construct' t sh sizes i args) = expr_demands_row r args
of_given r _ = []

abbrev of_sizes : Around → Expr → List Demanded
of_sizes r (e.Construct' t sh sizes i args) = size_demands r sizes
of_sizes r _ = []

given-Call : (q : Path) (args : List Expr) → given (e.Call q args) ≡ args
unfolding hidden-the_row-Expr-0 hidden-the_row-Expr-1 hidden
given-Call q [] = refl
given-Call q (a ∷ args) = ap (λ (all : List Expr). a ∷ all) (given-Call q args)

given-Construct : (t : Base) (sizes args : List Expr) → given (e.Construct t sizes args) ≡ args
unfolding hidden-the_row-Expr-0 hidden-the_row-Expr-1 hidden
given-Construct t sizes [] = refl
given-Construct t sizes (a ∷ args) = ap (λ (all : List Expr). a ∷ all) (given-Construct t sizes args)

sizes-Construct : (t : Base) (sizes args : List Expr) → given_sizes (e.Construct t sizes args) ≡ sizes
unfolding hidden-the_row-Expr-0 hidden-the_row-Expr-1 hidden
sizes-Construct t [] args = refl
sizes-Construct t (a ∷ sizes) args = ap (λ (all : List Expr). a ∷ all) (sizes-Construct t sizes args)

of_given-Call : (r : Around) (q : Path) (args : List Expr) → of_given r (e.Call q args) ≡ flat_map (expr_demands r) args
unfolding expr_demands expr_demands_row hidden-the_row-Expr-0 hidden-the_row-Expr-1 hidden
of_given-Call r q [] = refl
of_given-Call r q (a ∷ args) = ap (λ (all : List Demanded). expr_demands r a ++ all) (of_given-Call r q args)

of_given-Construct : (r : Around) (t : Base) (sizes args : List Expr) → of_given r (e.Construct t sizes args) ≡ flat_map (expr_demands r) args
unfolding expr_demands expr_demands_row hidden-the_row-Expr-0 hidden-the_row-Expr-1 hidden
of_given-Construct r t sizes [] = refl
of_given-Construct r t sizes (a ∷ args) = ap (λ (all : List Demanded). expr_demands r a ++ all) (of_given-Construct r t sizes args)

of_sizes-Construct : (r : Around) (t : Base) (sizes args : List Expr) → of_sizes r (e.Construct t sizes args) ≡ flat_map (counted_demands r) sizes
unfolding expr_demands size_demands hidden-the_row-Expr-0 hidden-the_row-Expr-1 hidden
of_sizes-Construct r t [] args = refl
of_sizes-Construct r t (a ∷ sizes) args = ap (λ (all : List Demanded). (expr_demands r a ++ count_demands r a) ++ all) (of_sizes-Construct r t sizes args)

pub expr_demands-Call : (r : Around) (q : Path) (args : List Expr) → expr_demands r (e.Call q args) ≡ flat_map (expr_demands r) args ++ demanded r (UsesCall q args) ∷ []
unfolding expr_demands hidden-the_row-Expr-0 hidden-the_row-Expr-1 hidden
expr_demands-Call r q args =
    ap (λ (all : List Expr). of_given r (e.Call q args) ++ demanded r (UsesCall q all) ∷ []) (given-Call q args)
    ∙ ap (λ (all : List Demanded). all ++ demanded r (UsesCall q args) ∷ []) (of_given-Call r q args)

pub expr_demands-Construct : (r : Around) (t : Base) (sizes args : List Expr)
    → expr_demands r (e.Construct t sizes args)
    ≡ base_demands r t ++ (flat_map (counted_demands r) sizes ++ (flat_map (expr_demands r) args ++ demanded r (Makes t sizes args) ∷ []))
unfolding expr_demands hidden-the_row-Expr-0 hidden-the_row-Expr-1 hidden
expr_demands-Construct r t sizes args =
    ap (λ (all : List Expr). base_demands r t ++ (of_sizes r (e.Construct t sizes args) ++ (of_given r (e.Construct t sizes args) ++ demanded r (Makes t all (given (e.Construct t sizes args))) ∷ [])))
    (sizes-Construct t sizes args)
    ∙ ap (λ (all : List Expr). base_demands r t ++ (of_sizes r (e.Construct t sizes args) ++ (of_given r (e.Construct t sizes args) ++ demanded r (Makes t sizes all) ∷ [])))
    (given-Construct t sizes args)
    ∙ ap (λ (all : List Demanded). base_demands r t ++ (all ++ (of_given r (e.Construct t sizes args) ++ demanded r (Makes t sizes args) ∷ []))) (of_sizes-Construct r t sizes args)
    ∙ ap (λ (all : List Demanded). base_demands r t ++ (flat_map (counted_demands r) sizes ++ (all ++ demanded r (Makes t sizes args) ∷ []))) (of_given-Construct r t sizes args)

pub expr_demands-Paren : (r : Around) (p : Place) (v : Expr) → expr_demands r (e.Paren p v) ≡ expr_demands r v
unfolding expr_demands base_demands hidden-the_row-Expr-0 hidden-the_row-Expr-1 hidden
expr_demands-Paren r p v = refl

pub expr_demands-Field : (r : Around) (p : Place) (v : Expr) (w : Word) → expr_demands r (e.Field p v w) ≡ expr_demands r v ++ demanded r (Selects v w) ∷ []
unfolding expr_demands base_demands hidden-the_row-Expr-0 hidden-the_row-Expr-1 hidden
expr_demands-Field r p v w = refl

pub expr_demands-Index : (r : Around) (p : Place) (v n : Expr) → expr_demands r (e.Index p v n) ≡ expr_demands r v ++ (expr_demands r n ++ demanded r (Indexes p v n) ∷ [])
unfolding expr_demands base_demands hidden-the_row-Expr-0 hidden-the_row-Expr-1 hidden
expr_demands-Index r p v n = refl

pub expr_demands-Unary : (r : Around) (p : Place) (op : Unary) (v : Expr) → expr_demands r (e.Unary p op v) ≡ expr_demands r v ++ demanded r (OperatesAlone p op v) ∷ []
unfolding expr_demands base_demands hidden-the_row-Expr-0 hidden-the_row-Expr-1 hidden
expr_demands-Unary r p op v = refl

pub expr_demands-Binary : (r : Around) (p : Place) (op : Binary) (v w : Expr) → expr_demands r (e.Binary p op v w) ≡ expr_demands r v ++ (expr_demands r w ++ demanded r (Operates p op v w) ∷ [])
unfolding expr_demands base_demands hidden-the_row-Expr-0 hidden-the_row-Expr-1 hidden
expr_demands-Binary r p op v w = refl

pub expr_demands-Choice : (r : Around) (p : Place) (t v w : Expr) → expr_demands r (e.Choice p t v w) ≡ expr_demands r t ++ (demanded r (IsCondition t) ∷ (expr_demands r v ++ (expr_demands r w ++ demanded r (Chooses p v w) ∷ [])))
unfolding expr_demands base_demands hidden-the_row-Expr-0 hidden-the_row-Expr-1 hidden
expr_demands-Choice r p t v w = refl

pub base_demands-Bool : (r : Around) (p : Place) → base_demands r (b.Bool p) ≡ []
unfolding expr_demands base_demands hidden-the_row-Expr-0 hidden-the_row-Expr-1 hidden
base_demands-Bool r p = refl

pub base_demands-Int : (r : Around) (p : Place) → base_demands r (b.Int p) ≡ []
unfolding expr_demands base_demands hidden-the_row-Expr-0 hidden-the_row-Expr-1 hidden
base_demands-Int r p = refl

pub base_demands-Int32 : (r : Around) (p : Place) → base_demands r (b.Int32 p) ≡ []
unfolding expr_demands base_demands hidden-the_row-Expr-0 hidden-the_row-Expr-1 hidden
base_demands-Int32 r p = refl

pub base_demands-Int64 : (r : Around) (p : Place) → base_demands r (b.Int64 p) ≡ []
unfolding expr_demands base_demands hidden-the_row-Expr-0 hidden-the_row-Expr-1 hidden
base_demands-Int64 r p = refl

pub base_demands-Wrap : (r : Around) (p : Place) (a : Expr) → base_demands r (b.Wrap p a) ≡ counted_demands r a
unfolding expr_demands base_demands hidden-the_row-Expr-0 hidden-the_row-Expr-1 hidden
base_demands-Wrap r p a = refl

pub base_demands-Clamp : (r : Around) (p : Place) (a : Expr) → base_demands r (b.Clamp p a) ≡ counted_demands r a
unfolding expr_demands base_demands hidden-the_row-Expr-0 hidden-the_row-Expr-1 hidden
base_demands-Clamp r p a = refl

pub ruleset demand_equations = (
  expr_demands-Number,
  expr_demands-Truth,
  expr_demands-Name,
  expr_demands-Call,
  expr_demands-Construct,
  expr_demands-Paren,
  expr_demands-Field,
  expr_demands-Index,
  expr_demands-Unary,
  expr_demands-Binary,
  expr_demands-Choice,
  base_demands-Bool,
  base_demands-Int,
  base_demands-Int32,
  base_demands-Int64,
  base_demands-Wrap,
  base_demands-Clamp,
)

-- ---- constants by their form

pub is_constant-Number : (r : Around) (p : Place) (z : ℤ) (w : Bool) → is_constant r (e.Number p z w) ≡ true
unfolding is_constant hidden-the_row-Expr-0 hidden-the_row-Expr-1 hidden
is_constant-Number r p z w = refl

pub is_constant-Truth : (r : Around) (p : Place) (t : Bool) → is_constant r (e.Truth p t) ≡ true
unfolding is_constant hidden-the_row-Expr-0 hidden-the_row-Expr-1 hidden
is_constant-Truth r p t = refl

pub is_constant-Name : (r : Around) (q : Path) → is_constant r (e.Name q) ≡ is_constant_name (find r q)
unfolding is_constant hidden-the_row-Expr-0 hidden-the_row-Expr-1 hidden
is_constant-Name r q = refl

abbrev given_constant : Around → Expr → Bool
given_constant r (e.Call' q sh args) = are_constant r args
given_constant r (e.Construct' t sh sizes i args) = are_constant r args
given_constant r _ = true

constant-Call : (r : Around) (q : Path) (args : List Expr) → given_constant r (e.Call q args) ≡ list_all (is_constant r) args
unfolding is_constant are_constant hidden-the_row-Expr-0 hidden-the_row-Expr-1 hidden
constant-Call r q [] = refl
constant-Call r q (a ∷ args) = ap (λ (all : Bool). is_constant r a && all) (constant-Call r q args)

constant-Construct : (r : Around) (t : Base) (sizes args : List Expr) → given_constant r (e.Construct t sizes args) ≡ list_all (is_constant r) args
unfolding is_constant are_constant hidden-the_row-Expr-0 hidden-the_row-Expr-1 hidden
constant-Construct r t sizes [] = refl
constant-Construct r t sizes (a ∷ args) = ap (λ (all : Bool). is_constant r a && all) (constant-Construct r t sizes args)

pub is_constant-Call : (r : Around) (q : Path) (args : List Expr) → is_constant r (e.Call q args) ≡ (is_type_name (find r q) && list_all (is_constant r) args)
unfolding is_constant hidden-the_row-Expr-0 hidden-the_row-Expr-1 hidden
is_constant-Call r q args = ap (λ (all : Bool). is_type_name (find r q) && all) (constant-Call r q args)

pub is_constant-Construct : (r : Around) (t : Base) (sizes args : List Expr) → is_constant r (e.Construct t sizes args) ≡ list_all (is_constant r) args
unfolding is_constant hidden-the_row-Expr-0 hidden-the_row-Expr-1 hidden
is_constant-Construct r t sizes args = constant-Construct r t sizes args

pub is_constant-Paren : (r : Around) (p : Place) (a : Expr) → is_constant r (e.Paren p a) ≡ is_constant r a
unfolding is_constant hidden-the_row-Expr-0 hidden-the_row-Expr-1 hidden
is_constant-Paren r p a = refl

pub is_constant-Field : (r : Around) (p : Place) (a : Expr) (w : Word) → is_constant r (e.Field p a w) ≡ is_constant r a
unfolding is_constant hidden-the_row-Expr-0 hidden-the_row-Expr-1 hidden
is_constant-Field r p a w = refl

pub is_constant-Index : (r : Around) (p : Place) (a c : Expr) → is_constant r (e.Index p a c) ≡ (is_constant r a && is_constant r c)
unfolding is_constant hidden-the_row-Expr-0 hidden-the_row-Expr-1 hidden
is_constant-Index r p a c = refl

pub is_constant-Unary : (r : Around) (p : Place) (o : Unary) (a : Expr) → is_constant r (e.Unary p o a) ≡ is_constant r a
unfolding is_constant hidden-the_row-Expr-0 hidden-the_row-Expr-1 hidden
is_constant-Unary r p o a = refl

pub is_constant-Binary : (r : Around) (p : Place) (o : Binary) (a c : Expr) → is_constant r (e.Binary p o a c) ≡ (is_constant r a && is_constant r c)
unfolding is_constant hidden-the_row-Expr-0 hidden-the_row-Expr-1 hidden
is_constant-Binary r p o a c = refl

pub is_constant-Choice : (r : Around) (p : Place) (t a c : Expr) → is_constant r (e.Choice p t a c) ≡ (is_constant r t && (is_constant r a && is_constant r c))
unfolding is_constant hidden-the_row-Expr-0 hidden-the_row-Expr-1 hidden
is_constant-Choice r p t a c = refl

pub ruleset constant_equations = (
  is_constant-Number,
  is_constant-Truth,
  is_constant-Name,
  is_constant-Call,
  is_constant-Construct,
  is_constant-Paren,
  is_constant-Field,
  is_constant-Index,
  is_constant-Unary,
  is_constant-Binary,
  is_constant-Choice,
)
