-- What expressions give and statements do for each kind of them, one equation for each.
use Rattle.std.specs.Prelude.{Bool, ◌≡◌, refl, if◌then◌else◌, ℤ, List, [], ◌∷◌, map, Option, Some, None}
use Rattle.std.proofs.Common.{ap, ◌∙◌}
use Rattle.cm_base.specs.declared.place.Place.{Place}
use Rattle.cm_tree.specs.declared.path.Path.{Path}
use Rattle.cm_tree.specs.declared.path.Word.{Word}
use Rattle.cm_tree.specs.declared.operator.Unary.{Unary}
use Rattle.cm_tree.specs.declared.operator.Binary.{Binary}
use Rattle.cm_tree.specs.declared.expr.Expr.{Expr}
use Rattle.cm_tree.specs.declared.expr.Base.{Base}
use Rattle.cm_tree.specs.declared.expr.Expr.TheVariants as e
use Rattle.cm_tree.specs.declared.expr.Base.TheBlock.{hidden-the_row-Expr-0, hidden-the_row-Expr-1}
use Rattle.cm_tree.specs.declared.type_expr.TypeExpr.{TypeExpr}
use Rattle.cm_tree.specs.declared.simple.Local.{Local}
use Rattle.cm_tree.specs.declared.simple.Simple.{Simple}
use Rattle.cm_tree.specs.declared.stmt.Assert.{Assert}
use Rattle.cm_tree.specs.declared.stmt.Start.{Start}
use Rattle.cm_tree.specs.declared.stmt.Stmt.{Stmt}
use Rattle.cm_tree.specs.declared.stmt.Stmt.TheVariants as x
use Rattle.cm_tree.specs.declared.stmt.Stmt.TheBlock.{hidden-the_row-Stmt-0, hidden-the_row-Stmt-1}
use denote.Hole.Carrier.{hidden}
use Rattle.cm_meaning.specs.Scopes.{Around, scoped, looped, find, find_word}
use Rattle.cm_meaning.specs.BodySites.{after as behind, after_start, counter}
use Rattle.cm_meaning.specs.Types.{int32, int64, Number}
use Rattle.cm_meaning.specs.Conversions.{Valued, operate, operate_alone}
use Rattle.cm_meaning.specs.Constants.{arrays, base_type, eval as constant, eval_row as constant_row, type_of_expr}
use Rattle.cm_meaning.specs.Stores.{or_missing, number_in, is_true, truth_value, zero_in, as_type, made_of, OfField, OfElement}
use Rattle.cm_meaning.specs.World.{Always, Holds, Down, Todo, Do}
use Rattle.cm_meaning.specs.Acts.{Act, andthen, after, gives}
use Rattle.cm_meaning.specs.Eval.{Hooks, further, made, named, needs_right, arms_type, called, found, values_row, eval, eval_all, holds}
use Rattle.cm_meaning.specs.Performs.{put, put_locals, perform, start}
use Rattle.cm_meaning.specs.Resume.{On, Broke, Continued, Ending, Goes, Pauses, next, on, go_on, in_scope, repeat, begun_then, bare, each, of_parts, todos, answered, written, exec, exec_row}

-- ---- expressions

abbrev call_values : Expr → Around → Hooks → Act (List Valued)
call_values (e.Call' q sh args) r h = values_row args r h
call_values _ r h = gives []

abbrev part_values : Expr → Around → Hooks → Act (List Valued)
part_values (e.Construct' t sh sizes i args) r h = values_row args r h
part_values _ r h = gives []

abbrev size_values : Expr → Around → Hooks → List (Option Valued)
size_values (e.Construct' t sh sizes i args) r h = constant_row r h.known.look sizes
size_values _ r h = []

abbrev one_more : Expr → Around → Hooks → Act (List Valued) → Act (List Valued)
one_more a r h others = andthen (eval a r h) (λ v. andthen others (λ values. gives (v ∷ values)))

call-values : (q : Path) (args : List Expr) (r : Around) (h : Hooks) → call_values (e.Call q args) r h ≡ eval_all args r h
unfolding found values_row hidden-the_row-Expr-0 hidden-the_row-Expr-1 hidden
call-values q [] r h = refl
call-values q (a ∷ args) r h = ap (one_more a r h) (call-values q args r h)

part-values : (t : Base) (sizes args : List Expr) (r : Around) (h : Hooks) → part_values (e.Construct t sizes args) r h ≡ eval_all args r h
unfolding found values_row hidden-the_row-Expr-0 hidden-the_row-Expr-1 hidden
part-values t sizes [] r h = refl
part-values t sizes (a ∷ args) r h = ap (one_more a r h) (part-values t sizes args r h)

size-values : (t : Base) (sizes args : List Expr) (r : Around) (h : Hooks) → size_values (e.Construct t sizes args) r h ≡ map (constant r h.known.look) sizes
unfolding constant constant_row hidden-the_row-Expr-0 hidden-the_row-Expr-1 hidden
size-values t [] args r h = refl
size-values t (a ∷ sizes) args r h = ap (λ (all : List (Option Valued)). constant r h.known.look a ∷ all) (size-values t sizes args r h)

pub found-Number : (p : Place) (z : ℤ) (wide : Bool) (r : Around) (h : Hooks) → found (e.Number p z wide) r h ≡ gives (made (record { ty = if wide then int64 else int32; value = Number z }))
unfolding found hidden-the_row-Expr-0 hidden-the_row-Expr-1 hidden
found-Number p z wide r h = refl

pub found-Truth : (p : Place) (t : Bool) (r : Around) (h : Hooks) → found (e.Truth p t) r h ≡ gives (made (truth_value t))
unfolding found hidden-the_row-Expr-0 hidden-the_row-Expr-1 hidden
found-Truth p t r h = refl

pub found-Name : (q : Path) (r : Around) (h : Hooks) → found (e.Name q) r h ≡ gives (named (find r q))
unfolding found hidden-the_row-Expr-0 hidden-the_row-Expr-1 hidden
found-Name q r h = refl

pub found-Call : (q : Path) (args : List Expr) (r : Around) (h : Hooks)
    → found (e.Call q args) r h ≡ andthen (eval_all args r h) (λ values. andthen (called h (find r q) values) (λ v. gives (made v)))
unfolding found hidden-the_row-Expr-0 hidden-the_row-Expr-1 hidden
found-Call q args r h =
    ap (λ (act : Act (List Valued)). andthen act (λ values. andthen (called h (find r q) values) (λ v. gives (made v)))) (call-values q args r h)

pub found-Construct : (t : Base) (sizes args : List Expr) (r : Around) (h : Hooks)
    → found (e.Construct t sizes args) r h ≡ andthen (eval_all args r h)
    (λ values. gives (made (made_of (arrays (base_type r h.known.look t) (map (constant r h.known.look) sizes)) values)))
unfolding found hidden-the_row-Expr-0 hidden-the_row-Expr-1 hidden
found-Construct t sizes args r h =
    ap (λ (act : Act (List Valued)). andthen act (λ values. gives (made (made_of (arrays (base_type r h.known.look t) (size_values (e.Construct t sizes args) r h)) values)))) (part-values t sizes args r h)
    ∙ ap (λ (all : List (Option Valued)). andthen (eval_all args r h) (λ values. gives (made (made_of (arrays (base_type r h.known.look t) all) values)))) (size-values t sizes args r h)

pub found-Paren : (p : Place) (a : Expr) (r : Around) (h : Hooks) → found (e.Paren p a) r h ≡ found a r h
unfolding found hidden-the_row-Expr-0 hidden-the_row-Expr-1 hidden
found-Paren p a r h = refl

pub found-Field : (p : Place) (a : Expr) (w : Word) (r : Around) (h : Hooks) → found (e.Field p a w) r h ≡ andthen (found a r h) (λ s. gives (further (OfField w.text) s))
unfolding found hidden-the_row-Expr-0 hidden-the_row-Expr-1 hidden
found-Field p a w r h = refl

pub found-Index : (p : Place) (a c : Expr) (r : Around) (h : Hooks)
    → found (e.Index p a c) r h ≡ andthen (found a r h) (λ s. andthen (eval c r h) (λ v. gives (further (OfElement (number_in v)) s)))
unfolding found hidden-the_row-Expr-0 hidden-the_row-Expr-1 hidden
found-Index p a c r h = refl

pub found-Unary : (p : Place) (op : Unary) (a : Expr) (r : Around) (h : Hooks) → found (e.Unary p op a) r h ≡ andthen (eval a r h) (λ v. gives (made (or_missing (operate_alone op v))))
unfolding found hidden-the_row-Expr-0 hidden-the_row-Expr-1 hidden
found-Unary p op a r h = refl

pub found-Binary : (p : Place) (op : Binary) (a c : Expr) (r : Around) (h : Hooks)
    → found (e.Binary p op a c) r h ≡ andthen (eval a r h)
    (λ v. if needs_right op (is_true v) then andthen (eval c r h) (λ u. gives (made (or_missing (operate op v u)))) else gives (made (truth_value (is_true v))))
unfolding found hidden-the_row-Expr-0 hidden-the_row-Expr-1 hidden
found-Binary p op a c r h = refl

pub found-Choice : (p : Place) (t a c : Expr) (r : Around) (h : Hooks)
    → found (e.Choice p t a c) r h ≡ andthen (eval t r h)
    (λ v. andthen (if is_true v then eval a r h else eval c r h) (λ u. gives (made (as_type (arms_type r h.known a c) u))))
unfolding found hidden-the_row-Expr-0 hidden-the_row-Expr-1 hidden
found-Choice p t a c r h = refl

pub ruleset expression_acts = (found-Number, found-Truth, found-Name, found-Call, found-Construct, found-Paren, found-Field, found-Index, found-Unary, found-Binary, found-Choice)

-- ---- blocks

-- the statements of a block that are left
abbrev pub todos_of : List Stmt → Around → List Todo
todos_of [] r = []
todos_of (a ∷ all) r = Do r a ∷ todos_of all (behind r a)

-- the statements of a block, one after another
abbrev pub exec_all : List Stmt → Around → Hooks → Act Ending
exec_all [] r h = gives (Goes On)
exec_all (a ∷ all) r h = andthen (exec a r h) (next (todos_of all (behind r a)) (on (exec_all all (behind r a) h)))

abbrev block_todos : Stmt → Around → List Todo
block_todos (x.Block' p sh all) r = todos all r
block_todos _ r = []

block-todos : (p : Place) (all : List Stmt) (r : Around) → block_todos (x.Block p all) r ≡ todos_of all r
unfolding todos hidden-the_row-Stmt-0 hidden-the_row-Stmt-1 hidden
block-todos p [] r = refl
block-todos p (a ∷ all) r = ap (λ (more : List Todo). Do r a ∷ more) (block-todos p all (behind r a))

abbrev block_row : Stmt → Around → Hooks → Act Ending
block_row (x.Block' p sh all) r h = exec_row all r h
block_row _ r h = gives (Goes On)

block-row : (p : Place) (all : List Stmt) (r : Around) (h : Hooks) → block_row (x.Block p all) r h ≡ exec_all all r h
unfolding exec exec_row hidden-the_row-Stmt-0 hidden-the_row-Stmt-1 hidden
block-row p [] r h = refl
block-row p (a ∷ all) r h =
    ap (λ (rest : List Todo). andthen (exec a r h) (next rest (on (block_row (x.Block p all) (behind r a) h)))) (block-todos p all (behind r a))
    ∙ ap (λ (more : Act Ending). andthen (exec a r h) (next (todos_of all (behind r a)) (on more))) (block-row p all (behind r a) h)

-- ---- statements

pub exec-Block : (p : Place) (all : List Stmt) (r : Around) (h : Hooks) → exec (x.Block p all) r h ≡ in_scope h (exec_all all (scoped r []) h)
unfolding exec hidden-the_row-Stmt-0 hidden-the_row-Stmt-1 hidden
exec-Block p all r h = ap (in_scope h) (block-row p all (scoped r []) h)

pub exec-Empty : (p : Place) (r : Around) (h : Hooks) → exec (x.Empty p) r h ≡ gives (Goes On)
unfolding exec hidden-the_row-Stmt-0 hidden-the_row-Stmt-1 hidden
exec-Empty p r h = refl

pub exec-Local : (a : Local) (r : Around) (h : Hooks) → exec (x.Local a) r h ≡ go_on (put_locals a r h)
unfolding exec hidden-the_row-Stmt-0 hidden-the_row-Stmt-1 hidden
exec-Local a r h = refl

pub exec-Simple : (a : Simple) (r : Around) (h : Hooks) → exec (x.Simple a) r h ≡ go_on (perform a r h)
unfolding exec hidden-the_row-Stmt-0 hidden-the_row-Stmt-1 hidden
exec-Simple a r h = refl

pub exec-Assert : (a : Assert) (r : Around) (h : Hooks) → exec (x.Assert a) r h ≡ gives (Goes On)
unfolding exec hidden-the_row-Stmt-0 hidden-the_row-Stmt-1 hidden
exec-Assert a r h = refl

pub exec-If : (p : Place) (c : Expr) (a : Stmt) (r : Around) (h : Hooks)
    → exec (x.If p c a) r h ≡ andthen (holds c r h) (λ test. if test then in_scope h (exec a (scoped r []) h) else gives (Goes On))
unfolding exec hidden-the_row-Stmt-0 hidden-the_row-Stmt-1 hidden
exec-If p c a r h = refl

pub exec-IfElse : (p : Place) (c : Expr) (a b : Stmt) (r : Around) (h : Hooks)
    → exec (x.IfElse p c a b) r h ≡ andthen (holds c r h) (λ test. if test then in_scope h (exec a (scoped r []) h) else in_scope h (exec b (scoped r []) h))
unfolding exec hidden-the_row-Stmt-0 hidden-the_row-Stmt-1 hidden
exec-IfElse p c a b r h = refl

pub exec-Loop : (p : Place) (a : Stmt) (r : Around) (h : Hooks)
    → exec (x.Loop p None a) r h ≡ repeat (bare r Always a) h (in_scope h (exec a (scoped (looped r) []) h))
unfolding exec hidden-the_row-Stmt-0 hidden-the_row-Stmt-1 hidden
exec-Loop p a r h = refl

pub exec-Times : (p : Place) (c : Expr) (a : Stmt) (r : Around) (h : Hooks)
    → exec (x.Loop p (Some c) a) r h ≡ andthen (eval c r h) (λ v. in_scope h (after (put h p v) (repeat (bare r (Down p) a) h (in_scope h (exec a (scoped (looped r) []) h)))))
unfolding exec hidden-the_row-Stmt-0 hidden-the_row-Stmt-1 hidden
exec-Times p c a r h = refl

pub exec-While : (p : Place) (c : Expr) (a : Stmt) (r : Around) (h : Hooks)
    → exec (x.While p c a) r h ≡ repeat (bare r (Holds c) a) h (in_scope h (exec a (scoped (looped r) []) h))
unfolding exec hidden-the_row-Stmt-0 hidden-the_row-Stmt-1 hidden
exec-While p c a r h = refl

pub exec-ForType : (p : Place) (ty : TypeExpr) (w : Word) (a : Stmt) (r : Around) (h : Hooks)
    → exec (x.ForType p ty w a) r h ≡ in_scope h (after (put h w.place (zero_in (type_of_expr r h.known.look ty)))
    (begun_then (each r ty w a) h (in_scope h (exec a (scoped (scoped (looped r) (counter r ty w ∷ [])) []) h))))
unfolding exec hidden-the_row-Stmt-0 hidden-the_row-Stmt-1 hidden
exec-ForType p ty w a r h = refl

pub exec-For : (p : Place) (s : Option Start) (c : Option Expr) (n : Option Simple) (a : Stmt) (r : Around) (h : Hooks)
    → exec (x.For p s c n a) r h ≡ in_scope h (after (start s (scoped r []) h)
    (repeat (of_parts (after_start (scoped r []) s) c n a) h (in_scope h (exec a (scoped (looped (after_start (scoped r []) s)) []) h))))
unfolding exec hidden-the_row-Stmt-0 hidden-the_row-Stmt-1 hidden
exec-For p s c n a r h = refl

pub exec-Break : (p : Place) (r : Around) (h : Hooks) → exec (x.Break p) r h ≡ gives (Goes Broke)
unfolding exec hidden-the_row-Stmt-0 hidden-the_row-Stmt-1 hidden
exec-Break p r h = refl

pub exec-Continue : (p : Place) (r : Around) (h : Hooks) → exec (x.Continue p) r h ≡ gives (Goes Continued)
unfolding exec hidden-the_row-Stmt-0 hidden-the_row-Stmt-1 hidden
exec-Continue p r h = refl

pub exec-Return : (p : Place) (v : Option Expr) (r : Around) (h : Hooks) → exec (x.Return p v) r h ≡ answered v r h
unfolding exec hidden-the_row-Stmt-0 hidden-the_row-Stmt-1 hidden
exec-Return p v r h = refl

pub exec-Advance : (p : Place) (r : Around) (h : Hooks) → exec (x.Advance p) r h ≡ gives (Pauses [])
unfolding exec hidden-the_row-Stmt-0 hidden-the_row-Stmt-1 hidden
exec-Advance p r h = refl

pub exec-Write : (w : Word) (a : Expr) (r : Around) (h : Hooks) → exec (x.Write w a) r h ≡ andthen (eval a r h) (λ v. go_on (written (find_word r w) v h))
unfolding exec hidden-the_row-Stmt-0 hidden-the_row-Stmt-1 hidden
exec-Write w a r h = refl

pub ruleset statement_acts = (
  exec-Block,
  exec-Empty,
  exec-Local,
  exec-Simple,
  exec-Assert,
  exec-If,
  exec-IfElse,
  exec-Loop,
  exec-Times,
  exec-While,
  exec-ForType,
  exec-For,
  exec-Break,
  exec-Continue,
  exec-Return,
  exec-Advance,
  exec-Write,
)
