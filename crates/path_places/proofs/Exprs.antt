-- What is looked up in an expression or a type stands at its tokens, in their order.
use Rattle.std.proofs.Common.{List, [], ◌∷◌, refl}
use Rattle.std.specs.Prelude.{Option, flat_map}
use Rattle.cm_tree.specs.declared.token.Token.{Token}
use Rattle.cm_tree.specs.declared.expr.Expr.{Expr}
use Rattle.cm_tree.specs.declared.expr.Base.{Base}
use Rattle.cm_tree.specs.declared.type_expr.TypeExpr.{TypeExpr}
use Rattle.cm_tree.specs.Lists as lists
use Rattle.cm_tree.specs.Lists.{Optional}
use Rattle.cm_tree.specs.Spelling.{SpellsExpr, SpellsArgs, SpellsMore, SpellsSizes, SpellsBase, SpellsType}
use Rattle.cm_tree.specs.Spelling as g
use Rattle.cm_meaning.specs.Scopes.{Around}
use Rattle.cm_meaning.specs.Sites.{expr_sites, base_sites, arguments_sites, optional_sites, type_sites}
use Rattle.cm_meaning.specs.SiteEquations.{expr_sites-Number, expr_sites-Truth, expr_sites-Name, expr_sites-Call, expr_sites-Construct, expr_sites-Paren, expr_sites-Field, expr_sites-Index, expr_sites-Unary, expr_sites-Binary, expr_sites-Choice, base_sites-Bool, base_sites-Int, base_sites-Int32, base_sites-Int64, base_sites-Wrap, base_sites-Clamp}
use Rattle.path_places.proofs.Follow.{Follow, none, past, plain, ahead, both, at_path, only_path}

mutual
  pub at_expr : (r : Around) {a : Expr} {tokens : List Token} → SpellsExpr a tokens → Follow (expr_sites r a) tokens
  at_expr r (g.number t v w is) = rw expr_sites-Number none
  at_expr r (g.yes t is) = rw expr_sites-Truth none
  at_expr r (g.no t is) = rw expr_sites-Truth none
  at_expr r (g.name q tokens at) = rw expr_sites-Name (only_path refl at)
  at_expr r (g.call q args o c front inner at h1 spelled h2) = rw expr_sites-Call (at_path refl at (past (ahead (c ∷ []) (at_args r spelled))))
  at_expr r (g.construct b sizes args o c front middle inner base spelled h1 given h2) =
      rw expr_sites-Construct (both (at_base r base) (both (at_sizes r spelled) (past (ahead (c ∷ []) (at_args r given)))))
  at_expr r (g.paren a o c inner h1 spelled h2) = rw expr_sites-Paren (past (ahead (c ∷ []) (at_expr r spelled)))
  at_expr r (g.field a w dot t left h1 spelled h2 h3) = rw expr_sites-Field (ahead (dot ∷ t ∷ []) (at_expr r spelled))
  at_expr r (g.index a i o c left inner h1 spelled h2 further h3) = rw expr_sites-Index (both (at_expr r spelled) (past (ahead (c ∷ []) (at_expr r further))))
  at_expr r (g.unary x a t inner h1 h2 spelled) = rw expr_sites-Unary (past (at_expr r spelled))
  at_expr r (g.binary x a b t left right h1 first h2 h3 second) = rw expr_sites-Binary (both (at_expr r first) (past (at_expr r second)))
  at_expr r (g.choice c a b t u test left right h1 tested h2 first h3 second) =
      rw expr_sites-Choice (both (at_expr r tested) (past (both (at_expr r first) (past (at_expr r second)))))

  pub at_args : (r : Around) {args : List Expr} {tokens : List Token} → SpellsArgs args tokens → Follow (arguments_sites r args) tokens
  at_args r g.no_args = none
  at_args r (g.args a args first others spelled further) = plain refl (both (at_expr r spelled) (at_more r further))

  at_more : (r : Around) {args : List Expr} {tokens : List Token} → SpellsMore args tokens → Follow (arguments_sites r args) tokens
  at_more r g.no_more = none
  at_more r (g.more a args comma first others is spelled further) = past (plain refl (both (at_expr r spelled) (at_more r further)))

  pub at_sizes : (r : Around) {sizes : List Expr} {tokens : List Token} → SpellsSizes sizes tokens → Follow (flat_map (expr_sites r) sizes) tokens
  at_sizes r g.no_sizes = none
  at_sizes r (g.size a sizes o c inner others h1 spelled h2 further) = past (both (at_expr r spelled) (past (at_sizes r further)))

  pub at_base : (r : Around) {b : Base} {tokens : List Token} → SpellsBase b tokens → Follow (base_sites r b) tokens
  at_base r (g.bool t is) = rw base_sites-Bool none
  at_base r (g.int t is) = rw base_sites-Int none
  at_base r (g.int32 t is) = rw base_sites-Int32 none
  at_base r (g.int64 t is) = rw base_sites-Int64 none
  at_base r (g.wrap a t o c inner h1 h2 h3 spelled h4) = rw base_sites-Wrap (past (past (ahead (c ∷ []) (at_expr r spelled))))
  at_base r (g.clamp a t o c inner h1 h2 h3 spelled h4) = rw base_sites-Clamp (past (past (ahead (c ∷ []) (at_expr r spelled))))

pub at_optional : (r : Around) {a : Option Expr} {tokens : List Token} → Optional SpellsExpr a tokens → Follow (optional_sites r a) tokens
at_optional r lists.absent = none
at_optional r (lists.present a tokens spelled) = at_expr r spelled

pub at_type : (r : Around) {ty : TypeExpr} {tokens : List Token} → SpellsType ty tokens → Follow (type_sites r ty) tokens
at_type r (g.base b sizes front others base spelled) = both (at_base r base) (at_sizes r spelled)
at_type r (g.named q sizes front others at spelled) = at_path refl at (at_sizes r spelled)
