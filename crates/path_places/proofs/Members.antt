-- What is looked up in a member of a processor or a graph stands at its tokens, in their order.
use Rattle.std.proofs.Common.{List, [], ◌∷◌, ◌++◌, refl}
use Rattle.std.specs.Prelude.{Option, flat_map}
use Rattle.cm_tree.specs.declared.token.Token.{Token}
use Rattle.cm_tree.specs.declared.expr.Expr.{Expr}
use Rattle.cm_tree.specs.declared.expr.Expr.TheVariants as e
use Rattle.cm_tree.specs.declared.type_expr.Arg.{Arg}
use Rattle.cm_tree.specs.declared.type_expr.Arg.TheVariants as v
use Rattle.cm_tree.specs.declared.simple.Init.{Init}
use Rattle.cm_tree.specs.declared.shared.Fields.{Fields}
use Rattle.cm_tree.specs.declared.shared.Shared.{Shared}
use Rattle.cm_tree.specs.declared.shared.Function.{Function}
use Rattle.cm_tree.specs.declared.member.Key.{Key}
use Rattle.cm_tree.specs.declared.member.EndName.{EndName}
use Rattle.cm_tree.specs.declared.member.End.{End}
use Rattle.cm_tree.specs.declared.member.Node.{Node}
use Rattle.cm_tree.specs.declared.member.Point.{Point}
use Rattle.cm_tree.specs.declared.member.Link.{Link}
use Rattle.cm_tree.specs.declared.member.Member.{Member}
use Rattle.cm_tree.specs.declared.decl.Param.{Param}
use Rattle.cm_tree.specs.Lists as lists
use Rattle.cm_tree.specs.Lists.{Further, Listed}
use Rattle.cm_tree.specs.Spelling.{SpellsExpr, SpellsArg}
use Rattle.cm_tree.specs.Spelling as spells
use Rattle.cm_tree.specs.StmtSpelling.{SpellsInit, SpellsVar}
use Rattle.cm_tree.specs.StmtSpelling as stmts
use Rattle.cm_tree.specs.DeclSpelling.{SpellsKey, SpellsKeys, SpellsEndName, SpellsEnd, SpellsEnds, SpellsFields, SpellsShared, SpellsFunction, SpellsNodeArgs, SpellsBracketed, SpellsFactor, SpellsNode, SpellsPoint, SpellsDelay, SpellsLink, SpellsLinks, SpellsItem, SpellsProcessorItem, SpellsGraphItem, SpellsParam, SpellsParams}
use Rattle.cm_tree.specs.DeclSpelling as g
use Rattle.cm_meaning.specs.Declared.{Struct}
use Rattle.cm_meaning.specs.Scopes.{Around, declared, constant, inside_of}
use Rattle.cm_meaning.specs.Sites.{Taken, TakesAny, GivesNode, site, expr_sites, optional_sites}
use Rattle.cm_meaning.specs.PatchSites.{function_sites, fields_sites, constant_sites, shared_sites, key_value_sites, keys_sites, end_sites, state_value_sites, takes, given_sites, given_all, node_sites, point_sites, link_sites, member_sites, param_sites}
use Rattle.cm_meaning.specs.SiteEquations.{expr_sites-Name}
use Rattle.path_places.proofs.Follow.{Follow, none, past, plain, ahead, both, alone, same_path, at_path, at_word, at_every, at_listed, at_maybe_listed}
use Rattle.path_places.proofs.Exprs.{at_expr, at_base, at_sizes, at_type}
use Rattle.path_places.proofs.Stmts.{at_var, at_assert, at_block, at_typed}

-- ---- annotations and endpoints

at_key : (r : Around) (a : Key) (tokens : List Token) → SpellsKey a tokens → Follow (key_value_sites r a.value) tokens
at_key r a tokens (g.bare w t is) = none
at_key r a tokens (g.value w v t colon others h1 h2 spelled) = past (past (at_expr r spelled))
at_key r a tokens (g.text w v t colon x h1 h2 h3) = none

pub at_keys : (r : Around) {keys : List Key} {tokens : List Token} → SpellsKeys keys tokens → Follow (keys_sites r keys) tokens
at_keys r g.none = none
at_keys r (g.some keys o u c v inner h1 h2 spelled h3 h4) = past (past (ahead (c ∷ v ∷ []) (at_listed (λ (k : Key). key_value_sites r k.value) (at_key r) spelled)))

at_end_name : (r : Around) (a : EndName) (tokens : List Token) → SpellsEndName a tokens → Follow (keys_sites r a.keys) tokens
at_end_name r a tokens (g.name w keys t others is spelled) = past (at_keys r spelled)

at_end : (r : Around) (a : End) (tokens : List Token) → SpellsEnd a tokens → Follow (end_sites r a) tokens
at_end r a tokens (g.end kind ty names t c front others h1 typed spelled h2) =
    past (both (at_type r typed) (ahead (c ∷ []) (at_listed (λ (n : EndName). keys_sites r n.keys) (at_end_name r) spelled)))

at_ends : (r : Around) {all : List End} {tokens : List Token} → SpellsEnds all tokens → Follow (flat_map (end_sites r) all) tokens
at_ends r (g.one a tokens spelled) = alone (at_end r a tokens spelled)
at_ends r (g.several all o c inner h1 spelled h2) = past (ahead (c ∷ []) (at_every (end_sites r) (at_end r) spelled))

-- ---- declarations of every place

at_fields : (r : Around) (a : Fields) (tokens : List Token) → SpellsFields a tokens → Follow (fields_sites r a) tokens
at_fields r a tokens (g.fields ty names c front others typed h1 h2) = ahead (others ++ c ∷ []) (at_type r typed)

at_constant : (r : Around) (a : Init) (tokens : List Token) → SpellsInit a tokens → Follow (constant_sites r a) tokens
at_constant r a tokens (stmts.init w v t equals value h1 h2 spelled) = past (past (at_expr (inside_of r (constant r.home a)) spelled))

pub at_shared : (r : Around) {a : Shared} {tokens : List Token} → SpellsShared a tokens → Follow (shared_sites r a) tokens
at_shared r (g.structure x all t v o c inner h1 h2 h3 spelled h4) =
    past (past (past (plain refl (ahead (c ∷ []) (at_every _ (at_fields (inside_of r (declared r.home x (Struct t.place all)))) spelled)))))
at_shared r (g.alias x ty t v equals c inner h1 h2 h3 spelled h4) = past (past (past (ahead (c ∷ []) (at_type _ spelled))))
at_shared r (g.constants all t c inner h1 spelled h2) = past (ahead (c ∷ []) (at_listed (constant_sites r) (at_constant r) spelled))
at_shared r (g.asserted a tokens spelled) = at_assert r spelled

pub at_function : (r : Around) {a : Function} {tokens : List Token} → SpellsFunction a tokens → Follow (function_sites r a) tokens
at_function r (g.plain x params b t v o c inner body h1 h2 h3 spelled h4 spelled_block) =
    plain refl (plain refl (past (past (past (both (at_maybe_listed _ (at_typed _) spelled) (past (at_block _ spelled_block)))))))
at_function r (g.giving ty x params b t v o c front inner body typed h1 h2 spelled h3 spelled_block) =
    plain refl (both (at_type _ typed) (plain refl (past (past (both (at_maybe_listed _ (at_typed _) spelled) (past (at_block _ spelled_block)))))))

-- ---- nodes and connections

-- a path alone is looked up as an argument
at_value : (r : Around) (taken : Taken) (a : Expr) {tokens : List Token} → Follow (expr_sites r a) tokens → Follow (site r (GivesNode taken (v.Value a)) ∷ given_sites r (v.Value a)) tokens
at_value r taken (e.Name q) h = same_path refl (rw expr_sites-Name at h)
at_value r taken (e.Number p n w) h = plain refl h
at_value r taken (e.Truth p t) h = plain refl h
at_value r taken (e.Call' q sh args) h = plain refl h
at_value r taken (e.Construct' b sh sizes i args) h = plain refl h
at_value r taken (e.Paren' p sh x) h = plain refl h
at_value r taken (e.Field' p sh x w) h = plain refl h
at_value r taken (e.Index' p sh x i y) h = plain refl h
at_value r taken (e.Unary' p o sh x) h = plain refl h
at_value r taken (e.Binary' p o sh x i y) h = plain refl h
at_value r taken (e.Choice' p sh x i y j z) h = plain refl h

at_arg : (r : Around) (taken : Taken) {a : Arg} {tokens : List Token} → SpellsArg a tokens → Follow (site r (GivesNode taken a) ∷ given_sites r a) tokens
at_arg r taken (spells.base b sizes front others base spelled) = plain refl (both (at_base r base) (at_sizes r spelled))
at_arg r taken (spells.value a tokens spelled) = at_value r taken a (at_expr r spelled)

at_further_args : (r : Around) (ts : List Taken) {args : List Arg} {tokens : List Token} → Further SpellsArg args tokens → Follow (given_all r ts args) tokens
unfolding given_all
at_further_args r [] lists.none = none
at_further_args r (t ∷ ts) lists.none = none
at_further_args r [] (lists.more a all comma first others is spelled further) = past (both (at_arg r TakesAny spelled) (at_further_args r [] further))
at_further_args r (t ∷ ts) (lists.more a all comma first others is spelled further) = past (both (at_arg r t spelled) (at_further_args r ts further))

at_node_args : (r : Around) (ts : List Taken) {args : List Arg} {tokens : List Token} → SpellsNodeArgs args tokens → Follow (given_all r ts args) tokens
unfolding given_all
at_node_args r [] g.none = none
at_node_args r (t ∷ ts) g.none = none
at_node_args r [] (g.some args o c inner h1 (lists.listed a all first others spelled further) h2) =
    past (ahead (c ∷ []) (both (at_arg r TakesAny spelled) (at_further_args r [] further)))
at_node_args r (t ∷ ts) (g.some args o c inner h1 (lists.listed a all first others spelled further) h2) =
    past (ahead (c ∷ []) (both (at_arg r t spelled) (at_further_args r ts further)))

at_bracketed : (r : Around) {a : Option Expr} {tokens : List Token} → SpellsBracketed a tokens → Follow (optional_sites r a) tokens
at_bracketed r g.none = none
at_bracketed r (g.some a o c inner h1 spelled h2) = past (ahead (c ∷ []) (at_expr r spelled))

at_factor : (r : Around) {a : Option Expr} {tokens : List Token} → SpellsFactor a tokens → Follow (optional_sites r a) tokens
at_factor r g.none = none
at_factor r (g.some a star others is spelled) = past (at_expr r spelled)

at_node : (r : Around) (a : Node) (tokens : List Token) → SpellsNode a tokens → Follow (node_sites r a) tokens
at_node r a tokens (g.node x p args count factor t equals front inner index others h1 h2 at given counted times) =
    past (past (at_path refl at (both (at_node_args r (takes r p) given) (both (at_bracketed r counted) (at_factor r times)))))

at_point : (r : Around) {a : Point} {tokens : List Token} → SpellsPoint a tokens → Follow (point_sites r a) tokens
at_point r (g.point x i y t index others is spelled h) = at_word refl is (ahead others (at_bracketed r spelled))

at_delay : (r : Around) {a : Option Expr} {tokens : List Token} → SpellsDelay a tokens → Follow (optional_sites r a) tokens
at_delay r g.none = none
at_delay r (g.some a o c arrow inner h1 spelled h2 h3) = past (ahead (c ∷ arrow ∷ []) (at_expr r spelled))

at_link : (r : Around) (a : Link) (tokens : List Token) → SpellsLink a tokens → Follow (link_sites r a) tokens
at_link r a tokens (g.plain from to delay arrow c front middle back first h1 delayed second h2) =
    both (at_point r first) (past (both (at_delay r delayed) (ahead (c ∷ []) (at_point r second))))
at_link r a tokens (g.latched from to delay o t u arrow c front middle back h1 h2 h3 first h4 delayed second h5) =
    past (past (past (both (at_point r first) (past (both (at_delay r delayed) (ahead (c ∷ []) (at_point r second)))))))

at_links : (r : Around) {all : List Link} {tokens : List Token} → SpellsLinks all tokens → Follow (flat_map (link_sites r) all) tokens
at_links r (g.one a tokens spelled) = alone (at_link r a tokens spelled)
at_links r (g.several all o c inner h1 spelled h2) = past (ahead (c ∷ []) (at_every (link_sites r) (at_link r) spelled))

-- ---- members

at_item : (r : Around) {a : Member} {tokens : List Token} → SpellsItem a tokens → Follow (member_sites r a) tokens
at_item r (g.ends f all t others h spelled) = past (at_ends r spelled)
at_item r (g.shared a tokens spelled) = at_shared r spelled

at_variable : (r : Around) (a : Init) (tokens : List Token) → SpellsInit a tokens → Follow (expr_sites r a.value) tokens
at_variable r a tokens (stmts.init w x t equals value h1 h2 spelled) = past (past (at_expr r spelled))

pub at_processor_item : (r : Around) (a : Member) (tokens : List Token) → SpellsProcessorItem a tokens → Follow (member_sites r a) tokens
at_processor_item r a tokens (g.item x all spelled) = at_item r spelled
at_processor_item r a tokens (g.function f all spelled) = at_function r spelled
at_processor_item r a tokens (g.handler x typed b t y o c inner body h1 h2 h3 spelled h4 h5) =
    past (at_word refl h2 (plain refl (past (both (at_typed _ typed inner spelled) (past (at_block _ h5))))))
at_processor_item r a tokens (g.variables all t c inner h1 spelled h2) =
    past (ahead (c ∷ []) (at_listed (λ (i : Init). expr_sites r i.value) (at_variable r) spelled))
at_processor_item r a tokens (g.state ty all c front others typed spelled h) =
    both (at_type r typed) (ahead (c ∷ []) (at_listed (state_value_sites r) (λ x first. at_var r) spelled))
at_processor_item r a tokens (g.latency x t dot y equals c inner h1 h2 h3 h4 spelled h5) = past (past (past (past (ahead (c ∷ []) (at_expr r spelled)))))

pub at_graph_item : (r : Around) (a : Member) (tokens : List Token) → SpellsGraphItem a tokens → Follow (member_sites r a) tokens
at_graph_item r a tokens (g.item x all spelled) = at_item r spelled
at_graph_item r a tokens (g.nodes all t c inner h1 spelled h2) = past (ahead (c ∷ []) (at_listed (node_sites r) (at_node r) spelled))
at_graph_item r a tokens (g.connection all t others is spelled) = past (at_links r spelled)

-- ---- parameters of a processor or a graph

at_param : (r : Around) (a : Param) (tokens : List Token) → SpellsParam a tokens → Follow (param_sites r a) tokens
at_param r a tokens (g.type x t y h1 h2) = none
at_param r a tokens (g.value ty x y front spelled is) = ahead (y ∷ []) (at_type r spelled)

pub at_params : (r : Around) {params : List Param} {tokens : List Token} → SpellsParams params tokens → Follow (flat_map (param_sites r) params) tokens
at_params r g.none = none
at_params r (g.some params o c inner h1 spelled h2) = past (ahead (c ∷ []) (at_listed (param_sites r) (at_param r) spelled))
