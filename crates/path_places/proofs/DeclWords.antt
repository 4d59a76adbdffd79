-- What is declared in a declaration or a file stands at its tokens, each at one of its own.
use Rattle.std.proofs.Common.{◌≡◌, ℕ, suc, ◌≤◌, Bool, true, false, List, [], ◌∷◌, map, refl, ◌∙◌, ap, subst, arith}
use Rattle.std.specs.Prelude.{◌&&◌, Option, Some, None, flat_map}
use Rattle.std.proofs.lemmas.List.Concat.{flat_map_single}
use Rattle.cm_base.specs.declared.host.Flow.{Flow}
use Rattle.cm_base.specs.declared.place.Place.{Place}
use Rattle.cm_tree.specs.declared.token.Token.{Token}
use Rattle.cm_tree.specs.declared.reserved.Reserved.{Reserved}
use Rattle.cm_tree.specs.declared.path.Path.{Path}
use Rattle.cm_tree.specs.declared.path.Word.{Word}
use Rattle.cm_tree.specs.declared.expr.Expr.TheVariants as e
use Rattle.cm_tree.specs.declared.type_expr.Arg.{Arg}
use Rattle.cm_tree.specs.declared.type_expr.Arg.TheVariants as v
use Rattle.cm_tree.specs.declared.simple.Init.{Init}
use Rattle.cm_tree.specs.declared.shared.Fields.{Fields}
use Rattle.cm_tree.specs.declared.shared.Shared.{Shared}
use Rattle.cm_tree.specs.declared.shared.Function.{Function}
use Rattle.cm_tree.specs.declared.member.KeyValue.{KeyValue}
use Rattle.cm_tree.specs.declared.member.KeyValue.TheVariants as kv
use Rattle.cm_tree.specs.declared.member.Key.{Key}
use Rattle.cm_tree.specs.declared.member.EndName.{EndName}
use Rattle.cm_tree.specs.declared.member.End.{End}
use Rattle.cm_tree.specs.declared.member.Node.{Node}
use Rattle.cm_tree.specs.declared.member.Point.{Point}
use Rattle.cm_tree.specs.declared.member.Link.{Link}
use Rattle.cm_tree.specs.declared.member.Member.{Member}
use Rattle.cm_tree.specs.declared.decl.Param.{Param}
use Rattle.cm_tree.specs.declared.decl.Param.TheVariants as q
use Rattle.cm_tree.specs.declared.decl.UnitDecl.{UnitDecl}
use Rattle.cm_tree.specs.declared.decl.Decl.{Decl}
use Rattle.cm_tree.specs.declared.file.File.{File}
use Rattle.cm_tree.specs.Lists as lists
use Rattle.cm_tree.specs.Lists.{Further, Listed}
use Rattle.cm_tree.specs.Spelling.{SpellsPath}
use Rattle.cm_tree.specs.Spelling as spells
use Rattle.cm_tree.specs.StmtSpelling.{SpellsInit}
use Rattle.cm_tree.specs.DeclSpelling.{SpellsEndName, SpellsEnd, SpellsEnds, SpellsShared, SpellsFunction, SpellsNode, SpellsItem, SpellsProcessorItem, SpellsGraphItem, SpellsParam, SpellsParams, SpellsUnit, SpellsDecl, SpellsDecls, SpellsFile}
use Rattle.cm_tree.specs.DeclSpelling as g
use Rattle.cm_meaning.specs.Declared.{Space, Home, Declared, Processor, Graph, Function as DeclaresFunction}
use Rattle.cm_meaning.specs.Types.{is_place}
use Rattle.cm_meaning.specs.Scopes.{Around, declared, constant, inferred_state, typed_state, node_name, end_name, end_names, shared_names, member_names, param_name, param_names, unit_names, opened, within, decl_names, in_space, around_space}
use Rattle.cm_meaning.specs.Sites.{Site, Taken, expr_sites}
use Rattle.cm_meaning.specs.SiteEquations.{decl_names-Namespace, decl_sites-Namespace}
use Rattle.cm_meaning.specs.PatchSites.{function_sites, constant_sites, shared_sites, key_value_sites, keys_sites, end_sites, state_value_sites, takes, given_sites, given_all, node_sites, point_sites, link_sites, member_sites, param_sites, unit_sites, decl_sites, file_sites}
use Rattle.path_places.proofs.NoWords.{NoWords, none, more, no_words_both, no_words_all, no_words_expr, no_words_base, no_words_optional, no_words_type}
use Rattle.path_places.proofs.Fits.{Fits, weight, others_at, spaces_at, one, tokens-more, nothing, with_no_words, no_words, passing, after_front, before_back, by_itself, together, together_left, named, plainly, opening, fits_every, fits_listed}
use Rattle.path_places.proofs.StmtWords.{KeepsWord, fits_init, fits_var, fits_block, fits_typed, fits_params}

-- ---- lists of names with values

fits_made : (make : Home → Init → Declared) → KeepsWord make → (home : Home) (f : Init → List Site) → ((x : Init) → NoWords (f x)) → {all : List Init} {tokens : List Token}
    → Listed SpellsInit all tokens → Fits (map (make home) all) (flat_map f all) tokens
fits_made make keeps home f none_there {all} {tokens} spelled =
    subst (λ names. Fits names (flat_map f all) tokens) (flat_map_single (make home) all)
    (fits_listed (λ x. make home x ∷ []) f (λ x first h. with_no_words (fits_init make keeps home x first h) (none_there x)) spelled)

-- ---- annotations and endpoints

no_words_value : (r : Around) (a : Option KeyValue) → NoWords (key_value_sites r a)
no_words_value r None = none
no_words_value r (Some (kv.Value x)) = no_words_expr r x
no_words_value r (Some (kv.Text p t)) = none

no_words_keys : (r : Around) (keys : List Key) → NoWords (keys_sites r keys)
no_words_keys r keys = no_words_all (λ (a : Key). key_value_sites r a.value) (λ a. no_words_value r a.value) keys

fits_end_name : (home : Home) (flow : Flow) (end : End) (r : Around) (a : EndName) (tokens : List Token) → SpellsEndName a tokens
    → Fits (end_name home flow end a ∷ []) (keys_sites r a.keys) tokens
fits_end_name home flow end r a tokens (g.name w keys t others is spelled) = with_no_words (named is.place (nothing {tokens = others})) (no_words_keys r keys)

fits_end : (home : Home) (flow : Flow) (r : Around) (a : End) (tokens : List Token) → SpellsEnd a tokens → Fits (end_names home flow a) (end_sites r a) tokens
fits_end home flow r a tokens (g.end kind ty names t c front others h1 typed spelled h2) =
    let end : End = record { place = t.place; kind = kind; ty = ty; names = names } in
    passing (together (no_words {tokens = front} (no_words_type r ty)) (before_back (c ∷ [])
    (subst (λ all. Fits all (flat_map (λ (n : EndName). keys_sites r n.keys) names) others) (flat_map_single (end_name home flow end) names)
    (fits_listed (λ n. end_name home flow end n ∷ []) (λ (n : EndName). keys_sites r n.keys) (fits_end_name home flow end r) spelled))))

fits_ends : (home : Home) (flow : Flow) (r : Around) {all : List End} {tokens : List Token} → SpellsEnds all tokens → Fits (flat_map (end_names home flow) all) (flat_map (end_sites r) all) tokens
fits_ends home flow r (g.one a tokens spelled) = by_itself (fits_end home flow r a tokens spelled)
fits_ends home flow r (g.several all o c inner h1 spelled h2) = passing (before_back (c ∷ []) (fits_every (end_names home flow) (end_sites r) (fits_end home flow r) spelled))

-- ---- declarations of every place

fits_shared : (home : Home) (r : Around) {a : Shared} {tokens : List Token} → SpellsShared a tokens → Fits (shared_names home a) (shared_sites r a) tokens
fits_shared home r (g.structure x all t w o c inner h1 is h3 spelled h4) =
    with_no_words (passing (named is.place nothing)) (more refl (no_words_all _ (λ (f : Fields). no_words_type _ f.ty) all))
fits_shared home r (g.alias x ty t w equals c inner h1 is h3 spelled h4) = with_no_words (passing (named is.place nothing)) (no_words_type _ ty)
fits_shared home r (g.constants all t c inner h1 spelled h2) =
    passing (before_back (c ∷ []) (fits_made constant (λ h x. refl) home (constant_sites r) (λ x. no_words_expr _ x.value) spelled))
fits_shared home r (g.asserted a tokens spelled) = no_words (no_words_expr r a.condition)

fits_function : (home : Home) (r : Around) {a : Function} {tokens : List Token} → SpellsFunction a tokens
    → Fits (declared home a.name (DeclaresFunction a) ∷ []) (function_sites r a) tokens
fits_function home r (g.plain x params b t w o c inner body h1 is h3 spelled h4 within) =
    plainly refl (passing (named is.place (passing (opening refl (together_left (fits_params r.home _ spelled) (passing (fits_block _ within)))))))
fits_function home r (g.giving ty x params b t w o c front inner body typed is h2 spelled h3 within) =
    plainly refl (together (no_words {tokens = t ∷ front} (no_words_type _ ty))
    (named is.place (passing (opening refl (together_left (fits_params r.home _ spelled) (passing (fits_block _ within)))))))

-- ---- nodes and connections

no_words_arg : (r : Around) (a : Arg) → NoWords (given_sites r a)
no_words_arg r (v.Type b sizes) = no_words_both (no_words_base r b) (no_words_all (expr_sites r) (no_words_expr r) sizes)
no_words_arg r (v.Value (e.Name p)) = none
no_words_arg r (v.Value (e.Number p n w)) = no_words_expr r (e.Number p n w)
no_words_arg r (v.Value (e.Truth p t)) = no_words_expr r (e.Truth p t)
no_words_arg r (v.Value (e.Call' p sh args)) = no_words_expr r (e.Call' p sh args)
no_words_arg r (v.Value (e.Construct' b sh sizes i args)) = no_words_expr r (e.Construct' b sh sizes i args)
no_words_arg r (v.Value (e.Paren' p sh x)) = no_words_expr r (e.Paren' p sh x)
no_words_arg r (v.Value (e.Field' p sh x w)) = no_words_expr r (e.Field' p sh x w)
no_words_arg r (v.Value (e.Index' p sh x i y)) = no_words_expr r (e.Index' p sh x i y)
no_words_arg r (v.Value (e.Unary' p o sh x)) = no_words_expr r (e.Unary' p o sh x)
no_words_arg r (v.Value (e.Binary' p o sh x i y)) = no_words_expr r (e.Binary' p o sh x i y)
no_words_arg r (v.Value (e.Choice' p sh x i y j z)) = no_words_expr r (e.Choice' p sh x i y j z)

no_words_given : (r : Around) (ts : List Taken) (args : List Arg) → NoWords (given_all r ts args)
unfolding given_all
no_words_given r ts [] = none
no_words_given r [] (a ∷ args) = more refl (no_words_both (no_words_arg r a) (no_words_given r [] args))
no_words_given r (t ∷ ts) (a ∷ args) = more refl (no_words_both (no_words_arg r a) (no_words_given r ts args))

no_words_node : (r : Around) (a : Node) → NoWords (node_sites r a)
no_words_node r a = more refl (no_words_both (no_words_given r (takes r a.path) a.args) (no_words_both (no_words_optional r a.count) (no_words_optional r a.factor)))

fits_node : (home : Home) (r : Around) (a : Node) (tokens : List Token) → SpellsNode a tokens → Fits (node_name home a ∷ []) (node_sites r a) tokens
fits_node home r a tokens (g.node x p args count factor t equals front inner index others is h2 h3 h4 h5 h6) = with_no_words (named is.place nothing) (no_words_node r _)

no_words_point : (r : Around) (a : Point) → NoWords (point_sites r a)
no_words_point r a = more refl (no_words_optional r a.index)

no_words_link : (r : Around) (a : Link) → NoWords (link_sites r a)
no_words_link r a = no_words_both (no_words_point r a.from) (no_words_both (no_words_optional r a.delay) (no_words_point r a.to))

-- ---- members

fits_item : (home : Home) (r : Around) {a : Member} {tokens : List Token} → SpellsItem a tokens → Fits (member_names home a) (member_sites r a) tokens
fits_item home r (g.ends f all t others h spelled) = passing (fits_ends home f r spelled)
fits_item home r (g.shared a tokens spelled) = fits_shared home r spelled

fits_processor_item : (home : Home) (r : Around) (a : Member) (tokens : List Token) → SpellsProcessorItem a tokens → Fits (member_names home a) (member_sites r a) tokens
fits_processor_item home r a tokens (g.item x all spelled) = fits_item home r spelled
fits_processor_item home r a tokens (g.function f all spelled) = fits_function home r spelled
fits_processor_item home r a tokens (g.handler x typed b t w o c inner body h1 h2 h3 spelled h4 within) =
    plainly refl (passing (passing (passing (opening refl (together_left (fits_typed r.home _ typed inner spelled) (passing (fits_block _ within)))))))
fits_processor_item home r a tokens (g.variables all t c inner h1 spelled h2) =
    passing (before_back (c ∷ []) (fits_made inferred_state (λ h x. refl) home (λ (i : Init). expr_sites r i.value) (λ x. no_words_expr r x.value) spelled))
fits_processor_item home r a tokens (g.state ty all c front others typed spelled h) =
    together (no_words {tokens = front} (no_words_type r ty)) (before_back (c ∷ [])
    (subst (λ names. Fits names (flat_map (state_value_sites r) all) others) (flat_map_single (typed_state home ty) all)
    (fits_listed (λ x. typed_state home ty x ∷ []) (state_value_sites r)
    (λ x first spelled_var. with_no_words (fits_var (λ h. typed_state h ty) (λ h y. refl) home x first spelled_var) (no_words_optional r x.value)) spelled)))
fits_processor_item home r a tokens (g.latency x t dot w equals c inner h1 h2 h3 h4 spelled h5) = no_words (no_words_expr r x)

fits_graph_item : (home : Home) (r : Around) (a : Member) (tokens : List Token) → SpellsGraphItem a tokens → Fits (member_names home a) (member_sites r a) tokens
fits_graph_item home r a tokens (g.item x all spelled) = fits_item home r spelled
fits_graph_item home r a tokens (g.nodes all t c inner h1 spelled h2) =
    passing (before_back (c ∷ []) (subst (λ names. Fits names (flat_map (node_sites r) all) inner) (flat_map_single (node_name home) all)
    (fits_listed (λ x. node_name home x ∷ []) (node_sites r) (fits_node home r) spelled)))
fits_graph_item home r a tokens (g.connection all t others is spelled) = no_words (no_words_all (link_sites r) (no_words_link r) all)

-- ---- processors and graphs

fits_param : (home : Home) (i : ℕ) (a : Param) (tokens : List Token) → SpellsParam a tokens → Fits (param_name home i a ∷ []) [] tokens
fits_param home i a tokens (g.type x t w h is) = passing (named is.place nothing)
fits_param home i a tokens (g.value ty x w front typed is) = after_front front (named is.place nothing)

fits_further_params : (home : Home) (i : ℕ) {params : List Param} {tokens : List Token} → Further SpellsParam params tokens → Fits (param_names home i params) [] tokens
unfolding param_names
fits_further_params home i lists.none = nothing
fits_further_params home i (lists.more a all comma first others is spelled further) = passing (together (fits_param home i a first spelled) (fits_further_params home (suc i) further))

fits_unit_params : (home : Home) (i : ℕ) {params : List Param} {tokens : List Token} → SpellsParams params tokens → Fits (param_names home i params) [] tokens
unfolding param_names
fits_unit_params home i g.none = nothing
fits_unit_params home i (g.some params o c inner h1 (lists.listed a all first others spelled further) h2) =
    passing (before_back (c ∷ []) (together (fits_param home i a first spelled) (fits_further_params home (suc i) further)))

no_words_param : (r : Around) (a : Param) → NoWords (param_sites r a)
no_words_param r (q.Type p w) = none
no_words_param r (q.Value ty w) = no_words_type r ty

fits_unit : (first : Reserved) {P : Member → List Token → Type 0}
    → ((home : Home) (r : Around) (a : Member) (tokens : List Token) → P a tokens → Fits (member_names home a) (member_sites r a) tokens)
    → (r : Around) (x : Declared) {u : UnitDecl} {tokens : List Token} → x.word ≡ u.name → SpellsUnit first P u tokens → Fits (x ∷ []) (unit_sites r x u) tokens
unfolding unit_names
fits_unit first each r x same (g.«unit» w params keys members t y o c front middle inner h1 is h3 h4 h5 spelled h6) =
    passing (named (ap (λ (z : Word). z.place) same ∙ is.place) (opening refl (plainly refl (plainly refl
    (together (with_no_words (fits_unit_params _ 0 h3) (no_words_all (param_sites _) (no_words_param _) params))
    (together (no_words {tokens = middle} (no_words_keys _ keys)) (passing (before_back (c ∷ []) (fits_every (member_names _) (member_sites _) (each _ _) spelled)))))))))

-- ---- namespaces

no_other : (b : Bool) → one (b && false) ≡ 0
no_other true = refl
no_other false = refl

opened_others : (p place : Place) (space : Space) (names : List (List ℕ)) → others_at p (opened space place names) ≡ 0
unfolding others_at opened
opened_others p place space [] = refl
opened_others p place space (n ∷ names) = let h = opened_others p place (n ∷ space) names in let k = no_other (is_place p place) in omega arith

opened_elsewhere : (p place : Place) (space : Space) (names : List (List ℕ)) → is_place p place ≡ false → spaces_at p (opened space place names) ≡ 0
unfolding spaces_at opened
opened_elsewhere p place space [] e = refl
opened_elsewhere p place space (n ∷ names) e =
    let h = opened_elsewhere p place (n ∷ space) names e in
    let k : one (is_place p place && true) ≡ 0 = ap (λ b. one (b && true)) e in omega arith

opened_weight : (p place : Place) (space : Space) (names : List (List ℕ)) → weight p (opened space place names) ≤ one (is_place p place)
opened_weight p place space names = by (is_place p place) refl where
  by : (b : Bool) → is_place p place ≡ b → weight p (opened space place names) ≤ one (is_place p place)
  by true e = let h = opened_others p place space names in let k : one (is_place p place) ≡ 1 = ap one e in omega arith
  by false e = let h = opened_others p place space names in let k = opened_elsewhere p place space names e in omega arith

fits_opened : (space : Space) {a : Path} {tokens : List Token} → SpellsPath a tokens → Fits (opened space a.place a.names) [] tokens
unfolding others_at spaces_at
fits_opened space (spells.path t n ns others h1 h2) = record { each = λ p. omega (arith, opened_weight p t.place space (n ∷ ns), tokens-more p t others) }

-- ---- declarations

mutual
  unfolding decl_sites decl_names

  fits_decl : (all : List Declared) (space : Space) {a : Decl} {tokens : List Token} → SpellsDecl a tokens → Fits (decl_names space a) (decl_sites all space a) tokens
  fits_decl all space (g.namespace x decls t o c front inner h1 at h3 spelled h4) =
      rw (decl_names-Namespace, decl_sites-Namespace)
      (passing (together (fits_opened space at) (passing (before_back (c ∷ []) (fits_decls all (within space x.names) spelled)))))
  fits_decl all space (g.processor a tokens spelled) = fits_unit _ fits_processor_item (around_space all space) (declared (in_space space) a.name (Processor a)) refl spelled
  fits_decl all space (g.graph a tokens spelled) = fits_unit _ fits_graph_item (around_space all space) (declared (in_space space) a.name (Graph a)) refl spelled
  fits_decl all space (g.shared a tokens spelled) = fits_shared (in_space space) (around_space all space) spelled
  fits_decl all space (g.function a tokens spelled) = fits_function (in_space space) (around_space all space) spelled

  fits_decls : (all : List Declared) (space : Space) {decls : List Decl} {tokens : List Token} → SpellsDecls decls tokens
      → Fits (flat_map (decl_names space) decls) (flat_map (decl_sites all space) decls) tokens
  fits_decls all space g.no_decls = nothing
  fits_decls all space (g.decls a others first tokens spelled further) = together (fits_decl all space spelled) (fits_decls all space further)

pub fits_file : (all : List Declared) {f : File} {tokens : List Token} → SpellsFile f tokens → Fits (flat_map (decl_names []) f.decls) (file_sites all f) tokens
fits_file all (g.file decls tokens spelled) = fits_decls all [] spelled
