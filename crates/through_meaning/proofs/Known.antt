-- A patch of the form has a tree: nothing in it is a constant or a type, and nothing is local.
use Rattle.std.proofs.Common.{◌≡◌, List, [], ◌∷◌, ◌++◌, None, refl, sym, ◌∙◌, ap, subst, append-nil}
use Rattle.std.specs.Prelude.{flat_map, Contains}
use Rattle.std.specs.List.{AllByRecursion}
use Rattle.std.proofs.lemmas.List.Elements.{All-from_recursion, All-contains}
use Rattle.cm_tree.specs.declared.expr.Base.TheBlock.{hidden-the_row-Expr-0, hidden-the_row-Expr-1}
use Rattle.cm_tree.specs.declared.stmt.Stmt.TheBlock.{hidden-the_row-Stmt-0, hidden-the_row-Stmt-1}
use Rattle.cm_tree.specs.declared.decl.Decl.TheBlock.{hidden-the_row-Decl-0}
use denote.Hole.Carrier.{hidden}
use Rattle.cm_tree.specs.declared.type_expr.TypeExpr.{TypeExpr}
use Rattle.cm_tree.specs.declared.decl.Decl.TheVariants as d
use Rattle.cm_tree.specs.declared.file.File.{File}
use Rattle.cm_tree.specs.Pieces.{Text}
use Rattle.cm_tree.specs.declared.path.Word.{Word}
use Rattle.cm_tree.specs.declared.decl.UnitDecl.{UnitDecl}
use Rattle.cm_meaning.specs.Declared.{Home, Declared, Named, Namespace, Processor, Graph, Struct, Using, Constant, Function, State, Endpoint, Node, TypeParameter, ValueParameter, Parameter, LocalConstant, LocalVariable, Counter}
use Rattle.cm_meaning.specs.Scopes.{around_space, in_space, declared, patch_names, param_names, unit_names}
use Rattle.cm_meaning.specs.Sites.{Site, Part, Declares, Opens, expr_sites, expr_sites_row, argument_sites, base_sites}
use Rattle.cm_meaning.specs.BodySites.{init_sites, var_sites, stmt_sites, stmts_row, stmts_sites}
use Rattle.cm_meaning.specs.PatchSites.{patch_sites, unit_sites, decl_sites, decl_sites_row, given_all, all_names, site_names}
use Rattle.cm_meaning.specs.Constants.{Meaning, Nothing, meaning}
use Rattle.cm_meaning.specs.TypeOf.{Knowledge}
use Rattle.cm_meaning.specs.TypeFaults.{Knows}
use Rattle.cm_meaning.specs.Nodes.{Tree, Grown, NoGroups, IsTree, grown, none}
use Rattle.cm_front.specs.Form.{decls_of}
use Rattle.through_meaning.specs.Parts.{Parts, unit_at}
use Rattle.through_meaning.proofs.Files.{flat_flat, the_unit, names_are, main_is}
use Rattle.through_meaning.proofs.Grown.{instance_of}

-- ---- declarations that mean nothing

-- what means nothing by its own text
abbrev pub is_calm : Named → Type 0
is_calm (Constant value) = ⊥
is_calm (Using ty) = ⊥
is_calm (Struct p fields) = ⊥
is_calm (TypeParameter i) = ⊥
is_calm (ValueParameter i ty) = ⊥
is_calm _ = Unit {0}

calm_by : (all : List Declared) (look : Declared → Meaning) (word : Word) (home : Home) (n : Named) → is_calm n → meaning all [] look (record { word = word; home = home; named = n }) ≡ Nothing
calm_by all look word home (Constant value) h = absurd h
calm_by all look word home (Using ty) h = absurd h
calm_by all look word home (Struct p fields) h = absurd h
calm_by all look word home (TypeParameter i) h = absurd h
calm_by all look word home (ValueParameter i ty) h = absurd h
calm_by all look word home (Namespace path) h = refl
calm_by all look word home (Processor u) h = refl
calm_by all look word home (Graph u) h = refl
calm_by all look word home (Function f) h = refl
calm_by all look word home (State ty value) h = refl
calm_by all look word home (Endpoint flow kind ty keys) h = refl
calm_by all look word home (Node a) h = refl
calm_by all look word home (Parameter ty) h = refl
calm_by all look word home (LocalConstant value) h = refl
calm_by all look word home (LocalVariable ty value) h = refl
calm_by all look word home (Counter ty) h = refl

abbrev pub AreCalm : List Declared → Type 0
AreCalm names = AllByRecursion (λ (x : Declared). is_calm x.named) names

-- ---- sites without locals

abbrev pub is_free : Named → Type 0
is_free (Parameter ty) = ⊥
is_free _ = Unit {0}

abbrev pub AreFree : List Declared → Type 0
AreFree names = AllByRecursion (λ (x : Declared). is_free x.named) names

-- it declares no local, and opens no scope with a parameter
abbrev pub is_quiet : Part → Type 0
is_quiet (Declares start x) = ⊥
is_quiet (Opens names) = AreFree names
is_quiet _ = Unit {0}

abbrev pub AreQuiet : List Site → Type 0
AreQuiet sites = AllByRecursion (λ (s : Site). is_quiet s.part) sites

-- ---- the sites of the form

sites_are : (files : List File) (u : UnitDecl) → decls_of files ≡ d.Processor u ∷ [] → patch_sites files ≡ unit_sites (around_space (patch_names files) []) (declared (in_space []) u.name (Processor u)) u
unfolding patch_sites decl_sites decl_sites_row hidden-the_row-Decl-0 hidden
sites_are files u is = flat_flat (decl_sites (patch_names files) []) files ∙ ap (flat_map (decl_sites (patch_names files) [])) is ∙ append-nil _

abbrev pub form_sites : List File → Parts → (input output : Text) → List Site
form_sites files parts input output = unit_sites (around_space (patch_names files) []) (declared (in_space []) parts.name (Processor (unit_at parts input output))) (unit_at parts input output)

sites_quiet : (files : List File) (parts : Parts) (input output : Text) → AreQuiet (form_sites files parts input output)
unfolding param_names unit_names expr_sites expr_sites_row argument_sites base_sites init_sites var_sites stmt_sites stmts_row stmts_sites given_all hidden-the_row-Expr-0 hidden-the_row-Expr-1 hidden-the_row-Stmt-0 hidden-the_row-Stmt-1 hidden-the_row-Decl-0 hidden
sites_quiet files parts input output = ((tt, (tt, (tt, tt))), (tt, (tt, (tt, (tt, (tt, (tt, (tt, tt))))))))

names_calm : (files : List File) (parts : Parts) (input output : Text) → AreCalm (flat_map site_names (form_sites files parts input output))
unfolding param_names unit_names expr_sites expr_sites_row argument_sites base_sites init_sites var_sites stmt_sites stmts_row stmts_sites given_all hidden-the_row-Expr-0 hidden-the_row-Expr-1 hidden-the_row-Stmt-0 hidden-the_row-Stmt-1 hidden-the_row-Decl-0 hidden
names_calm files parts input output = (tt, (tt, (tt, tt)))

-- ---- what is known

abbrev pub known : Knowledge
known = record { look = λ x. Nothing; local = λ x. None }

names_all : (files : List File) (parts : Parts) (input output : Text) → decls_of files ≡ d.Processor (unit_at parts input output) ∷ [] →
    all_names files ≡ declared (in_space []) parts.name (Processor (unit_at parts input output)) ∷ flat_map site_names (form_sites files parts input output)
unfolding all_names
names_all files parts input output is =
    ap (λ ns. ns ++ flat_map site_names (patch_sites files)) (names_are files (unit_at parts input output) is)
    ∙ ap (λ ss. declared (in_space []) parts.name (Processor (unit_at parts input output)) ∷ flat_map site_names ss) (sites_are files (unit_at parts input output) is)

means_nothing : (files : List File) (parts : Parts) (input output : Text) → decls_of files ≡ d.Processor (unit_at parts input output) ∷ [] → (x : Declared) → Contains (all_names files) x →
    meaning (patch_names files) [] (λ y. Nothing) x ≡ Nothing
means_nothing files parts input output is x among =
    let all : AreCalm (all_names files) = subst AreCalm (sym (names_all files parts input output is)) (tt, names_calm files parts input output) in
    calm_by (patch_names files) (λ y. Nothing) x.word x.home x.named (All-contains (λ (y : Declared). is_calm y.named) (all_names files) x (All-from_recursion (λ (y : Declared). is_calm y.named) (all_names files) all) among)

quiet_at : (files : List File) (parts : Parts) (input output : Text) → decls_of files ≡ d.Processor (unit_at parts input output) ∷ [] → (s : Site) → Contains (patch_sites files) s → is_quiet s.part
quiet_at files parts input output is s among =
    let all : AreQuiet (patch_sites files) = subst AreQuiet (sym (sites_are files (unit_at parts input output) is)) (sites_quiet files parts input output) in
    All-contains (λ (t : Site). is_quiet t.part) (patch_sites files) s (All-from_recursion (λ (t : Site). is_quiet t.part) (patch_sites files) all) among

free_at : (names : List Declared) (x : Declared) (ty : TypeExpr) → AreFree names → Contains names x → x.named ≡ Parameter ty → ⊥
free_at names x ty all among named =
    subst is_free named (All-contains (λ (y : Declared). is_free y.named) names x (All-from_recursion (λ (y : Declared). is_free y.named) names all) among)

knows : (files : List File) (parts : Parts) (input output : Text) → decls_of files ≡ d.Processor (unit_at parts input output) ∷ [] → Knows files (the_unit (unit_at parts input output)) [] known
knows files parts input output is = record {
  meaning = record { each = λ x among home. sym (means_nothing files parts input output is x among) };
  locals = record {
    locals = λ s start x among home part. absurd (subst is_quiet part (quiet_at files parts input output is s among));
    parameters = λ s names x ty among home part within named. absurd (free_at names x ty (subst is_quiet part (quiet_at files parts input output is s among)) within named);
  };
}

-- ---- the tree

abbrev pub the_tree : Parts → (input output : Text) → Tree
the_tree parts input output = Grown (instance_of parts input output known) 1 NoGroups

pub is_tree : (files : List File) (parts : Parts) (input output : Text) → decls_of files ≡ d.Processor (unit_at parts input output) ∷ [] → IsTree files (the_tree parts input output)
is_tree files parts input output is = record {
  main = main_is files parts input output is;
  args = refl;
  known = knows files parts input output is;
  factor = refl;
  grown = grown (instance_of parts input output known) 1 NoGroups (none (instance_of parts input output known));
}
