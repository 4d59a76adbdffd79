-- A walk over trees, step by step: docs/LANGUAGE.md, "Names". Each site of the trees is a step, in its order, and further steps say
-- what is round the sites that follow. That the steps of a part come to the part's sites is `Reads` and `Walks`.
use Rattle.std.specs.Prelude.{◌≡◌, ℕ, zero, suc, Bool, true, false, List, [], ◌∷◌, ◌++◌, Option, Some, None, map, flat_map, slice_index_or}
use Rattle.cm_tree.specs.declared.path.Path.{Path}
use Rattle.cm_tree.specs.declared.path.Word.{Word}
use Rattle.cm_tree.specs.declared.type_expr.TypeExpr.{TypeExpr}
use Rattle.cm_tree.specs.declared.type_expr.Arg.{Arg}
use Rattle.cm_tree.specs.declared.type_expr.Typed.{Typed}
use Rattle.cm_tree.specs.declared.decl.UnitDecl.{UnitDecl}
use Rattle.cm_meaning.specs.Declared.{Space, Home, Named, Counter, Declared}
use Rattle.cm_meaning.specs.Scopes.{Around, declared, in_space, in_unit, parameter, space_scopes, unit_names, with_local}
use Rattle.cm_meaning.specs.Sites.{Part, Opens, KeepsApart, HasLatencies, Declares, GivesNode, Site, site, Taken, TakesAny}
use Rattle.cm_meaning.specs.BodySites.{after}
use Rattle.cm_meaning.specs.PatchSites.{handled_word, latency_place, takes}
use Rattle.cm_tree.specs.declared.stmt.Stmt.{Stmt}

pub data Step : Type 0 where
  -- a site of this part
  Meets : Part → Step
  -- a site with the names of these parameters
  MeetsParams : List Typed → Step
  -- the sites with the names of the processor or graph round it, with those that its handlers name, and with its latencies
  MeetsUnit : Step
  -- a site with a local that this many locals stand before in one declaration
  MeetsLocal : ℕ → Word → Named → Step
  -- a site with the variable of for (wrap<4> i), whose type stands round the innermost scope
  MeetsCounter : Word → TypeExpr → Step
  -- a site with an argument of a node with this path, by its position
  MeetsGiven : Path → ℕ → Arg → Step
  -- a scope begins in the innermost one
  Enters : Step
  -- the innermost scope ends
  Leaves : Step
  -- a name is declared in the innermost scope
  Introduces : Word → Named → Step
  -- a processor or a graph begins, in a scope of its own, and its text with it
  EntersUnit : Named → UnitDecl → Step
  -- a processor or a graph ends, and the innermost scope and text with it
  LeavesUnit : Step
  -- a namespace of this name begins in the innermost one
  EntersSpace : List ℕ → Step
  -- the innermost namespace ends
  LeavesSpace : Step
  -- a body of a loop begins
  EntersLoop : Step
  -- the innermost body of a loop ends
  LeavesLoop : Step
  -- the text of a declaration begins
  EntersText : Word → Named → Step
  -- the innermost text of a declaration ends
  LeavesText : Step

-- where a walk is: the declarations of all namespaces, the scopes in a namespace that began and didn't end, the innermost
-- first, where a declaration stands there, the declarations in whose text it is, the innermost first, and how many bodies of
-- loops it is in
pub record Stand : Type 0 where
  pub all : List Declared
  pub scopes : List (List Declared)
  pub home : Home
  pub inside : List Declared
  pub loops : ℕ

-- in a namespace, with no scope in it
abbrev pub outside : List Declared → Space → Stand
outside all space = record { all = all; scopes = []; home = in_space space; inside = []; loops = 0 }

-- in a scope of its own, with these declarations
abbrev pub entered : Stand → List Declared → Stand
entered s names = record s { scopes = names ∷ s.scopes }

-- ---- what is round a place

-- the scopes, and then those of the namespace and the ones round it
abbrev pub visible : Stand → List (List Declared)
visible s = s.scopes ++ space_scopes s.all s.home.space

abbrev pub first_of : List Declared → Option Declared
first_of [] = None
first_of (x ∷ others) = Some x

abbrev pub is_any : ℕ → Bool
is_any zero = false
is_any (suc n) = true

abbrev pub round : Stand → Around
round s = record { all = s.all; scopes = visible s; home = s.home; inside = first_of s.inside; in_loop = is_any s.loops }

-- ---- what steps come to

abbrev pub outer_of : {A : Type 0} → List A → List A
outer_of [] = []
outer_of (scope ∷ outer) = outer

abbrev pub fewer : ℕ → ℕ
fewer zero = zero
fewer (suc n) = n

-- the namespace that one stands in
abbrev pub space_round : Space → Space
space_round [] = []
space_round (n ∷ outer) = outer

abbrev pub step_after : Stand → Step → Stand
step_after s (Meets p) = s
step_after s (MeetsParams params) = s
step_after s MeetsUnit = s
step_after s (MeetsLocal k w n) = s
step_after s (MeetsCounter w ty) = s
step_after s (MeetsGiven q k a) = s
step_after s Enters = entered s []
step_after s Leaves = record s { scopes = outer_of s.scopes }
step_after s (Introduces w n) = record s { scopes = with_local (declared s.home w n) s.scopes }
step_after s (EntersUnit n u) = record s { scopes = [] ∷ s.scopes; home = in_unit s.home.space u; inside = declared s.home u.name n ∷ s.inside }
step_after s LeavesUnit = record s { scopes = outer_of s.scopes; home = in_space s.home.space; inside = outer_of s.inside }
step_after s (EntersSpace n) = record s { home = in_space (n ∷ s.home.space) }
step_after s LeavesSpace = record s { home = in_space (space_round s.home.space) }
step_after s EntersLoop = record s { loops = suc s.loops }
step_after s LeavesLoop = record s { loops = fewer s.loops }
step_after s (EntersText w n) = record s { inside = declared s.home w n ∷ s.inside }
step_after s LeavesText = record s { inside = outer_of s.inside }

-- without the name that the innermost scope got last
abbrev pub without_local : List (List Declared) → List (List Declared)
without_local [] = []
without_local (scope ∷ outer) = outer_of scope ∷ outer

abbrev pub undeclared : Around → Around
undeclared r = record r { scopes = without_local r.scopes }

-- before the names that the innermost scope got last, as many as this
unfoldable pub before : ℕ → Around → Around
before zero r = r
before (suc k) r = undeclared (before k r)

-- round the innermost scope
abbrev pub unscoped : Around → Around
unscoped r = record r { scopes = outer_of r.scopes }

-- the rules of a whole processor or graph
abbrev pub whole_sites : Around → Option UnitDecl → List Site
whole_sites r None = []
whole_sites r (Some u) = site r (Opens (unit_names r.home.space u)) ∷ site r (KeepsApart (flat_map handled_word u.members)) ∷ site r (HasLatencies (flat_map latency_place u.members)) ∷ []

abbrev pub step_sites : Stand → Step → List Site
step_sites s (Meets p) = site (round s) p ∷ []
step_sites s (MeetsParams params) = site (round s) (Opens (map (parameter s.home) params)) ∷ []
step_sites s MeetsUnit = whole_sites (round s) s.home.unit
step_sites s (MeetsLocal k w n) = site (round s) (Declares (before k (round s)) (declared s.home w n)) ∷ []
step_sites s (MeetsCounter w ty) = site (round s) (Declares (unscoped (round s)) (declared s.home w (Counter ty))) ∷ []
step_sites s (MeetsGiven q k a) = site (round s) (GivesNode (slice_index_or (takes (round s) q) k TakesAny) a) ∷ []
step_sites s _ = []

unfoldable pub after_steps : Stand → List Step → Stand
after_steps s [] = s
after_steps s (a ∷ steps) = after_steps (step_after s a) steps

-- the sites of steps one after the other
unfoldable pub sites_by : Stand → List Step → List Site
sites_by s [] = []
sites_by s (a ∷ steps) = step_sites s a ++ sites_by (step_after s a) steps

-- ---- the steps of parts

-- steps are added that come to the sites of a part, and after which the walk is where it was
pub record Reads (old new : List Step) (sites : Around → List Site) : Type 0 where
  pub more : List Step
  pub grown : new ≡ old ++ more
  pub comes : (s : Stand) → sites_by s more ≡ sites (round s)
  pub stays : (s : Stand) → after_steps s more ≡ s

-- steps are added that come to the sites of a part in a scope, and after which that scope has the names that the part declares
pub record Walks (old new : List Step) (sites : Around → List Site) (after : Around → Around) : Type 0 where
  pub more : List Step
  pub grown : new ≡ old ++ more
  pub comes : (s : Stand) (names : List Declared) → sites_by (entered s names) more ≡ sites (round (entered s names))
  pub names : Stand → List Declared → List Declared
  pub stays : (s : Stand) (here : List Declared) → after_steps (entered s here) more ≡ entered s (names s here)
  pub declares : (s : Stand) (here : List Declared) → round (entered s (names s here)) ≡ after (round (entered s here))

-- steps are added that come to the sites of a part of a namespace
pub record Passes (old new : List Step) (sites : List Declared → Space → List Site) : Type 0 where
  pub more : List Step
  pub grown : new ≡ old ++ more
  pub comes : (all : List Declared) (space : Space) → sites_by (outside all space) more ≡ sites all space
  pub stays : (all : List Declared) (space : Space) → after_steps (outside all space) more ≡ outside all space

-- what is visible after statements one after the other
unfoldable pub after_all : Around → List Stmt → Around
after_all r [] = r
after_all r (a ∷ all) = after_all (after r a) all
