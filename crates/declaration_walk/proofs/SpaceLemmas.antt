-- The steps of what stands in namespaces.
use Rattle.std.specs.Prelude.{◌≡◌, refl, ℕ, suc, ◌+◌, ◌<◌, List, [], ◌∷◌, ◌++◌, length, map, take, flat_map, Option, Some, None, Result, Ok, Err, OnOk}
use Rattle.std.proofs.Common.{ap, sym, ◌∙◌, subst, arith, get_or}
use Rattle.std.proofs.Math.Seq.{take-length}
use Rattle.std.proofs.lemmas.List.{append-nil, append_assoc, map-append}
use Rattle.std.proofs.lemmas.Grind.{flat_map-append}
use Rattle.cm_base.specs.declared.place.Place.{Place}
use Rattle.cm_tree.specs.declared.path.Path.{Path}
use Rattle.cm_tree.specs.declared.shared.Shared.{Shared}
use Rattle.cm_tree.specs.declared.shared.Function.{Function as FunctionDecl}
use Rattle.cm_tree.specs.declared.decl.Decl.{Decl}
use Rattle.cm_tree.specs.declared.decl.Decl.TheVariants as d
use Rattle.cm_tree.specs.declared.decl.UnitDecl.{UnitDecl}
use Rattle.cm_tree.specs.declared.file.File.{File}
use Rattle.cm_meaning.specs.Declared.{Space, Home, Named, Processor, Graph, Declared}
use Rattle.cm_meaning.specs.Scopes.{Around, around_space, declared, in_space, in_unit, inside_of, inside_unit, member_names, param_names, patch_names, space_scopes, unit_names, within}
use Rattle.cm_meaning.specs.Sites.{Site}
use Rattle.cm_meaning.specs.PatchSites.{decl_sites, function_sites, patch_sites, shared_sites, unit_sites}
use Rattle.cm_meaning.specs.SiteEquations.{decl_sites-Namespace}
use Rattle.scope_walk.specs.Steps.{Step, Stand, EntersUnit, LeavesUnit, EntersSpace, LeavesSpace, entered, outside, step_after, after_steps, sites_by, Walks, Reads, Passes}
use Rattle.scope_walk.proofs.StepLemmas.{after-append, sites-append, ok-map, reads-walks, take-more, walks-then}
use Rattle.declaration_walk.specs.Declares.{filled, Declares, file_sites, inner_sites}
use Rattle.declaration_walk.proofs.NameLemmas.{in_front-new}

-- ---- one part after another

pub passes-none : (a : List Step) (s : List Declared → Space → List Site) → ((all : List Declared) (space : Space) → s all space ≡ []) → Passes a a s
unfolding sites_by after_steps
passes-none a s none = record { more = []; grown = sym (append-nil a); comes = λ all space. sym (none all space); stays = λ all space. refl }

pub passes-then : (a b c : List Step) (s t : List Declared → Space → List Site) → Passes a b s → Passes b c t → Passes a c (λ all space. s all space ++ t all space)
passes-then a b c s t h k = record {
  more = h.more ++ k.more;
  grown = k.grown ∙ ap (λ z. z ++ k.more) h.grown ∙ append_assoc a h.more k.more;
  comes = λ all space. sites-append (outside all space) h.more k.more ∙ ap (λ z. sites_by (outside all space) h.more ++ sites_by z k.more) (h.stays all space)
      ∙ ap (λ z. z ++ sites_by (outside all space) k.more) (h.comes all space) ∙ ap (λ z. s all space ++ z) (k.comes all space);
  stays = λ all space. after-append (outside all space) h.more k.more ∙ ap (λ z. after_steps z k.more) (h.stays all space) ∙ k.stays all space;
}

pub passes-at : (a b : List Step) (s t : List Declared → Space → List Site) → ((all : List Declared) (space : Space) → t all space ≡ s all space) → Passes a b s → Passes a b t
passes-at a b s t same h = record { more = h.more; grown = h.grown; comes = λ all space. h.comes all space ∙ sym (same all space); stays = h.stays }

pub passes-ok : {E : Type 0} (a b : List Step) (s t : List Declared → Space → List Site) (o : Result (Unit {0}) E) → ((all : List Declared) (space : Space) → t all space ≡ s all space) → OnOk o (Passes a b s) → OnOk o (Passes a b t)
passes-ok a b s t o same h = ok-map o (Passes a b s) (Passes a b t) (passes-at a b s t same) h

pub row-start : {X : Type 0} (f : List Declared → Space → X → List Site) (xs : List X) (a : List Step) → Passes a a (λ all space. flat_map (f all space) (take 0 xs))
row-start f xs a = passes-none a (λ all space. flat_map (f all space) (take 0 xs)) (λ all space. refl)

pub row-next : {X : Type 0} (f : List Declared → Space → X → List Site) (xs : List X) (i : ℕ) (x : X) (a b c : List Step) → i < length xs → x ≡ get_or xs i x
    → Passes a b (λ all space. flat_map (f all space) (take i xs)) → Passes b c (λ all space. f all space x) → Passes a c (λ all space. flat_map (f all space) (take (i + 1) xs))
row-next f xs i x a b c within is h k = passes-at a c (λ all space. flat_map (f all space) (take i xs) ++ f all space x) (λ all space. flat_map (f all space) (take (i + 1) xs))
    (λ all space. ap (flat_map (f all space)) (take-more xs i x within is) ∙ flat_map-append (f all space) (take i xs) (x ∷ []) ∙ ap (λ z. flat_map (f all space) (take i xs) ++ z) (append-nil (f all space x)))
    (passes-then a b c (λ all space. flat_map (f all space) (take i xs)) (λ all space. f all space x) h k)

pub row-all : {X : Type 0} (f : List Declared → Space → X → List Site) (xs : List X) (i : ℕ) (a b : List Step) → i ≡ length xs → Passes a b (λ all space. flat_map (f all space) (take i xs)) → Passes a b (λ all space. flat_map (f all space) xs)
row-all f xs i a b whole h = subst (λ z. Passes a b (λ all space. flat_map (f all space) z)) (ap (λ n. take n xs) whole ∙ take-length xs) h

-- a part that is read in a namespace, in no scope
pub reads-passes : {E : Type 0} (a b : List Step) (s : Around → List Site) (o : Result (Unit {0}) E) → OnOk o (Reads a b s) → OnOk o (Passes a b (λ all space. s (around_space all space)))
reads-passes a b s o h = ok-map o (Reads a b s) (Passes a b (λ all space. s (around_space all space)))
    (λ k. record { more = k.more; grown = k.grown; comes = λ all space. k.comes (outside all space); stays = λ all space. k.stays (outside all space) }) h

-- ---- processors and graphs

-- in a processor or a graph, with these names
abbrev begun : Named → UnitDecl → List Declared → Space → Stand
begun n u all space = record { all = all; scopes = []; home = in_unit space u; inside = declared (in_space space) u.name n ∷ []; loops = 0 }

-- what is round a processor or a graph before its names are declared
abbrev round_unit : Named → UnitDecl → List Declared → Space → Around
round_unit n u all space = inside_of (record (around_space all space) { scopes = [] ∷ space_scopes all space; home = in_unit space u }) (declared (in_space space) u.name n)

filled-unit : (n : Named) (u : UnitDecl) (all : List Declared) (space : Space) → filled (round_unit n u all space) (unit_names space u) ≡ inside_of (inside_unit (around_space all space) u) (declared (in_space space) u.name n)
filled-unit n u all space = ap (λ z. record (round_unit n u all space) { scopes = z }) (in_front-new (unit_names space u) (space_scopes all space))

unit-names : (u : UnitDecl) (space : Space) → param_names (in_unit space u) 0 u.params ++ flat_map (member_names (in_unit space u)) u.members ≡ unit_names space u
unfolding unit_names
unit-names u space = refl

abbrev names_in : UnitDecl → Home → List Declared
names_in u m = param_names m 0 u.params ++ flat_map (member_names m) u.members

unit-round : (n : Named) (u : UnitDecl) (all : List Declared) (space : Space) → filled (round_unit n u all space) (names_in u (in_unit space u)) ≡ inside_of (inside_unit (around_space all space) u) (declared (in_space space) u.name n)
unit-round n u all space = ap (filled (round_unit n u all space)) (unit-names u space) ∙ filled-unit n u all space

-- the names are declared, and all parts of it are read
abbrev InUnit : List Step → List Step → UnitDecl → Type 0
InUnit b d u = Walks b d (λ r. inner_sites (filled r (names_in u r.home)) u) (λ r. filled r (names_in u r.home))

passes-unit : (a b d e : List Step) (n : Named) (u : UnitDecl) → b ≡ a ++ EntersUnit n u ∷ [] → InUnit b d u → e ≡ d ++ LeavesUnit ∷ [] → Passes a e (λ all space. unit_sites (around_space all space) (declared (in_space space) u.name n) u)
unfolding sites_by after_steps
passes-unit a b d e n u enters h leaves = record {
  more = EntersUnit n u ∷ (h.more ++ LeavesUnit ∷ []);
  grown = leaves ∙ ap (λ z. z ++ LeavesUnit ∷ []) (h.grown ∙ ap (λ z. z ++ h.more) enters) ∙ ap (λ z. z ++ LeavesUnit ∷ []) (append_assoc a (EntersUnit n u ∷ []) h.more) ∙ append_assoc a (EntersUnit n u ∷ h.more) (LeavesUnit ∷ []);
  comes = λ all space. sites-append (entered (begun n u all space) []) h.more (LeavesUnit ∷ []) ∙ append-nil (sites_by (entered (begun n u all space) []) h.more) ∙ h.comes (begun n u all space) []
      ∙ ap (λ z. inner_sites z u) (unit-round n u all space);
  stays = λ all space. after-append (entered (begun n u all space) []) h.more (LeavesUnit ∷ []) ∙ ap (λ z. step_after z LeavesUnit) (h.stays (begun n u all space) []);
}

pub unit-part : {E : Type 0} (a b c d e : List Step) (n : Named) (u : UnitDecl) (o : Result (Unit {0}) E) → b ≡ a ++ EntersUnit n u ∷ [] → Declares b c (λ m. param_names m 0 u.params ++ flat_map (member_names m) u.members) → Reads c d (λ r. inner_sites r u)
    → OnOk o (e ≡ d ++ LeavesUnit ∷ []) → OnOk o (Passes a e (λ all space. unit_sites (around_space all space) (declared (in_space space) u.name n) u))
unit-part a b c d e n u o enters h k leaves = ok-map o (e ≡ d ++ LeavesUnit ∷ []) (Passes a e (λ all space. unit_sites (around_space all space) (declared (in_space space) u.name n) u))
    (passes-unit a b d e n u enters
    (walks-then b c d (λ r. []) (λ r. inner_sites r u) (λ r. filled r (names_in u r.home)) (λ r. r) h (reads-walks c d (λ r. inner_sites r u) k))) leaves

-- ---- namespaces

pub steps-start : {X : Type 0} (f : X → Step) (xs : List X) (a : List Step) → a ≡ a ++ map f (take 0 xs)
steps-start f xs a = sym (append-nil a)

pub steps-next : {X : Type 0} (f : X → Step) (xs : List X) (i : ℕ) (x : X) (a b c : List Step) → i < length xs → x ≡ get_or xs i x → b ≡ a ++ map f (take i xs) → c ≡ b ++ f x ∷ [] → c ≡ a ++ map f (take (i + 1) xs)
steps-next f xs i x a b c within is h k = k ∙ ap (λ z. z ++ f x ∷ []) h ∙ append_assoc a (map f (take i xs)) (f x ∷ [])
    ∙ ap (λ z. a ++ z) (sym (map-append f (take i xs) (x ∷ [])) ∙ ap (map f) (sym (take-more xs i x within is)))

pub steps-all : {X : Type 0} (f : X → Step) (xs : List X) (i : ℕ) (a b : List Step) → i ≡ length xs → b ≡ a ++ map f (take i xs) → b ≡ a ++ map f xs
steps-all f xs i a b whole h = h ∙ ap (λ z. a ++ map f z) (ap (λ n. take n xs) whole ∙ take-length xs)

abbrev leave : List ℕ → Step
leave n = LeavesSpace

enter-after : (ns : List (List ℕ)) (all : List Declared) (space : Space) → after_steps (outside all space) (map EntersSpace ns) ≡ outside all (within space ns)
unfolding after_steps within
enter-after [] all space = refl
enter-after (n ∷ ns) all space = enter-after ns all (n ∷ space)

enter-sites : (ns : List (List ℕ)) (all : List Declared) (space : Space) → sites_by (outside all space) (map EntersSpace ns) ≡ []
unfolding sites_by
enter-sites [] all space = refl
enter-sites (n ∷ ns) all space = enter-sites ns all (n ∷ space)

leave-sites : (ns : List (List ℕ)) (s : Stand) → sites_by s (map leave ns) ≡ []
unfolding sites_by
leave-sites [] s = refl
leave-sites (n ∷ ns) s = leave-sites ns (step_after s LeavesSpace)

leave-last : (ns : List (List ℕ)) → LeavesSpace ∷ map leave ns ≡ map leave ns ++ LeavesSpace ∷ []
leave-last [] = refl
leave-last (n ∷ ns) = ap (λ z. LeavesSpace ∷ z) (leave-last ns)

leave-one : (all : List Declared) (space : Space) (n : List ℕ) → after_steps (outside all (n ∷ space)) (LeavesSpace ∷ []) ≡ outside all space
unfolding after_steps
leave-one all space n = refl

leave-after : (ns : List (List ℕ)) (all : List Declared) (space : Space) → after_steps (outside all (within space ns)) (map leave ns) ≡ outside all space
unfolding after_steps within
leave-after [] all space = refl
leave-after (n ∷ ns) all space = ap (after_steps (outside all (within (n ∷ space) ns))) (leave-last ns) ∙ after-append (outside all (within (n ∷ space) ns)) (map leave ns) (LeavesSpace ∷ [])
    ∙ ap (λ z. after_steps z (LeavesSpace ∷ [])) (leave-after ns all (n ∷ space)) ∙ leave-one all space n

passes-within : (a b c d : List Step) (ns : List (List ℕ)) (s : List Declared → Space → List Site) → b ≡ a ++ map EntersSpace ns → Passes b c s → d ≡ c ++ map leave ns → Passes a d (λ all space. s all (within space ns))
passes-within a b c d ns s enters h leaves = record {
  more = map EntersSpace ns ++ (h.more ++ map leave ns);
  grown = leaves ∙ ap (λ z. z ++ map leave ns) (h.grown ∙ ap (λ z. z ++ h.more) enters) ∙ ap (λ z. z ++ map leave ns) (append_assoc a (map EntersSpace ns) h.more)
      ∙ append_assoc a (map EntersSpace ns ++ h.more) (map leave ns) ∙ ap (λ z. a ++ z) (append_assoc (map EntersSpace ns) h.more (map leave ns));
  comes = λ all space. sites-append (outside all space) (map EntersSpace ns) (h.more ++ map leave ns)
      ∙ ap (λ z. z ++ sites_by (after_steps (outside all space) (map EntersSpace ns)) (h.more ++ map leave ns)) (enter-sites ns all space)
      ∙ ap (λ z. sites_by z (h.more ++ map leave ns)) (enter-after ns all space)
      ∙ sites-append (outside all (within space ns)) h.more (map leave ns)
      ∙ ap (λ z. z ++ sites_by (after_steps (outside all (within space ns)) h.more) (map leave ns)) (h.comes all (within space ns))
      ∙ ap (λ z. s all (within space ns) ++ z) (leave-sites ns (after_steps (outside all (within space ns)) h.more)) ∙ append-nil (s all (within space ns));
  stays = λ all space. after-append (outside all space) (map EntersSpace ns) (h.more ++ map leave ns) ∙ ap (λ z. after_steps z (h.more ++ map leave ns)) (enter-after ns all space)
      ∙ after-append (outside all (within space ns)) h.more (map leave ns) ∙ ap (λ z. after_steps z (map leave ns)) (h.stays all (within space ns)) ∙ leave-after ns all space;
}

pub namespace-part : {E : Type 0} (a b c d : List Step) (ns row last : List (List ℕ)) (s : List Declared → Space → List Site) (o : Result (Unit {0}) E) → row ≡ ns → last ≡ ns → b ≡ a ++ map EntersSpace row → Passes b c s
    → OnOk o (d ≡ c ++ map (λ (n : List ℕ). LeavesSpace) last) → OnOk o (Passes a d (λ all space. s all (within space ns)))
namespace-part a b c d ns row last s o same again enters h leaves = ok-map o (d ≡ c ++ map leave last) (Passes a d (λ all space. s all (within space ns)))
    (λ g. passes-within a b c d ns s (enters ∙ ap (λ z. a ++ map EntersSpace z) same) h (g ∙ ap (λ z. c ++ map leave z) again)) leaves

-- ---- declarations

processor-sites : (all : List Declared) (space : Space) (u : UnitDecl) → decl_sites all space (d.Processor u) ≡ unit_sites (around_space all space) (declared (in_space space) u.name (Processor u)) u
unfolding decl_sites
processor-sites all space u = refl

graph-sites : (all : List Declared) (space : Space) (u : UnitDecl) → decl_sites all space (d.Graph u) ≡ unit_sites (around_space all space) (declared (in_space space) u.name (Graph u)) u
unfolding decl_sites
graph-sites all space u = refl

shared-sites : (all : List Declared) (space : Space) (a : Shared) → decl_sites all space (d.Shared a) ≡ shared_sites (around_space all space) a
unfolding decl_sites
shared-sites all space a = refl

function-sites : (all : List Declared) (space : Space) (f : FunctionDecl) → decl_sites all space (d.Function f) ≡ function_sites (around_space all space) f
unfolding decl_sites
function-sites all space f = refl

pub processor-part : {E : Type 0} (a b : List Step) (u : UnitDecl) (tree : Decl) (o : Result (Unit {0}) E) → tree ≡ d.Processor u → OnOk o (Passes a b (λ all space. unit_sites (around_space all space) (declared (in_space space) u.name (Processor u)) u))
    → OnOk o (Passes a b (λ all space. decl_sites all space tree))
processor-part a b u tree o is h = passes-ok a b (λ all space. unit_sites (around_space all space) (declared (in_space space) u.name (Processor u)) u) (λ all space. decl_sites all space tree) o
    (λ all space. ap (decl_sites all space) is ∙ processor-sites all space u) h

pub graph-part : {E : Type 0} (a b : List Step) (u : UnitDecl) (tree : Decl) (o : Result (Unit {0}) E) → tree ≡ d.Graph u → OnOk o (Passes a b (λ all space. unit_sites (around_space all space) (declared (in_space space) u.name (Graph u)) u))
    → OnOk o (Passes a b (λ all space. decl_sites all space tree))
graph-part a b u tree o is h = passes-ok a b (λ all space. unit_sites (around_space all space) (declared (in_space space) u.name (Graph u)) u) (λ all space. decl_sites all space tree) o
    (λ all space. ap (decl_sites all space) is ∙ graph-sites all space u) h

pub shared-decl : {E : Type 0} (a b : List Step) (x : Shared) (tree : Decl) (o : Result (Unit {0}) E) → tree ≡ d.Shared x → OnOk o (Reads a b (λ r. shared_sites r x)) → OnOk o (Passes a b (λ all space. decl_sites all space tree))
shared-decl a b x tree o is h = passes-ok a b (λ all space. shared_sites (around_space all space) x) (λ all space. decl_sites all space tree) o (λ all space. ap (decl_sites all space) is ∙ shared-sites all space x)
    (reads-passes a b (λ r. shared_sites r x) o h)

pub function-decl : {E : Type 0} (a b : List Step) (f : FunctionDecl) (tree : Decl) (o : Result (Unit {0}) E) → tree ≡ d.Function f → OnOk o (Reads a b (λ r. function_sites r f)) → OnOk o (Passes a b (λ all space. decl_sites all space tree))
function-decl a b f tree o is h = passes-ok a b (λ all space. function_sites (around_space all space) f) (λ all space. decl_sites all space tree) o (λ all space. ap (decl_sites all space) is ∙ function-sites all space f)
    (reads-passes a b (λ r. function_sites r f) o h)

pub namespace-decl : {E : Type 0} (a b : List Step) (p : Place) (path : Path) (decls row : List Decl) (tree : Decl) (o : Result (Unit {0}) E) → tree ≡ d.Namespace p path decls → row ≡ decls
    → OnOk o (Passes a b (λ all space. flat_map (decl_sites all (within space path.names)) row)) → OnOk o (Passes a b (λ all space. decl_sites all space tree))
namespace-decl a b p path decls row tree o is same h = passes-ok a b (λ all space. flat_map (decl_sites all (within space path.names)) row) (λ all space. decl_sites all space tree) o
    (λ all space. ap (decl_sites all space) is ∙ decl_sites-Namespace all space p path decls ∙ ap (flat_map (decl_sites all (within space path.names))) (sym same)) h

-- ---- patches

pub whole-patch : (a b : List Step) (files : List File) → a ≡ [] → Passes a b (λ all space. flat_map (file_sites all space) files) → sites_by (outside (patch_names files) []) b ≡ patch_sites files
unfolding patch_sites
whole-patch a b files none h = ap (sites_by (outside (patch_names files) [])) (h.grown ∙ ap (λ z. z ++ h.more) none) ∙ h.comes (patch_names files) []
