-- From the declarations that were added to all that the building of scopes refuses.
use Rattle.std.specs.Prelude.{◌≡◌, refl, ℕ, suc, ◌+◌, ◌<◌, Bool, true, false, not, ◌||◌, List, [], ◌∷◌, ◌++◌, length, map, take, drop, flat_map, filter_map, Option, Some, None, option_map, Result, Ok, Err, slice_index_or}
use Rattle.std.specs.List.{cons_option, list_any}
use Rattle.std.proofs.Common.{ap, sym, ◌∙◌, subst, arith, get_or}
use Rattle.std.proofs.Math.Seq.{take-length}
use Rattle.std.proofs.lemmas.List.{append-nil, append_assoc, take-append-drop}
use Rattle.std.proofs.lemmas.List.Folds.{list_any-append}
use Rattle.std.proofs.lemmas.Grind.{flat_map-append}
use Rattle.cm_base.specs.declared.cause.Cause.TheVariants as cause
use Rattle.cm_base.specs.declared.failure.Fail.{Fail}
use Rattle.cm_base.specs.declared.failure.Fail.TheVariants as fail
use Rattle.std.specs.Borrow.{Bor}
use Rattle.cm_tree.specs.declared.decl.UnitDecl.{UnitDecl}
use Rattle.cm_tree.specs.declared.file.File.{File}
use Rattle.cm_meaning.specs.Declared.{Space, Declared, unit_of}
use Rattle.cm_meaning.specs.NameRows.{repeated, words_of}
use Rattle.cm_meaning.specs.Faults.{Fault, fault, unless}
use Rattle.cm_meaning.specs.Exact.{In, in_left, in_right, IsExactly}
use Rattle.cm_meaning.specs.Mains.{DeclaredUnit, as_unit, units}
use Rattle.cm_meaning.specs.NameFaults.{clashes, clashing, member_faults, unit_faults}
use Rattle.cm_meaning.specs.Scopes.{patch_names, unit_names}
use Rattle.name_scopes.specs.declared.named.Member.{Member}
use Rattle.name_scopes.specs.declared.named.Named.{Named as Part}
use Rattle.name_scopes.specs.declared.named.Named.TheVariants as n
use Rattle.name_scopes.specs.Members.{Known, names_of, names_in, named_in, declared_in, file_names, faults_within, clashes_behind, Added, Adds}
use Rattle.name_scopes.proofs.AddLemmas.{take-more}

-- ---- what clashes, whichever way those before are listed

or-sym : (a b : Bool) → (a || b) ≡ (b || a)
or-sym true true = refl
or-sym true false = refl
or-sym false true = refl
or-sym false false = refl

or-false : (b : Bool) → (b || false) ≡ b
or-false true = refl
or-false false = refl

clashing-behind : (before seen names : List Declared) → ((p : Declared → Bool) → list_any p before ≡ list_any p seen) → clashing before names ≡ clashes_behind seen names
unfolding clashing clashes_behind
clashing-behind before seen [] same = refl
clashing-behind before seen (x ∷ names) same =
    ap (λ b. unless (not b) cause.DuplicateName x.word.place ++ clashing (x ∷ before) names) (same (clashes x))
    ∙ ap (λ z. unless (not (list_any (clashes x) seen)) cause.DuplicateName x.word.place ++ z)
    (clashing-behind (x ∷ before) (seen ++ x ∷ []) names (λ p.
    or-sym (p x) (list_any p before) ∙ ap (λ b. b || p x) (same p) ∙ ap (λ b. list_any p seen || b) (sym (or-false (p x))) ∙ sym (list_any-append p seen (x ∷ []))))

-- ---- the faults of parts in turn

pub exact-start : {X : Type 0} (f : X → List Fault) (xs : List X) → flat_map f (take 0 xs) ≡ []
exact-start f xs = refl

parts-more : {X : Type 0} (f : X → List Fault) (xs : List X) (i : ℕ) (x : X) → i < length xs → x ≡ get_or xs i x → flat_map f (take i xs) ++ f x ≡ flat_map f (take (i + 1) xs)
parts-more f xs i x within is = sym (ap (flat_map f) (take-more xs i x within is) ∙ flat_map-append f (take i xs) (x ∷ []) ∙ ap (λ z. flat_map f (take i xs) ++ z) (append-nil (f x)))

exact-next : {X : Type 0} (f : X → List Fault) (xs : List X) (i : ℕ) (x : X) → i < length xs → x ≡ get_or xs i x → flat_map f (take i xs) ≡ [] → f x ≡ [] → flat_map f (take (i + 1) xs) ≡ []
exact-next f xs i x within is h g = sym (parts-more f xs i x within is) ∙ ap (λ z. z ++ f x) h ∙ g

exact-stop : (A B X : Type 0) (f : X → List Fault) (xs : List X) (i : ℕ) (x : X) (e : Fail) → i < length xs → x ≡ get_or xs i x → IsExactly {A = A} (f x) (Err e) → IsExactly {A = B} (flat_map f xs) (Err e)
exact-stop A B X f xs i x fail.NoMemory within is h = tt
exact-stop A B X f xs i x (fail.Refused r) within is h = subst (In (fault r.cause r.place)) whole
    (in_left (fault r.cause r.place) (flat_map f (take (i + 1) xs)) (flat_map f (drop (i + 1) xs)) (subst (In (fault r.cause r.place)) (parts-more f xs i x within is)
    (in_right (fault r.cause r.place) (flat_map f (take i xs)) (f x) h))) where
      whole : flat_map f (take (i + 1) xs) ++ flat_map f (drop (i + 1) xs) ≡ flat_map f xs
      whole = sym (flat_map-append f (take (i + 1) xs) (drop (i + 1) xs)) ∙ ap (flat_map f) (take-append-drop (i + 1) xs)

-- ---- processors and graphs

abbrev pub member_faults_in : List Space → Member → List Fault
member_faults_in spaces m = faults_within (declared_in spaces m ∷ [])

within-each : (spaces : List Space) (members : List Member) → flat_map (member_faults_in spaces) members ≡ faults_within (names_in spaces members)
within-each spaces [] = refl
within-each spaces (m ∷ members) = ap (λ z. member_faults_in spaces m ++ z) (within-each spaces members) ∙ by (as_unit (declared_in spaces m)) where
  by : (o : Option DeclaredUnit) → flat_map unit_faults (cons_option o []) ++ faults_within (names_in spaces members) ≡ flat_map unit_faults (cons_option o (filter_map as_unit (names_in spaces members)))
  by None = refl
  by (Some x) = ap (λ z. z ++ faults_within (names_in spaces members)) (append-nil (unit_faults x))

pub checked-start : (members : List Member) → (spaces : List Space) → flat_map (member_faults_in spaces) (take 0 members) ≡ []
checked-start members spaces = refl

pub checked-next : (members : List Member) (i : ℕ) (m : Member) → i < length members → m ≡ get_or members i m → ((spaces : List Space) → flat_map (member_faults_in spaces) (take i members) ≡ [])
    → ((spaces : List Space) → member_faults_in spaces m ≡ []) → (spaces : List Space) → flat_map (member_faults_in spaces) (take (i + 1) members) ≡ []
checked-next members i m within is h g spaces = exact-next (member_faults_in spaces) members i m within is (h spaces) (g spaces)

pub checked-stop : (members : List Member) (i : ℕ) (m : Member) (e : Fail) → i < length members → m ≡ get_or members i m → ((spaces : List Space) → IsExactly {A = Unit {0}} (member_faults_in spaces m) (Err e))
    → (spaces : List Space) → IsExactly {A = Unit {0}} (faults_within (names_in spaces members)) (Err e)
checked-stop members i m e within is h spaces =
    subst (λ z. IsExactly {A = Unit {0}} z (Err e)) (within-each spaces members) (exact-stop (Unit {0}) (Unit {0}) Member (member_faults_in spaces) members i m e within is (h spaces))

pub checked-all : (members : List Member) (i : ℕ) → i ≡ length members → ((spaces : List Space) → flat_map (member_faults_in spaces) (take i members) ≡ [])
    → (spaces : List Space) → faults_within (names_in spaces members) ≡ []
checked-all members i all h spaces = sym (within-each spaces members) ∙ ap (flat_map (member_faults_in spaces)) (sym (ap (λ n. take n members) all ∙ take-length members)) ∙ h spaces

-- ---- all that is refused

pub exactly-at : {A : Type 0} (xs ys : List Fault) (r : Result A Fail) → xs ≡ ys → IsExactly xs r → IsExactly ys r
exactly-at xs ys r is h = subst (λ z. IsExactly z r) is h

abbrev first : Known
first = record { spaces = [] ∷ []; members = [] }

names-all : (files : List File) → flat_map (file_names []) files ≡ patch_names files
unfolding patch_names
names-all files = refl

-- where a declaration clashes with one before it
pub build-clash : (A B : Type 0) (files : List File) (a b : Known) (e : Fail) → a ≡ first → Adds {A = A} a (flat_map (file_names (slice_index_or a.spaces 0 [])) files) (Err e) b → IsExactly {A = B} (member_faults files) (Err e)
unfolding member_faults
build-clash A B files a b e is h = refused e (subst (λ (z : Known). Adds {A = A} z (flat_map (file_names (slice_index_or z.spaces 0 [])) files) (Err e) b) is h) where
  refused : (e : Fail) → Adds {A = A} first (flat_map (file_names []) files) (Err e) b → IsExactly {A = B} (member_faults files) (Err e)
  refused fail.NoMemory h = tt
  refused (fail.Refused r) h = in_left (fault r.cause r.place) (clashing [] (patch_names files)) (flat_map unit_faults (units files))
      (subst (In (fault r.cause r.place)) (ap (clashes_behind []) (names-all files) ∙ sym (clashing-behind [] [] (patch_names files) (λ p. refl))) h)

names-added : (files : List File) (a b : Known) → a ≡ first → Added a (flat_map (file_names (slice_index_or a.spaces 0 [])) files) b → (clashes_behind [] (patch_names files) ≡ []) × (names_of b ≡ patch_names files)
names-added files a b is h =
    let g : Added first (flat_map (file_names []) files) b = subst (λ (z : Known). Added z (flat_map (file_names (slice_index_or z.spaces 0 [])) files) b) is h in
    (ap (clashes_behind []) (sym (names-all files)) ∙ g.free, g.grown ∙ names-all files)

pub build-names : (files : List File) (a b : Known) → a ≡ first → Added a (flat_map (file_names (slice_index_or a.spaces 0 [])) files) b → names_of b ≡ patch_names files
build-names files a b is h = (names-added files a b is h).1

-- where none does, what is refused is what stands twice in a processor or a graph
pub build-units : {A : Type 0} (files : List File) (a b : Known) (row : List Member) (r : Result A Fail) → a ≡ first → Added a (flat_map (file_names (slice_index_or a.spaces 0 [])) files) b → row ≡ b.members
    → ((spaces : List Space) → IsExactly (faults_within (names_in spaces row)) r) → IsExactly (member_faults files) r
unfolding member_faults
build-units files a b row r is h same g =
    let p = names-added files a b is h in
    exactly-at (faults_within (names_in b.spaces row)) (clashing [] (patch_names files) ++ flat_map unit_faults (units files)) r
    (ap (λ z. faults_within (names_in b.spaces z)) same ∙ ap faults_within p.1
    ∙ ap (λ z. z ++ flat_map unit_faults (units files)) (sym (clashing-behind [] [] (patch_names files) (λ p. refl) ∙ p.0)))
    (g b.spaces)

-- a refusal is one whatever is answered else
pub exactly-else : (A B : Type 0) (files : List File) (a b : Known) (row : List Member) (e : Fail) → a ≡ first → Added a (flat_map (file_names (slice_index_or a.spaces 0 [])) files) b → row ≡ b.members
    → ((spaces : List Space) → IsExactly {A = A} (faults_within (names_in spaces row)) (Err e)) → IsExactly {A = B} (member_faults files) (Err e)
exactly-else A B files a b row e is h same g = by e (build-units {A = A} files a b row (Err e) is h same g) where
  by : (e : Fail) → IsExactly {A = A} (member_faults files) (Err e) → IsExactly {A = B} (member_faults files) (Err e)
  by (fail.Refused f) k = k
  by fail.NoMemory k = tt

-- ---- one declaration

part-exactly : (spaces : List Space) (m : Member) (u : UnitDecl) (p : Part) (r : Result (Unit {0}) Fail) → m.named ≡ p → unit_of (named_in spaces p) ≡ Some u
    → ((space : Space) → IsExactly (repeated [] (words_of (unit_names space u))) r) → IsExactly (faults_within (declared_in spaces m ∷ [])) r
part-exactly spaces m u p r is of g = exactly-at (unit_faults (record { declared = x; unit = u })) (faults_within (x ∷ [])) r
    (sym (append-nil (unit_faults (record { declared = x; unit = u }))) ∙ ap (λ o. flat_map unit_faults (cons_option (option_map (λ (v : UnitDecl). unit_at v) o) [])) (sym of ∙ ap (λ q. unit_of (named_in spaces q)) (sym is)))
    (g x.home.space) where
      x : Declared
      x = declared_in spaces m

      unit_at : UnitDecl → DeclaredUnit
      unit_at v = record { declared = declared_in spaces m; unit = v }

pub in-processor : (spaces : List Space) (m : Member) (u : Bor UnitDecl) (r : Result (Unit {0}) Fail) → m.named ≡ n.Processor u
    → ((space : Space) → IsExactly (repeated [] (words_of (unit_names space u.now))) r) → IsExactly (faults_within (declared_in spaces m ∷ [])) r
in-processor spaces m u r is g = part-exactly spaces m u.now (n.Processor u) r is refl g

pub in-graph : (spaces : List Space) (m : Member) (u : Bor UnitDecl) (r : Result (Unit {0}) Fail) → m.named ≡ n.Graph u
    → ((space : Space) → IsExactly (repeated [] (words_of (unit_names space u.now))) r) → IsExactly (faults_within (declared_in spaces m ∷ [])) r
in-graph spaces m u r is g = part-exactly spaces m u.now (n.Graph u) r is refl g
