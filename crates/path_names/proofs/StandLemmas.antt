-- Where a walk stands after a step.
use Rattle.std.specs.Prelude.{◌≡◌, refl, ℕ, zero, suc, ◌+◌, ◌<◌, List, [], ◌∷◌, ◌++◌, length, map, Option, Some, None, option_map, option_and_then, slice_get, slice_index_or, take, Result, OnOk}
use Rattle.std.specs.Option.{option_or, option_copied}
use Rattle.std.proofs.Common.{ap, sym, ◌∙◌, subst, arith, get_or}
use Rattle.std.proofs.lemmas.List.{append-nil, append_assoc, map-append}
use Rattle.std.proofs.lemmas.Option.{slice_get_within, get_or_from_slice_get}
use Rattle.cm_tree.specs.declared.expr.Base.{Base}
use Rattle.cm_tree.specs.declared.expr.Expr.{Expr}
use Rattle.cm_tree.specs.declared.expr.Expr.TheVariants as e
use Rattle.cm_tree.specs.declared.path.Path.{Path}
use Rattle.cm_tree.specs.declared.path.Word.{Word}
use Rattle.cm_tree.specs.declared.type_expr.Arg.{Arg}
use Rattle.cm_tree.specs.declared.type_expr.Arg.TheVariants as g
use Rattle.cm_meaning.specs.Declared.{Space, Declared}
use Rattle.cm_meaning.specs.Scopes.{declared, find, find_inner, find_names, onward, outward, space_scopes, with_local}
use Rattle.cm_meaning.specs.Sites.{GivesNode, Part, TakesAny, looked_up, path_of_word}
use Rattle.name_scopes.specs.Numbers.{added, number_in}
use Rattle.name_scopes.specs.Members.{IsLonger, IsNumberOf, Known, names_of}
use Rattle.name_scopes.specs.Openings.{inner, outer_space}
use Rattle.name_scopes.specs.Stacks.{Visible, with_entry}
use Rattle.name_scopes.specs.declared.table.Entry.{Entry}
use Rattle.scope_walk.specs.declared.steps.Declaration.{Declaration}
use Rattle.scope_walk.specs.declared.steps.Declaration.TheVariants as d
use Rattle.scope_walk.specs.Bodies.{alone}
use Rattle.scope_walk.specs.Meant.{named_as, part_as, step_as}
use Rattle.scope_walk.specs.declared.steps.Part.{Part as Role}
use Rattle.scope_walk.specs.declared.steps.Step.{Step as Taken}
use Rattle.scope_walk.proofs.StepLemmas.{after-append, ok-map, take-more}
use Rattle.std.proofs.Math.Seq.{take-length}
use Rattle.scope_walk.specs.Steps.{Enters, EntersLoop, EntersSpace, EntersText, EntersUnit, Introduces, Leaves, LeavesLoop, LeavesSpace, LeavesText, LeavesUnit, Meets, MeetsCounter, MeetsGiven, MeetsLocal, MeetsParams, MeetsUnit, Stand, Step, round, visible, after_steps, outside, sites_by, space_round, step_after}
use Rattle.path_names.specs.Found.{Found, found_at, found_by, found_of, step_found}
use Rattle.path_names.proofs.FoundLemmas.{found-append, found-sites}
use Rattle.path_names.specs.declared.id.DeclId.{DeclId}
use Rattle.path_names.specs.declared.id.DeclId.TheVariants as i
use Rattle.path_names.specs.declared.id.Use.{Use}
use Rattle.path_names.specs.declared.local.Local.{Local}
use Rattle.path_names.specs.declared.walk.Walk.{Walk}
use Rattle.path_names.specs.Ids.{StandsFor, declared_as, declared_by, local_in, placed, step_declared, use_as}
use Rattle.path_names.specs.Walking.{AreLocals, AreScopes, HoldNoNames, IsAt, IsEntry, IsLocal, IsScope, Looks, Takes, TakesAll}
use Rattle.path_names.proofs.NumberLemmas.{number-more}

-- ---- what is found

pub outward-append : (n : List ℕ) (xs ys : List (List Declared)) → outward n (xs ++ ys) ≡ option_or (outward n xs) (outward n ys)
unfolding outward
outward-append n [] ys = refl
outward-append n (x ∷ xs) ys = ap (option_or _) (outward-append n xs ys) ∙ or_assoc _ (outward n xs) (outward n ys) where
  or_assoc : (a b c : Option Declared) → option_or a (option_or b c) ≡ option_or (option_or a b) c
  or_assoc None b c = refl
  or_assoc (Some x) b c = refl

pub onward-end : (all : List Declared) (x : Option Declared) (ns : List (List ℕ)) (n : List ℕ)
    → onward all x (ns ++ n ∷ []) ≡ option_and_then (λ (y : Declared). find_inner all n y.named) (onward all x ns)
unfolding onward
onward-end all x [] n = refl
onward-end all x (k ∷ ns) n = onward-end all (option_and_then (λ (y : Declared). find_inner all k y.named) x) ns n

-- a declaration of a scope comes first
pub found-local : (members locals : List Declared) (o : ℕ) (x y : Option Declared) → IsNumberOf locals (Some o) x → StandsFor members locals (Some (i.Local o)) (option_or x y)
found-local members locals o None y h = cc
found-local members locals o (Some x) y h = h

pub found-member : (members locals : List Declared) (o : ℕ) (x y : Option Declared) → IsNumberOf locals None x → IsNumberOf members (Some o) y → StandsFor members locals (Some (i.Member o)) (option_or x y)
found-member members locals o None y h k = k
found-member members locals o (Some x) y h k = cc

pub found-none : (members locals : List Declared) (x y : Option Declared) → IsNumberOf locals None x → IsNumberOf members None y → StandsFor members locals None (option_or x y)
found-none members locals None y h k = k
found-none members locals (Some x) y h k = cc

-- what is found in a namespace where the walk is
pub outward-at : (w : Walk) (s : Stand) (xs : List Declared) (found : List Found) (text : List ℕ) (o : Option ℕ) → IsAt w s xs found
    → IsNumberOf (names_of w.known) o (outward text (space_scopes (names_of w.known) (slice_index_or w.known.spaces w.space []))) → IsNumberOf s.all o (outward text (space_scopes s.all s.home.space))
outward-at w s xs found text o h k =
    subst (λ z. IsNumberOf s.all o (outward text (space_scopes s.all z))) (get_or_from_slice_get w.known.spaces w.space s.home.space [] h.space)
    (subst (λ z. IsNumberOf z o (outward text (space_scopes z (slice_index_or w.known.spaces w.space [])))) h.all k)

pub first-local : (w : Walk) (s : Stand) (xs : List Declared) (found : List Found) (text : List ℕ) (k : ℕ) → IsAt w s xs found
    → ((locals : List Declared) (scopes : List (List Declared)) → AreScopes w.names locals w.table.scopes scopes → IsNumberOf locals (Some k) (outward text scopes)) → StandsFor s.all xs (Some (i.Local k)) (outward text (visible s))
first-local w s xs found text k h inner = subst (StandsFor s.all xs (Some (i.Local k))) (sym (outward-append text s.scopes (space_scopes s.all s.home.space)))
    (found-local s.all xs k (outward text s.scopes) (outward text (space_scopes s.all s.home.space)) (inner xs s.scopes h.scopes))

pub first-member : (w : Walk) (s : Stand) (xs : List Declared) (found : List Found) (text : List ℕ) (k : ℕ) → IsAt w s xs found
    → ((locals : List Declared) (scopes : List (List Declared)) → AreScopes w.names locals w.table.scopes scopes → IsNumberOf locals None (outward text scopes))
    → IsNumberOf (names_of w.known) (Some k) (outward text (space_scopes (names_of w.known) (slice_index_or w.known.spaces w.space []))) → StandsFor s.all xs (Some (i.Member k)) (outward text (visible s))
first-member w s xs found text k h inner outer = subst (StandsFor s.all xs (Some (i.Member k))) (sym (outward-append text s.scopes (space_scopes s.all s.home.space)))
    (found-member s.all xs k (outward text s.scopes) (outward text (space_scopes s.all s.home.space)) (inner xs s.scopes h.scopes) (outward-at w s xs found text (Some k) h outer))

pub first-none : (w : Walk) (s : Stand) (xs : List Declared) (found : List Found) (text : List ℕ) → IsAt w s xs found
    → ((locals : List Declared) (scopes : List (List Declared)) → AreScopes w.names locals w.table.scopes scopes → IsNumberOf locals None (outward text scopes))
    → IsNumberOf (names_of w.known) None (outward text (space_scopes (names_of w.known) (slice_index_or w.known.spaces w.space []))) → StandsFor s.all xs None (outward text (visible s))
first-none w s xs found text h inner outer = subst (StandsFor s.all xs None) (sym (outward-append text s.scopes (space_scopes s.all s.home.space)))
    (found-none s.all xs (outward text s.scopes) (outward text (space_scopes s.all s.home.space)) (inner xs s.scopes h.scopes) (outward-at w s xs found text None h outer))

-- ---- further names

pub onward-start : (all locals : List Declared) (id : Option DeclId) (x : Option Declared) → StandsFor all locals id x → StandsFor all locals id (onward all x [])
unfolding onward
onward-start all locals id x h = h

pub onward-next : (all locals : List Declared) (id : Option DeclId) (x : Option Declared) (ns : List (List ℕ)) (k : ℕ) (n text : List ℕ) → k < length ns → n ≡ get_or ns k n → text ≡ n
    → StandsFor all locals id (option_and_then (λ (y : Declared). find_inner all text y.named) (onward all x (take k ns))) → StandsFor all locals id (onward all x (take (k + 1) ns))
onward-next all locals id x ns k n text within is same h = subst (StandsFor all locals id) (sym (ap (onward all x) (take-more ns k n within is) ∙ onward-end all x (take k ns) n))
    (subst (λ z. StandsFor all locals id (option_and_then (λ (y : Declared). find_inner all z y.named) (onward all x (take k ns)))) same h)

pub onward-all : (all locals : List Declared) (id : Option DeclId) (x : Option Declared) (ns : List (List ℕ)) (k : ℕ) → k ≡ length ns → StandsFor all locals id (onward all x (take k ns)) → StandsFor all locals id (onward all x ns)
onward-all all locals id x ns k whole h = subst (λ z. StandsFor all locals id (onward all x z)) (ap (λ n. take n ns) whole ∙ take-length ns) h

-- a path by its first name and the others
pub path-some : (w : Walk) (s : Stand) (xs : List Declared) (found : List Found) (q : Path) (row further : List (List ℕ)) (n text : List ℕ) (first id : Option DeclId) → IsAt w s xs found → row ≡ q.names → row ≡ n ∷ further → text ≡ n
    → StandsFor s.all xs first (outward text (visible s))
    → ((locals : List Declared) (x : Option Declared) → HoldNoNames locals → StandsFor (names_of w.known) locals first x → StandsFor (names_of w.known) locals id (onward (names_of w.known) x further))
    → StandsFor s.all xs id (find (round s) q)
unfolding find
path-some w s xs found q row further n text first id h same is word here there =
    subst (λ ns. StandsFor s.all xs id (find_names (round s) ns)) (sym is ∙ same)
    (subst (λ z. StandsFor s.all xs id (onward s.all (outward z (visible s)) further)) word
    (subst (λ all. StandsFor all xs first (outward text (visible s)) → StandsFor all xs id (onward all (outward text (visible s)) further)) h.all (there xs (outward text (visible s)) h.plain) here))

pub path-none : (s : Stand) (xs : List Declared) (q : Path) (row : List (List ℕ)) → row ≡ q.names → length row ≡ 0 → StandsFor s.all xs None (find (round s) q)
unfolding find
path-none s xs q row same none = by row none same where
  by : (row : List (List ℕ)) → length row ≡ 0 → row ≡ q.names → StandsFor s.all xs None (find_names (round s) q.names)
  by [] none same = subst (λ ns. StandsFor s.all xs None (find_names (round s) ns)) same refl
  by (n ∷ row) none same = absurd (omega (arith, none))

-- a single name is a path of one name
pub word-is : (s : Stand) (xs : List Declared) (w : Word) (text : List ℕ) (id : Option DeclId) → text ≡ w.text → StandsFor s.all xs id (outward text (visible s)) → StandsFor s.all xs id (find (round s) (path_of_word w))
unfolding find onward
word-is s xs w text id same h = subst (λ z. StandsFor s.all xs id (outward z (visible s))) same h

-- ---- lists that grow

pub get-more : {X : Type 0} (xs ys : List X) (k : ℕ) (x : X) → slice_get xs k ≡ Some x → slice_get (xs ++ ys) k ≡ Some x
get-more [] ys k x h = cc
get-more (y ∷ xs) ys zero x h = h
get-more (y ∷ xs) ys (suc k) x h = get-more xs ys k x h

get-end : {X : Type 0} (xs : List X) (x : X) → slice_get (xs ++ x ∷ []) (length xs) ≡ Some x
get-end [] x = refl
get-end (y ∷ xs) x = get-end xs x

scope-more : (names : List (List ℕ)) (text : List ℕ) (xs ys : List Declared) (entries : List Entry) (scope : List Declared) → IsScope names xs entries scope → IsScope (added names text) (xs ++ ys) entries scope
scope-more names text xs ys [] [] h = tt
scope-more names text xs ys [] (x ∷ scope) h = absurd h
scope-more names text xs ys (e ∷ entries) [] h = absurd h
scope-more names text xs ys (e ∷ entries) (x ∷ scope) h =
    (record { name = number-more names text x.word.text e.name h.0.name; declaration = get-more xs ys e.declaration x h.0.declaration }, scope-more names text xs ys entries scope h.1)

scopes-more : (names : List (List ℕ)) (text : List ℕ) (xs ys : List Declared) (inner : List (List Entry)) (scopes : List (List Declared)) → AreScopes names xs inner scopes → AreScopes (added names text) (xs ++ ys) inner scopes
scopes-more names text xs ys [] [] h = tt
scopes-more names text xs ys [] (x ∷ scopes) h = absurd h
scopes-more names text xs ys (e ∷ inner) [] h = absurd h
scopes-more names text xs ys (e ∷ inner) (x ∷ scopes) h = (scope-more names text xs ys e x h.0, scopes-more names text xs ys inner scopes h.1)

locals-longer : (spaces more : List Space) (locals : List Local) (xs : List Declared) → AreLocals spaces locals xs → AreLocals (spaces ++ more) locals xs
locals-longer spaces more [] [] h = tt
locals-longer spaces more [] (x ∷ xs) h = absurd h
locals-longer spaces more (l ∷ locals) [] h = absurd h
locals-longer spaces more (l ∷ locals) (x ∷ xs) h = (record { space = get-more spaces more l.space x.home.space h.0.space; is = h.0.is }, locals-longer spaces more locals xs h.1)

locals-end : (spaces : List Space) (locals : List Local) (xs : List Declared) (l : Local) (x : Declared) → AreLocals spaces locals xs → IsLocal spaces l x → AreLocals spaces (locals ++ l ∷ []) (xs ++ x ∷ [])
locals-end spaces [] [] l x h k = (k, tt)
locals-end spaces [] (y ∷ xs) l x h k = absurd h
locals-end spaces (m ∷ locals) [] l x h k = absurd h
locals-end spaces (m ∷ locals) (y ∷ xs) l x h k = (h.0, locals-end spaces locals xs l x h.1 k)

pub locals-count : (spaces : List Space) (locals : List Local) (xs : List Declared) → AreLocals spaces locals xs → length locals ≡ length xs
locals-count spaces [] [] h = refl
locals-count spaces [] (x ∷ xs) h = absurd h
locals-count spaces (l ∷ locals) [] h = absurd h
locals-count spaces (l ∷ locals) (x ∷ xs) h = ap suc (locals-count spaces locals xs h.1)

no-name : (all : List Declared) (n : List ℕ) (a : Declaration) → find_inner all n (named_as a) ≡ None
no-name all n (d.Struct p fields) = refl
no-name all n (d.Using ty) = refl
no-name all n (d.Constant a) = refl
no-name all n (d.Function f) = refl
no-name all n (d.InferredState a) = refl
no-name all n (d.TypedState ty a) = refl
no-name all n (d.Endpoint flow kind ty keys) = refl
no-name all n (d.Node a) = refl
no-name all n (d.TypeParameter k) = refl
no-name all n (d.ValueParameter k ty) = refl
no-name all n (d.Parameter ty) = refl
no-name all n (d.LocalConstant a) = refl
no-name all n (d.InferredLocal a) = refl
no-name all n (d.TypedLocal ty a) = refl
no-name all n (d.Counter ty) = refl

plain-end : (xs : List Declared) (x : Declared) → HoldNoNames xs → ((all : List Declared) (n : List ℕ) → find_inner all n x.named ≡ None) → HoldNoNames (xs ++ x ∷ [])
plain-end xs x h k = record { each = λ all n j y at. by xs all n j y (λ m z here. h.each all n m z here) at } where
  by : (xs : List Declared) (all : List Declared) (n : List ℕ) (j : ℕ) (y : Declared) → ((m : ℕ) (z : Declared) → slice_get xs m ≡ Some z → find_inner all n z.named ≡ None) → slice_get (xs ++ x ∷ []) j ≡ Some y
      → find_inner all n y.named ≡ None
  by [] all n zero y g at = let e : x ≡ y = cc in subst (λ (z : Declared). find_inner all n z.named ≡ None) e (k all n)
  by [] all n (suc j) y g at = cc
  by (w ∷ xs) all n zero y g at = g 0 y at
  by (w ∷ xs) all n (suc j) y g at = by xs all n j y (λ m z here. g (suc m) z here) at

as-more : (all xs ys : List Declared) (id : Option DeclId) (x : Option Declared) → StandsFor all xs id x → StandsFor all (xs ++ ys) id x
as-more all xs ys None x h = h
as-more all xs ys (Some (i.Member n)) x h = h
as-more all xs ys (Some (i.Local n)) None h = cc
as-more all xs ys (Some (i.Local n)) (Some x) h = ap Some (get-more xs ys n x (let e : slice_get xs n ≡ Some x = cc in e))

uses-more : (all xs ys : List Declared) (uses : List Use) (found : List Found) → map (use_as all xs) uses ≡ map placed found → map (use_as all (xs ++ ys)) uses ≡ map placed found
uses-more all xs ys [] [] h = refl
uses-more all xs ys [] (f ∷ found) h = cc
uses-more all xs ys (u ∷ uses) [] h = cc
uses-more all xs ys (u ∷ uses) (f ∷ found) h =
    let p : use_as all xs u ≡ placed f = cc in
    let e : option_map (declared_as all xs) u.id ≡ option_map Some f.1 = ap (λ z. z.1) p in
    let g = as-more all xs ys u.id f.1 e in
    let q : u.place ≡ f.0.place = ap (λ z. z.0) p in
    let more : map (use_as all (xs ++ ys)) uses ≡ map placed found = uses-more all xs ys uses found (let t : map (use_as all xs) uses ≡ map placed found = cc in t) in
    ap (λ z. (z, option_map (declared_as all (xs ++ ys)) u.id) ∷ map (use_as all (xs ++ ys)) uses) q
    ∙ ap (λ z. (f.0.place, z) ∷ map (use_as all (xs ++ ys)) uses) g ∙ ap (λ z. placed f ∷ z) more

-- ---- steps

-- where a step looks nothing up and declares nothing
pub quiet : (w : Walk) (s : Stand) (xs : List Declared) (found : List Found) → IsAt w s xs found → IsAt w s (xs ++ []) (found ++ [])
quiet w s xs found h = subst (λ z. IsAt w s z (found ++ [])) (sym (append-nil xs)) (subst (λ z. IsAt w s xs z) (sym (append-nil found)) h)

pub looks : (w : Walk) (u : Use) (uses : List Use) (q : Path) → uses ≡ w.uses ++ u ∷ [] → u.place ≡ q.place
    → ((s : Stand) (xs : List Declared) (found : List Found) → IsAt w s xs found → StandsFor s.all xs u.id (find (round s) q)) → Looks w (record w { uses = uses }) q
looks w u uses q grown place is = record {
  at = λ s xs found h. let e = is s xs found h in record {
    all = h.all;
    space = h.space;
    unit = h.unit;
    scopes = h.scopes;
    locals = h.locals;
    plain = h.plain;
    uses = ap (map (use_as s.all xs)) grown ∙ map-append (use_as s.all xs) w.uses (u ∷ [])
        ∙ ap (λ z. z ++ use_as s.all xs u ∷ []) h.uses
        ∙ ap (λ z. map placed found ++ (z, option_map (declared_as s.all xs) u.id) ∷ []) place
        ∙ ap (λ z. map placed found ++ (q.place, z) ∷ []) e
        ∙ sym (map-append placed found ((q, find (round s) q) ∷ []));
  };
}

-- a step that looks nothing up, declares nothing and changes no scope
pub record IsQuiet (a : Step) : Type 0 where
  pub found : (s : Stand) → step_found s a ≡ []
  pub declared : (s : Stand) → step_declared s a ≡ []
  pub all : (s : Stand) → (step_after s a).all ≡ s.all
  pub scopes : (s : Stand) → (step_after s a).scopes ≡ s.scopes
  pub home : (s : Stand) → (step_after s a).home ≡ s.home

pub passes : (w : Walk) (step : Taken) (a : Step) → step_as step ≡ a → IsQuiet a → Takes w w (step_as step)
passes w step a is q = subst (Takes w w) (sym is) (record {
  at = λ s xs found h. subst (λ z. IsAt w (step_after s a) z (found ++ step_found s a)) (sym (ap (λ z. xs ++ z) (q.declared s) ∙ append-nil xs))
      (subst (λ z. IsAt w (step_after s a) xs z) (sym (ap (λ z. found ++ z) (q.found s) ∙ append-nil found)) (record {
        all = h.all ∙ sym (q.all s);
        space = h.space ∙ ap (λ z. Some z.space) (sym (q.home s));
        unit = h.unit ∙ ap (λ z. z.unit) (sym (q.home s));
        scopes = subst (AreScopes w.names xs w.table.scopes) (sym (q.scopes s)) h.scopes;
        locals = h.locals;
        plain = h.plain;
        uses = subst (λ z. map (use_as z xs) w.uses ≡ map placed found) (sym (q.all s)) h.uses;
      }));
})

-- a site whose path is looked up
meets : (a b : Walk) (p : Part) (q : Path) → looked_up p ≡ Some q → Looks a b q → Takes a b (Meets p)
meets a b p q is h = record {
  at = λ s xs found here. subst (λ z. IsAt b s z (found ++ found_of (round s) (looked_up p))) (sym (append-nil xs)) (subst (λ o. IsAt b s xs (found ++ found_of (round s) o)) (sym is) (h.at s xs found here));
}

pub meets-path : {E : Type 0} (a b : Walk) (part : Role) (p : Part) (q : Path) (o : Result (Unit {0}) E) → part_as part ≡ p → looked_up p ≡ Some q → OnOk o (Looks a b q) → OnOk o (Takes a b (Meets (part_as part)))
meets-path a b part p q o same is h = ok-map o (Looks a b q) (Takes a b (Meets (part_as part))) (λ k. subst (λ z. Takes a b (Meets z)) (sym same) (meets a b p q is k)) h

-- a site with no path
pub meets-none : (w : Walk) (part : Role) (p : Part) → part_as part ≡ p → looked_up p ≡ None → Takes w w (Meets (part_as part))
meets-none w part p same none = record {
  at = λ s xs found h. subst (λ z. IsAt w s z (found ++ found_of (round s) (looked_up (part_as part)))) (sym (append-nil xs))
      (subst (λ o. IsAt w s xs (found ++ found_of (round s) o)) (sym (ap looked_up same ∙ none)) (subst (IsAt w s xs) (sym (append-nil found)) h));
}

-- an argument of a node
given : (path : Path) (k : ℕ) (a : Arg) (o : Option Path) → looked_up (GivesNode TakesAny a) ≡ o → (s : Stand) → step_found s (MeetsGiven path k a) ≡ found_of (round s) o
given path k a o is s = ap (found_of (round s)) is

alone-up : (x : Expr) → looked_up (GivesNode TakesAny (g.Value x)) ≡ alone x
alone-up (e.Name q) = refl
alone-up (e.Number p v w) = refl
alone-up (e.Truth p v) = refl
alone-up (e.Call' q h args) = refl
alone-up (e.Construct' b h sizes i args) = refl
alone-up (e.Paren' p h x) = refl
alone-up (e.Field' p h x w) = refl
alone-up (e.Index' p h x i y) = refl
alone-up (e.Unary' p o h x) = refl
alone-up (e.Binary' p o h x i y) = refl
alone-up (e.Choice' p h x i y j z) = refl

given-quiet : (w : Walk) (path : Path) (k : ℕ) (a : Arg) → looked_up (GivesNode TakesAny a) ≡ None → Takes w w (MeetsGiven path k a)
given-quiet w path k a none = record {
  at = λ s xs found h. subst (λ z. IsAt w s z (found ++ step_found s (MeetsGiven path k a))) (sym (append-nil xs))
      (subst (λ z. IsAt w s xs (found ++ z)) (sym (given path k a None none s)) (subst (IsAt w s xs) (sym (append-nil found)) h));
}

pub given-type : (w : Walk) (path : Path) (k : ℕ) (b : Base) (sizes : List Expr) (a : Arg) → a ≡ g.Type b sizes → Takes w w (MeetsGiven path k a)
given-type w path k b sizes a is = given-quiet w path k a (ap (λ z. looked_up (GivesNode TakesAny z)) is)

pub given-none : (w : Walk) (path : Path) (k : ℕ) (x : Expr) (a : Arg) → a ≡ g.Value x → alone x ≡ None → Takes w w (MeetsGiven path k a)
given-none w path k x a is none = given-quiet w path k a (ap (λ z. looked_up (GivesNode TakesAny z)) is ∙ alone-up x ∙ none)

pub given-path : {E : Type 0} (w b : Walk) (path : Path) (k : ℕ) (x : Expr) (a : Arg) (q : Path) (o : Result (Unit {0}) E) → a ≡ g.Value x → alone x ≡ Some q → OnOk o (Looks w b q) → OnOk o (Takes w b (MeetsGiven path k a))
given-path w b path k x a q o is found look = ok-map o (Looks w b q) (Takes w b (MeetsGiven path k a))
    (λ h. record {
      at = λ s xs here k'. subst (λ z. IsAt b s z (here ++ step_found s (MeetsGiven path k a))) (sym (append-nil xs))
          (subst (λ z. IsAt b s xs (here ++ z)) (sym (given path k a (Some q) (ap (λ z. looked_up (GivesNode TakesAny z)) is ∙ alone-up x ∙ found) s)) (h.at s xs here k'));
    }) look

pub enters-space : (w : Walk) (known : Known) (space : ℕ) (text name : List ℕ) → names_of known ≡ names_of w.known → IsLonger w.known.spaces known.spaces
    → slice_get known.spaces space ≡ Some (inner w.known.spaces w.space text) → text ≡ name → Takes w (record w { known = known; space = space; unit = None }) (EntersSpace name)
enters-space w known space text name same longer at is = record {
  at = λ s xs found h. quiet (record w { known = known; space = space; unit = None }) (step_after s (EntersSpace name)) xs found (record {
    all = same ∙ h.all;
    unit = refl;
    scopes = h.scopes;
    plain = h.plain;
    uses = h.uses;
    space = at ∙ ap (λ z. Some (z ∷ slice_index_or w.known.spaces w.space [])) is ∙ ap (λ z. Some (name ∷ z)) (get_or_from_slice_get w.known.spaces w.space s.home.space [] h.space);
    locals = subst (λ z. AreLocals z w.locals xs) (sym longer.is) (locals-longer w.known.spaces longer.more w.locals xs h.locals);
  });
}

-- the namespace that one stands in has the number that is found
outer-number : (spaces : List Space) (n : ℕ) (s : Space) (o : Option ℕ) → slice_get spaces n ≡ Some s → option_map (slice_get spaces) o ≡ option_map Some (outer_space (slice_index_or spaces n []))
    → option_map (slice_get spaces) o ≡ option_map Some (outer_space s)
outer-number spaces n s o at h = h ∙ ap (λ z. option_map Some (outer_space z)) (get_or_from_slice_get spaces n s [] at)

outer-some : (spaces : List Space) (k : ℕ) (s : Space) → option_map (slice_get spaces) (Some k) ≡ option_map Some (outer_space s) → slice_get spaces k ≡ Some (space_round s)
outer-some spaces k [] h = cc
outer-some spaces k (n ∷ s) h = cc

outer-none : (spaces : List Space) (n : ℕ) (s : Space) → slice_get spaces n ≡ Some s → option_map (slice_get spaces) None ≡ option_map Some (outer_space s) → slice_get spaces n ≡ Some (space_round s)
outer-none spaces n [] at h = at
outer-none spaces n (k ∷ s) at h = cc

pub outer-in : (spaces : List Space) (n k : ℕ) (s : Space) → option_map (slice_get spaces) (Some k) ≡ option_map Some (outer_space (slice_index_or spaces n [])) → slice_get spaces n ≡ Some s → slice_get spaces k ≡ Some (space_round s)
outer-in spaces n k s is at = outer-some spaces k s (outer-number spaces n s (Some k) at is)

pub outer-of-none : (spaces : List Space) (n : ℕ) (s : Space) → option_map (slice_get spaces) None ≡ option_map Some (outer_space (slice_index_or spaces n [])) → slice_get spaces n ≡ Some s → slice_get spaces n ≡ Some (space_round s)
outer-of-none spaces n s is at = outer-none spaces n s at (outer-number spaces n s None at is)

-- the number is that of a namespace
pub outer-ready : (spaces : List Space) (n k : ℕ) → option_map (slice_get spaces) (Some k) ≡ option_map Some (outer_space (slice_index_or spaces n [])) → k < length spaces
outer-ready spaces n k h = by (slice_index_or spaces n []) h where
  by : (s : Space) → option_map (slice_get spaces) (Some k) ≡ option_map Some (outer_space s) → k < length spaces
  by [] e = cc
  by (m ∷ s) e = slice_get_within spaces k s (let g : slice_get spaces k ≡ Some s = cc in g)

-- ---- a declaration

in-front : (names : List (List ℕ)) (xs : List Declared) (e : Entry) (x : Declared) (entries : List (List Entry)) (scopes : List (List Declared)) → IsEntry names xs e x → AreScopes names xs entries scopes
    → AreScopes names xs (with_entry e entries) (with_local x scopes)
in-front names xs e x [] [] h k = ((h, tt), tt)
in-front names xs e x [] (scope ∷ scopes) h k = absurd k
in-front names xs e x (es ∷ entries) [] h k = absurd k
in-front names xs e x (es ∷ entries) (scope ∷ scopes) h k = ((h, k.0), k.1)

-- a name that gets a number, and then a declaration, whose number is how many there are
pub introduces : (w : Walk) (names : List (List ℕ)) (table : Visible) (locals : List Local) (l : Local) (n : ℕ) → names ≡ added w.names l.word.now.text → number_in names l.word.now.text ≡ Some n
    → table.scopes ≡ with_entry (record { name = n; declaration = length w.locals }) w.table.scopes → l.space ≡ w.space → l.unit ≡ w.unit → locals ≡ w.locals ++ l ∷ []
    → Takes w (record w { names = names; table = table; locals = locals }) (Introduces l.word.now (named_as l.declaration))
introduces w names table locals l n grown number scopes space unit more = record {
  at = λ s xs found h.
      let x : Declared = declared s.home l.word.now (named_as l.declaration) in
      let count = locals-count w.known.spaces w.locals xs h.locals in
      let stands : slice_get (xs ++ x ∷ []) (length w.locals) ≡ Some x = subst (λ k. slice_get (xs ++ x ∷ []) k ≡ Some x) (sym count) (get-end xs x) in
      subst (λ z. IsAt (record w { names = names; table = table; locals = locals }) (step_after s (Introduces l.word.now (named_as l.declaration))) (xs ++ x ∷ []) z) (sym (append-nil found)) (record {
        all = h.all;
        space = h.space;
        unit = h.unit;
        scopes = subst (λ z. AreScopes names (xs ++ x ∷ []) z (with_local x s.scopes)) (sym scopes)
            (in-front names (xs ++ x ∷ []) (record { name = n; declaration = length w.locals }) x w.table.scopes s.scopes (record { name = number; declaration = stands })
            (subst (λ z. AreScopes z (xs ++ x ∷ []) w.table.scopes s.scopes) (sym grown) (scopes-more w.names l.word.now.text xs (x ∷ []) w.table.scopes s.scopes h.scopes)));
        locals = subst (λ z. AreLocals w.known.spaces z (xs ++ x ∷ [])) (sym more) (locals-end w.known.spaces w.locals xs l x h.locals (record {
          space = ap (slice_get w.known.spaces) space ∙ h.space;
          is = ap (λ z. declared (record { space = s.home.space; unit = z }) l.word.now (named_as l.declaration)) (sym (ap option_copied unit ∙ h.unit));
        }));
        plain = plain-end xs x h.plain (λ all name. no-name all name l.declaration);
        uses = uses-more s.all xs (x ∷ []) w.uses found h.uses;
      });
}

-- ---- steps one after the other

declared-end : (s : Stand) (steps : List Step) (a : Step) → declared_by s (steps ++ a ∷ []) ≡ declared_by s steps ++ step_declared (after_steps s steps) a
unfolding declared_by after_steps
declared-end s [] a = append-nil (step_declared s a)
declared-end s (b ∷ steps) a = ap (λ z. step_declared s b ++ z) (declared-end (step_after s b) steps a) ∙ sym (append_assoc (step_declared s b) (declared_by (step_after s b) steps) (step_declared (after_steps (step_after s b) steps) a))

found-end : (s : Stand) (steps : List Step) (a : Step) → found_by s (steps ++ a ∷ []) ≡ found_by s steps ++ step_found (after_steps s steps) a
unfolding found_by
found-end s steps a = found-append s steps (a ∷ []) ∙ ap (λ z. found_by s steps ++ z) (append-nil (step_found (after_steps s steps) a))

after-end : (s : Stand) (steps : List Step) (a : Step) → after_steps s (steps ++ a ∷ []) ≡ step_after (after_steps s steps) a
unfolding after_steps
after-end s steps a = after-append s steps (a ∷ [])

pub takes-none : (w : Walk) → TakesAll w w []
unfolding after_steps declared_by found_by
takes-none w = record { at = λ s xs found h. quiet w s xs found h }

takes-end : (a b c : Walk) (steps : List Step) (step : Step) → TakesAll a b steps → Takes b c step → TakesAll a c (steps ++ step ∷ [])
takes-end a b c steps step h k = record {
  at = λ s xs found here.
      let q = after_steps s steps in
      let g = k.at q (xs ++ declared_by s steps) (found ++ found_by s steps) (h.at s xs found here) in
      subst (λ z. IsAt c z (xs ++ declared_by s (steps ++ step ∷ [])) (found ++ found_by s (steps ++ step ∷ []))) (sym (after-end s steps step))
      (subst (λ z. IsAt c (step_after q step) z (found ++ found_by s (steps ++ step ∷ []))) (append_assoc xs (declared_by s steps) (step_declared q step) ∙ ap (λ z. xs ++ z) (sym (declared-end s steps step)))
      (subst (λ z. IsAt c (step_after q step) ((xs ++ declared_by s steps) ++ step_declared q step) z) (append_assoc found (found_by s steps) (step_found q step) ∙ ap (λ z. found ++ z) (sym (found-end s steps step))) g));
}

pub takes-next : (a b c : Walk) (steps : List Taken) (k : ℕ) (x : Taken) → k < length steps → x ≡ get_or steps k x → TakesAll a b (map step_as (take k steps)) → Takes b c (step_as x) → TakesAll a c (map step_as (take (k + 1) steps))
takes-next a b c steps k x within is h g = subst (TakesAll a c) (sym (ap (map step_as) (take-more steps k x within is) ∙ map-append step_as (take k steps) (x ∷ [])))
    (takes-end a b c (map step_as (take k steps)) (step_as x) h g)

pub takes-all : (a b : Walk) (steps : List Taken) (k : ℕ) → k ≡ length steps → TakesAll a b (map step_as (take k steps)) → TakesAll a b (map step_as steps)
takes-all a b steps k all h = subst (λ z. TakesAll a b (map step_as z)) (ap (λ n. take n steps) all ∙ take-length steps) h

-- ---- the whole walk

pub locals-in : (spaces : List Space) (locals : List Local) (xs : List Declared) → AreLocals spaces locals xs → map (local_in spaces) locals ≡ xs
locals-in spaces [] [] h = refl
locals-in spaces [] (x ∷ xs) h = absurd h
locals-in spaces (l ∷ locals) [] h = absurd h
locals-in spaces (l ∷ locals) (x ∷ xs) h =
    ap (λ z. z ∷ map (local_in spaces) locals) (ap (λ z. declared (record { space = z; unit = option_copied l.unit }) l.word.now (named_as l.declaration)) (get_or_from_slice_get spaces l.space x.home.space [] h.0.space) ∙ sym h.0.is)
    ∙ ap (λ z. x ∷ z) (locals-in spaces locals xs h.1)

-- what a walk came to that began in the whole patch
pub record IsEnd (known : Known) (w : Walk) (steps : List Step) : Type 0 where
  pub members : names_of w.known ≡ names_of known
  pub locals : map (local_in w.known.spaces) w.locals ≡ declared_by (outside (names_of known) []) steps
  pub uses : map (use_as (names_of w.known) (map (local_in w.known.spaces) w.locals)) w.uses ≡ map placed (found_at (sites_by (outside (names_of known) []) steps))

all-stays : (s : Stand) (steps : List Step) → (after_steps s steps).all ≡ s.all
unfolding after_steps
all-stays s [] = refl
all-stays s (a ∷ steps) = all-stays (step_after s a) steps ∙ one a where
  one : (a : Step) → (step_after s a).all ≡ s.all
  one (Meets p) = refl
  one (MeetsParams params) = refl
  one MeetsUnit = refl
  one (MeetsLocal k w n) = refl
  one (MeetsCounter w ty) = refl
  one (MeetsGiven q k a) = refl
  one Enters = refl
  one Leaves = refl
  one (Introduces w n) = refl
  one (EntersUnit n u) = refl
  one LeavesUnit = refl
  one (EntersSpace n) = refl
  one LeavesSpace = refl
  one EntersLoop = refl
  one LeavesLoop = refl
  one (EntersText w n) = refl
  one LeavesText = refl

pub walk-end : (known : Known) (a b : Walk) (steps rest : List Step) → IsAt a (outside (names_of known) []) [] [] → TakesAll a b steps → steps ≡ rest → IsEnd known b rest
walk-end known a b steps rest start h is =
    let s = outside (names_of known) [] in
    let e = h.at s [] [] start in
    let l = locals-in b.known.spaces b.locals (declared_by s steps) e.locals in
    let m = e.all ∙ all-stays s steps in
    subst (IsEnd known b) is (record {
      members = m;
      locals = l;
      uses = ap (λ z. map (use_as (names_of b.known) z) b.uses) l ∙ ap (λ z. map (use_as z (declared_by s steps)) b.uses) e.all ∙ e.uses
          ∙ ap (map placed) (sym (found-sites s steps));
    })
