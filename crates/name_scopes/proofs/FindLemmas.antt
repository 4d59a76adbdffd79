-- The first declaration of a name in a namespace is what the name finds there.
use Rattle.std.specs.Prelude.{◌≡◌, refl, ℕ, zero, suc, ◌+◌, ◌<◌, Bool, true, false, ◌&&◌, nat_eq, bytes_eq, List, [], ◌∷◌, length, filter, Option, Some, None, IfSome, option_and_then, option_map, slice_index_or, slice_get}
use Rattle.std.specs.Option.{ForSome, option_or}
use Rattle.std.specs.Map.{lookup}
use Rattle.std.specs.Borrow.{Bor}
use Rattle.std.proofs.Common.{ap, sym, ◌∙◌, subst, arith, cond}
use Rattle.std.proofs.lemmas.Option.{slice_get-map, slice_get_within, get_or_from_slice_get}
use Rattle.cm_meaning.specs.Declared.{Space, Declared}
use Rattle.cm_meaning.specs.Scopes.{find_in, find_inner, is_space, outward, space_names, space_scopes}
use Rattle.name_scopes.specs.Openings.{Opening, AreDistinct, outer_space}
use Rattle.name_scopes.specs.Members.{Known, names_of, declared_in, named_in, names_in, namespace_number, is_below, IsBelow, IsNumberOf, Each, found_within, space_at, stands_at, first_from, same_opening, AreIndexed}
use Rattle.name_scopes.specs.declared.named.Member.{Member}
use Rattle.name_scopes.specs.declared.named.Named.{Named as Part}
use Rattle.name_scopes.specs.declared.named.Named.TheVariants as n
use Rattle.name_scopes.proofs.MemberLemmas.{eq-sym, text-sym, spaces-same, known}

-- the first of some declarations with a name in the namespace of a number
abbrev first_of : List Space → ℕ → List ℕ → List Member → Option Declared
first_of spaces space name [] = None
first_of spaces space name (m ∷ names) = cond (stands_at space name m) (Some (declared_in spaces m)) (first_of spaces space name names)

first-is : (spaces : List Space) (space : ℕ) (name : List ℕ) (names : List Member) → AreDistinct spaces → space < length spaces → Each (IsBelow (length spaces)) names
    → first_of spaces space name names ≡ find_in name (space_names (names_in spaces names) (slice_index_or spaces space []))
unfolding find_in
first-is spaces space name [] h below within = refl
first-is spaces space name (m ∷ names) h below within = by (nat_eq space m.space) refl (bytes_eq name m.text.now) refl (first-is spaces space name names h below within.1) where
  same : is_space (slice_index_or spaces m.space []) (slice_index_or spaces space []) ≡ nat_eq space m.space
  same = spaces-same spaces m.space space h (let b = within.0 in b.space) below ∙ eq-sym m.space space

  rest : List Declared
  rest = space_names (names_in spaces names) (slice_index_or spaces space [])

  by : (s : Bool) → nat_eq space m.space ≡ s → (t : Bool) → bytes_eq name m.text.now ≡ t → first_of spaces space name names ≡ find_in name rest
      → cond (nat_eq space m.space && bytes_eq name m.text.now) (Some (declared_in spaces m)) (first_of spaces space name names)
      ≡ find_in name (cond (is_space (slice_index_or spaces m.space []) (slice_index_or spaces space [])) (declared_in spaces m ∷ rest) rest)
  by true s true t more = rw (s, t, same ∙ s, text-sym m.text.now name ∙ t) refl
  by true s false t more = rw (s, t, same ∙ s, text-sym m.text.now name ∙ t) more
  by false s b t more = rw (s, same ∙ s) more

record IsGot (spaces : List Space) (space : ℕ) (name : List ℕ) (i : ℕ) (names : List Member) (j : ℕ) : Type 0 where
  k : ℕ
  x : Declared
  at : slice_get (names_in spaces names) k ≡ Some x
  first : first_of spaces space name names ≡ Some x
  is : i + k ≡ j

first-got : (spaces : List Space) (space : ℕ) (name : List ℕ) (i : ℕ) (names : List Member) (j : ℕ) → first_from space name i names ≡ Some j → IsGot spaces space name i names j
first-got spaces space name i [] j h = cc
first-got spaces space name i (m ∷ names) j h = by (stands_at space name m) refl (first-got spaces space name (suc i) names j) h where
  here : (i j : ℕ) → Some i ≡ Some j → i + 0 ≡ j
  here i j h = let e : i ≡ j = cc in omega (arith, e)

  by : (b : Bool) → stands_at space name m ≡ b → (first_from space name (suc i) names ≡ Some j → IsGot spaces space name (suc i) names j)
      → cond b (Some i) (first_from space name (suc i) names) ≡ Some j → IsGot spaces space name i (m ∷ names) j
  by true s more h = record { k = 0; x = declared_in spaces m; at = refl; first = ap (λ b. cond b (Some (declared_in spaces m)) (first_of spaces space name names)) s; is = here i j h }
  by false s more h = let g = more h in
      record { k = suc g.k; x = g.x; at = g.at; first = ap (λ b. cond b (Some (declared_in spaces m)) (first_of spaces space name names)) s ∙ g.first; is = (let e = g.is in omega (arith, e)) }

first-none : (spaces : List Space) (space : ℕ) (name : List ℕ) (i : ℕ) (names : List Member) → first_from space name i names ≡ None → first_of spaces space name names ≡ None
first-none spaces space name i [] h = refl
first-none spaces space name i (x ∷ names) h = by (stands_at space name x) (first-none spaces space name (suc i) names) h where
  by : (b : Bool) → (first_from space name (suc i) names ≡ None → first_of spaces space name names ≡ None) → cond b (Some i) (first_from space name (suc i) names) ≡ None
      → cond b (Some (declared_in spaces x)) (first_of spaces space name names) ≡ None
  by true more h = cc
  by false more h = more h

-- the number in the index is that of what is found
found-number : (spaces : List Space) (q : Opening) (o : Option ℕ) (names : List Member) (entries : List (Opening × ℕ)) → AreDistinct spaces → q.0 < length spaces → AreIndexed spaces names entries
    → o ≡ lookup (same_opening q) entries → IsNumberOf (names_in spaces names) o (find_in q.1.now (space_names (names_in spaces names) (slice_index_or spaces q.0 [])))
found-number spaces q None names entries h below all is =
    ap (option_map Some) (sym (first-none spaces q.0 q.1.now 0 names (sym (is ∙ all.firsts q))) ∙ first-is spaces q.0 q.1.now names h below all.below)
found-number spaces q (Some j) names entries h below all is =
    let g = first-got spaces q.0 q.1.now 0 names j (sym (is ∙ all.firsts q)) in
    let e : j ≡ g.k = (let w = g.is in omega (arith, w)) in
    ap Some (ap (slice_get (names_in spaces names)) e ∙ g.at) ∙ ap (option_map Some) (sym g.first ∙ first-is spaces q.0 q.1.now names h below all.below)

pub found-in : (spaces : List Space) (names : List Member) (entries : List (Opening × ℕ)) (v : Known) (q : Opening) (o : Option ℕ) → AreIndexed spaces names entries → known spaces names ≡ v → AreDistinct spaces
    → q.0 < length v.spaces → o ≡ lookup (same_opening q) entries → IsNumberOf (names_of v) o (find_in q.1.now (space_names (names_of v) (slice_index_or v.spaces q.0 [])))
found-in spaces names entries v q o all is h below found =
    let P : Known → Type 0 = λ (v : Known). q.0 < length v.spaces → IsNumberOf (names_of v) o (find_in q.1.now (space_names (names_of v) (slice_index_or v.spaces q.0 []))) in
    subst P is (λ below. found-number spaces q o names entries h below all found) below

-- ---- from a namespace outward

-- the scope of the namespace of a number and those round it, if there is one
abbrev pub scopes_from : Known → Option ℕ → List (List Declared)
scopes_from k None = []
scopes_from k (Some n) = space_scopes (names_of k) (slice_index_or k.spaces n [])

-- what is found in one scope is found from it outward
pub number-here : (v : Known) (n i : ℕ) (text : List ℕ) → IsNumberOf (names_of v) (Some i) (find_in text (space_names (names_of v) (slice_index_or v.spaces n [])))
    → IsNumberOf (names_of v) (Some i) (outward text (scopes_from v (Some n)))
unfolding outward space_scopes
number-here v n i text h = by (slice_index_or v.spaces n []) h where
  join : (o rest : Option Declared) → Some (slice_get (names_of v) i) ≡ option_map Some o → Some (slice_get (names_of v) i) ≡ option_map Some (option_or o rest)
  join None rest e = cc
  join (Some x) rest e = e

  by : (s : Space) → Some (slice_get (names_of v) i) ≡ option_map Some (find_in text (space_names (names_of v) s))
      → Some (slice_get (names_of v) i) ≡ option_map Some (outward text (space_scopes (names_of v) s))
  by [] e = join (find_in text (space_names (names_of v) [])) None e
  by (name ∷ s) e = join (find_in text (space_names (names_of v) (name ∷ s))) (outward text (space_scopes (names_of v) s)) e

pub record IsOuter (v : Known) (n : ℕ) (o : Option ℕ) : Type 0 where
  pub scopes : scopes_from v (Some n) ≡ space_names (names_of v) (slice_index_or v.spaces n []) ∷ scopes_from v o
  pub below : ForSome o (λ k. k < length v.spaces)

-- the scopes round a namespace are those of the one that it stands in
pub scopes-outer : (v : Known) (n : ℕ) (o : Option ℕ) → option_map (slice_get v.spaces) o ≡ option_map Some (outer_space (slice_index_or v.spaces n [])) → IsOuter v n o
unfolding space_scopes
scopes-outer v n o is = by (slice_index_or v.spaces n []) refl o is where
  by : (s : Space) → slice_index_or v.spaces n [] ≡ s → (o : Option ℕ) → option_map (slice_get v.spaces) o ≡ option_map Some (outer_space s) → IsOuter v n o
  by [] e None is = record { scopes = rw e refl; below = λ k h. cc }
  by [] e (Some k) is = cc
  by (name ∷ s) e None is = cc
  by (name ∷ s) e (Some k) is =
      let got : slice_get v.spaces k ≡ Some s = cc in
      record {
        scopes = rw e (ap (λ z. space_names (names_of v) (name ∷ s) ∷ space_scopes (names_of v) z) (sym (get_or_from_slice_get v.spaces k s [] got)));
        below = λ j h. (let e : k ≡ j = cc in subst (λ m. m < length v.spaces) e (slice_get_within v.spaces k s got));
      }

-- where one scope doesn't have it, it is looked for in those round it
pub outward-past : (v : Known) (n : ℕ) (o : Option ℕ) (text : List ℕ) → IsNumberOf (names_of v) None (find_in text (space_names (names_of v) (slice_index_or v.spaces n []))) → IsOuter v n o
    → outward text (scopes_from v (Some n)) ≡ outward text (scopes_from v o)
unfolding outward
outward-past v n o text none h = ap (outward text) h.scopes ∙ by (find_in text (space_names (names_of v) (slice_index_or v.spaces n []))) none where
  by : (f : Option Declared) → None ≡ option_map Some f → option_or f (outward text (scopes_from v o)) ≡ outward text (scopes_from v o)
  by None e = refl
  by (Some x) e = cc

pub fewer-outer : (v : Known) (n : ℕ) (o : Option ℕ) → IsOuter v n o → length (scopes_from v o) < length (scopes_from v (Some n))
fewer-outer v n o h = let l = ap length h.scopes in omega (arith, l)

pub outer-known : (spaces : List Space) (names : List Member) (v : Known) (space : ℕ) (o : Option ℕ) → known spaces names ≡ v → option_map (slice_get spaces) o ≡ option_map Some (outer_space (slice_index_or spaces space []))
    → option_map (slice_get v.spaces) o ≡ option_map Some (outer_space (slice_index_or v.spaces space []))
outer-known spaces names v space o is h = let P : Known → Type 0 = λ (v : Known). option_map (slice_get v.spaces) o ≡ option_map Some (outer_space (slice_index_or v.spaces space [])) in subst P is h

-- ---- in a declaration

pub each-at : (P : Member → Type 0) (names : List Member) (i : ℕ) (m : Member) → Each P names → slice_get names i ≡ Some m → P m
each-at P [] i m h at = cc
each-at P (x ∷ names) zero m h at = let e : x ≡ m = cc in subst P e h.0
each-at P (x ∷ names) (suc i) m h at = each-at P names i m h.1 at

pub space-below : (count : ℕ) (p : Part) (o : Option ℕ) → is_below count p → o ≡ namespace_number p → IfSome o (λ n. n < count)
space-below count (n.Namespace i) o h is = rw is h
space-below count (n.Processor u) o h is = rw is tt
space-below count (n.Graph u) o h is = rw is tt
space-below count (n.Struct p fields) o h is = rw is tt
space-below count (n.Using ty) o h is = rw is tt
space-below count (n.Constant a) o h is = rw is tt
space-below count (n.Function f) o h is = rw is tt

pub space-of : (spaces : List Space) (names : List Member) (entries : List (Opening × ℕ)) (v : Known) (i : ℕ) (m : Member) (o : Option ℕ) → AreIndexed spaces names entries → known spaces names ≡ v
    → Some m ≡ slice_get names i → o ≡ namespace_number m.named → IfSome o (λ n. n < length v.spaces) × (o ≡ space_at v.members i)
space-of spaces names entries v i m o all is at got =
    let P : Known → Type 0 = λ (v : Known). IfSome o (λ n. n < length v.spaces) × (o ≡ space_at v.members i) in
    let b = each-at (IsBelow (length spaces)) names i m all.below (sym at) in
    subst P is (space-below (length spaces) m.named o b.part got, got ∙ ap (option_and_then (λ (m : Member). namespace_number m.named)) at)

-- what a name finds in a part is what it finds in the namespace of its number
part-found : (spaces : List Space) (all : List Declared) (text : List ℕ) (p : Part)
    → find_inner all text (named_in spaces p) ≡ option_and_then (λ k. find_in text (space_names all (slice_index_or spaces k []))) (namespace_number p)
part-found spaces all text (n.Namespace i) = refl
part-found spaces all text (n.Processor u) = refl
part-found spaces all text (n.Graph u) = refl
part-found spaces all text (n.Struct p fields) = refl
part-found spaces all text (n.Using ty) = refl
part-found spaces all text (n.Constant a) = refl
part-found spaces all text (n.Function f) = refl

pub within-is : (v : Known) (i : ℕ) (text : List ℕ) (o : Option ℕ) → o ≡ space_at v.members i
    → found_within (names_of v) i text ≡ option_and_then (λ k. find_in text (space_names (names_of v) (slice_index_or v.spaces k []))) o
within-is v i text o is = rw is (ap (option_and_then (λ (x : Declared). find_inner (names_of v) text x.named)) (slice_get-map (declared_in v.spaces) v.members i) ∙ by (slice_get v.members i)) where
  by : (m : Option Member) → option_and_then (λ (x : Declared). find_inner (names_of v) text x.named) (option_map (declared_in v.spaces) m)
      ≡ option_and_then (λ k. find_in text (space_names (names_of v) (slice_index_or v.spaces k []))) (option_and_then (λ (m : Member). namespace_number m.named) m)
  by None = refl
  by (Some m) = part-found v.spaces (names_of v) text m.named
