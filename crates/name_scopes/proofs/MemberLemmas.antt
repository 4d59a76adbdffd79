-- The index of first declarations: what it finds, and that it stays right.
use Rattle.std.specs.Prelude.{◌≡◌, refl, ℕ, zero, suc, ◌≤◌, ◌==◌, ◌+◌, ◌<◌, Bool, true, false, not, ◌&&◌, ◌||◌, nat_eq, bytes_eq, List, [], ◌∷◌, ◌++◌, length, Option, Some, None, is_some, MatchOption, slice_index_or, slice_get}
use Rattle.std.specs.Option.{option_or}
use Rattle.std.specs.List.{list_any}
use Rattle.std.specs.Map.{lookup}
use Rattle.std.specs.Borrow.{Bor}
use Rattle.std.proofs.Common.{ap, sym, ◌∙◌, subst, arith, cond, true≢false}
use Rattle.std.proofs.lemmas.List.{append-nil, length-append, get_or_append_left}
use Rattle.std.proofs.lemmas.Bool.{eqb-true, eqb-false, eq-eqb}
use Rattle.std.proofs.lemmas.Slice.Eq.{bytes_eq-Decides}
use Rattle.cm_meaning.specs.Declared.{Space, Declared, Namespace, is_namespace}
use Rattle.cm_meaning.specs.Scopes.{declared, in_space, is_space}
use Rattle.cm_meaning.specs.NameFaults.{clashes}
use Rattle.name_scopes.specs.Openings.{Opening, AreDistinct, inner, with_space}
use Rattle.name_scopes.specs.Members.{Known, names_of, named_in, declared_in, names_in, is_part, is_below, IsBelow, Each, stands_at, first_from, kind_at, same_opening, HasKind, AreIndexed, IsLonger}
use Rattle.name_scopes.specs.declared.named.Member.{Member}
use Rattle.name_scopes.specs.declared.named.Named.{Named as Part}
use Rattle.name_scopes.specs.declared.named.Named.TheVariants as n
use Rattle.name_scopes.proofs.SpaceLemmas.{distinct-places, space-equal, space-same}
use Rattle.name_scopes.proofs.StackLemmas.{snoc-front, no-snoc}

-- ---- truth values

and-left : (a b : Bool) → (a && b) ≡ true → a ≡ true
and-left true b h = refl
and-left false b h = absurd (true≢false (sym h))

and-right : (a b : Bool) → (a && b) ≡ true → b ≡ true
and-right true b h = h
and-right false b h = absurd (true≢false (sym h))

and_assoc : (a b c : Bool) → (a && (b && c)) ≡ ((a && b) && c)
and_assoc true b c = refl
and_assoc false b c = refl

both : (a b : Bool) → a ≡ true → b ≡ true → (a && b) ≡ true
both a b h g = rw (h, g) refl

pub eq-sym : (a b : ℕ) → nat_eq a b ≡ nat_eq b a
eq-sym a b = by (nat_eq a b) refl (nat_eq b a) refl where
  by : (s : Bool) → nat_eq a b ≡ s → (t : Bool) → nat_eq b a ≡ t → nat_eq a b ≡ nat_eq b a
  by true h true g = h ∙ sym g
  by false h false g = h ∙ sym g
  by true h false g = absurd (true≢false (sym (eq-eqb b a (sym (eqb-true a b h))) ∙ g))
  by false h true g = absurd (true≢false (sym (eq-eqb a b (sym (eqb-true b a g))) ∙ h))

pub text-sym : (a b : List ℕ) → bytes_eq a b ≡ bytes_eq b a
text-sym a b = by (bytes_eq a b) refl (bytes_eq b a) refl where
  by : (s : Bool) → bytes_eq a b ≡ s → (t : Bool) → bytes_eq b a ≡ t → bytes_eq a b ≡ bytes_eq b a
  by true h true g = h ∙ sym g
  by false h false g = h ∙ sym g
  by true h false g = absurd (true≢false (sym ((bytes_eq-Decides b a).1 (sym ((bytes_eq-Decides a b).0 h))) ∙ g))
  by false h true g = absurd (true≢false (sym ((bytes_eq-Decides a b).1 (sym ((bytes_eq-Decides b a).0 g))) ∙ h))

-- ---- each of some declarations

each-append : (P : Member → Type 0) (names : List Member) (m : Member) → Each P names → P m → Each P (names ++ m ∷ [])
each-append P [] m h g = (g, tt)
each-append P (x ∷ names) m h g = (h.0, each-append P names m h.1 g)

each-map : (P Q : Member → Type 0) (names : List Member) → ((m : Member) → P m → Q m) → Each P names → Each Q names
each-map P Q [] f h = tt
each-map P Q (m ∷ names) f h = (f m h.0, each-map P Q names f h.1)

part-below : (p : Part) (k l : ℕ) → k < l → is_below k p → is_below l p
part-below (n.Namespace i) k l more h = omega (arith, more, h)
part-below (n.Processor u) k l more h = tt
part-below (n.Graph u) k l more h = tt
part-below (n.Struct p fields) k l more h = tt
part-below (n.Using ty) k l more h = tt
part-below (n.Constant a) k l more h = tt
part-below (n.Function f) k l more h = tt

-- ---- the first declaration of a name

abbrev stood : ℕ → List ℕ → Member → ℕ → Option ℕ
stood space name m i = cond (stands_at space name m) (Some i) None

first-append : (space : ℕ) (name : List ℕ) (i : ℕ) (names : List Member) (m : Member)
    → first_from space name i (names ++ m ∷ []) ≡ option_or (first_from space name i names) (stood space name m (i + length names))
first-append space name i [] m = ap (stood space name m) (sym (plus i)) where
  plus : (i : ℕ) → i + 0 ≡ i
  plus i = omega arith
first-append space name i (x ∷ names) m = by (stands_at space name x) (first-append space name (suc i) names m) where
  shift : (i l : ℕ) → suc i + l ≡ i + suc l
  shift i l = omega arith

  by : (b : Bool) → first_from space name (suc i) (names ++ m ∷ []) ≡ option_or (first_from space name (suc i) names) (stood space name m (suc i + length names))
      → cond b (Some i) (first_from space name (suc i) (names ++ m ∷ [])) ≡ option_or (cond b (Some i) (first_from space name (suc i) names)) (stood space name m (i + suc (length names)))
  by true more = refl
  by false more = more ∙ ap (λ k. option_or (first_from space name (suc i) names) (stood space name m k)) (shift i (length names))

kind-append : (space : ℕ) (name : List ℕ) (names : List Member) (m : Member)
    → kind_at space name (names ++ m ∷ []) ≡ option_or (kind_at space name names) (cond (stands_at space name m) (Some (is_part m.named)) None)
kind-append space name [] m = refl
kind-append space name (x ∷ names) m = by (stands_at space name x) (kind-append space name names m) where
  by : (b : Bool) → kind_at space name (names ++ m ∷ []) ≡ option_or (kind_at space name names) (cond (stands_at space name m) (Some (is_part m.named)) None) → cond b (Some (is_part x.named)) (kind_at space name (names ++ m ∷ []))
      ≡ option_or (cond b (Some (is_part x.named)) (kind_at space name names)) (cond (stands_at space name m) (Some (is_part m.named)) None)
  by true more = refl
  by false more = more

record IsFirst (space : ℕ) (name : List ℕ) (i : ℕ) (names : List Member) (j : ℕ) : Type 0 where
  k : ℕ
  m : Member
  at : slice_get names k ≡ Some m
  is : i + k ≡ j
  kind : kind_at space name names ≡ Some (is_part m.named)

first-found : (space : ℕ) (name : List ℕ) (i : ℕ) (names : List Member) (j : ℕ) → first_from space name i names ≡ Some j → IsFirst space name i names j
first-found space name i [] j h = cc
first-found space name i (x ∷ names) j h = by (stands_at space name x) refl (first-found space name (suc i) names j) h where
  here : (i j : ℕ) → Some i ≡ Some j → i + 0 ≡ j
  here i j h = let e : i ≡ j = cc in omega (arith, e)

  by : (b : Bool) → stands_at space name x ≡ b → (first_from space name (suc i) names ≡ Some j → IsFirst space name (suc i) names j)
      → cond b (Some i) (first_from space name (suc i) names) ≡ Some j → IsFirst space name i (x ∷ names) j
  by true s more h = record { k = 0; m = x; at = refl; is = here i j h; kind = ap (λ b. cond b (Some (is_part x.named)) (kind_at space name names)) s }
  by false s more h = let f = more h in
      record { k = suc f.k; m = f.m; at = f.at; is = (let e = f.is in omega (arith, e)); kind = ap (λ b. cond b (Some (is_part x.named)) (kind_at space name names)) s ∙ f.kind }

none-found : (space : ℕ) (name : List ℕ) (i : ℕ) (names : List Member) → first_from space name i names ≡ None → kind_at space name names ≡ None
none-found space name i [] h = refl
none-found space name i (x ∷ names) h = by (stands_at space name x) (none-found space name (suc i) names) h where
  by : (b : Bool) → (first_from space name (suc i) names ≡ None → kind_at space name names ≡ None) → cond b (Some i) (first_from space name (suc i) names) ≡ None → cond b (Some (is_part x.named)) (kind_at space name names) ≡ None
  by true more h = cc
  by false more h = more h

none-stands : (space : ℕ) (name : List ℕ) (names : List Member) → kind_at space name names ≡ None → Each (λ m. stands_at space name m ≡ false) names
none-stands space name [] h = tt
none-stands space name (x ∷ names) h = by (stands_at space name x) refl (none-stands space name names) h where
  by : (b : Bool) → stands_at space name x ≡ b → (kind_at space name names ≡ None → Each (λ m. stands_at space name m ≡ false) names) → cond b (Some (is_part x.named)) (kind_at space name names) ≡ None → Each (λ m. stands_at space name m ≡ false) (x ∷ names)
  by true s more h = cc
  by false s more h = (s, more h)

kind-first : (space : ℕ) (name : List ℕ) (i : ℕ) (names : List Member) (kind : Bool) → kind_at space name names ≡ Some kind → first_from space name i names ≡ None → ⊥
kind-first space name i names kind h g = let e = none-found space name i names g in cc

-- ---- clashes

part-is : (spaces : List Space) (p : Part) → is_namespace (named_in spaces p) ≡ is_part p
part-is spaces (n.Namespace i) = refl
part-is spaces (n.Processor u) = refl
part-is spaces (n.Graph u) = refl
part-is spaces (n.Struct p fields) = refl
part-is spaces (n.Using ty) = refl
part-is spaces (n.Constant a) = refl
part-is spaces (n.Function f) = refl

pub spaces-same : (spaces : List Space) (i j : ℕ) → AreDistinct spaces → i < length spaces → j < length spaces → is_space (slice_index_or spaces i []) (slice_index_or spaces j []) ≡ nat_eq i j
spaces-same spaces i j h below within = by (is_space (slice_index_or spaces i []) (slice_index_or spaces j [])) refl (nat_eq i j) refl where
  by : (s : Bool) → is_space (slice_index_or spaces i []) (slice_index_or spaces j []) ≡ s → (t : Bool) → nat_eq i j ≡ t → is_space (slice_index_or spaces i []) (slice_index_or spaces j []) ≡ nat_eq i j
  by true e true f = e ∙ sym f
  by false e false f = e ∙ sym f
  by true e false f = absurd (true≢false (sym (eq-eqb i j (distinct-places spaces i j h below within (space-equal (slice_index_or spaces i []) (slice_index_or spaces j []) e))) ∙ f))
  by false e true f = absurd (true≢false (sym (space-same (slice_index_or spaces i [])) ∙ ap (λ k. is_space (slice_index_or spaces i []) (slice_index_or spaces k [])) (eqb-true i j f) ∙ e))

clash-is : (spaces : List Space) (x m : Member) → AreDistinct spaces → IsBelow (length spaces) x → IsBelow (length spaces) m
    → clashes (declared_in spaces x) (declared_in spaces m) ≡ (stands_at x.space x.text.now m && not (is_part x.named && is_part m.named))
clash-is spaces x m h below within =
    ap (λ b. b && (bytes_eq x.text.now m.text.now && not (is_namespace (named_in spaces x.named) && is_namespace (named_in spaces m.named)))) (spaces-same spaces x.space m.space h below.space within.space)
    ∙ ap (λ b. nat_eq x.space m.space && (bytes_eq x.text.now m.text.now && not (b && is_namespace (named_in spaces m.named)))) (part-is spaces x.named)
    ∙ ap (λ b. nat_eq x.space m.space && (bytes_eq x.text.now m.text.now && not (is_part x.named && b))) (part-is spaces m.named)
    ∙ and_assoc (nat_eq x.space m.space) (bytes_eq x.text.now m.text.now) (not (is_part x.named && is_part m.named))

-- where no declaration of this name is there
clash-none : (spaces : List Space) (x : Member) (names : List Member) → AreDistinct spaces → IsBelow (length spaces) x → Each (IsBelow (length spaces)) names
    → Each (λ m. stands_at x.space x.text.now m ≡ false) names → list_any (clashes (declared_in spaces x)) (names_in spaces names) ≡ false
clash-none spaces x [] h below within none = refl
clash-none spaces x (m ∷ names) h below within none =
    ap (λ b. b || list_any (clashes (declared_in spaces x)) (names_in spaces names))
    (clash-is spaces x m h below within.0 ∙ ap (λ b. b && not (is_part x.named && is_part m.named)) none.0)
    ∙ clash-none spaces x names h below within.1 none.1

-- where all of this name have a kind
clash-some : (spaces : List Space) (x : Member) (kind : Bool) (names : List Member) → AreDistinct spaces → IsBelow (length spaces) x → Each (IsBelow (length spaces)) names
    → Each (HasKind x.space x.text.now kind) names
    → list_any (clashes (declared_in spaces x)) (names_in spaces names) ≡ (list_any (stands_at x.space x.text.now) names && not (is_part x.named && kind))
clash-some spaces x kind [] h below within has = refl
clash-some spaces x kind (m ∷ names) h below within has =
    ap (λ b. b || list_any (clashes (declared_in spaces x)) (names_in spaces names)) (clash-is spaces x m h below within.0)
    ∙ ap (λ b. (stands_at x.space x.text.now m && not (is_part x.named && is_part m.named)) || b) (clash-some spaces x kind names h below within.1 has.1)
    ∙ by (stands_at x.space x.text.now m) refl where
      join : (a z : Bool) → (z || (a && z)) ≡ z
      join true true = refl
      join true false = refl
      join false true = refl
      join false false = refl

      by : (b : Bool) → stands_at x.space x.text.now m ≡ b
          → ((stands_at x.space x.text.now m && not (is_part x.named && is_part m.named)) || (list_any (stands_at x.space x.text.now) names && not (is_part x.named && kind)))
          ≡ ((stands_at x.space x.text.now m || list_any (stands_at x.space x.text.now) names) && not (is_part x.named && kind))
      by true s = rw (s, has.0 s) (join (list_any (stands_at x.space x.text.now) names) (not (is_part x.named && kind)))
      by false s = rw s refl

any-stands : (space : ℕ) (name : List ℕ) (names : List Member) (kind : Bool) → kind_at space name names ≡ Some kind → list_any (stands_at space name) names ≡ true
any-stands space name [] kind h = cc
any-stands space name (m ∷ names) kind h = by (stands_at space name m) (any-stands space name names kind) h where
  by : (b : Bool) → (kind_at space name names ≡ Some kind → list_any (stands_at space name) names ≡ true) → cond b (Some (is_part m.named)) (kind_at space name names) ≡ Some kind → (b || list_any (stands_at space name) names) ≡ true
  by true more h = refl
  by false more h = more h

clash-kind : (spaces : List Space) (x : Member) (kind : Bool) (names : List Member) (entries : List (Opening × ℕ)) → AreDistinct spaces → IsBelow (length spaces) x → AreIndexed spaces names entries
    → kind_at x.space x.text.now names ≡ Some kind → list_any (clashes (declared_in spaces x)) (names_in spaces names) ≡ not (is_part x.named && kind)
clash-kind spaces x kind names entries h below all is =
    clash-some spaces x kind names h below all.below (all.kinds x.space x.text.now kind is)
    ∙ ap (λ b. b && not (is_part x.named && kind)) (any-stands x.space x.text.now names kind is)

-- ---- what the look-up of clashes answers

pub clash-absent : (spaces : List Space) (x : Member) (names : List Member) (entries : List (Opening × ℕ)) → AreDistinct spaces → IsBelow (length spaces) x → AreIndexed spaces names entries
    → lookup (same_opening (x.space, x.text)) entries ≡ None → list_any (clashes (declared_in spaces x)) (names_in spaces names) ≡ false
clash-absent spaces x names entries h below all none =
    clash-none spaces x names h below all.below (none-stands x.space x.text.now names (none-found x.space x.text.now 0 names (sym (all.firsts (x.space, x.text)) ∙ none)))

pub clash-present : (spaces : List Space) (x other : Member) (i : ℕ) (names : List Member) (entries : List (Opening × ℕ)) → AreDistinct spaces → IsBelow (length spaces) x → AreIndexed spaces names entries
    → lookup (same_opening (x.space, x.text)) entries ≡ Some i → slice_get names i ≡ Some other
    → list_any (clashes (declared_in spaces x)) (names_in spaces names) ≡ not (is_part x.named && is_part other.named)
clash-present spaces x other i names entries h below all found at =
    let f = first-found x.space x.text.now 0 names i (sym (all.firsts (x.space, x.text)) ∙ found) in
    let e : f.k ≡ i = (let w = f.is in omega (arith, w)) in
    let o : f.m ≡ other = (let a = f.at in cc) in
    clash-kind spaces x (is_part other.named) names entries h below all (f.kind ∙ ap (λ (m : Member). Some (is_part m.named)) o)

pub clash-past : (spaces : List Space) (x : Member) (i : ℕ) (names : List Member) (entries : List (Opening × ℕ)) → AreIndexed spaces names entries
    → lookup (same_opening (x.space, x.text)) entries ≡ Some i → slice_get names i ≡ None → ⊥
clash-past spaces x i names entries all found past =
    let f = first-found x.space x.text.now 0 names i (sym (all.firsts (x.space, x.text)) ∙ found) in
    let e : f.k ≡ i = (let w = f.is in omega (arith, w)) in
    let a = f.at in cc

-- ---- one more declaration

free-kind : (spaces : List Space) (x : Member) (kind : Bool) (names : List Member) (entries : List (Opening × ℕ)) → AreDistinct spaces → IsBelow (length spaces) x → AreIndexed spaces names entries
    → list_any (clashes (declared_in spaces x)) (names_in spaces names) ≡ false → kind_at x.space x.text.now names ≡ Some kind → is_part x.named ≡ kind
free-kind spaces x kind names entries h below all free is = by (is_part x.named) kind (sym (clash-kind spaces x kind names entries h below all is) ∙ free) where
  by : (a b : Bool) → not (a && b) ≡ false → a ≡ b
  by true true g = refl
  by false false g = refl
  by true false g = absurd (true≢false g)
  by false true g = absurd (true≢false g)

-- a name that is declared here is the declared one
stands-space : (space : ℕ) (name : List ℕ) (m : Member) → stands_at space name m ≡ true → space ≡ m.space
stands-space space name m h = eqb-true space m.space (and-left (nat_eq space m.space) (bytes_eq name m.text.now) h)

stands-name : (space : ℕ) (name : List ℕ) (m : Member) → stands_at space name m ≡ true → name ≡ m.text.now
stands-name space name m h = (bytes_eq-Decides name m.text.now).0 (and-right (nat_eq space m.space) (bytes_eq name m.text.now) h)

kinds-more : (spaces : List Space) (x : Member) (names : List Member) (entries : List (Opening × ℕ)) → AreDistinct spaces → IsBelow (length spaces) x → AreIndexed spaces names entries
    → list_any (clashes (declared_in spaces x)) (names_in spaces names) ≡ false
    → (space : ℕ) (name : List ℕ) (kind : Bool) → kind_at space name (names ++ x ∷ []) ≡ Some kind → Each (HasKind space name kind) (names ++ x ∷ [])
kinds-more spaces x names entries h below all free space name kind is = by (kind_at space name names) refl (sym (kind-append space name names x) ∙ is) where
  by : (o : Option Bool) → kind_at space name names ≡ o → option_or o (cond (stands_at space name x) (Some (is_part x.named)) None) ≡ Some kind → Each (HasKind space name kind) (names ++ x ∷ [])
  by (Some b) k e = each-append (HasKind space name kind) names x (all.kinds space name kind (k ∙ e))
      (λ s. free-kind spaces x kind names entries h below all free
      (subst (λ z. kind_at z x.text.now names ≡ Some kind) (stands-space space name x s) (subst (λ z. kind_at space z names ≡ Some kind) (stands-name space name x s) (k ∙ e))))
  by None k e = each-append (HasKind space name kind) names x
      (each-map (λ m. stands_at space name m ≡ false) (HasKind space name kind) names (λ m none s. absurd (true≢false (sym s ∙ none))) (none-stands space name names k))
      (λ s. let g : Some (is_part x.named) ≡ Some kind = sym (ap (λ b. cond b (Some (is_part x.named)) None) s) ∙ e in cc)

firsts-known : (x : Member) (names : List Member) (i : ℕ) → first_from x.space x.text.now 0 names ≡ Some i
    → (space : ℕ) (name : List ℕ) → first_from space name 0 names ≡ first_from space name 0 (names ++ x ∷ [])
firsts-known x names i known space name = by (first_from space name 0 names) refl ∙ sym (first-append space name 0 names x) where
  by : (o : Option ℕ) → first_from space name 0 names ≡ o → first_from space name 0 names ≡ option_or (first_from space name 0 names) (stood space name x (0 + length names))
  by (Some j) e = rw e refl
  by None e = rw e (none (stands_at space name x) refl) where
    none : (b : Bool) → stands_at space name x ≡ b → None ≡ cond (stands_at space name x) (Some (0 + length names)) None
    none false s = rw s refl
    none true s = absurd (let g : first_from space name 0 names ≡ Some i = subst (λ z. first_from z name 0 names ≡ Some i) (sym (stands-space space name x s))
        (subst (λ z. first_from x.space z 0 names ≡ Some i) (sym (stands-name space name x s)) known) in cc)

-- with one more of a name that is there
pub indexed-known : (spaces : List Space) (x : Member) (names : List Member) (entries : List (Opening × ℕ)) (i : ℕ) → AreDistinct spaces → IsBelow (length spaces) x → AreIndexed spaces names entries
    → list_any (clashes (declared_in spaces x)) (names_in spaces names) ≡ false → lookup (same_opening (x.space, x.text)) entries ≡ Some i → AreIndexed spaces (names ++ x ∷ []) entries
indexed-known spaces x names entries i h below all free found = record {
  below = each-append (IsBelow (length spaces)) names x all.below below;
  firsts = λ q. all.firsts q ∙ firsts-known x names i (sym (all.firsts (x.space, x.text)) ∙ found) q.0 q.1.now;
  kinds = kinds-more spaces x names entries h below all free;
}

firsts-new : (x : Member) (names : List Member) (q : Opening) → first_from x.space x.text.now 0 names ≡ None
    → cond (same_opening (x.space, x.text) q) (Some (length names)) (first_from q.0 q.1.now 0 names) ≡ first_from q.0 q.1.now 0 (names ++ x ∷ [])
firsts-new x names q none =
    ap (λ b. cond b (Some (length names)) (first_from q.0 q.1.now 0 names)) (ap (λ b. b && bytes_eq x.text.now q.1.now) (eq-sym x.space q.0) ∙ ap (λ b. nat_eq q.0 x.space && b) (text-sym x.text.now q.1.now))
    ∙ by (stands_at q.0 q.1.now x) refl ∙ sym (first-append q.0 q.1.now 0 names x) where
      plus : (l : ℕ) → l ≡ 0 + l
      plus l = omega arith

      left : (o : Option ℕ) → o ≡ option_or o None
      left None = refl
      left (Some i) = refl

      by : (b : Bool) → stands_at q.0 q.1.now x ≡ b
          → cond (stands_at q.0 q.1.now x) (Some (length names)) (first_from q.0 q.1.now 0 names) ≡ option_or (first_from q.0 q.1.now 0 names) (stood q.0 q.1.now x (0 + length names))
      by false s = rw s (left (first_from q.0 q.1.now 0 names))
      by true s =
          let g : first_from q.0 q.1.now 0 names ≡ None = subst (λ z. first_from z q.1.now 0 names ≡ None) (sym (stands-space q.0 q.1.now x s))
          (subst (λ z. first_from x.space z 0 names ≡ None) (sym (stands-name q.0 q.1.now x s)) none) in
          rw (s, g) (ap Some (plus (length names)))

-- with the first of its name
pub indexed-new : (spaces : List Space) (x : Member) (names : List Member) (entries more : List (Opening × ℕ)) → AreDistinct spaces → IsBelow (length spaces) x → AreIndexed spaces names entries
    → list_any (clashes (declared_in spaces x)) (names_in spaces names) ≡ false → lookup (same_opening (x.space, x.text)) entries ≡ None
    → ((q : Opening) → lookup (same_opening q) more ≡ cond (same_opening (x.space, x.text) q) (Some (length names)) (lookup (same_opening q) entries))
    → AreIndexed spaces (names ++ x ∷ []) more
indexed-new spaces x names entries more h below all free none grown = record {
  below = each-append (IsBelow (length spaces)) names x all.below below;
  firsts = λ q. grown q ∙ ap (λ o. cond (same_opening (x.space, x.text) q) (Some (length names)) o) (all.firsts q)
      ∙ firsts-new x names q (sym (all.firsts (x.space, x.text)) ∙ none);
  kinds = kinds-more spaces x names entries h below all free;
}

-- ---- what the calls say

abbrev pub known : List Space → List Member → Known
known spaces names = record { spaces = spaces; members = names }

pub answers-none : (spaces : List Space) (names : List Member) (entries : List (Opening × ℕ)) (v : Known) (x : Member) → AreIndexed spaces names entries → known spaces names ≡ v
    → AreDistinct v.spaces → IsBelow (length v.spaces) x → None ≡ lookup (same_opening (x.space, x.text)) entries → false ≡ list_any (clashes (declared_in v.spaces x)) (names_of v)
answers-none spaces names entries v x all is h below none =
    let P : Known → Type 0 = λ (v : Known). AreDistinct v.spaces → IsBelow (length v.spaces) x → false ≡ list_any (clashes (declared_in v.spaces x)) (names_of v) in
    subst P is (λ h below. sym (clash-absent spaces x names entries h below all (sym none))) h below

pub answers-some : (spaces : List Space) (names : List Member) (entries : List (Opening × ℕ)) (v : Known) (x other : Member) (i : ℕ) → AreIndexed spaces names entries → known spaces names ≡ v
    → AreDistinct v.spaces → IsBelow (length v.spaces) x → Some i ≡ lookup (same_opening (x.space, x.text)) entries → Some other ≡ slice_get names i
    → not (is_part x.named && is_part other.named) ≡ list_any (clashes (declared_in v.spaces x)) (names_of v)
answers-some spaces names entries v x other i all is h below found at =
    let P : Known → Type 0 = λ (v : Known). AreDistinct v.spaces → IsBelow (length v.spaces) x → not (is_part x.named && is_part other.named) ≡ list_any (clashes (declared_in v.spaces x)) (names_of v) in
    subst P is (λ h below. sym (clash-present spaces x other i names entries h below all (sym found) (sym at))) h below

-- what a call leaves that puts a declaration behind the others

at-once : (v : Known) (P : Known → Type 0) (spaces : List Space) (names : List Member) → known spaces names ≡ v → P v → P (known spaces names)
at-once v P spaces names is h = subst P (sym is) h

some-of : (o : Option ℕ) → is_some o ≡ true → (i : ℕ) × (o ≡ Some i)
some-of (Some i) h = (i, refl)
some-of None h = absurd (true≢false (sym h))

none-of : (o : Option ℕ) → is_some o ≡ false → o ≡ None
none-of None h = refl
none-of (Some i) h = absurd (true≢false h)

record MayPush (v : Known) (x : Member) : Type 0 where
  distinct : AreDistinct v.spaces
  below : IsBelow (length v.spaces) x
  free : list_any (clashes (declared_in v.spaces x)) (names_of v) ≡ false

pub pushed-known : (spaces : List Space) (names longer : List Member) (entries : List (Opening × ℕ)) (v : Known) (x : Member) → AreIndexed spaces names entries → known spaces names ≡ v
    → AreDistinct v.spaces → IsBelow (length v.spaces) x → list_any (clashes (declared_in v.spaces x)) (names_of v) ≡ false
    → longer ≡ names ++ x ∷ [] → is_some (lookup (same_opening (x.space, x.text)) entries) ≡ true → AreIndexed spaces longer entries
pushed-known spaces names longer entries v x all is h below free grown found =
    let m : MayPush (known spaces names) x = at-once v (λ v. MayPush v x) spaces names is (record { distinct = h; below = below; free = free }) in
    let s = some-of (lookup (same_opening (x.space, x.text)) entries) found in
    subst (λ z. AreIndexed spaces z entries) (sym grown) (indexed-known spaces x names entries s.0 m.distinct m.below all m.free s.1)

pub pushed-new : (spaces : List Space) (names longer : List Member) (entries more : List (Opening × ℕ)) (v : Known) (x : Member) (number : ℕ) → AreIndexed spaces names entries → known spaces names ≡ v
    → AreDistinct v.spaces → IsBelow (length v.spaces) x → list_any (clashes (declared_in v.spaces x)) (names_of v) ≡ false
    → longer ≡ names ++ x ∷ [] → number ≡ length names → is_some (lookup (same_opening (x.space, x.text)) entries) ≡ false
    → ((q : Opening) → lookup (same_opening q) more ≡ cond (same_opening (x.space, x.text) q) (Some number) (lookup (same_opening q) entries)) → AreIndexed spaces longer more
pushed-new spaces names longer entries more v x number all is h below free grown many none updates =
    let m : MayPush (known spaces names) x = at-once v (λ v. MayPush v x) spaces names is (record { distinct = h; below = below; free = free }) in
    subst (λ z. AreIndexed spaces z more) (sym grown) (indexed-new spaces x names entries more m.distinct m.below all m.free (none-of (lookup (same_opening (x.space, x.text)) entries) none)
    (λ q. updates q ∙ ap (λ k. cond (same_opening (x.space, x.text) q) (Some k) (lookup (same_opening q) entries)) many))

-- what was put last is taken again
pub popped : (names longer shorter : List Member) (x : Member) (o : Option Member) → longer ≡ names ++ x ∷ []
    → MatchOption o ((longer ≡ []) × (shorter ≡ [])) (λ last. longer ≡ shorter ++ last ∷ []) → shorter ≡ names
popped names longer shorter x None grown h = absurd (no-snoc names x (sym h.0 ∙ grown))
popped names longer shorter x (Some last) grown h = (snoc-front shorter names last x (sym h ∙ grown)).0

pub pushed-back : (spaces : List Space) (names longer shorter : List Member) (entries more : List (Opening × ℕ)) (x : Member) (o : Option Member) → AreIndexed spaces names entries
    → longer ≡ names ++ x ∷ [] → MatchOption o ((longer ≡ []) × (shorter ≡ [])) (λ last. longer ≡ shorter ++ last ∷ []) → more ≡ entries → AreIndexed spaces shorter more
pushed-back spaces names longer shorter entries more x o all grown h same =
    subst (λ z. AreIndexed spaces z more) (sym (popped names longer shorter x o grown h)) (subst (λ z. AreIndexed spaces names z) (sym same) all)

pub known-back : (spaces : List Space) (names longer shorter : List Member) (v : Known) (x : Member) (o : Option Member) → known spaces names ≡ v
    → longer ≡ names ++ x ∷ [] → MatchOption o ((longer ≡ []) × (shorter ≡ [])) (λ last. longer ≡ shorter ++ last ∷ []) → known spaces shorter ≡ v
known-back spaces names longer shorter v x o is grown h = ap (known spaces) (popped names longer shorter x o grown h) ∙ is

-- ---- a namespace that is opened

each-below : (names : List Member) (k l : ℕ) → k < l → Each (IsBelow k) names → Each (IsBelow l) names
each-below names k l more h = each-map (IsBelow k) (IsBelow l) names (λ m b. record { space = (let s = b.space in omega (arith, s, more)); part = part-below m.named k l more b.part }) h

named-longer : (spaces more : List Space) (p : Part) → is_below (length spaces) p → named_in (spaces ++ more) p ≡ named_in spaces p
named-longer spaces more (n.Namespace i) h = ap Namespace (get_or_append_left spaces more [] i h)
named-longer spaces more (n.Processor u) h = refl
named-longer spaces more (n.Graph u) h = refl
named-longer spaces more (n.Struct p fields) h = refl
named-longer spaces more (n.Using ty) h = refl
named-longer spaces more (n.Constant a) h = refl
named-longer spaces more (n.Function f) h = refl

pub names-longer : (spaces more : List Space) (names : List Member) → Each (IsBelow (length spaces)) names → names_in (spaces ++ more) names ≡ names_in spaces names
names-longer spaces more [] h = refl
names-longer spaces more (m ∷ names) h =
    ap (λ s. declared (in_space s) (record { place = m.place; text = m.text.now }) (named_in (spaces ++ more) m.named) ∷ names_in (spaces ++ more) names) (get_or_append_left spaces more [] m.space h.0.space)
    ∙ ap (λ p. declared (in_space (slice_index_or spaces m.space [])) (record { place = m.place; text = m.text.now }) p ∷ names_in (spaces ++ more) names) (named-longer spaces more m.named h.0.part)
    ∙ ap (λ z. declared_in spaces m ∷ z) (names-longer spaces more names h.1)

pub opened-more : (spaces longer : List Space) (s : Space) → longer ≡ with_space spaces s → IsLonger spaces longer
opened-more spaces longer s is = by (list_any (is_space s) spaces) is where
  by : (b : Bool) → longer ≡ cond b spaces (spaces ++ s ∷ []) → IsLonger spaces longer
  by true e = record { more = []; is = e ∙ sym (append-nil spaces) }
  by false e = record { more = s ∷ []; is = e }

longer-most : (a b : List Space) → IsLonger a b → length a ≤ length b
longer-most a b h = let l : length b ≡ length a + length h.more = ap length h.is ∙ length-append a h.more in omega (arith, l)

each-at-least : (names : List Member) (k l : ℕ) → k ≤ l → Each (IsBelow k) names → Each (IsBelow l) names
each-at-least names k l more h = each-below-by (k == l) refl where
  each-below-by : (b : Bool) → (k == l) ≡ b → Each (IsBelow l) names
  each-below-by true e = subst (λ n. Each (IsBelow n) names) (eqb-true k l e) h
  each-below-by false e = each-below names k l (let d = eqb-false k l e in omega (arith, more, d)) h

pub indexed-opened : (spaces longer : List Space) (names : List Member) (entries : List (Opening × ℕ)) (v : Known) (space : ℕ) (text : List ℕ) → AreIndexed spaces names entries → known spaces names ≡ v
    → longer ≡ with_space spaces (inner spaces space text) → AreIndexed longer names entries
indexed-opened spaces longer names entries v space text all is grown = record {
  below = each-at-least names (length spaces) (length longer) (longer-most spaces longer (opened-more spaces longer (inner spaces space text) grown)) all.below;
  firsts = all.firsts;
  kinds = all.kinds;
}

pub below-of : (longer : List Space) (m : ℕ) (s : Space) → slice_get longer m ≡ Some s → m < length longer
below-of [] m s at = cc
below-of (x ∷ longer) zero s at = omega arith
below-of (x ∷ longer) (suc m) s at = let b = below-of longer m s at in omega (arith, b)

pub index-of : (longer : List Space) (m : ℕ) (s : Space) → slice_get longer m ≡ Some s → slice_index_or longer m [] ≡ s
index-of [] m s at = cc
index-of (x ∷ longer) zero s at = cc
index-of (x ∷ longer) (suc m) s at = index-of longer m s at
