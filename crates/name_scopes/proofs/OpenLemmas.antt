-- Namespaces that are opened, and the declarations of their paths.
use Rattle.std.specs.Prelude.{◌≡◌, refl, ℕ, zero, suc, ◌+◌, ◌<◌, List, [], ◌∷◌, ◌++◌, length, map, flat_map, take, drop, Some, Result, Ok, Err, IfOk, OnOk, slice_get, slice_index_or}
use Rattle.std.specs.Borrow.{Bor}
use Rattle.std.proofs.Common.{ap, sym, ◌∙◌, subst, arith, get_or}
use Rattle.std.proofs.Math.Seq.{take-length}
use Rattle.std.proofs.lemmas.List.{append-nil, append_assoc, take-append-drop}
use Rattle.cm_base.specs.declared.place.Place.{Place}
use Rattle.cm_base.specs.declared.failure.Fail.{Fail}
use Rattle.cm_tree.specs.declared.path.Path.{Path}
use Rattle.cm_tree.specs.declared.simple.Init.{Init}
use Rattle.cm_tree.specs.declared.stmt.Assert.{Assert}
use Rattle.cm_tree.specs.declared.shared.Shared.{Shared}
use Rattle.cm_tree.specs.declared.shared.Shared.TheVariants as h
use Rattle.cm_tree.specs.declared.decl.Decl.{Decl}
use Rattle.cm_tree.specs.declared.decl.Decl.TheVariants as d
use Rattle.cm_meaning.specs.Declared.{Space, Declared, Namespace}
use Rattle.cm_meaning.specs.Scopes.{constant, decl_names, declared, in_space, opened, shared_names, within}
use Rattle.cm_meaning.specs.SiteEquations.{decl_names-Namespace}
use Rattle.name_scopes.specs.Openings.{Opening, inner, with_space}
use Rattle.name_scopes.specs.declared.named.Member.{Member}
use Rattle.name_scopes.specs.declared.named.Named.TheVariants as n
use Rattle.name_scopes.specs.Members.{Known, names_of, names_in, declared_in, part_of, init_names, IsLonger, Added, Adds, AreIndexed}
use Rattle.name_scopes.proofs.MemberLemmas.{known, names-longer, opened-more, below-of, index-of}
use Rattle.name_scopes.proofs.AddLemmas.{longer-at, longer-below, added-none, added-then, adds-from, adds-at, adds-then, adds-more, take-more}

abbrev opening : ℕ → Place → Bor (List ℕ) → ℕ → Member
opening space p text i = record { space = space; place = p; text = text; named = n.Namespace i }

opening-is : (spaces longer : List Space) (space i : ℕ) (p : Place) (text : Bor (List ℕ)) → IsLonger spaces longer → space < length spaces → slice_get longer i ≡ Some (inner spaces space text.now)
    → declared_in longer (opening space p text i) ≡ part_of spaces space p text.now
opening-is spaces longer space i p text h below at =
    ap (λ s. declared (in_space s) (record { place = p; text = text.now }) (Namespace (slice_index_or longer i []))) (longer-at spaces longer space h below)
    ∙ ap (λ s. declared (in_space (slice_index_or spaces space [])) (record { place = p; text = text.now }) (Namespace s)) (index-of longer i (inner spaces space text.now) at)

names-more : (spaces longer : List Space) (names : List Member) (entries : List (Opening × ℕ)) → AreIndexed spaces names entries → IsLonger spaces longer → names_in longer names ≡ names_in spaces names
names-more spaces longer names entries all h = ap (λ z. names_in z names) h.is ∙ names-longer spaces h.more names all.below

-- a namespace that gets a number changes no declaration
pub numbered-names : {E : Type 0} (spaces longer : List Space) (names : List Member) (entries : List (Opening × ℕ)) (v : Known) (space : ℕ) (text : List ℕ) (o : Result ℕ E) → AreIndexed spaces names entries
    → known spaces names ≡ v → IfOk o (λ _. longer ≡ with_space spaces (inner spaces space text)) → OnOk o (names_of (known longer names) ≡ names_of v)
numbered-names spaces longer names entries v space text (Ok n) all is grown = names-more spaces longer names entries all (opened-more spaces longer (inner spaces space text) grown) ∙ ap names_of is
numbered-names spaces longer names entries v space text (Err e) all is grown = tt

-- and the namespaces that had a number keep it
pub numbered-longer : {E : Type 0} (spaces longer : List Space) (names : List Member) (v : Known) (space : ℕ) (text : List ℕ) (o : Result ℕ E) → known spaces names ≡ v
    → IfOk o (λ _. longer ≡ with_space spaces (inner spaces space text)) → OnOk o (IsLonger v.spaces longer)
numbered-longer spaces longer names v space text (Ok n) is grown = subst (λ (v : Known). IsLonger v.spaces longer) is (opened-more spaces longer (inner spaces space text) grown)
numbered-longer spaces longer names v space text (Err e) is grown = tt

-- what a call answers that declares a part of a namespace after it was opened
pub opened-adds : {A : Type 0} (spaces longer : List Space) (names : List Member) (entries : List (Opening × ℕ)) (v new : Known) (space i : ℕ) (p : Place) (text : Bor (List ℕ)) (r : Result A Fail)
    → AreIndexed spaces names entries → known spaces names ≡ v → space < length v.spaces → longer ≡ with_space spaces (inner spaces space text.now)
    → slice_get longer i ≡ Some (inner spaces space text.now) → Adds (known longer names) (declared_in longer (opening space p text i) ∷ []) r new
    → Adds v (part_of v.spaces space p text.now ∷ []) r new
opened-adds spaces longer names entries v new space i p text r all is below grown at h =
    let P : Known → Type 0 = λ (v : Known). space < length v.spaces → Adds v (part_of v.spaces space p text.now ∷ []) r new in
    let more = opened-more spaces longer (inner spaces space text.now) grown in
    subst P is (λ below. adds-at (known spaces names) new (declared_in longer (opening space p text i) ∷ []) (part_of spaces space p text.now ∷ []) r
    (ap (λ x. x ∷ []) (opening-is spaces longer space i p text more below at))
    (adds-from (known spaces names) (known longer names) new (declared_in longer (opening space p text i) ∷ []) r (names-more spaces longer names entries all more) more h)) below

-- ---- the namespaces of a path

opened-end : (s : Space) (p : Place) (ns : List (List ℕ)) (n : List ℕ)
    → opened s p (ns ++ n ∷ []) ≡ opened s p ns ++ declared (in_space (within s ns)) (record { place = p; text = n }) (Namespace (n ∷ within s ns)) ∷ []
unfolding opened within
opened-end s p [] n = refl
opened-end s p (k ∷ ns) n = ap (λ z. declared (in_space s) (record { place = p; text = k }) (Namespace (k ∷ s)) ∷ z) (opened-end (k ∷ s) p ns n)

within-end : (s : Space) (ns : List (List ℕ)) (n : List ℕ) → within s (ns ++ n ∷ []) ≡ n ∷ within s ns
unfolding within
within-end s [] n = refl
within-end s (k ∷ ns) n = within-end (k ∷ s) ns n

-- the namespaces of a path are opened so far, and the last one has this number
pub record IsOpening (a : Known) (s : Space) (p : Place) (ns : List (List ℕ)) (b : Known) (last : ℕ) : Type 0 where
  pub added : Added a (opened s p ns) b
  pub at : slice_get b.spaces last ≡ Some (within s ns)

get-at : (spaces : List Space) (i : ℕ) → i < length spaces → slice_get spaces i ≡ Some (slice_index_or spaces i [])
get-at [] i h = absurd (omega (arith, h))
get-at (s ∷ spaces) zero h = refl
get-at (s ∷ spaces) (suc i) h = get-at spaces i (omega (arith, h))

pub opening-start : (a : Known) (space : ℕ) (p : Place) (ns : List (List ℕ)) → space < length a.spaces → IsOpening a (slice_index_or a.spaces space []) p (take 0 ns) a space
unfolding opened within
opening-start a space p ns below = record { added = added-none a a refl; at = get-at a.spaces space below }

pub opening-within : (a : Known) (s : Space) (p : Place) (ns : List (List ℕ)) (b : Known) (last : ℕ) → IsOpening a s p ns b last → last < length b.spaces
opening-within a s p ns b last h = below-of b.spaces last (within s ns) h.at

part-is : (a : Known) (s : Space) (p : Place) (ns : List (List ℕ)) (b : Known) (last : ℕ) (n : List ℕ) → IsOpening a s p ns b last
    → part_of b.spaces last p n ≡ declared (in_space (within s ns)) (record { place = p; text = n }) (Namespace (n ∷ within s ns))
part-is a s p ns b last n h = ap (λ z. declared (in_space z) (record { place = p; text = n }) (Namespace (n ∷ z))) (index-of b.spaces last (within s ns) h.at)

names-next : (s : Space) (p : Place) (ns : List (List ℕ)) (i : ℕ) (n : List ℕ) → i < length ns → n ≡ get_or ns i n
    → opened s p (take i ns) ++ declared (in_space (within s (take i ns))) (record { place = p; text = n }) (Namespace (n ∷ within s (take i ns))) ∷ [] ≡ opened s p (take (i + 1) ns)
names-next s p ns i n within_list is = sym (ap (opened s p) (take-more ns i n within_list is) ∙ opened-end s p (take i ns) n)

opening-further : (a : Known) (s : Space) (p : Place) (ns : List (List ℕ)) (i : ℕ) (n : List ℕ) (b c : Known) (last next : ℕ) → i < length ns → n ≡ get_or ns i n
    → IsOpening a s p (take i ns) b last → Added b (part_of b.spaces last p n ∷ []) c → slice_get c.spaces next ≡ Some (inner b.spaces last n) → IsOpening a s p (take (i + 1) ns) c next
opening-further a s p ns i n b c last next below is h g at = record {
  added = subst (λ z. Added a z c) (names-next s p ns i n below is)
      (added-then a b c (opened s p (take i ns)) (declared (in_space (within s (take i ns))) (record { place = p; text = n }) (Namespace (n ∷ within s (take i ns))) ∷ []) h.added
      (subst (λ x. Added b (x ∷ []) c) (part-is a s p (take i ns) b last n h) g));
  at = at ∙ ap (λ z. Some (n ∷ z)) (index-of b.spaces last (within s (take i ns)) h.at)
      ∙ ap Some (sym (ap (within s) (take-more ns i n below is) ∙ within-end s (take i ns) n));
}

pub opening-next : (a : Known) (s : Space) (p : Place) (ns : List (List ℕ)) (i : ℕ) (n text : List ℕ) (b c : Known) (last next : ℕ) → i < length ns → n ≡ get_or ns i n → text ≡ n
    → IsOpening a s p (take i ns) b last → Added b (part_of b.spaces last p text ∷ []) c → slice_get c.spaces next ≡ Some (inner b.spaces last text) → IsOpening a s p (take (i + 1) ns) c next
opening-next a s p ns i n text b c last next below is same h g at =
    opening-further a s p ns i n b c last next below is h (subst (λ z. Added b (part_of b.spaces last p z ∷ []) c) same g) (at ∙ ap (λ z. Some (inner b.spaces last z)) same)

opened-append : (s : Space) (p : Place) (xs ys : List (List ℕ)) → opened s p (xs ++ ys) ≡ opened s p xs ++ opened (within s xs) p ys
unfolding opened within
opened-append s p [] ys = refl
opened-append s p (k ∷ xs) ys = ap (λ z. declared (in_space s) (record { place = p; text = k }) (Namespace (k ∷ s)) ∷ z) (opened-append (k ∷ s) p xs ys)

opening-end : (A B : Type 0) (a : Known) (s : Space) (p : Place) (ns : List (List ℕ)) (i : ℕ) (n : List ℕ) (b c d : Known) (last : ℕ) (e : Fail) → i < length ns → n ≡ get_or ns i n
    → IsOpening a s p (take i ns) b last → Adds {A = A} b (part_of b.spaces last p n ∷ []) (Err e) c → Adds {A = B} a (opened s p ns) (Err e) d
opening-end A B a s p ns i n b c d last e below is h g = subst (λ z. Adds {A = B} a z (Err e) d) whole
    (adds-more A B a c d (opened s p (take (i + 1) ns)) (opened (within s (take (i + 1) ns)) p (drop (i + 1) ns)) e
    (subst (λ z. Adds {A = A} a z (Err e) c) (names-next s p ns i n below is)
    (adds-then {A = A} a b c (opened s p (take i ns)) (declared (in_space (within s (take i ns))) (record { place = p; text = n }) (Namespace (n ∷ within s (take i ns))) ∷ []) (Err e) h.added
    (subst (λ x. Adds {A = A} b (x ∷ []) (Err e) c) (part-is a s p (take i ns) b last n h) g))))
  where
    whole : opened s p (take (i + 1) ns) ++ opened (within s (take (i + 1) ns)) p (drop (i + 1) ns) ≡ opened s p ns
    whole = sym (opened-append s p (take (i + 1) ns) (drop (i + 1) ns)) ∙ ap (opened s p) (take-append-drop (i + 1) ns)

-- a refusal at one name is one of the whole path
pub opening-stop : (A B : Type 0) (a : Known) (s : Space) (p : Place) (ns all : List (List ℕ)) (i : ℕ) (n text : List ℕ) (b c d : Known) (last : ℕ) (e : Fail) → i < length ns → n ≡ get_or ns i n → text ≡ n → ns ≡ all
    → IsOpening a s p (take i ns) b last → Adds {A = A} b (part_of b.spaces last p text ∷ []) (Err e) c → Adds {A = B} a (opened s p all) (Err e) d
opening-stop A B a s p ns all i n text b c d last e below is same whole h g = subst (λ z. Adds {A = B} a (opened s p z) (Err e) d) whole
    (opening-end A B a s p ns i n b c d last e below is h (subst (λ z. Adds {A = A} b (part_of b.spaces last p z ∷ []) (Err e) c) same g))

pub opening-all : (a : Known) (s : Space) (p : Place) (ns : List (List ℕ)) (i : ℕ) (b : Known) (last : ℕ) → i ≡ length ns → IsOpening a s p (take i ns) b last → IsOpening a s p ns b last
opening-all a s p ns i b last all h = subst (λ z. IsOpening a s p z b last) (ap (λ n. take n ns) all ∙ take-length ns) h

-- ---- a namespace with what stands in it

pub in-namespace : (a b c : Known) (space inner_space : ℕ) (place : Place) (path : Path) (decls row : List Decl) (decl : Decl) (r : Result (Unit {0}) Fail) → decl ≡ d.Namespace place path decls → row ≡ decls
    → Added a (opened (slice_index_or a.spaces space []) path.place path.names) b → slice_get b.spaces inner_space ≡ Some (within (slice_index_or a.spaces space []) path.names)
    → Adds b (flat_map (decl_names (slice_index_or b.spaces inner_space [])) row) r c → Adds a (decl_names (slice_index_or a.spaces space []) decl) r c
in-namespace a b c space inner_space place path decls row decl r is same h at g =
    let s = slice_index_or a.spaces space [] in
    adds-at a c (opened s path.place path.names ++ flat_map (decl_names (within s path.names)) decls) (decl_names s decl) r (sym (ap (decl_names s) is ∙ decl_names-Namespace s place path decls))
    (adds-then a b c (opened s path.place path.names) (flat_map (decl_names (within s path.names)) decls) r h
    (subst (λ z. Adds b (flat_map (decl_names z) decls) r c) (index-of b.spaces inner_space (within s path.names) at)
    (subst (λ z. Adds b (flat_map (decl_names (slice_index_or b.spaces inner_space [])) z) r c) same g)))

pub before-namespace : (A B : Type 0) (a b c : Known) (space : ℕ) (place : Place) (path : Path) (decls : List Decl) (decl : Decl) (e : Fail) → decl ≡ d.Namespace place path decls
    → Adds {A = A} a (opened (slice_index_or a.spaces space []) path.place path.names) (Err e) b → Adds {A = B} a (decl_names (slice_index_or a.spaces space []) decl) (Err e) c
before-namespace A B a b c space place path decls decl e is h =
    let s = slice_index_or a.spaces space [] in
    subst (λ z. Adds {A = B} a z (Err e) c) (sym (ap (decl_names s) is ∙ decl_names-Namespace s place path decls))
    (adds-more A B a b c (opened s path.place path.names) (flat_map (decl_names (within s path.names)) decls) e h)

-- ---- declarations of constants

inits-names : (s : Space) (inits : List Init) → flat_map (init_names s) inits ≡ map (constant (in_space s)) inits
inits-names s [] = refl
inits-names s (a ∷ inits) = ap (λ z. constant (in_space s) a ∷ z) (inits-names s inits)

pub in-let : (a b : Known) (s : Space) (place : Place) (inits row : List Init) (shared : Shared) (r : Result (Unit {0}) Fail) → shared ≡ h.Let place inits → row ≡ inits
    → Adds a (flat_map (init_names s) row) r b → Adds a (shared_names (in_space s) shared) r b
in-let a b s place inits row shared r is same g =
    adds-at a b (flat_map (init_names s) row) (shared_names (in_space s) shared) r (ap (flat_map (init_names s)) same ∙ inits-names s inits ∙ sym (ap (shared_names (in_space s)) is)) g

pub in-assert : (a : Known) (s : Space) (assert : Assert) (shared : Shared) → shared ≡ h.Assert assert → Added a (shared_names (in_space s) shared) a
in-assert a s assert shared is = subst (λ z. Added a z a) (sym (ap (shared_names (in_space s)) is)) (added-none a a refl)
