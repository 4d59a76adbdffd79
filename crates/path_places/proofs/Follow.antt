-- What is looked up at sites stands at tokens, in their order.
use Rattle.std.proofs.Common.{◌≡◌, List, [], ◌∷◌, ◌++◌, refl, sym, ◌∙◌}
use Rattle.std.specs.Prelude.{Some, None, flat_map}
use Rattle.cm_tree.specs.declared.token.Token.{Token}
use Rattle.cm_tree.specs.declared.path.Path.{Path}
use Rattle.cm_tree.specs.declared.path.Word.{Word}
use Rattle.cm_tree.specs.Lists as lists
use Rattle.cm_tree.specs.Lists.{Every, Further, Listed, MaybeListed}
use Rattle.cm_tree.specs.Spelling.{IsWord, SpellsPath}
use Rattle.cm_tree.specs.Spelling as g
use Rattle.cm_meaning.specs.Sites.{Site, looked_up, path_of_word}

-- each path that is looked up stands at a token, and each later one at a later token
pub data Follow : List Site → List Token → Type 0 where
  none : {tokens : List Token} → Follow [] tokens
  past : {t : Token} {sites : List Site} {tokens : List Token} → Follow sites tokens → Follow sites (t ∷ tokens)
  plain : {s : Site} {sites : List Site} {tokens : List Token} → looked_up s.part ≡ None → Follow sites tokens → Follow (s ∷ sites) tokens
  here : {s : Site} {q : Path} {sites : List Site} {t : Token} {tokens : List Token}
      → looked_up s.part ≡ Some q → q.place ≡ t.place → Follow sites tokens → Follow (s ∷ sites) (t ∷ tokens)

-- ---- parts one behind another

pub behind : {sites : List Site} {tokens : List Token} (front : List Token) → Follow sites tokens → Follow sites (front ++ tokens)
behind [] h = h
behind (t ∷ front) h = past (behind front h)

pub ahead : {sites : List Site} {tokens : List Token} (back : List Token) → Follow sites tokens → Follow sites (tokens ++ back)
ahead back none = none
ahead back (past h) = past (ahead back h)
ahead back (plain is h) = plain is (ahead back h)
ahead back (here is at h) = here is at (ahead back h)

pub both : {sites others : List Site} {front tokens : List Token} → Follow sites front → Follow others tokens → Follow (sites ++ others) (front ++ tokens)
both (none {tokens = front}) k = behind front k
both (past h) k = past (both h k)
both (plain is h) k = plain is (both h k)
both (here is at h) k = here is at (both h k)

pub alone : {sites : List Site} {tokens : List Token} → Follow sites tokens → Follow (sites ++ []) tokens
alone none = none
alone (past h) = past (alone h)
alone (plain is h) = plain is (alone h)
alone (here is at h) = here is at (alone h)

-- another site at which the same is looked up
pub same_path : {s u : Site} {sites : List Site} {tokens : List Token} → looked_up s.part ≡ looked_up u.part → Follow (s ∷ sites) tokens → Follow (u ∷ sites) tokens
same_path e (past h) = past (same_path e h)
same_path e (plain is h) = plain (sym e ∙ is) h
same_path e (here is at h) = here (sym e ∙ is) at h

-- a path is looked up, and then what stands behind it
pub at_path : {s : Site} {q : Path} {sites : List Site} {front tokens : List Token}
    → looked_up s.part ≡ Some q → SpellsPath q front → Follow sites tokens → Follow (s ∷ sites) (front ++ tokens)
at_path is (g.path t n ns others k names) h = here is refl (behind others h)

pub only_path : {s : Site} {q : Path} {front : List Token} → looked_up s.part ≡ Some q → SpellsPath q front → Follow (s ∷ []) front
only_path is (g.path t n ns others k names) = here is refl none

-- a single name is looked up, and then what stands behind it
pub at_word : {s : Site} {w : Word} {sites : List Site} {t : Token} {tokens : List Token}
    → looked_up s.part ≡ Some (path_of_word w) → IsWord w t → Follow sites tokens → Follow (s ∷ sites) (t ∷ tokens)
at_word is word h = here is word.place h

-- ---- lists of parts

pub at_every : {A : Type 0} {P : A → List Token → Type 0} (f : A → List Site) → ((x : A) (tokens : List Token) → P x tokens → Follow (f x) tokens)
    → {xs : List A} {tokens : List Token} → Every P xs tokens → Follow (flat_map f xs) tokens
at_every f each lists.none = none
at_every f each (lists.more x xs first others spelled further) = both (each x first spelled) (at_every f each further)

pub at_further : {A : Type 0} {P : A → List Token → Type 0} (f : A → List Site) → ((x : A) (tokens : List Token) → P x tokens → Follow (f x) tokens)
    → {xs : List A} {tokens : List Token} → Further P xs tokens → Follow (flat_map f xs) tokens
at_further f each lists.none = none
at_further f each (lists.more x xs comma first others is spelled further) = past (both (each x first spelled) (at_further f each further))

pub at_listed : {A : Type 0} {P : A → List Token → Type 0} (f : A → List Site) → ((x : A) (tokens : List Token) → P x tokens → Follow (f x) tokens)
    → {xs : List A} {tokens : List Token} → Listed P xs tokens → Follow (flat_map f xs) tokens
at_listed f each (lists.listed x xs first others spelled further) = both (each x first spelled) (at_further f each further)

pub at_maybe_listed : {A : Type 0} {P : A → List Token → Type 0} (f : A → List Site) → ((x : A) (tokens : List Token) → P x tokens → Follow (f x) tokens)
    → {xs : List A} {tokens : List Token} → MaybeListed P xs tokens → Follow (flat_map f xs) tokens
at_maybe_listed f each lists.none = none
at_maybe_listed f each (lists.some xs tokens spelled) = at_listed f each spelled
