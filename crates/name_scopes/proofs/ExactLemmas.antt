-- Words that are kept apart are exactly the faults of names that stand twice, and those of a processor or a graph are the
-- names that it declares.
use Rattle.std.specs.Prelude.{◌≡◌, refl, ℕ, suc, Bool, true, false, not, ◌||◌, List, [], ◌∷◌, ◌++◌, map, flat_map, Result, Ok, Err, bytes_eq}
use Rattle.std.specs.List.{list_any}
use Rattle.std.proofs.Common.{ap, sym, ◌∙◌, subst, true≢false}
use Rattle.std.proofs.lemmas.List.{map-append}
use Rattle.std.proofs.lemmas.Slice.Eq.{bytes_eq-Decides}
use Rattle.cm_base.specs.declared.cause.Cause.TheVariants as cause
use Rattle.cm_base.specs.declared.failure.Fail.{Fail}
use Rattle.cm_base.specs.declared.failure.Fail.TheVariants as fail
use Rattle.cm_base.specs.declared.host.Flow.{Flow}
use Rattle.cm_tree.specs.declared.path.Word.{Word}
use Rattle.cm_tree.specs.declared.shared.Shared.{Shared}
use Rattle.cm_tree.specs.declared.shared.Shared.TheVariants as h
use Rattle.cm_tree.specs.declared.member.End.{End}
use Rattle.cm_tree.specs.declared.member.Member.{Member}
use Rattle.cm_tree.specs.declared.member.Member.TheVariants as m
use Rattle.cm_tree.specs.declared.decl.Param.{Param}
use Rattle.cm_tree.specs.declared.decl.Param.TheVariants as q
use Rattle.cm_tree.specs.declared.decl.UnitDecl.{UnitDecl}
use Rattle.cm_meaning.specs.Declared.{Space, Home, Declared}
use Rattle.cm_meaning.specs.Scopes.{in_unit, constant, end_name, end_names, inferred_state, typed_state, node_name, shared_names, param_names, member_names, unit_names}
use Rattle.cm_meaning.specs.Faults.{unless}
use Rattle.cm_meaning.specs.Exact.{IsExactly}
use Rattle.cm_meaning.specs.NameRows.{has_word, repeated, words_of}
use Rattle.name_scopes.specs.Numbers.{added}
use Rattle.name_scopes.specs.Apart.{again, KeepsApart, word_itself, init_words, var_words, end_name_words, end_words, node_words, shared_words, param_words, member_words, unit_words}

-- ---- a set of texts stands for the words before

abbrev has_text : List Word → List ℕ → Bool
has_text before text = list_any (λ (other : Word). bytes_eq other.text text) before

same_text : (a b : List ℕ) → bytes_eq a b ≡ bytes_eq b a
same_text a b = by (bytes_eq a b) (bytes_eq b a) refl refl where
  by : (r s : Bool) → bytes_eq a b ≡ r → bytes_eq b a ≡ s → r ≡ s
  by true true e f = refl
  by false false e f = refl
  by true false e f = absurd (true≢false (sym ((bytes_eq-Decides b a).1 (sym ((bytes_eq-Decides a b).0 e))) ∙ f))
  by false true e f = absurd (true≢false (sym ((bytes_eq-Decides a b).1 (sym ((bytes_eq-Decides b a).0 f))) ∙ e))

any-end : (text : List ℕ) (seen : List (List ℕ)) (t : List ℕ) → list_any (bytes_eq t) (seen ++ text ∷ []) ≡ (bytes_eq text t || list_any (bytes_eq t) seen)
any-end text [] t = by (bytes_eq t text) (bytes_eq text t) (same_text t text) where
  by : (r s : Bool) → r ≡ s → (r || false) ≡ (s || false)
  by r s e = ap (λ z. z || false) e
any-end text (x ∷ seen) t = ap (λ z. bytes_eq t x || z) (any-end text seen t) ∙ by (bytes_eq t x) (bytes_eq text t) (list_any (bytes_eq t) seen) where
  by : (r s u : Bool) → (r || (s || u)) ≡ (s || (r || u))
  by true true u = refl
  by true false u = refl
  by false true u = refl
  by false false u = refl

any-added : (text : List ℕ) (seen : List (List ℕ)) (t : List ℕ) → list_any (bytes_eq t) (added seen text) ≡ (bytes_eq text t || list_any (bytes_eq t) seen)
any-added text seen t = by (list_any (bytes_eq text) seen) refl where
  there : (b : Bool) → bytes_eq text t ≡ b → list_any (bytes_eq text) seen ≡ true → list_any (bytes_eq t) seen ≡ (bytes_eq text t || list_any (bytes_eq t) seen)
  there true e h = rw e (subst (λ z. list_any (bytes_eq z) seen ≡ true) ((bytes_eq-Decides text t).0 e) h)
  there false e h = rw e refl

  by : (b : Bool) → list_any (bytes_eq text) seen ≡ b → list_any (bytes_eq t) (added seen text) ≡ (bytes_eq text t || list_any (bytes_eq t) seen)
  by true h = rw h (there (bytes_eq text t) refl h)
  by false h = rw h (any-end text seen t)

again-repeated : (words : List Word) (seen : List (List ℕ)) (before : List Word) → ((t : List ℕ) → list_any (bytes_eq t) seen ≡ has_text before t) → again seen words ≡ repeated before words
unfolding again repeated
again-repeated [] seen before same = refl
again-repeated (w ∷ words) seen before same =
    ap (λ z. unless (not z) cause.DuplicateName w.place ++ again (added seen w.text) words) (same w.text)
    ∙ ap (λ z. unless (not (has_word before w)) cause.DuplicateName w.place ++ z)
    (again-repeated words (added seen w.text) (w ∷ before) (λ t. any-added w.text seen t ∙ ap (λ z. bytes_eq w.text t || z) (same t)))

exactly : (words : List Word) (result : Result (Unit {0}) Fail) (new : List (List ℕ)) → KeepsApart [] words result new → IsExactly (again [] words) result
exactly words (Ok done) new h = h.0
exactly words (Err (fail.Refused f)) new h = h
exactly words (Err fail.NoMemory) new h = tt

pub exactly-repeated : (words others : List Word) (result : Result (Unit {0}) Fail) (new : List (List ℕ)) → words ≡ others → KeepsApart [] words result new → IsExactly (repeated [] others) result
exactly-repeated words others result new is h = subst (λ fs. IsExactly fs result) (again-repeated words [] [] (λ t. refl) ∙ ap (repeated []) is) (exactly words result new h)

pub itself : (words : List Word) → flat_map word_itself words ≡ words
itself [] = refl
itself (w ∷ words) = ap (λ z. w ∷ z) (itself words)

-- ---- the names of a processor or a graph

words-map : {A : Type 0} (f : A → Declared) (g : A → List Word) → ((a : A) → g a ≡ (f a).word ∷ []) → (xs : List A) → flat_map g xs ≡ words_of (map f xs)
words-map f g same [] = refl
words-map f g same (x ∷ xs) = ap (λ z. z ++ flat_map g xs) (same x) ∙ ap (λ z. (f x).word ∷ z) (words-map f g same xs)

words-flat : {A : Type 0} (f : A → List Declared) (g : A → List Word) → ((a : A) → g a ≡ words_of (f a)) → (xs : List A) → flat_map g xs ≡ words_of (flat_map f xs)
words-flat f g same [] = refl
words-flat f g same (x ∷ xs) = ap (λ z. z ++ flat_map g xs) (same x) ∙ ap (λ z. words_of (f x) ++ z) (words-flat f g same xs) ∙ sym (map-append (λ (d : Declared). d.word) (f x) (flat_map f xs))

words-shared : (home : Home) (a : Shared) → shared_words a ≡ words_of (shared_names home a)
words-shared home (h.Struct p w fields) = refl
words-shared home (h.Using p w ty) = refl
words-shared home (h.Let p inits) = words-map (constant home) init_words (λ a. refl) inits
words-shared home (h.Assert a) = refl

words-ends : (home : Home) (flow : Flow) (a : End) → end_words a ≡ words_of (end_names home flow a)
words-ends home flow a = words-map (end_name home flow a) end_name_words (λ n. refl) a.names

words-member : (home : Home) (a : Member) → member_words a ≡ words_of (member_names home a)
words-member home (m.Ends p flow ends) = words-flat (end_names home flow) end_words (words-ends home flow) ends
words-member home (m.Shared a) = words-shared home a
words-member home (m.Function f) = refl
words-member home (m.Handler p w t b) = refl
words-member home (m.Var p inits) = words-map (inferred_state home) init_words (λ a. refl) inits
words-member home (m.State ty vars) = words-map (typed_state home ty) var_words (λ a. refl) vars
words-member home (m.Latency p a) = refl
words-member home (m.Nodes p nodes) = words-map (node_name home) node_words (λ a. refl) nodes
words-member home (m.Connection p links) = refl

words-params : (home : Home) (i : ℕ) (params : List Param) → flat_map param_words params ≡ words_of (param_names home i params)
unfolding param_names
words-params home i [] = refl
words-params home i (q.Type p w ∷ params) = ap (λ z. w ∷ z) (words-params home (suc i) params)
words-params home i (q.Value ty w ∷ params) = ap (λ z. w ∷ z) (words-params home (suc i) params)

pub words-unit : (space : Space) (u : UnitDecl) → unit_words u ≡ words_of (unit_names space u)
unfolding unit_names
words-unit space u =
    ap (λ z. z ++ flat_map member_words u.members) (words-params (in_unit space u) 0 u.params)
    ∙ ap (λ z. words_of (param_names (in_unit space u) 0 u.params) ++ z) (words-flat (member_names (in_unit space u)) member_words (words-member (in_unit space u)) u.members)
    ∙ sym (map-append (λ (d : Declared). d.word) (param_names (in_unit space u) 0 u.params) (flat_map (member_names (in_unit space u)) u.members))
