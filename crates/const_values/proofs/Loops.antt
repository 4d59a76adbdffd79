-- Loops over the expressions of a list, one expression after another.
use Rattle.std.specs.Prelude.{◌≡◌, refl, ℕ, suc, ◌+◌, ◌<◌, Bool, true, false, ◌&&◌, List, [], ◌∷◌, ◌++◌, length, flat_map, Some, Ok, Err}
use Rattle.std.specs.List.{list_all}
use Rattle.std.proofs.Common.{ap, sym, ◌∙◌, subst, take, drop, get_or}
use Rattle.std.proofs.lemmas.List.{take-append-drop, take_more, map-append}
use Rattle.std.proofs.lemmas.List.Concat.{flat_map-append}
use Rattle.std.proofs.lemmas.List.Folds.{list_all-append}
use Rattle.std.proofs.Math.Seq.{drop-cons, take-length}
use Rattle.cm_base.specs.HostEnds.{IsCount}
use Rattle.cm_base.specs.declared.place.Place.{Place}
use Rattle.cm_base.specs.declared.failure.Fail.{Fail}
use Rattle.cm_tree.specs.declared.path.Path.{Path}
use Rattle.cm_tree.specs.declared.expr.Expr.{Expr}
use Rattle.cm_tree.specs.Levels.{place}
use Rattle.cm_types.specs.declared.valued.Valued.{Valued as CodeValued}
use Rattle.cm_types.specs.Lawful.{IsSound}
use Rattle.cm_types.specs.Meant.{meant_valued}
use Rattle.cm_meaning.specs.Faults.{Fault}
use Rattle.cm_meaning.specs.Scopes.{Around}
use Rattle.cm_meaning.specs.Constants.{count_in, eval}
use Rattle.cm_meaning.specs.TypeOf.{Knowledge, is_constant}
use Rattle.const_values.specs.declared.names.Argument.{Argument}
use Rattle.const_values.specs.declared.construct.Given.{Given as CodeGiven}
use Rattle.const_values.specs.Names.{Known}
use Rattle.const_values.specs.Answers.{Refuses, own_faults, Judges, Tells}
use Rattle.const_values.specs.Arguments.{AllStand, JudgesAll, IsGiven, AreGiven, TellsAll}
use Rattle.const_values.specs.Construct.{Given, meant_given, meant_givens, AreSound}
use Rattle.const_values.specs.Sizes.{count_faults, AreCounts, AreLawfulCounts, TellsCount, TellsCounts}
use Rattle.const_values.proofs.Constructs.{passed, passed_on}
use Rattle.const_values.proofs.Parts.{and_left, and_right}

-- ---- a list at one of its elements

-- an element stands behind those in front of it
at_index : {X : Type 0} (xs : List X) (i : ℕ) (x : X) → i < length xs → x ≡ get_or xs i x → xs ≡ take i xs ++ (x ∷ drop (suc i) xs)
at_index {X = X} xs i x within is =
    sym (take-append-drop i xs) ∙ ap (λ (l : List X). take i xs ++ l) (drop-cons xs i x within ∙ ap (λ (y : X). y ∷ drop (suc i) xs) (sym is))

one_more : {X : Type 0} (xs : List X) (i : ℕ) (x : X) → i < length xs → x ≡ get_or xs i x → take (i + 1) xs ≡ take i xs ++ x ∷ []
one_more {X = X} xs i x within is = take_more xs i x within ∙ ap (λ (y : X). take i xs ++ y ∷ []) (sym is)

pub take_all : {X : Type 0} (xs : List X) (i : ℕ) → i ≡ length xs → take i xs ≡ xs
take_all {X = X} xs i is = ap (λ (n : ℕ). take n xs) is ∙ take-length xs

and_true : (p q : Bool) → p ≡ true → q ≡ true → (p && q) ≡ true
and_true p q e f = ap (λ (b : Bool). b && q) e ∙ f

and_false : (p : Bool) → (p && false) ≡ false
and_false true = refl
and_false false = refl

-- a fault of one element is one of all
refused_in : {X : Type 0} (f : X → List Fault) (xs ys : List X) (x : X) (e : Fail) → Refuses (f x) e → Refuses (flat_map f (xs ++ (x ∷ ys))) e
refused_in f xs ys x e h =
    passed_on (flat_map f (xs ++ (x ∷ ys))) (flat_map f xs) (f x ++ flat_map f ys) e (flat_map-append f xs (x ∷ ys)) (passed (f x ++ flat_map f ys) (f x) (flat_map f ys) e refl h)

module _ (finds : Path → Known) (args : List Argument) where
  module _ (r : Around) (k : Knowledge) where
    stand_left : (xs ys : List Expr) → AllStand finds args r k (xs ++ ys) → AllStand finds args r k xs
    stand_left [] ys h = tt
    stand_left (x ∷ xs) ys h = (h.0, stand_left xs ys h.1)

    stand_right : (xs ys : List Expr) → AllStand finds args r k (xs ++ ys) → AllStand finds args r k ys
    stand_right [] ys h = h
    stand_right (x ∷ xs) ys h = stand_right xs ys h.1

    constant_left : (xs ys : List Expr) → list_all (is_constant r) (xs ++ ys) ≡ true → list_all (is_constant r) xs ≡ true
    constant_left xs ys h = and_left (list_all (is_constant r) xs) (list_all (is_constant r) ys) (sym (list_all-append (is_constant r) xs ys) ∙ h)

    constant_right : (xs ys : List Expr) → list_all (is_constant r) (xs ++ ys) ≡ true → list_all (is_constant r) ys ≡ true
    constant_right xs ys h = and_right (list_all (is_constant r) xs) (list_all (is_constant r) ys) (sym (list_all-append (is_constant r) xs ys) ∙ h)

  -- ---- whether all are constants

  pub judges_none : (xs : List Expr) → JudgesAll finds args (take 0 xs) true
  judges_none xs = record { told = λ r k s. refl }

  judges_more : (xs : List Expr) (x : Expr) (b : Bool) → JudgesAll finds args xs true → Judges finds args x b → b ≡ true → JudgesAll finds args (xs ++ x ∷ []) true
  judges_more xs x b h g is = record {
    told = λ r k s. list_all-append (is_constant r) xs (x ∷ [])
        ∙ and_true (list_all (is_constant r) xs) (is_constant r x && true) (h.told r k (stand_left r k xs (x ∷ []) s))
        (and_true (is_constant r x) true (g.told r k (stand_right r k xs (x ∷ []) s).0 ∙ is) refl);
  }

  pub judges_next : (xs : List Expr) (i : ℕ) (x : Expr) (b : Bool) → i < length xs → x ≡ get_or xs i x → JudgesAll finds args (take i xs) true → Judges finds args x b → b ≡ true
      → JudgesAll finds args (take (i + 1) xs) true
  judges_next xs i x b within is h g good = subst (λ (l : List Expr). JudgesAll finds args l true) (sym (one_more xs i x within is)) (judges_more (take i xs) x b h g good)

  judges_none_of : (xs ys : List Expr) (x : Expr) (b : Bool) → Judges finds args x b → b ≡ false → JudgesAll finds args (xs ++ (x ∷ ys)) false
  judges_none_of xs ys x b g is = record {
    told = λ r k s. list_all-append (is_constant r) xs (x ∷ ys)
        ∙ ap (λ (b : Bool). list_all (is_constant r) xs && (b && list_all (is_constant r) ys)) (g.told r k (stand_right r k xs (x ∷ ys) s).0 ∙ is)
        ∙ and_false (list_all (is_constant r) xs);
  }

  pub judges_stop : (xs : List Expr) (i : ℕ) (x : Expr) (b : Bool) → i < length xs → x ≡ get_or xs i x → Judges finds args x b → b ≡ false → JudgesAll finds args xs false
  judges_stop xs i x b within is g none =
      subst (λ (l : List Expr). JudgesAll finds args l false) (sym (at_index xs i x within is)) (judges_none_of (take i xs) (drop (suc i) xs) x b g none)

  pub judges_all : (xs : List Expr) (i : ℕ) → take i xs ≡ xs → JudgesAll finds args (take i xs) true → JudgesAll finds args xs true
  judges_all xs i all h = subst (λ (l : List Expr). JudgesAll finds args l true) all h

  -- ---- values

  pub given_none : (xs : List Expr) (made : List CodeGiven) → made ≡ [] → TellsAll finds args (take 0 xs) (Ok made)
  given_none xs made none = record { told = λ r k s is. subst (λ (l : List CodeGiven). AreGiven r k [] (meant_givens l)) (sym none) tt }

  module _ (r : Around) (k : Knowledge) where
    are_given : (xs : List Expr) (gs : List Given) (x : Expr) (g : Given) → AreGiven r k xs gs → IsGiven r k x g → AreGiven r k (xs ++ x ∷ []) (gs ++ g ∷ [])
    are_given [] [] x g h is = (is, tt)
    are_given [] (f ∷ gs) x g h is = absurd h
    are_given (y ∷ xs) [] x g h is = absurd h
    are_given (y ∷ xs) (f ∷ gs) x g h is = (h.0, are_given xs gs x g h.1 is)

    more_given : (xs : List Expr) (made : List CodeGiven) (x : Expr) (g : CodeGiven) → AreGiven r k xs (meant_givens made) → IsGiven r k x (meant_given g) → AreGiven r k (xs ++ x ∷ []) (meant_givens (made ++ g ∷ []))
    more_given xs made x g h is = subst (AreGiven r k (xs ++ x ∷ [])) (sym (map-append meant_given made (g ∷ []))) (are_given xs (meant_givens made) x (meant_given g) h is)

  given_more : (xs : List Expr) (made : List CodeGiven) (x : Expr) (p : Place) (v : CodeValued) → TellsAll finds args xs (Ok made) → Tells finds args x (Ok v) → p ≡ place x
      → TellsAll finds args (xs ++ x ∷ []) (Ok (made ++ record { place = p; one = v } ∷ []))
  given_more xs made x p v h g at = record {
    told = λ r k s is.
        let one = g.told r k (stand_right r k xs (x ∷ []) s).0 (and_left (is_constant r x) true (constant_right r k xs (x ∷ []) is)) in
        more_given r k xs made x (record { place = p; one = v }) (h.told r k (stand_left r k xs (x ∷ []) s) (constant_left r k xs (x ∷ []) is))
        (record { at = at; right = one.0; value = one.1.0; ty = one.1.1 });
  }

  pub given_next : (xs : List Expr) (i : ℕ) (made now : List CodeGiven) (x : Expr) (p : Place) (v : CodeValued) → i < length xs → x ≡ get_or xs i x → TellsAll finds args (take i xs) (Ok made)
      → Tells finds args x (Ok v) → p ≡ place x → now ≡ made ++ record { place = p; one = v } ∷ [] → TellsAll finds args (take (i + 1) xs) (Ok now)
  given_next xs i made now x p v within is h g at grown =
      subst (λ (l : List Expr). TellsAll finds args l (Ok now)) (sym (one_more xs i x within is))
      (subst (λ (l : List CodeGiven). TellsAll finds args (take i xs ++ x ∷ []) (Ok l)) (sym grown) (given_more (take i xs) made x p v h g at))

  given_refused : (xs ys : List Expr) (x : Expr) (e : Fail) → Tells finds args x (Err e) → TellsAll finds args (xs ++ (x ∷ ys)) (Err e)
  given_refused xs ys x e g = record {
    told = λ r k s is. refused_in (own_faults r k) xs ys x e
        (g.told r k (stand_right r k xs (x ∷ ys) s).0 (and_left (is_constant r x) (list_all (is_constant r) ys) (constant_right r k xs (x ∷ ys) is)));
  }

  pub given_stop : (xs : List Expr) (i : ℕ) (x : Expr) (e : Fail) → i < length xs → x ≡ get_or xs i x → Tells finds args x (Err e) → TellsAll finds args xs (Err e)
  given_stop xs i x e within is g = subst (λ (l : List Expr). TellsAll finds args l (Err e)) (sym (at_index xs i x within is)) (given_refused (take i xs) (drop (suc i) xs) x e g)

  pub given_all : (xs : List Expr) (i : ℕ) (made now : List CodeGiven) → take i xs ≡ xs → now ≡ made → TellsAll finds args (take i xs) (Ok made) → TellsAll finds args xs (Ok now)
  given_all xs i made now all is h = subst (λ (l : List Expr). TellsAll finds args l (Ok now)) all (subst (λ (l : List CodeGiven). TellsAll finds args (take i xs) (Ok l)) (sym is) h)

  -- ---- counts

  pub counts_none : (xs : List Expr) (made : List ℕ) → made ≡ [] → TellsCounts finds args (take 0 xs) (Ok made)
  counts_none xs made none = record { told = λ r k s. subst (AreCounts r k []) (sym none) tt }

  are_counts : (r : Around) (k : Knowledge) (xs : List Expr) (made : List ℕ) (x : Expr) (n : ℕ) → AreCounts r k xs made → (count_faults r k x ≡ []) × (count_in (eval r k.look x) ≡ Some n)
      → AreCounts r k (xs ++ x ∷ []) (made ++ n ∷ [])
  are_counts r k [] [] x n h is = (is, tt)
  are_counts r k [] (m ∷ made) x n h is = absurd h
  are_counts r k (y ∷ xs) [] x n h is = absurd h
  are_counts r k (y ∷ xs) (m ∷ made) x n h is = (h.0, are_counts r k xs made x n h.1 is)

  counts_more : (xs : List Expr) (made : List ℕ) (x : Expr) (n : ℕ) → TellsCounts finds args xs (Ok made) → TellsCount finds args x (Ok n) → TellsCounts finds args (xs ++ x ∷ []) (Ok (made ++ n ∷ []))
  counts_more xs made x n h g = record {
    told = λ r k s. are_counts r k xs made x n (h.told r k (stand_left r k xs (x ∷ []) s)) (g.told r k (stand_right r k xs (x ∷ []) s).0);
  }

  pub counts_next : (xs : List Expr) (i : ℕ) (made now : List ℕ) (x : Expr) (n : ℕ) → i < length xs → x ≡ get_or xs i x → TellsCounts finds args (take i xs) (Ok made) → TellsCount finds args x (Ok n)
      → now ≡ made ++ n ∷ [] → TellsCounts finds args (take (i + 1) xs) (Ok now)
  counts_next xs i made now x n within is h g grown =
      subst (λ (l : List Expr). TellsCounts finds args l (Ok now)) (sym (one_more xs i x within is))
      (subst (λ (l : List ℕ). TellsCounts finds args (take i xs ++ x ∷ []) (Ok l)) (sym grown) (counts_more (take i xs) made x n h g))

  counts_refused : (xs ys : List Expr) (x : Expr) (e : Fail) → TellsCount finds args x (Err e) → TellsCounts finds args (xs ++ (x ∷ ys)) (Err e)
  counts_refused xs ys x e g = record { told = λ r k s. refused_in (count_faults r k) xs ys x e (g.told r k (stand_right r k xs (x ∷ ys) s).0) }

  pub counts_stop : (xs : List Expr) (i : ℕ) (x : Expr) (e : Fail) → i < length xs → x ≡ get_or xs i x → TellsCount finds args x (Err e) → TellsCounts finds args xs (Err e)
  counts_stop xs i x e within is g = subst (λ (l : List Expr). TellsCounts finds args l (Err e)) (sym (at_index xs i x within is)) (counts_refused (take i xs) (drop (suc i) xs) x e g)

  pub counts_all : (xs : List Expr) (i : ℕ) (made now : List ℕ) → take i xs ≡ xs → now ≡ made → TellsCounts finds args (take i xs) (Ok made) → TellsCounts finds args xs (Ok now)
  counts_all xs i made now all is h = subst (λ (l : List Expr). TellsCounts finds args l (Ok now)) all (subst (λ (l : List ℕ). TellsCounts finds args (take i xs) (Ok l)) (sym is) h)

-- ---- what is gathered is sound

pub none_sound : (made : List CodeGiven) → made ≡ [] → AreSound (meant_givens made)
none_sound made none = subst (λ (l : List CodeGiven). AreSound (meant_givens l)) (sym none) tt

sound_last : (made : List CodeGiven) (g : CodeGiven) → AreSound (meant_givens made) → IsSound (meant_valued g.one) → AreSound (meant_givens (made ++ g ∷ []))
sound_last [] g h is = (is, tt)
sound_last (f ∷ made) g h is = (h.0, sound_last made g h.1 is)

pub sound_more : (made now : List CodeGiven) (g : CodeGiven) → now ≡ made ++ g ∷ [] → AreSound (meant_givens made) → IsSound (meant_valued g.one) → AreSound (meant_givens now)
sound_more made now g grown h is = subst (λ (l : List CodeGiven). AreSound (meant_givens l)) (sym grown) (sound_last made g h is)

pub none_lawful : (made : List ℕ) → made ≡ [] → AreLawfulCounts made
none_lawful made none = subst AreLawfulCounts (sym none) tt

lawful_last : (made : List ℕ) (n : ℕ) → AreLawfulCounts made → IsCount n → AreLawfulCounts (made ++ n ∷ [])
lawful_last [] n h is = (is, tt)
lawful_last (m ∷ made) n h is = (h.0, lawful_last made n h.1 is)

pub lawful_more : (made now : List ℕ) (n : ℕ) → now ≡ made ++ n ∷ [] → AreLawfulCounts made → IsCount n → AreLawfulCounts now
lawful_more made now n grown h is = subst AreLawfulCounts (sym grown) (lawful_last made n h is)
