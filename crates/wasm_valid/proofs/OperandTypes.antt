-- What is known of operands, and the types that they may have.
use Rattle.std.proofs.Common.{◌≡◌, List, [], ◌∷◌, ◌++◌, Option, Some, None, Bool, true, false, refl, sym, ap, ◌∙◌, subst}
use Rattle.std.specs.Option.{option_and_then, option_map}
use Rattle.wasm_tree.specs.declared.module.ValType.{ValType}
use Rattle.wasm_tree.specs.declared.module.ValType.TheVariants.{I32, I64}
use Rattle.wasm_tree.specs.Typed.{Has, Takes as TakesTypes}
use Rattle.wasm_valid.specs.Checking.{Known, unreached, is_same, may_be, some_if, take_one, take_all, put_one, put_all, take_any, joined, Action, Wrong, Takes, Ends, Drops, Selects, acted}

-- operands of these types may be what is known
abbrev pub Matches : Bool → List (Option ValType) → List ValType → Type 0
Matches true [] types = Unit {0}
Matches false [] types = types ≡ []
Matches dead (k ∷ ks) [] = ⊥
Matches dead (k ∷ ks) (type ∷ types) = (may_be k type ≡ true) × Matches dead ks types

abbrev pub Fits : Known → List ValType → Type 0
Fits known types = Matches known.dead known.types types

abbrev pub known_of : Bool → List (Option ValType) → Known
known_of dead types = record { dead = dead; types = types }

pub some_if_is : {A : Type 0} (b : Bool) (x y : A) → some_if b x ≡ Some y → (b ≡ true) × (x ≡ y)
some_if_is true x y e = (refl, cc e)
some_if_is false x y e = absurd cc

pub some_is : {A : Type 0} (x y : A) → Some x ≡ Some y → x ≡ y
some_is x y e = cc e

pub same_is : (a b : ValType) → is_same a b ≡ true → a ≡ b
same_is I32 I32 e = refl
same_is I64 I64 e = refl
same_is I32 I64 e = absurd cc
same_is I64 I32 e = absurd cc

pub same_self : (a : ValType) → is_same a a ≡ true
same_self I32 = refl
same_self I64 = refl

-- a step that may fail and what follows it
pub then_some : {A B : Type 0} (o : Option A) (f : A → Option B) (y : B) → option_and_then f o ≡ Some y → (x : A) × (o ≡ Some x) × (f x ≡ Some y)
then_some None f y e = absurd cc
then_some (Some x) f y e = (x, refl, e)

pub map_some : {A B : Type 0} (o : Option A) (f : A → B) (y : B) → option_map f o ≡ Some y → (x : A) × (o ≡ Some x) × (f x ≡ y)
map_some None f y e = absurd cc
map_some (Some x) f y e = (x, refl, cc e)

-- ---- taking

one_taken : (type : ValType) (dead : Bool) (ks : List (Option ValType)) (next : Known) (below : List ValType) → take_one type (known_of dead ks) ≡ Some next → Fits next below → Matches dead ks (type ∷ below)
unfolding take_one
one_taken type true [] next below e f = tt
one_taken type false [] next below e f = absurd cc
one_taken type dead (k ∷ ks) next below e f =
    let s = some_if_is (may_be k type) (known_of dead ks) next e in
    (s.0, subst (λ n. Fits n below) (sym s.1) f)

one_takes : (type : ValType) (dead : Bool) (ks : List (Option ValType)) (below : List ValType) → Matches dead ks (type ∷ below) → (next : Known) × (take_one type (known_of dead ks) ≡ Some next) × Fits next below
unfolding take_one
one_takes type true [] below f = (known_of true [], refl, tt)
one_takes type false [] below f = absurd cc
one_takes type dead (k ∷ ks) below f = (known_of dead ks, ap (λ b. some_if b (known_of dead ks)) f.0, f.1)

pub all_taken : (ins : List ValType) (known next : Known) (below : List ValType) → take_all ins known ≡ Some next → Fits next below → Fits known (ins ++ below)
unfolding take_all
all_taken [] known next below e f = subst (λ n. Fits n below) (sym (some_is known next e)) f
all_taken (type ∷ ins) known next below e f =
    let s = then_some (take_one type known) (take_all ins) next e in
    one_taken type known.dead known.types s.0 (ins ++ below) s.1 (all_taken ins s.0 next below s.2 f)

pub all_takes : (ins : List ValType) (known : Known) (below : List ValType) → Fits known (ins ++ below) → (next : Known) × (take_all ins known ≡ Some next) × Fits next below
unfolding take_all
all_takes [] known below f = (known, refl, f)
all_takes (type ∷ ins) known below f =
    let s = one_takes type known.dead known.types (ins ++ below) f in
    let t = all_takes ins s.0 below s.2 in
    (t.0, ap (option_and_then (take_all ins)) s.1 ∙ t.1, t.2)

-- ---- putting

pub all_put : (outs : List ValType) (known : Known) (below : List ValType) → Fits known below → Fits (put_all outs known) (outs ++ below)
all_put [] known below f = f
all_put (type ∷ outs) known below f = (same_self type, all_put outs known below f)

pub was_put : (outs : List ValType) (known : Known) (after : List ValType) → Fits (put_all outs known) after → (below : List ValType) × (after ≡ outs ++ below) × Fits known below
was_put [] known after f = (after, refl, f)
was_put (type ∷ outs) known [] f = absurd f
was_put (type ∷ outs) known (t ∷ after) f =
    let w = was_put outs known after f.1 in
    (w.0, ap (λ (x : ValType). x ∷ after) (sym (same_is type t f.0)) ∙ ap (λ (l : List ValType). type ∷ l) w.1, w.2)

-- ---- any operand

-- a type that it may have
abbrev type_of : Option ValType → ValType
type_of None = I32
type_of (Some type) = type

may_be_type_of : (k : Option ValType) → may_be k (type_of k) ≡ true
may_be_type_of None = refl
may_be_type_of (Some type) = same_self type

any_taken : (dead : Bool) (ks : List (Option ValType)) (taken : Option ValType × Known) (type : ValType) (below : List ValType) → take_any (known_of dead ks) ≡ Some taken → may_be taken.0 type ≡ true → Fits taken.1 below → Matches dead ks (type ∷ below)
unfolding take_any
any_taken true [] taken type below e m f = tt
any_taken false [] taken type below e m f = absurd cc
any_taken dead (k ∷ ks) taken type below e m f =
    let s : (k, known_of dead ks) ≡ taken = some_is _ _ e in
    (subst (λ (q : Option ValType × Known). may_be q.0 type ≡ true) (sym s) m, subst (λ (q : Option ValType × Known). Fits q.1 below) (sym s) f)

any_takes : (dead : Bool) (ks : List (Option ValType)) (type : ValType) (below : List ValType) → Matches dead ks (type ∷ below) → (taken : Option ValType × Known) × (take_any (known_of dead ks) ≡ Some taken) × (may_be taken.0 type ≡ true) × Fits taken.1 below
unfolding take_any
any_takes true [] type below f = ((None, known_of true []), refl, refl, tt)
any_takes false [] type below f = absurd cc
any_takes dead (k ∷ ks) type below f = ((k, known_of dead ks), refl, f.0, f.1)

joined_fits : (a b t : Option ValType) (type : ValType) → joined a b ≡ Some t → may_be t type ≡ true → (may_be a type ≡ true) × (may_be b type ≡ true)
joined_fits None b t type e m = (refl, subst (λ k. may_be k type ≡ true) (sym (some_is b t e)) m)
joined_fits (Some a) None t type e m = (subst (λ k. may_be k type ≡ true) (sym (some_is (Some a) t e)) m, refl)
joined_fits (Some a) (Some b) t type e m =
    let s = some_if_is (is_same a b) (Some a) t e in
    let fits : is_same a type ≡ true = subst (λ k. may_be k type ≡ true) (sym s.1) m in
    (fits, subst (λ x. is_same x type ≡ true) (same_is a b s.0) fits)

joins : (a b : Option ValType) (type : ValType) → may_be a type ≡ true → may_be b type ≡ true → (t : Option ValType) × (joined a b ≡ Some t) × (may_be t type ≡ true)
joins None b type m n = (b, refl, n)
joins (Some a) None type m n = (Some a, refl, m)
joins (Some a) (Some b) type m n =
    let same : is_same a b ≡ true = subst (λ x. is_same a x ≡ true) (same_is a type m ∙ sym (same_is b type n)) (same_self a) in
    (Some a, ap (λ x. some_if x (Some a)) same, m)

-- ---- actions

-- the action takes operands of the first types to those of the second
abbrev pub Acts : Action → List ValType → List ValType → Type 0
Acts Wrong before after = ⊥
Acts (Takes ins outs) before after = TakesTypes ins outs before after
Acts (Ends ins) before after = Has ins before
Acts Drops before after = (type : ValType) × TakesTypes (type ∷ []) [] before after
Acts Selects before after = (type : ValType) × TakesTypes (I32 ∷ type ∷ type ∷ []) (type ∷ []) before after

some_below : (dead : Bool) (ks : List (Option ValType)) → (below : List ValType) × Matches dead ks below
some_below true [] = ([], tt)
some_below false [] = ([], refl)
some_below dead (k ∷ ks) = let s = some_below dead ks in (type_of k ∷ s.0, (may_be_type_of k, s.1))

pub acted_from : (a : Action) (known next : Known) (after : List ValType) → acted a known ≡ Some next → Fits next after → (before : List ValType) × Fits known before × Acts a before after
unfolding acted
acted_from Wrong known next after e f = absurd cc
acted_from (Takes ins outs) known next after e f =
    let s = map_some (take_all ins known) (put_all outs) next e in
    let w = was_put outs s.0 after (subst (λ k. Fits k after) (sym s.2) f) in
    (ins ++ w.0, all_taken ins known s.0 w.0 s.1 w.2, record { below = w.0; had = refl; has = w.1 })
acted_from (Ends ins) known next after e f =
    let s = map_some (take_all ins known) (λ k. unreached) next e in
    let b = some_below s.0.dead s.0.types in
    (ins ++ b.0, all_taken ins known s.0 b.0 s.1 b.1, record { below = b.0; had = refl })
acted_from Drops known next after e f =
    let s = map_some (take_any known) (λ (taken : Option ValType × Known). taken.1) next e in
    let type = type_of s.0.0 in
    (type ∷ after, any_taken known.dead known.types s.0 type after s.1 (may_be_type_of s.0.0) (subst (λ k. Fits k after) (sym s.2) f), (type, record { below = after; had = refl; has = refl }))
acted_from Selects known next after e f =
    let i = then_some (take_one I32 known) _ next e in
    let b = then_some (take_any i.0) _ next i.2 in
    let a = then_some (take_any b.0.1) _ next b.2 in
    let t = map_some (joined a.0.0 b.0.0) (λ t. put_one t a.0.1) next a.2 in
    selected known next after i.0 b.0 a.0 t.0 i.1 b.1 a.1 t.1 t.2 f
  where
    selected : (known next : Known) (after : List ValType) (k : Known) (b a : Option ValType × Known) (t : Option ValType) → take_one I32 known ≡ Some k → take_any k ≡ Some b → take_any b.1 ≡ Some a → joined a.0 b.0 ≡ Some t → put_one t a.1 ≡ next → Fits next after
        → (before : List ValType) × Fits known before × ((type : ValType) × TakesTypes (I32 ∷ type ∷ type ∷ []) (type ∷ []) before after)
    selected known next [] k b a t ei eb ea et en f = absurd (subst (λ k. Fits k []) (sym en) f)
    selected known next (type ∷ below) k b a t ei eb ea et en f =
        let g : (may_be t type ≡ true) × Fits a.1 below = subst (λ k. Fits k (type ∷ below)) (sym en) f in
        let j = joined_fits a.0 b.0 t type et g.0 in
        let fa = any_taken b.1.dead b.1.types a type below ea j.0 g.1 in
        let fb = any_taken k.dead k.types b type (type ∷ below) eb j.1 fa in
        (I32 ∷ type ∷ type ∷ below, one_taken I32 known.dead known.types k (type ∷ type ∷ below) ei fb, (type, record { below = below; had = refl; has = refl }))

pub acted_to : (a : Action) (known : Known) (before after : List ValType) → Fits known before → Acts a before after → (next : Known) × (acted a known ≡ Some next) × Fits next after
unfolding acted
acted_to Wrong known before after f h = absurd h
acted_to (Takes ins outs) known before after f h =
    let t = all_takes ins known h.below (subst (λ l. Fits known l) h.had f) in
    (put_all outs t.0, ap (option_map (put_all outs)) t.1, subst (λ l. Fits (put_all outs t.0) l) (sym h.has) (all_put outs t.0 h.below t.2))
acted_to (Ends ins) known before after f h =
    let t = all_takes ins known h.below (subst (λ l. Fits known l) h.had f) in
    (unreached, ap (option_map (λ k. unreached)) t.1, tt)
acted_to Drops known before after f h =
    let t = any_takes known.dead known.types h.0 h.1.below (subst (λ l. Fits known l) h.1.had f) in
    (t.0.1, ap (option_map (λ (taken : Option ValType × Known). taken.1)) t.1, subst (λ l. Fits t.0.1 l) (sym h.1.has) t.3)
acted_to Selects known before after f h =
    let type = h.0 in
    let below = h.1.below in
    let i = one_takes I32 known.dead known.types (type ∷ type ∷ below) (subst (λ l. Fits known l) h.1.had f) in
    let b = any_takes i.0.dead i.0.types type (type ∷ below) i.2 in
    let a = any_takes b.0.1.dead b.0.1.types type below b.3 in
    let t = joins a.0.0 b.0.0 type a.2 b.2 in
    (put_one t.0 a.0.1, rw (i.1, b.1, a.1, t.1) refl, subst (λ l. Fits (put_one t.0 a.0.1) l) (sym h.1.has) (t.2, a.3))
