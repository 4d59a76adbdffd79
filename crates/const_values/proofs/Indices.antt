-- Elements of constant arrays, position by position.
use Rattle.std.specs.Prelude.{◌≡◌, ◌≢◌, refl, ℕ, zero, suc, ◌<◌, nat_lt, ℤ, pos, negsuc, Bool, true, false, if◌then◌else◌, List, [], ◌∷◌, ◌++◌, slice_get, Option, Some, None, is_some, option_map, option_and_then, Ok}
use Rattle.std.specs.Option.{option_copied}
use Rattle.std.proofs.Common.{Bor, ap, sym, ◌∙◌, subst, inl, arith}
use Rattle.std.proofs.Math.Nat.{mod-eq_of_lt}
use Rattle.std.proofs.lemmas.Int.{ints}
use Rattle.cm_base.specs.declared.cause.Cause.TheVariants as cause
use Rattle.cm_base.specs.declared.place.Place.{Place}
use Rattle.cm_base.specs.declared.failure.Fail.{Fail}
use Rattle.cm_base.specs.declared.failure.Fail.TheVariants as fail
use Rattle.cm_number.specs.Conversion.{floor_modulus}
use Rattle.cm_number.proofs.Public.{floor_modulus_only}
use Rattle.cm_types.specs.declared.value.Value.{Value as CodeValue}
use Rattle.cm_types.specs.declared.valued.Valued.{Valued as CodeValued}
use Rattle.cm_types.specs.Lawful.{IsSound}
use Rattle.cm_types.specs.Meant.{meant_type, meant_value, meant_values, meant_valued}
use Rattle.cm_meaning.specs.Faults.{fault, unless}
use Rattle.cm_meaning.specs.Types.{CmType, Single, Array, Record, Value, Number, Truth, Many, Values, NoValues, Then, is_of, are_elements, number_of}
use Rattle.cm_meaning.specs.Conversions.{Valued, is_number, is_condition, known}
use Rattle.cm_meaning.specs.Constants.{element_in, element_of}
use Rattle.cm_meaning.specs.TypeOf.{element_type}
use Rattle.cm_meaning.specs.TypeRows.{is_index, range_rows}
use Rattle.cm_meaning.specs.Exact.{In, in_left, in_right}
use Rattle.const_values.specs.Answers.{Refuses, Gives}
use Rattle.const_values.specs.Elements.{array_count, at_in, part_at, at_number, indexed_value, index_faults}
use Rattle.const_values.proofs.Operands.{no, sound_number, refuses}
use Rattle.const_values.proofs.Parts.{and_left, and_right}

none_some : {A : Type 0} (x : A) → None ≡ Some x → ⊥
none_some x h = cc

some_is : {A : Type 0} (x y : A) → Some x ≡ Some y → x ≡ y
some_is x y e = cc

-- ---- positions

at_values : (all : List CodeValue) (k : ℕ) → option_map meant_value (slice_get all k) ≡ at_in (meant_values all) k
unfolding at_in meant_values
at_values [] k = refl
at_values (a ∷ all) zero = refl
at_values (a ∷ all) (suc k) = at_values all k

lent : (o : Option (Bor CodeValue)) → option_map (λ (v : Bor CodeValue). meant_value v.now) o ≡ option_map meant_value (option_copied o)
lent None = refl
lent (Some v) = refl

pub part_many : (all : List CodeValue) (k : ℕ) (o : Option (Bor CodeValue)) → option_copied o ≡ slice_get all k → option_map (λ (v : Bor CodeValue). meant_value v.now) o ≡ at_in (meant_values all) k
part_many all k o e = lent o ∙ ap (option_map meant_value) e ∙ at_values all k

if_true : {A : Type 0} (b : Bool) (x y : A) → b ≡ true → (if b then x else y) ≡ x
if_true true x y e = refl
if_true false x y e = no e

if_false : {A : Type 0} (b : Bool) (x y : A) → b ≡ false → (if b then x else y) ≡ y
if_false false x y e = refl
if_false true x y e = no (sym e)

below : (k n : ℕ) → k < n → nat_lt k n ≡ true
below k n h = grind arith

not_below : (k n : ℕ) → (k < n → ⊥) → nat_lt k n ≡ false
not_below k n h = grind (arith, h)

pub at_none : (a : Valued) (z : ℤ) (n : ℕ) → n ≡ array_count a.ty → n ≡ 0 → None ≡ at_number a z
at_none a (pos k) n e none = sym (if_false (nat_lt k (array_count a.ty)) (part_at a.value k) None (not_below k (array_count a.ty) (λ h. omega (arith, h, e, none))))
at_none a (negsuc k) n e none = refl

remainder_is : (k n : ℕ) → k < n → floor_modulus (pos k) n ≡ k
unfolding floor_modulus
remainder_is k n h = mod-eq_of_lt h

pub at_other : (a : Valued) (z : ℤ) (n m : ℕ) → n ≡ array_count a.ty → m ≡ floor_modulus z n → pos m ≢ z → None ≡ at_number a z
at_other a (pos k) n m e f differ =
    sym (if_false (nat_lt k (array_count a.ty)) (part_at a.value k) None
    (not_below k (array_count a.ty) (λ h. differ (ap pos (f ∙ remainder_is k n (subst (λ (x : ℕ). k < x) (sym e) h))))))
at_other a (negsuc k) n m e f differ = refl

pub at_same : (a : Valued) (z : ℤ) (n m : ℕ) → n ≡ array_count a.ty → 0 < n → m ≡ floor_modulus z n → pos m ≡ z → part_at a.value m ≡ at_number a z
at_same a z n m e some f same =
    let r = (floor_modulus_only n z m some).0 f in
    let h : m < n = omega (arith, ints, r.below) in
    subst (λ (y : ℤ). part_at a.value m ≡ at_number a y) same
    (sym (if_true (nat_lt m (array_count a.ty)) (part_at a.value m) None (below m (array_count a.ty) (subst (λ (x : ℕ). m < x) e h))))

-- ---- elements

element_at : (t : CmType) (all : Values) (k : ℕ) (w : Value) → at_in all k ≡ Some w → element_in t all k ≡ Some (record { ty = t; value = w })
unfolding at_in element_in
element_at t NoValues k w e = absurd (none_some w e)
element_at t (Then v vs) zero w e = ap (λ (v : Value). Some (record { ty = t; value = v })) (some_is v w e)
element_at t (Then v vs) (suc k) w e = element_at t vs k w e

-- an array has a value of its type at each position
pub elements_at : (n : ℕ) (t : CmType) (all : Values) (k : ℕ) → are_elements n t all ≡ true → k < n → (w : Value) × ((at_in all k ≡ Some w) × (is_of t w ≡ true))
unfolding at_in are_elements is_of
elements_at zero t all k e h = absurd (omega (arith, h))
elements_at (suc n) t NoValues k e h = no e
elements_at (suc n) t (Then v vs) zero e h = (v, (refl, and_left (is_of t v) (are_elements n t vs) e))
elements_at (suc n) t (Then v vs) (suc k) e h = elements_at n t vs k (and_right (is_of t v) (are_elements n t vs) e) (omega (arith, h))

abbrev typed_value : CmType → Value → Valued
typed_value t v = record { ty = t; value = v }

-- a position that the array has, and one that it hasn't
abbrev Found : Valued → Valued → CmType → Value → Type 0
Found a i t w = (n : ℕ) × ((all : Values) × ((k : ℕ) × ((a ≡ typed_value (Array n t) (Many all)) × ((number_of i.value ≡ Some (pos k)) × ((nat_lt k n ≡ true) × (at_in all k ≡ Some w))))))

found_in : (n : ℕ) (u : CmType) (all : Values) (i : Valued) (t : CmType) (w : Value) (z : Option ℤ) → Some t ≡ Some u → number_of i.value ≡ z
    → Some w ≡ option_and_then (at_number (typed_value (Array n u) (Many all))) z → Found (typed_value (Array n u) (Many all)) i t w
found_in n u all i t w None e is f = absurd (none_some w (sym f))
found_in n u all i t w (Some (negsuc k)) e is f = absurd (none_some w (sym f))
found_in n u all i t w (Some (pos k)) e is f = by (nat_lt k n) refl f where
  by : (b : Bool) → nat_lt k n ≡ b → Some w ≡ (if b then at_in all k else None) → Found (typed_value (Array n u) (Many all)) i t w
  by true l g = (n, (all, (k, (ap (λ (t : CmType). typed_value (Array n t) (Many all)) (sym (some_is t u e)), (is, (l, sym g))))))
  by false l g = absurd (none_some w (sym g))

none_at : (a : Valued) (z : ℤ) → ((k : ℕ) → part_at a.value k ≡ None) → at_number a z ≡ None
none_at a (negsuc k) h = refl
none_at a (pos k) h = by (nat_lt k (array_count a.ty)) where
  by : (b : Bool) → (if b then part_at a.value k else None) ≡ None
  by true = h k
  by false = refl

none_indexed : (a : Valued) (o : Option ℤ) → ((k : ℕ) → part_at a.value k ≡ None) → option_and_then (at_number a) o ≡ None
none_indexed a None h = refl
none_indexed a (Some z) h = none_at a z h

find_in : (u : CmType) (v : Value) (i : Valued) (t : CmType) (w : Value) → Some t ≡ element_type u → Some w ≡ indexed_value (typed_value u v) i → Found (typed_value u v) i t w
find_in (Array n u) (Many all) i t w e f = found_in n u all i t w (number_of i.value) e refl f
find_in (Array n u) (Number z) i t w e f = absurd (none_some w (sym (none_indexed (typed_value (Array n u) (Number z)) (number_of i.value) (λ k. refl)) ∙ sym f))
find_in (Array n u) (Truth b) i t w e f = absurd (none_some w (sym (none_indexed (typed_value (Array n u) (Truth b)) (number_of i.value) (λ k. refl)) ∙ sym f))
find_in (Single k) v i t w e f = absurd (none_some t (sym e))
find_in (Record p fs) v i t w e f = absurd (none_some t (sym e))

pub found : (a i : Valued) (t : CmType) (w : Value) → Some t ≡ element_type a.ty → Some w ≡ indexed_value a i → Found a i t w
found a i t w e f = find_in a.ty a.value i t w e f

known_is : (i : Valued) → is_number i.ty ≡ true → known i ≡ number_of i.value
known_is i e = if_true (is_number i.ty) (number_of i.value) None e

pos_is : (a b : ℕ) → Some (pos a) ≡ Some (pos b) → a ≡ b
pos_is a b e = cc

element_of_by : (u : CmType) (y : Value) (n : ℕ) (t : CmType) (all : Values) (k : ℕ) → is_number u ≡ true → number_of y ≡ Some (pos k)
    → element_of (typed_value (Array n t) (Many all)) (typed_value u y) ≡ element_in t all k
element_of_by u (Number z) n t all k number e =
    subst (λ (z : ℤ). element_of (typed_value (Array n t) (Many all)) (typed_value u (Number z)) ≡ element_in t all k) (sym (some_is z (pos k) e))
    (if_true (is_number u) (element_in t all k) None number)
element_of_by u (Truth true) n t all k number e = if_true (is_number u) (element_in t all 1) None number ∙ ap (element_in t all) (pos_is 1 k e)
element_of_by u (Truth false) n t all k number e = if_true (is_number u) (element_in t all 0) None number ∙ ap (element_in t all) (pos_is 0 k e)
element_of_by u (Many vs) n t all k number e = absurd (none_some _ e)

module _ (p q : Place) (a i : Valued) (t : CmType) (number : is_number i.ty ≡ true) where
  gives_element : (w : Value) (v : CodeValued) → Found a i t w → w ≡ meant_value v.value → meant_type v.ty ≡ t → Gives (index_faults p q a i) (element_of a i) (element_type a.ty) (Ok v)
  gives_element w v f value ty =
      let n = f.0 in
      let all = f.1.0 in
      let k = f.1.1.0 in
      let is = f.1.1.1.0 in
      let z = f.1.1.1.1.0 in
      subst (λ (b : Valued). Gives (index_faults p q b i) (element_of b i) (element_type b.ty) (Ok v)) (sym is) (
        ap (λ (b : Bool). unless b cause.TypeMismatch q ++ range_rows (Some (Array n t)) (known i) q) number
            ∙ ap (λ (o : Option ℤ). range_rows (Some (Array n t)) o q) (known_is i number ∙ z)
            ∙ ap (λ (b : Bool). unless b cause.IndexRange q) f.1.1.1.1.1.0,
        (
          element_of_by i.ty i.value n t all k number z
              ∙ element_at t all k w f.1.1.1.1.1.1
              ∙ ap (λ (t : CmType). Some (typed_value t w)) (sym ty) ∙ ap (λ (w : Value). Some (typed_value (meant_type v.ty) w)) value,
          ap (λ (t : CmType). Some t) (sym ty),
        ),
      )

-- ---- answers

pub told_element : (p q : Place) (a i : Valued) (t : CmType) (v : CodeValued) → Some t ≡ element_type a.ty → is_number i.ty ≡ true → Some (meant_value v.value) ≡ indexed_value a i
    → meant_type v.ty ≡ t → Gives (index_faults p q a i) (element_of a i) (element_type a.ty) (Ok v)
told_element p q a i t v e number is ty = gives_element p q a i t number (meant_value v.value) v (found a i t (meant_value v.value) e is) refl ty

sound_by : (n : ℕ) (t : CmType) (all : Values) (k : ℕ) (w : Value) → IsSound (typed_value (Array n t) (Many all)) → nat_lt k n ≡ true → at_in all k ≡ Some w → IsSound (typed_value t w)
unfolding is_of
sound_by n t all k w sound l e =
    let h : k < n = grind (arith, l) in
    let f = elements_at n t all k sound.fits h in
    record { lawful = sound.lawful.1; fits = ap (is_of t) (some_is w f.0 (sym e ∙ f.1.0)) ∙ f.1.1 }

pub sound_element : (a i : Valued) (t : CmType) (v : CodeValued) → IsSound a → Some t ≡ element_type a.ty → Some (meant_value v.value) ≡ indexed_value a i → meant_type v.ty ≡ t → IsSound (meant_valued v)
sound_element a i t v sound e is ty =
    let f = found a i t (meant_value v.value) e is in
    subst (λ (u : CmType). IsSound (typed_value u (meant_value v.value))) (sym ty)
    (sound_by f.0 t f.1.0 f.1.1.0 (meant_value v.value) (subst IsSound f.1.1.1.0 sound) f.1.1.1.1.1.0 f.1.1.1.1.1.1)

pub told_not_indexable : (p q : Place) (a i : Valued) (x : Fail) → x ≡ fail.Refused (record { cause = cause.NotIndexable; place = p; cycle = [] }) → None ≡ element_type a.ty
    → Refuses (index_faults p q a i) x
told_not_indexable p q a i x e none =
    refuses (index_faults p q a i) x cause.NotIndexable p e
    (subst (λ (o : Option CmType). In (fault cause.NotIndexable p) (unless (is_some o) cause.NotIndexable p ++ (unless (is_number i.ty) cause.TypeMismatch q ++ range_rows (Some a.ty) (known i) q))) none (inl refl))

pub told_no_index : (p q : Place) (a i : Valued) (x : Fail) → x ≡ fail.Refused (record { cause = cause.TypeMismatch; place = q; cycle = [] }) → is_number i.ty ≡ false
    → Refuses (index_faults p q a i) x
told_no_index p q a i x e none =
    refuses (index_faults p q a i) x cause.TypeMismatch q e
    (in_right (fault cause.TypeMismatch q) (unless (is_some (element_type a.ty)) cause.NotIndexable p) (unless (is_number i.ty) cause.TypeMismatch q ++ range_rows (Some a.ty) (known i) q)
    (in_left (fault cause.TypeMismatch q) (unless (is_number i.ty) cause.TypeMismatch q) (range_rows (Some a.ty) (known i) q)
    (subst (λ (b : Bool). In (fault cause.TypeMismatch q) (unless b cause.TypeMismatch q)) (sym none) (inl refl))))

number_condition : (t : CmType) → is_number t ≡ true → is_condition t ≡ true
number_condition t is = rw is refl

-- an index that the array hasn't
out_of : (n : ℕ) (t : CmType) (all : Values) (z : ℤ) → are_elements n t all ≡ true → None ≡ at_number (typed_value (Array n t) (Many all)) z → is_index n z ≡ false
out_of n t all (negsuc k) sound none = refl
out_of n t all (pos k) sound none = by (nat_lt k n) refl none where
  by : (b : Bool) → nat_lt k n ≡ b → None ≡ (if b then at_in all k else None) → nat_lt k n ≡ false
  by false l e = l
  by true l e = let h : k < n = grind (arith, l) in let f = elements_at n t all k sound h in absurd (none_some f.0 (e ∙ f.1.0))

array_out : (u : CmType) (v : Value) (t : CmType) (z : ℤ) (q : Place) → is_of u v ≡ true → Some t ≡ element_type u → None ≡ at_number (typed_value u v) z
    → In (fault cause.IndexRange q) (range_rows (Some u) (Some z) q)
unfolding is_of
array_out (Array n u) (Many all) t z q sound e none = subst (λ (b : Bool). In (fault cause.IndexRange q) (unless b cause.IndexRange q)) (sym (out_of n u all z sound none)) (inl refl)
array_out (Array n u) (Number y) t z q sound e none = no sound
array_out (Array n u) (Truth b) t z q sound e none = no sound
array_out (Single k) v t z q sound e none = absurd (none_some t (sym e))
array_out (Record p fs) v t z q sound e none = absurd (none_some t (sym e))

pub told_out : (p q : Place) (a i : Valued) (t : CmType) (x : Fail) → x ≡ fail.Refused (record { cause = cause.IndexRange; place = q; cycle = [] }) → Some t ≡ element_type a.ty
    → is_number i.ty ≡ true → IsSound a → IsSound i → None ≡ indexed_value a i → Refuses (index_faults p q a i) x
told_out p q a i t x e typed number sound also none =
    let m = sound_number i also (number_condition i.ty number) in
    refuses (index_faults p q a i) x cause.IndexRange q e
    (in_right (fault cause.IndexRange q) (unless (is_some (element_type a.ty)) cause.NotIndexable p) (unless (is_number i.ty) cause.TypeMismatch q ++ range_rows (Some a.ty) (known i) q)
    (in_right (fault cause.IndexRange q) (unless (is_number i.ty) cause.TypeMismatch q) (range_rows (Some a.ty) (known i) q)
    (subst (λ (o : Option ℤ). In (fault cause.IndexRange q) (range_rows (Some a.ty) o q)) (sym (known_is i number ∙ m.1))
    (array_out a.ty a.value t m.0 q sound.fits typed (none ∙ ap (option_and_then (at_number a)) m.1)))))
