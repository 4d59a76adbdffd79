-- Fields of constant structs, one after another.
use Rattle.std.specs.Prelude.{◌≡◌, refl, ℕ, Bool, true, false, if◌then◌else◌, List, [], Option, Some, None, is_some, bytes_eq, Ok}
use Rattle.std.proofs.Common.{ap, sym, subst, inl}
use Rattle.cm_base.specs.declared.cause.Cause.TheVariants as cause
use Rattle.cm_base.specs.declared.failure.Fail.{Fail}
use Rattle.cm_base.specs.declared.failure.Fail.TheVariants as fail
use Rattle.cm_tree.specs.declared.path.Word.{Word}
use Rattle.cm_types.specs.declared.valued.Valued.{Valued as CodeValued}
use Rattle.cm_types.specs.Lawful.{AreLawfulTypes, IsSound}
use Rattle.cm_types.specs.Meant.{meant_valued}
use Rattle.cm_meaning.specs.Faults.{fault, unless}
use Rattle.cm_meaning.specs.Types.{CmType, Single, Array, Record, FieldTypes, NoFields, Field, Value, Number, Truth, Many, Values, NoValues, Then, is_of, are_fields}
use Rattle.cm_meaning.specs.Conversions.{Valued}
use Rattle.cm_meaning.specs.Constants.{field_in, field_of}
use Rattle.cm_meaning.specs.TypeOf.{field_type, member_type}
use Rattle.cm_meaning.specs.Exact.{In}
use Rattle.const_values.specs.Answers.{Refuses, Gives}
use Rattle.const_values.specs.Members.{member_faults}
use Rattle.const_values.proofs.Operands.{no, refuses}
use Rattle.const_values.proofs.Parts.{and_left, and_right}

none_some : {A : Type 0} (x : A) → None ≡ Some x → ⊥
none_some x h = cc

some_is : {A : Type 0} (x y : A) → Some x ≡ Some y → x ≡ y
some_is x y e = cc

abbrev typed_value : CmType → Value → Valued
typed_value t v = record { ty = t; value = v }

typed_step : (b : Bool) (t : CmType) (v : Value) (w : Valued) (r : Option Valued) (f : Option CmType) → (Some w ≡ r → f ≡ Some w.ty)
    → Some w ≡ (if b then Some (typed_value t v) else r) → (if b then Some t else f) ≡ Some w.ty
typed_step true t v w r f rest e = ap (λ (x : Valued). Some x.ty) (sym (some_is w (typed_value t v) e))
typed_step false t v w r f rest e = rest e

-- a field's value has the field's type
fields_typed : (n : List ℕ) (fs : FieldTypes) (vs : Values) (w : Valued) → Some w ≡ field_in n fs vs → field_type n fs ≡ Some w.ty
unfolding field_in field_type
fields_typed n NoFields vs w e = absurd (none_some w (sym e))
fields_typed n (Field k t fs) NoValues w e = absurd (none_some w (sym e))
fields_typed n (Field k t fs) (Then v vs) w e = typed_step (bytes_eq k n) t v w (field_in n fs vs) (field_type n fs) (fields_typed n fs vs w) e

missing_step : (b : Bool) (t : CmType) (v : Value) (r : Option Valued) (f : Option CmType) → (None ≡ r → f ≡ None)
    → None ≡ (if b then Some (typed_value t v) else r) → (if b then Some t else f) ≡ None
missing_step true t v r f rest e = absurd (none_some (typed_value t v) e)
missing_step false t v r f rest e = rest e

-- a struct with all its values has each field that its type has
fields_missing : (n : List ℕ) (fs : FieldTypes) (vs : Values) → are_fields fs vs ≡ true → None ≡ field_in n fs vs → field_type n fs ≡ None
unfolding field_in field_type are_fields is_of
fields_missing n NoFields vs all none = refl
fields_missing n (Field k t fs) NoValues all none = no all
fields_missing n (Field k t fs) (Then v vs) all none =
    missing_step (bytes_eq k n) t v (field_in n fs vs) (field_type n fs) (fields_missing n fs vs (and_right (is_of t v) (are_fields fs vs) all)) none

sound_step : (b : Bool) (t : CmType) (v : Value) (w : Valued) (r : Option Valued) → IsSound (typed_value t v) → (Some w ≡ r → IsSound w)
    → Some w ≡ (if b then Some (typed_value t v) else r) → IsSound w
sound_step true t v w r sound rest e = subst IsSound (sym (some_is w (typed_value t v) e)) sound
sound_step false t v w r sound rest e = rest e

fields_sound : (n : List ℕ) (fs : FieldTypes) (vs : Values) (w : Valued) → AreLawfulTypes fs → are_fields fs vs ≡ true → Some w ≡ field_in n fs vs → IsSound w
unfolding field_in are_fields is_of
fields_sound n NoFields vs w lawful all e = absurd (none_some w (sym e))
fields_sound n (Field k t fs) NoValues w lawful all e = absurd (none_some w (sym e))
fields_sound n (Field k t fs) (Then v vs) w lawful all e =
    sound_step (bytes_eq k n) t v w (field_in n fs vs) (record { lawful = lawful.0; fits = and_left (is_of t v) (are_fields fs vs) all })
    (fields_sound n fs vs w lawful.1 (and_right (is_of t v) (are_fields fs vs) all)) e

member_typed : (n : List ℕ) (t : CmType) (v : Value) (w : Valued) → Some w ≡ field_of n (typed_value t v) → member_type n t ≡ Some w.ty
member_typed n (Record p fs) (Many all) w e = fields_typed n fs all w e
member_typed n (Record p fs) (Number z) w e = absurd (none_some w (sym e))
member_typed n (Record p fs) (Truth b) w e = absurd (none_some w (sym e))
member_typed n (Single k) v w e = absurd (none_some w (sym e))
member_typed n (Array m t) v w e = absurd (none_some w (sym e))

member_missing : (n : List ℕ) (t : CmType) (v : Value) → is_of t v ≡ true → None ≡ field_of n (typed_value t v) → member_type n t ≡ None
unfolding is_of
member_missing n (Record p fs) (Many all) is none = fields_missing n fs all is none
member_missing n (Record p fs) (Number z) is none = no is
member_missing n (Record p fs) (Truth b) is none = no is
member_missing n (Single k) v is none = refl
member_missing n (Array m t) v is none = refl

member_sound : (n : List ℕ) (t : CmType) (v : Value) (w : Valued) → IsSound (typed_value t v) → Some w ≡ field_of n (typed_value t v) → IsSound w
unfolding is_of
member_sound n (Record p fs) (Many all) w sound e = fields_sound n fs all w sound.lawful sound.fits e
member_sound n (Record p fs) (Number z) w sound e = absurd (none_some w (sym e))
member_sound n (Record p fs) (Truth b) w sound e = absurd (none_some w (sym e))
member_sound n (Single k) v w sound e = absurd (none_some w (sym e))
member_sound n (Array m t) v w sound e = absurd (none_some w (sym e))

pub told_member : (w : Word) (a : Valued) (v : CodeValued) → Some (meant_valued v) ≡ field_of w.text a → Gives (member_faults w a) (field_of w.text a) (member_type w.text a.ty) (Ok v)
told_member w a v e =
    let t = member_typed w.text a.ty a.value (meant_valued v) e in
    (ap (λ (o : Option CmType). unless (is_some o) cause.NoMember w.place) t, (sym e, t))

pub told_no_member : (w : Word) (a : Valued) (x : Fail) → x ≡ fail.Refused (record { cause = cause.NoMember; place = w.place; cycle = [] }) → IsSound a → None ≡ field_of w.text a
    → Refuses (member_faults w a) x
told_no_member w a x e sound none =
    refuses (member_faults w a) x cause.NoMember w.place e
    (subst (λ (o : Option CmType). In (fault cause.NoMember w.place) (unless (is_some o) cause.NoMember w.place)) (sym (member_missing w.text a.ty a.value sound.fits none)) (inl refl))

pub sound_member : (w : Word) (a : Valued) (v : CodeValued) → IsSound a → Some (meant_valued v) ≡ field_of w.text a → IsSound (meant_valued v)
sound_member w a v sound e = member_sound w.text a.ty a.value (meant_valued v) sound e
