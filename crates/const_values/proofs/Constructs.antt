-- What is answered for an expression, from what is answered for its parts, kind by kind.
use Rattle.std.specs.Prelude.{◌≡◌, refl, ℤ, Bool, true, false, ◌&&◌, ◌||◌, if◌then◌else◌, List, [], ◌++◌, Option, Some, None, is_some, option_map, option_and_then, Result, Ok, Err, IsErr, IsErrAnd, FitsSigned}
use Rattle.std.specs.Int.{w64}
use Rattle.std.proofs.Common.{ap, sym, ◌∙◌, subst, inl}
use Rattle.cm_base.specs.declared.cause.Cause.{Cause}
use Rattle.cm_base.specs.declared.cause.Cause.TheVariants as cause
use Rattle.cm_base.specs.declared.place.Place.{Place}
use Rattle.cm_base.specs.declared.host.Scalar.TheVariants as kind
use Rattle.cm_base.specs.declared.failure.Fail.{Fail}
use Rattle.cm_base.specs.declared.failure.Fail.TheVariants as fail
use Rattle.cm_number.specs.Conversion.{to_bool}
use Rattle.cm_number.proofs.Public.{to_signed_fits}
use Rattle.cm_tree.specs.declared.path.Path.{Path}
use Rattle.cm_tree.specs.declared.path.Word.{Word}
use Rattle.cm_tree.specs.declared.operator.Unary.{Unary}
use Rattle.cm_tree.specs.declared.operator.Binary.{Binary}
use Rattle.cm_tree.specs.declared.expr.Expr.{Expr}
use Rattle.cm_tree.specs.declared.expr.Expr.TheVariants as e
use Rattle.cm_tree.specs.Levels.{place}
use Rattle.cm_types.specs.declared.valued.Valued.{Valued as CodeValued}
use Rattle.cm_types.specs.Meant.{meant_type, meant_value, meant_valued}
use Rattle.cm_meaning.specs.Scopes.{Around, find}
use Rattle.cm_meaning.specs.Faults.{Fault, fault, unless}
use Rattle.cm_meaning.specs.Types.{CmType, int32, int64, bool, Value, Number, Truth, holds, scalar_value, number_of}
use Rattle.cm_meaning.specs.Conversions.{Valued, is_number, known, is_condition, operated, operated_alone, chosen, operate, operate_alone, choose, fitted, with_type}
use Rattle.cm_meaning.specs.Constants.{value_in, eval, both, element_of, field_of}
use Rattle.cm_meaning.specs.TypeOf.{Knowledge, type_of, type_of_value, is_constant, is_constant_name, both_types, member_type, element_type, known_number}
use Rattle.cm_meaning.specs.TypeEquations.{eval-Number, eval-Truth, eval-Name, eval-Paren, eval-Field, eval-Index, eval-Unary, eval-Binary, eval-Choice, type_of-Number, type_of-Truth, type_of-Name, type_of-Paren, type_of-Field, type_of-Index, type_of-Unary, type_of-Binary, type_of-Choice}
use Rattle.cm_meaning.specs.DemandEquations.{is_constant-Name, is_constant-Paren, is_constant-Field, is_constant-Index, is_constant-Unary, is_constant-Binary, is_constant-Choice}
use Rattle.cm_meaning.specs.Demands.{Operates, OperatesAlone, Chooses, Indexes, Selects, IsCondition, IsConstant}
use Rattle.cm_meaning.specs.TypeRows.{rows_of, operand_rows, is_division, divisor_rows, zero_rows, constant_number, if_typed, range_rows}
use Rattle.cm_meaning.specs.Exact.{In, in_left, in_right}
use Rattle.const_values.specs.declared.names.Argument.{Argument}
use Rattle.const_values.specs.Names.{Known, means}
use Rattle.const_values.specs.Literals.{literals_fit-Number}
use Rattle.const_values.specs.Answers.{Refuses, Gives, own_faults, constant_faults, Stands, Judges, Tells, TellsConstant}
use Rattle.const_values.specs.Elements.{index_faults}
use Rattle.const_values.specs.Members.{member_faults}
use Rattle.const_values.specs.Operations.{divisor, operation_faults, alone_faults, choice_faults, arm_value}
use Rattle.const_values.proofs.Operands.{no, refuses}
use Rattle.const_values.proofs.Arms.{equal}
use Rattle.const_values.proofs.Forms.{read_name}
use Rattle.const_values.proofs.Typed.{constant_type}
use Rattle.const_values.proofs.Parts.{and_left, and_right, in_paren, in_unary, in_left as stands_left, in_right as stands_right, in_struct, in_array, in_index, in_test, in_one, in_other, faults-Number, faults-Truth, faults-Name, faults-Paren, faults-Unary, faults-Binary, faults-Field, faults-Index, faults-Choice, faults-constant}

-- ---- answers put together

-- a refusal of a part in front, and of what is behind it
pub passed : (all xs ys : List Fault) (x : Fail) → all ≡ xs ++ ys → Refuses xs x → Refuses all x
passed all xs ys (fail.Refused f) e h = subst (In (fault f.cause f.place)) (sym e) (in_left (fault f.cause f.place) xs ys h)
passed all xs ys fail.NoMemory e h = tt

pub passed_on : (all xs ys : List Fault) (x : Fail) → all ≡ xs ++ ys → Refuses ys x → Refuses all x
passed_on all xs ys (fail.Refused f) e h = subst (In (fault f.cause f.place)) (sym e) (in_right (fault f.cause f.place) xs ys h)
passed_on all xs ys fail.NoMemory e h = tt

-- what is behind a part that has no fault decides
pub behind : (all xs ys : List Fault) (v w : Option Valued) (t u : Option CmType) (x : Result CodeValued Fail) → all ≡ xs ++ ys → xs ≡ [] → w ≡ v → u ≡ t → Gives ys v t x → Gives all w u x
behind all xs ys v w t u (Ok a) e none f g h = (e ∙ ap (λ (l : List Fault). l ++ ys) none ∙ h.0, (f ∙ h.1.0, g ∙ h.1.1))
behind all xs ys v w t u (Err x) e none f g h = passed_on all xs ys x e h

-- the same faults, value and type
pub same_answer : (all xs : List Fault) (v w : Option Valued) (t u : Option CmType) (x : Result CodeValued Fail) → all ≡ xs → w ≡ v → u ≡ t → Gives xs v t x → Gives all w u x
same_answer all xs v w t u x e f g h = behind all [] xs v w t u x e refl f g h

-- ---- literals

literal_value : (z : ℤ) (wide : Bool) (v : Value) → (wide || holds kind.Int32 z) ≡ true → FitsSigned w64 z → v ≡ scalar_value (if wide then kind.Int64 else kind.Int32) z → v ≡ Number z
literal_value z true v fits long is = is ∙ ap Number (to_signed_fits w64 z long)
literal_value z false v fits long is = is ∙ ap Number (equal _ _ fits)

literal_type : (wide : Bool) (t : CmType) → t ≡ (if wide then int64 else int32) → Some (if wide then int64 else int32) ≡ Some t
literal_type wide t e = ap (λ (t : CmType). Some t) (sym e)

module _ (finds : Path → Known) (args : List Argument) where
  pub told_number : (p : Place) (z : ℤ) (wide : Bool) (v : CodeValued) → meant_type v.ty ≡ (if wide then int64 else int32) → FitsSigned w64 z
      → meant_value v.value ≡ scalar_value (if wide then kind.Int64 else kind.Int32) z → Tells finds args (e.Number p z wide) (Ok v)
  told_number p z wide v ty long value = record {
    told = λ r k s is. (
      faults-Number r k p z wide,
      (
        eval-Number r k.look p z wide ∙ ap (λ (t : CmType). Some (record { ty = t; value = Number z })) (sym ty)
            ∙ ap (λ (w : Value). Some (record { ty = meant_type v.ty; value = w })) (sym (literal_value z wide (meant_value v.value) (sym (literals_fit-Number p z wide) ∙ s.literals) long value)),
        type_of-Number r k p z wide ∙ ap (λ (t : CmType). Some t) (sym ty),
      ),
    );
  }

  pub told_truth : (p : Place) (b : Bool) (v : CodeValued) → meant_type v.ty ≡ bool → meant_value v.value ≡ Truth b → Tells finds args (e.Truth p b) (Ok v)
  told_truth p b v ty value = record {
    told = λ r k s _. (
      faults-Truth r k p b,
      (
        eval-Truth r k.look p b ∙ ap (λ (t : CmType). Some (record { ty = t; value = Truth b })) (sym ty)
            ∙ ap (λ (w : Value). Some (record { ty = meant_type v.ty; value = w })) (sym value),
        type_of-Truth r k p b ∙ ap (λ (t : CmType). Some t) (sym ty),
      ),
    );
  }

  -- of the same expression, and of the same answer
  pub told_as : (a c : Expr) (x y : Result CodeValued Fail) → c ≡ a → y ≡ x → Tells finds args a x → Tells finds args c y
  told_as a c x y same is h = subst (λ (b : Expr). Tells finds args b y) (sym same) (subst (λ (z : Result CodeValued Fail). Tells finds args a z) (sym is) h)

  -- ---- names

  named_there : (r : Around) (k : Knowledge) (q : Path) → Stands finds args r k (e.Name q) → is_constant r (e.Name q) ≡ true → is_constant_name (find r q) ≡ true
  named_there r k q s is = sym (is_constant-Name r q) ∙ is

  pub told_name : (q : Path) (v : CodeValued) → Some (meant_valued v) ≡ value_in (means args (finds q)) → Tells finds args (e.Name q) (Ok v)
  told_name q v found = record {
    told = λ r k s is.
        let a = read_name finds args r k q s in
        let there = named_there r k q s is in
        let value = a.value there ∙ sym found in (
          faults-Name r k q,
          (
            eval-Name r k.look q ∙ value,
            type_of-Name r k q ∙ constant_type r.all k (find r q) there ∙ ap type_of_value value,
          ),
        );
  }

  pub told_no_name : (q : Path) (x : Fail) → None ≡ value_in (means args (finds q)) → Tells finds args (e.Name q) (Err x)
  told_no_name q x none = record {
    told = λ r k s is.
        let a = read_name finds args r k q s in
        no (ap (λ (v : Option Valued). is_some v) none ∙ sym a.named_value ∙ named_there r k q s is);
  }

  pub told_name_unmade : (q : Path) → Tells finds args (e.Name q) (Err fail.NoMemory)
  told_name_unmade q = record { told = λ r k s is. tt }

  -- ---- parentheses and operators

  pub told_paren : (p : Place) (a : Expr) (x : Result CodeValued Fail) → Tells finds args a x → Tells finds args (e.Paren p a) x
  told_paren p a x h = record {
    told = λ r k s is. same_answer (own_faults r k (e.Paren p a)) (own_faults r k a) (eval r k.look a) (eval r k.look (e.Paren p a)) (type_of r k a) (type_of r k (e.Paren p a)) x
        (faults-Paren r k p a) (eval-Paren r k.look p a) (type_of-Paren r k p a) (h.told r k (in_paren finds args r k p a s) (sym (is_constant-Paren r p a) ∙ is));
  }

  pub unary_refused : (p : Place) (o : Unary) (a : Expr) (x : Fail) → Tells finds args a (Err x) → Tells finds args (e.Unary p o a) (Err x)
  unary_refused p o a x h = record {
    told = λ r k s is. passed (own_faults r k (e.Unary p o a)) (own_faults r k a) (rows_of r k (OperatesAlone p o a)) x
        (faults-Unary r k p o a) (h.told r k (in_unary finds args r k p o a s) (sym (is_constant-Unary r p o a) ∙ is));
  }

  pub told_unary : (p : Place) (o : Unary) (a : Expr) (v : CodeValued) (x : Result CodeValued Fail) → Tells finds args a (Ok v)
      → Gives (alone_faults o p (meant_valued v)) (operate_alone o (meant_valued v)) (operated_alone o (meant_type v.ty)) x → Tells finds args (e.Unary p o a) x
  told_unary p o a v x h g = record {
    told = λ r k s is.
        let t = h.told r k (in_unary finds args r k p o a s) (sym (is_constant-Unary r p o a) ∙ is) in
        behind (own_faults r k (e.Unary p o a)) (own_faults r k a) (alone_faults o p (meant_valued v)) (operate_alone o (meant_valued v)) (eval r k.look (e.Unary p o a))
        (operated_alone o (meant_type v.ty)) (type_of r k (e.Unary p o a)) x
        (faults-Unary r k p o a ∙ ap (λ (t : Option CmType). own_faults r k a ++ if_typed t (λ (t : CmType). is_some (operated_alone o t)) cause.TypeMismatch p) t.1.1)
        t.0
        (eval-Unary r k.look p o a ∙ ap (option_and_then (operate_alone o)) t.1.0)
        (type_of-Unary r k p o a ∙ ap (option_and_then (operated_alone o)) t.1.1)
        g;
  }

  binary_left : (r : Around) (p : Place) (o : Binary) (a c : Expr) → is_constant r (e.Binary p o a c) ≡ true → is_constant r a ≡ true
  binary_left r p o a c is = and_left (is_constant r a) (is_constant r c) (sym (is_constant-Binary r p o a c) ∙ is)

  binary_right : (r : Around) (p : Place) (o : Binary) (a c : Expr) → is_constant r (e.Binary p o a c) ≡ true → is_constant r c ≡ true
  binary_right r p o a c is = and_right (is_constant r a) (is_constant r c) (sym (is_constant-Binary r p o a c) ∙ is)

  pub left_refused : (p : Place) (o : Binary) (a c : Expr) (x : Fail) → Tells finds args a (Err x) → Tells finds args (e.Binary p o a c) (Err x)
  left_refused p o a c x h = record {
    told = λ r k s is. passed (own_faults r k (e.Binary p o a c)) (own_faults r k a) (own_faults r k c ++ rows_of r k (Operates p o a c)) x
        (faults-Binary r k p o a c) (h.told r k (stands_left finds args r k p o a c s) (binary_left r p o a c is));
  }

  pub right_refused : (p : Place) (o : Binary) (a c : Expr) (x : Fail) → Tells finds args c (Err x) → Tells finds args (e.Binary p o a c) (Err x)
  right_refused p o a c x h = record {
    told = λ r k s is. passed_on (own_faults r k (e.Binary p o a c)) (own_faults r k a) (own_faults r k c ++ rows_of r k (Operates p o a c)) x
        (faults-Binary r k p o a c)
        (passed (own_faults r k c ++ rows_of r k (Operates p o a c)) (own_faults r k c) (rows_of r k (Operates p o a c)) x refl
        (h.told r k (stands_right finds args r k p o a c s) (binary_right r p o a c is)));
  }

  divisor_is : (r : Around) (k : Knowledge) (d : Bool) (c : Expr) (y : Valued) → is_constant r c ≡ true → eval r k.look c ≡ Some y → divisor_rows r k d c ≡ divisor d y (place c)
  divisor_is r k false c y is e = refl
  divisor_is r k true c y is e =
      ap (λ (b : Bool). unless b cause.DivisorNotConstant (place c) ++ zero_rows (constant_number r k c) (place c)) is
      ∙ ap (λ (v : Option Valued). zero_rows (option_and_then (λ (v : Valued). number_of v.value) v) (place c)) e

  operates_is : (r : Around) (k : Knowledge) (p : Place) (o : Binary) (a c : Expr) (x y : Valued) → is_constant r c ≡ true → eval r k.look c ≡ Some y
      → type_of r k a ≡ Some x.ty → type_of r k c ≡ Some y.ty → rows_of r k (Operates p o a c) ≡ operation_faults o p (place c) x y
  operates_is r k p o a c x y is value left right =
      ap (λ (t : Option CmType). operand_rows (operated o) t (type_of r k c) p ++ divisor_rows r k (is_division o) c) left
      ∙ ap (λ (t : Option CmType). operand_rows (operated o) (Some x.ty) t p ++ divisor_rows r k (is_division o) c) right
      ∙ ap (λ (l : List Fault). operand_rows (operated o) (Some x.ty) (Some y.ty) p ++ l) (divisor_is r k (is_division o) c y is value)

  told_operation : (p : Place) (o : Binary) (a c : Expr) (v w : CodeValued) (x : Result CodeValued Fail) → Tells finds args a (Ok v) → Tells finds args c (Ok w)
      → Gives (operation_faults o p (place c) (meant_valued v) (meant_valued w)) (operate o (meant_valued v) (meant_valued w)) (operated o (meant_type v.ty) (meant_type w.ty)) x
      → Tells finds args (e.Binary p o a c) x
  told_operation p o a c v w x h g own = record {
    told = λ r k s is.
        let one = h.told r k (stands_left finds args r k p o a c s) (binary_left r p o a c is) in
        let other = g.told r k (stands_right finds args r k p o a c s) (binary_right r p o a c is) in
        let rows = operates_is r k p o a c (meant_valued v) (meant_valued w) (binary_right r p o a c is) other.1.0 one.1.1 other.1.1 in
        behind (own_faults r k (e.Binary p o a c)) (own_faults r k a) (own_faults r k c ++ rows_of r k (Operates p o a c))
        (operate o (meant_valued v) (meant_valued w)) (eval r k.look (e.Binary p o a c)) (operated o (meant_type v.ty) (meant_type w.ty)) (type_of r k (e.Binary p o a c)) x
        (faults-Binary r k p o a c) one.0
        (eval-Binary r k.look p o a c ∙ ap (λ (a : Option Valued). both (operate o) a (eval r k.look c)) one.1.0 ∙ ap (λ (c : Option Valued). both (operate o) (Some (meant_valued v)) c) other.1.0)
        (type_of-Binary r k p o a c ∙ ap (λ (a : Option CmType). both_types (operated o) a (type_of r k c)) one.1.1 ∙ ap (λ (c : Option CmType). both_types (operated o) (Some (meant_type v.ty)) c) other.1.1)
        (behind (own_faults r k c ++ rows_of r k (Operates p o a c)) (own_faults r k c) (operation_faults o p (place c) (meant_valued v) (meant_valued w)) _ _ _ _ x
        (ap (λ (l : List Fault). own_faults r k c ++ l) rows) other.0 refl refl own);
  }

  -- the divisor's place is that of the right side
  pub told_binary : (p q : Place) (o : Binary) (a c : Expr) (v w : CodeValued) (x : Result CodeValued Fail) → Tells finds args a (Ok v) → Tells finds args c (Ok w) → q ≡ place c
      → Gives (operation_faults o p q (meant_valued v) (meant_valued w)) (operate o (meant_valued v) (meant_valued w)) (operated o (meant_type v.ty) (meant_type w.ty)) x
      → Tells finds args (e.Binary p o a c) x
  told_binary p q o a c v w x h g at own =
      told_operation p o a c v w x h g
      (subst (λ (q : Place). Gives (operation_faults o p q (meant_valued v) (meant_valued w)) (operate o (meant_valued v) (meant_valued w)) (operated o (meant_type v.ty) (meant_type w.ty)) x) at own)

  -- ---- fields

  pub struct_refused : (p : Place) (a : Expr) (w : Word) (x : Fail) → Tells finds args a (Err x) → Tells finds args (e.Field p a w) (Err x)
  struct_refused p a w x h = record {
    told = λ r k s is. passed (own_faults r k (e.Field p a w)) (own_faults r k a) (rows_of r k (Selects a w)) x
        (faults-Field r k p a w) (h.told r k (in_struct finds args r k p a w s) (sym (is_constant-Field r p a w) ∙ is));
  }

  pub told_field : (p : Place) (a : Expr) (w : Word) (v : CodeValued) (x : Result CodeValued Fail) → Tells finds args a (Ok v)
      → Gives (member_faults w (meant_valued v)) (field_of w.text (meant_valued v)) (member_type w.text (meant_type v.ty)) x → Tells finds args (e.Field p a w) x
  told_field p a w v x h g = record {
    told = λ r k s is.
        let t = h.told r k (in_struct finds args r k p a w s) (sym (is_constant-Field r p a w) ∙ is) in
        behind (own_faults r k (e.Field p a w)) (own_faults r k a) (member_faults w (meant_valued v)) (field_of w.text (meant_valued v)) (eval r k.look (e.Field p a w))
        (member_type w.text (meant_type v.ty)) (type_of r k (e.Field p a w)) x
        (faults-Field r k p a w ∙ ap (λ (t : Option CmType). own_faults r k a ++ if_typed t (λ (t : CmType). is_some (member_type w.text t)) cause.NoMember w.place) t.1.1)
        t.0
        (eval-Field r k.look p a w ∙ ap (option_and_then (field_of w.text)) t.1.0)
        (type_of-Field r k p a w ∙ ap (option_and_then (member_type w.text)) t.1.1)
        g;
  }

  -- ---- indices

  array_is : (r : Around) (p : Place) (a c : Expr) → is_constant r (e.Index p a c) ≡ true → is_constant r a ≡ true
  array_is r p a c is = and_left (is_constant r a) (is_constant r c) (sym (is_constant-Index r p a c) ∙ is)

  index_is : (r : Around) (p : Place) (a c : Expr) → is_constant r (e.Index p a c) ≡ true → is_constant r c ≡ true
  index_is r p a c is = and_right (is_constant r a) (is_constant r c) (sym (is_constant-Index r p a c) ∙ is)

  pub array_refused : (p : Place) (a c : Expr) (x : Fail) → Tells finds args a (Err x) → Tells finds args (e.Index p a c) (Err x)
  array_refused p a c x h = record {
    told = λ r k s is. passed (own_faults r k (e.Index p a c)) (own_faults r k a) (own_faults r k c ++ rows_of r k (Indexes p a c)) x
        (faults-Index r k p a c) (h.told r k (in_array finds args r k p a c s) (array_is r p a c is));
  }

  pub index_refused : (p : Place) (a c : Expr) (x : Fail) → Tells finds args c (Err x) → Tells finds args (e.Index p a c) (Err x)
  index_refused p a c x h = record {
    told = λ r k s is. passed_on (own_faults r k (e.Index p a c)) (own_faults r k a) (own_faults r k c ++ rows_of r k (Indexes p a c)) x
        (faults-Index r k p a c)
        (passed (own_faults r k c ++ rows_of r k (Indexes p a c)) (own_faults r k c) (rows_of r k (Indexes p a c)) x refl
        (h.told r k (in_index finds args r k p a c s) (index_is r p a c is)));
  }

  indexes_is : (r : Around) (k : Knowledge) (p : Place) (a c : Expr) (x y : Valued) → eval r k.look c ≡ Some y → type_of r k a ≡ Some x.ty → type_of r k c ≡ Some y.ty
      → rows_of r k (Indexes p a c) ≡ index_faults p (place c) x y
  indexes_is r k p a c x y value left right =
      ap (λ (t : Option CmType). if_typed t (λ (t : CmType). is_some (element_type t)) cause.NotIndexable p
      ++ (if_typed (type_of r k c) is_number cause.TypeMismatch (place c) ++ range_rows t (known_number r k c) (place c))) left
      ∙ ap (λ (t : Option CmType). unless (is_some (element_type x.ty)) cause.NotIndexable p
      ++ (if_typed t is_number cause.TypeMismatch (place c) ++ range_rows (Some x.ty) (known_number r k c) (place c))) right
      ∙ ap (λ (v : Option Valued). unless (is_some (element_type x.ty)) cause.NotIndexable p
      ++ (unless (is_number y.ty) cause.TypeMismatch (place c) ++ range_rows (Some x.ty) (option_and_then known v) (place c))) value

  told_at : (p : Place) (a c : Expr) (v w : CodeValued) (x : Result CodeValued Fail) → Tells finds args a (Ok v) → Tells finds args c (Ok w)
      → Gives (index_faults p (place c) (meant_valued v) (meant_valued w)) (element_of (meant_valued v) (meant_valued w)) (element_type (meant_type v.ty)) x → Tells finds args (e.Index p a c) x
  told_at p a c v w x h g own = record {
    told = λ r k s is.
        let one = h.told r k (in_array finds args r k p a c s) (array_is r p a c is) in
        let other = g.told r k (in_index finds args r k p a c s) (index_is r p a c is) in
        let rows = indexes_is r k p a c (meant_valued v) (meant_valued w) other.1.0 one.1.1 other.1.1 in
        behind (own_faults r k (e.Index p a c)) (own_faults r k a) (own_faults r k c ++ rows_of r k (Indexes p a c))
        (element_of (meant_valued v) (meant_valued w)) (eval r k.look (e.Index p a c)) (element_type (meant_type v.ty)) (type_of r k (e.Index p a c)) x
        (faults-Index r k p a c) one.0
        (eval-Index r k.look p a c ∙ ap (λ (a : Option Valued). both element_of a (eval r k.look c)) one.1.0 ∙ ap (λ (c : Option Valued). both element_of (Some (meant_valued v)) c) other.1.0)
        (type_of-Index r k p a c ∙ ap (option_and_then element_type) one.1.1)
        (behind (own_faults r k c ++ rows_of r k (Indexes p a c)) (own_faults r k c) (index_faults p (place c) (meant_valued v) (meant_valued w)) _ _ _ _ x
        (ap (λ (l : List Fault). own_faults r k c ++ l) rows) other.0 refl refl own);
  }

  -- the place of the index is that of its first token
  pub told_index : (p q : Place) (a c : Expr) (v w : CodeValued) (x : Result CodeValued Fail) → Tells finds args a (Ok v) → Tells finds args c (Ok w) → q ≡ place c
      → Gives (index_faults p q (meant_valued v) (meant_valued w)) (element_of (meant_valued v) (meant_valued w)) (element_type (meant_type v.ty)) x → Tells finds args (e.Index p a c) x
  told_index p q a c v w x h g at own =
      told_at p a c v w x h g (subst (λ (q : Place). Gives (index_faults p q (meant_valued v) (meant_valued w)) (element_of (meant_valued v) (meant_valued w)) (element_type (meant_type v.ty)) x) at own)

  -- ---- choices

  test_is : (r : Around) (p : Place) (t a c : Expr) → is_constant r (e.Choice p t a c) ≡ true → is_constant r t ≡ true
  test_is r p t a c is = and_left (is_constant r t) (is_constant r a && is_constant r c) (sym (is_constant-Choice r p t a c) ∙ is)

  one_is : (r : Around) (p : Place) (t a c : Expr) → is_constant r (e.Choice p t a c) ≡ true → is_constant r a ≡ true
  one_is r p t a c is = and_left (is_constant r a) (is_constant r c) (and_right (is_constant r t) (is_constant r a && is_constant r c) (sym (is_constant-Choice r p t a c) ∙ is))

  other_is : (r : Around) (p : Place) (t a c : Expr) → is_constant r (e.Choice p t a c) ≡ true → is_constant r c ≡ true
  other_is r p t a c is = and_right (is_constant r a) (is_constant r c) (and_right (is_constant r t) (is_constant r a && is_constant r c) (sym (is_constant-Choice r p t a c) ∙ is))

  abbrev behind_one : Around → Knowledge → Place → Expr → Expr → List Fault
  behind_one r k p a c = own_faults r k c ++ rows_of r k (Chooses p a c)

  abbrev behind_condition : Around → Knowledge → Place → Expr → Expr → List Fault
  behind_condition r k p a c = own_faults r k a ++ behind_one r k p a c

  abbrev behind_test : Around → Knowledge → Place → Expr → Expr → Expr → List Fault
  behind_test r k p t a c = rows_of r k (IsCondition t) ++ behind_condition r k p a c

  pub test_refused : (p : Place) (t a c : Expr) (x : Fail) → Tells finds args t (Err x) → Tells finds args (e.Choice p t a c) (Err x)
  test_refused p t a c x h = record {
    told = λ r k s is. passed (own_faults r k (e.Choice p t a c)) (own_faults r k t) (behind_test r k p t a c) x
        (faults-Choice r k p t a c) (h.told r k (in_test finds args r k p t a c s) (test_is r p t a c is));
  }

  pub no_condition : (p : Place) (t a c : Expr) (v : CodeValued) (x : Fail) → Tells finds args t (Ok v) → is_condition (meant_type v.ty) ≡ false
      → x ≡ fail.Refused (record { cause = cause.TypeMismatch; place = place t; cycle = [] }) → Tells finds args (e.Choice p t a c) (Err x)
  no_condition p t a c v x h none is_refusal = record {
    told = λ r k s is.
        let test = h.told r k (in_test finds args r k p t a c s) (test_is r p t a c is) in
        passed_on (own_faults r k (e.Choice p t a c)) (own_faults r k t) (behind_test r k p t a c) x (faults-Choice r k p t a c)
        (passed (behind_test r k p t a c) (rows_of r k (IsCondition t)) (behind_condition r k p a c) x refl
        (refuses (rows_of r k (IsCondition t)) x cause.TypeMismatch (place t) is_refusal
        (subst (In (fault cause.TypeMismatch (place t)))
        (sym (ap (λ (t' : Option CmType). if_typed t' is_condition cause.TypeMismatch (place t)) test.1.1 ∙ ap (λ (b : Bool). unless b cause.TypeMismatch (place t)) none)) (inl refl))));
  }

  pub one_refused : (p : Place) (t a c : Expr) (x : Fail) → Tells finds args a (Err x) → Tells finds args (e.Choice p t a c) (Err x)
  one_refused p t a c x h = record {
    told = λ r k s is. passed_on (own_faults r k (e.Choice p t a c)) (own_faults r k t) (behind_test r k p t a c) x (faults-Choice r k p t a c)
        (passed_on (behind_test r k p t a c) (rows_of r k (IsCondition t)) (behind_condition r k p a c) x refl
        (passed (behind_condition r k p a c) (own_faults r k a) (behind_one r k p a c) x refl
        (h.told r k (in_one finds args r k p t a c s) (one_is r p t a c is))));
  }

  pub other_refused : (p : Place) (t a c : Expr) (x : Fail) → Tells finds args c (Err x) → Tells finds args (e.Choice p t a c) (Err x)
  other_refused p t a c x h = record {
    told = λ r k s is. passed_on (own_faults r k (e.Choice p t a c)) (own_faults r k t) (behind_test r k p t a c) x (faults-Choice r k p t a c)
        (passed_on (behind_test r k p t a c) (rows_of r k (IsCondition t)) (behind_condition r k p a c) x refl
        (passed_on (behind_condition r k p a c) (own_faults r k a) (behind_one r k p a c) x refl
        (passed (behind_one r k p a c) (own_faults r k c) (rows_of r k (Chooses p a c)) x refl
        (h.told r k (in_other finds args r k p t a c s) (other_is r p t a c is)))));
  }

  arm_is : (t a c : Valued) (first : Bool) → is_condition t.ty ≡ true → option_map to_bool (number_of t.value) ≡ Some first → choose t a c ≡ arm_value first a c
  arm_is t a c first takes truth = ap (λ (b : Bool). if b then whole (number_of t.value) else None) takes ∙ by (number_of t.value) truth where
    whole : Option ℤ → Option Valued
    whole n = option_and_then (λ (u : CmType). option_and_then (λ (z : ℤ). with_type u (fitted u (if to_bool z then a else c))) n) (chosen a.ty c.ty)

    by : (n : Option ℤ) → option_map to_bool n ≡ Some first → whole n ≡ arm_value first a c
    by None e = cc
    by (Some z) e = ap (λ (b : Option Bool). option_and_then (λ (u : CmType). option_and_then (λ (b : Bool). with_type u (fitted u (if b then a else c))) b) (chosen a.ty c.ty)) e

  pub told_choice : (p : Place) (t a c : Expr) (u v w : CodeValued) (first : Bool) (x : Result CodeValued Fail)
      → Tells finds args t (Ok u) → is_condition (meant_type u.ty) ≡ true → Tells finds args a (Ok v) → Tells finds args c (Ok w)
      → option_map to_bool (number_of (meant_value u.value)) ≡ Some first
      → Gives (choice_faults p (meant_valued v) (meant_valued w)) (arm_value first (meant_valued v) (meant_valued w)) (chosen (meant_type v.ty) (meant_type w.ty)) x
      → Tells finds args (e.Choice p t a c) x
  told_choice p t a c u v w first x f takes h g truth own = record {
    told = λ r k s is.
        let test = f.told r k (in_test finds args r k p t a c s) (test_is r p t a c is) in
        let one = h.told r k (in_one finds args r k p t a c s) (one_is r p t a c is) in
        let other = g.told r k (in_other finds args r k p t a c s) (other_is r p t a c is) in
        let condition : rows_of r k (IsCondition t) ≡ [] =
        ap (λ (t' : Option CmType). if_typed t' is_condition cause.TypeMismatch (place t)) test.1.1 ∙ ap (λ (b : Bool). unless b cause.TypeMismatch (place t)) takes in
        let rows : rows_of r k (Chooses p a c) ≡ choice_faults p (meant_valued v) (meant_valued w) =
        ap (λ (o : Option CmType). operand_rows chosen o (type_of r k c) p) one.1.1 ∙ ap (λ (o : Option CmType). operand_rows chosen (Some (meant_type v.ty)) o p) other.1.1 in
        behind (own_faults r k (e.Choice p t a c)) (own_faults r k t) (behind_test r k p t a c)
        (arm_value first (meant_valued v) (meant_valued w)) (eval r k.look (e.Choice p t a c)) (chosen (meant_type v.ty) (meant_type w.ty)) (type_of r k (e.Choice p t a c)) x
        (faults-Choice r k p t a c) test.0
        (eval-Choice r k.look p t a c
        ∙ ap (option_and_then (λ (x : Valued). both (choose x) (eval r k.look a) (eval r k.look c))) test.1.0
        ∙ ap (λ (a : Option Valued). both (choose (meant_valued u)) a (eval r k.look c)) one.1.0
        ∙ ap (λ (c : Option Valued). both (choose (meant_valued u)) (Some (meant_valued v)) c) other.1.0
        ∙ arm_is (meant_valued u) (meant_valued v) (meant_valued w) first takes truth)
        (type_of-Choice r k p t a c ∙ ap (λ (a : Option CmType). both_types chosen a (type_of r k c)) one.1.1 ∙ ap (λ (c : Option CmType). both_types chosen (Some (meant_type v.ty)) c) other.1.1)
        (behind (behind_test r k p t a c) (rows_of r k (IsCondition t)) (behind_condition r k p a c) _ _ _ _ x refl condition refl refl
        (behind (behind_condition r k p a c) (own_faults r k a) (behind_one r k p a c) _ _ _ _ x refl one.0 refl refl
        (behind (behind_one r k p a c) (own_faults r k c) (choice_faults p (meant_valued v) (meant_valued w)) _ _ _ _ x
        (ap (λ (l : List Fault). own_faults r k c ++ l) rows) other.0 refl refl own)));
  }

  -- ---- where a constant is needed

  pub told_not_constant : (a : Expr) (x : Fail) → Judges finds args a false → x ≡ fail.Refused (record { cause = cause.NotConstant; place = place a; cycle = [] })
      → TellsConstant finds args a (Err x)
  told_not_constant a x h is_refusal = record {
    told = λ r k s. passed_on (constant_faults r k a) (own_faults r k a) (rows_of r k (IsConstant a)) x (faults-constant r k a)
        (refuses (rows_of r k (IsConstant a)) x cause.NotConstant (place a) is_refusal
        (subst (In (fault cause.NotConstant (place a))) (sym (ap (λ (b : Bool). unless b cause.NotConstant (place a)) (h.told r k s))) (inl refl)));
  }

  in_front : (all xs ys : List Fault) (v : Option Valued) (t : Option CmType) (x : Result CodeValued Fail) → all ≡ xs ++ ys → ys ≡ [] → Gives xs v t x → Gives all v t x
  in_front all xs ys v t (Ok a) e none h = (e ∙ ap (λ (l : List Fault). l ++ ys) h.0 ∙ none, h.1)
  in_front all xs ys v t (Err x) e none h = passed all xs ys x e h

  pub told_constant : (a : Expr) (x : Result CodeValued Fail) → Judges finds args a true → Tells finds args a x → TellsConstant finds args a x
  told_constant a x h g = record {
    told = λ r k s. in_front (constant_faults r k a) (own_faults r k a) (rows_of r k (IsConstant a)) (eval r k.look a) (type_of r k a) x (faults-constant r k a)
        (ap (λ (b : Bool). unless b cause.NotConstant (place a)) (h.told r k s)) (g.told r k s (h.told r k s));
  }

-- a refusal at a place
pub refused_at : (x : Fail) (c : Cause) (p q : Place) → p ≡ q → x ≡ fail.Refused (record { cause = c; place = p; cycle = [] }) → x ≡ fail.Refused (record { cause = c; place = q; cycle = [] })
refused_at x c p q e is = is ∙ ap (λ (p : Place). fail.Refused (record { cause = c; place = p; cycle = [] })) e

-- the answer that `?` passes on
pub passed_error : (r : Result CodeValued Fail) (x : Fail) → IsErr r × IsErrAnd r (λ y. y ≡ x) → r ≡ Err x
passed_error (Ok v) x h = absurd h.1
passed_error (Err y) x h = ap Err h.1
