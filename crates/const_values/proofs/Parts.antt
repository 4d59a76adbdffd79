-- What holds of an expression holds of its parts, and what is wrong with it is what is wrong with its parts and in itself.
use Rattle.std.specs.Prelude.{◌≡◌, refl, ℤ, Bool, true, false, ◌&&◌, List, [], ◌∷◌, ◌++◌, flat_map}
use Rattle.std.specs.List.{list_all}
use Rattle.std.proofs.Common.{ap, sym, ◌∙◌, subst}
use Rattle.std.proofs.lemmas.List.{append-nil, append_assoc}
use Rattle.std.proofs.lemmas.List.Concat.{flat_map-append}
use Rattle.std.proofs.lemmas.List.Elements.{Contains-append_left, Contains-append_right}
use Rattle.cm_base.specs.declared.place.Place.{Place}
use Rattle.cm_tree.specs.declared.path.Path.{Path}
use Rattle.cm_tree.specs.declared.path.Word.{Word}
use Rattle.cm_tree.specs.declared.operator.Unary.{Unary}
use Rattle.cm_tree.specs.declared.operator.Binary.{Binary}
use Rattle.cm_tree.specs.declared.expr.Expr.{Expr}
use Rattle.cm_tree.specs.declared.expr.Base.{Base}
use Rattle.cm_tree.specs.declared.expr.Expr.TheVariants as e
use Rattle.cm_tree.specs.declared.expr.Base.TheVariants as b
use Rattle.cm_tree.specs.declared.type_expr.TypeExpr.TheVariants as y
use Rattle.cm_meaning.specs.Declared.{Declared}
use Rattle.cm_meaning.specs.Scopes.{Around}
use Rattle.cm_meaning.specs.Sites.{Site, site, Calls, TakesArgument, expr_sites, base_sites, arguments_sites}
use Rattle.cm_meaning.specs.SiteEquations.{base_sites-Wrap, base_sites-Clamp, expr_sites-Call, expr_sites-Construct, expr_sites-Paren, expr_sites-Field, expr_sites-Index, expr_sites-Unary, expr_sites-Binary, expr_sites-Choice}
use Rattle.cm_meaning.specs.Constants.{Meaning}
use Rattle.cm_meaning.specs.TypeOf.{Knowledge}
use Rattle.cm_meaning.specs.Demands.{Demanded, Demand, demanded, Operates, OperatesAlone, Chooses, Indexes, Selects, UsesCall, Makes, IsCondition, IsConstant, IsNumber, IsCount, HasSize, expr_demands, base_demands, counted_demands, type_demands}
use Rattle.cm_meaning.specs.DemandEquations.{base_demands-Wrap, base_demands-Clamp, expr_demands-Number, expr_demands-Truth, expr_demands-Name, expr_demands-Call, expr_demands-Construct, expr_demands-Paren, expr_demands-Field, expr_demands-Index, expr_demands-Unary, expr_demands-Binary, expr_demands-Choice}
use Rattle.cm_meaning.specs.Faults.{Fault}
use Rattle.cm_meaning.specs.TypeRows.{rows_of, type_rows}
use Rattle.const_values.specs.declared.names.Argument.{Argument}
use Rattle.const_values.specs.Names.{Known, AgreesOn}
use Rattle.const_values.specs.Literals.{literals_fit, base_fits, base_fits-Wrap, base_fits-Clamp, literals_fit-Call, literals_fit-Construct, literals_fit-Paren, literals_fit-Field, literals_fit-Index, literals_fit-Unary, literals_fit-Binary, literals_fit-Choice}
use Rattle.const_values.specs.Answers.{own_faults, constant_faults, Stands}
use Rattle.const_values.specs.Arguments.{AllStand}
use Rattle.const_values.specs.Sizes.{BaseStands, base_faults, count_faults}

pub and_left : (p q : Bool) → (p && q) ≡ true → p ≡ true
and_left true q h = refl
and_left false q h = h

pub and_right : (p q : Bool) → (p && q) ≡ true → q ≡ true
and_right true q h = h
and_right false true h = refl
and_right false false h = h

-- ---- names

pub agrees_left : (finds : Path → Known) (args : List Argument) (look : Declared → Meaning) (xs ys : List Site) → AgreesOn finds args look (xs ++ ys) → AgreesOn finds args look xs
agrees_left finds args look xs ys h = record { at = λ s q c l. h.at s q (Contains-append_left xs ys s c) l }

pub agrees_right : (finds : Path → Known) (args : List Argument) (look : Declared → Meaning) (xs ys : List Site) → AgreesOn finds args look (xs ++ ys) → AgreesOn finds args look ys
agrees_right finds args look xs ys h = record { at = λ s q c l. h.at s q (Contains-append_right xs ys s c) l }

-- ---- parts

module _ (finds : Path → Known) (args : List Argument) (r : Around) (k : Knowledge) where
  abbrev Agreed : List Site → Type 0
  Agreed sites = AgreesOn finds args k.look sites

  pub in_paren : (p : Place) (a : Expr) → Stands finds args r k (e.Paren p a) → Stands finds args r k a
  in_paren p a h = record {
    agrees = subst Agreed (expr_sites-Paren r p a) h.agrees;
    literals = sym (literals_fit-Paren p a) ∙ h.literals;
  }

  pub in_struct : (p : Place) (a : Expr) (w : Word) → Stands finds args r k (e.Field p a w) → Stands finds args r k a
  in_struct p a w h = record {
    agrees = subst Agreed (expr_sites-Field r p a w) h.agrees;
    literals = sym (literals_fit-Field p a w) ∙ h.literals;
  }

  pub in_unary : (p : Place) (o : Unary) (a : Expr) → Stands finds args r k (e.Unary p o a) → Stands finds args r k a
  in_unary p o a h = record {
    agrees = subst Agreed (expr_sites-Unary r p o a) h.agrees;
    literals = sym (literals_fit-Unary p o a) ∙ h.literals;
  }

  pub in_left : (p : Place) (o : Binary) (a c : Expr) → Stands finds args r k (e.Binary p o a c) → Stands finds args r k a
  in_left p o a c h = record {
    agrees = agrees_left finds args k.look (expr_sites r a) (expr_sites r c) (subst Agreed (expr_sites-Binary r p o a c) h.agrees);
    literals = and_left (literals_fit a) (literals_fit c) (sym (literals_fit-Binary p o a c) ∙ h.literals);
  }

  pub in_right : (p : Place) (o : Binary) (a c : Expr) → Stands finds args r k (e.Binary p o a c) → Stands finds args r k c
  in_right p o a c h = record {
    agrees = agrees_right finds args k.look (expr_sites r a) (expr_sites r c) (subst Agreed (expr_sites-Binary r p o a c) h.agrees);
    literals = and_right (literals_fit a) (literals_fit c) (sym (literals_fit-Binary p o a c) ∙ h.literals);
  }

  pub in_array : (p : Place) (a c : Expr) → Stands finds args r k (e.Index p a c) → Stands finds args r k a
  in_array p a c h = record {
    agrees = agrees_left finds args k.look (expr_sites r a) (expr_sites r c) (subst Agreed (expr_sites-Index r p a c) h.agrees);
    literals = and_left (literals_fit a) (literals_fit c) (sym (literals_fit-Index p a c) ∙ h.literals);
  }

  pub in_index : (p : Place) (a c : Expr) → Stands finds args r k (e.Index p a c) → Stands finds args r k c
  in_index p a c h = record {
    agrees = agrees_right finds args k.look (expr_sites r a) (expr_sites r c) (subst Agreed (expr_sites-Index r p a c) h.agrees);
    literals = and_right (literals_fit a) (literals_fit c) (sym (literals_fit-Index p a c) ∙ h.literals);
  }

  pub in_test : (p : Place) (t a c : Expr) → Stands finds args r k (e.Choice p t a c) → Stands finds args r k t
  in_test p t a c h = record {
    agrees = agrees_left finds args k.look (expr_sites r t) (expr_sites r a ++ expr_sites r c) (subst Agreed (expr_sites-Choice r p t a c) h.agrees);
    literals = and_left (literals_fit t) (literals_fit a && literals_fit c) (sym (literals_fit-Choice p t a c) ∙ h.literals);
  }

  pub in_one : (p : Place) (t a c : Expr) → Stands finds args r k (e.Choice p t a c) → Stands finds args r k a
  in_one p t a c h = record {
    agrees = agrees_left finds args k.look (expr_sites r a) (expr_sites r c)
        (agrees_right finds args k.look (expr_sites r t) (expr_sites r a ++ expr_sites r c) (subst Agreed (expr_sites-Choice r p t a c) h.agrees));
    literals = and_left (literals_fit a) (literals_fit c) (and_right (literals_fit t) (literals_fit a && literals_fit c) (sym (literals_fit-Choice p t a c) ∙ h.literals));
  }

  pub in_other : (p : Place) (t a c : Expr) → Stands finds args r k (e.Choice p t a c) → Stands finds args r k c
  in_other p t a c h = record {
    agrees = agrees_right finds args k.look (expr_sites r a) (expr_sites r c)
        (agrees_right finds args k.look (expr_sites r t) (expr_sites r a ++ expr_sites r c) (subst Agreed (expr_sites-Choice r p t a c) h.agrees));
    literals = and_right (literals_fit a) (literals_fit c) (and_right (literals_fit t) (literals_fit a && literals_fit c) (sym (literals_fit-Choice p t a c) ∙ h.literals));
  }

  -- ---- lists of expressions, and base types

  arguments_stand : (all : List Expr) → AgreesOn finds args k.look (arguments_sites r all) → list_all literals_fit all ≡ true → AllStand finds args r k all
  arguments_stand [] h fits = tt
  arguments_stand (a ∷ all) h fits =
      let others = agrees_right finds args k.look (site r (TakesArgument a) ∷ []) (expr_sites r a ++ arguments_sites r all) h in (
        record {
          agrees = agrees_left finds args k.look (expr_sites r a) (arguments_sites r all) others;
          literals = and_left (literals_fit a) (list_all literals_fit all) fits;
        },
        arguments_stand all (agrees_right finds args k.look (expr_sites r a) (arguments_sites r all) others) (and_right (literals_fit a) (list_all literals_fit all) fits),
      )

  pub sizes_stand : (all : List Expr) → AgreesOn finds args k.look (flat_map (expr_sites r) all) → list_all literals_fit all ≡ true → AllStand finds args r k all
  sizes_stand [] h fits = tt
  sizes_stand (a ∷ all) h fits = (
    record {
      agrees = agrees_left finds args k.look (expr_sites r a) (flat_map (expr_sites r) all) h;
      literals = and_left (literals_fit a) (list_all literals_fit all) fits;
    },
    sizes_stand all (agrees_right finds args k.look (expr_sites r a) (flat_map (expr_sites r) all) h) (and_right (literals_fit a) (list_all literals_fit all) fits),
  )

  pub in_call : (q : Path) (all : List Expr) → Stands finds args r k (e.Call q all) → AllStand finds args r k all
  in_call q all h =
      arguments_stand all
      (agrees_right finds args k.look (site r (Calls q all) ∷ []) (arguments_sites r all) (subst Agreed (expr_sites-Call r q all) h.agrees))
      (sym (literals_fit-Call q all) ∙ h.literals)

  abbrev behind_base : List Expr → List Expr → List Site
  behind_base sizes all = flat_map (expr_sites r) sizes ++ arguments_sites r all

  pub in_base : (t : Base) (sizes all : List Expr) → Stands finds args r k (e.Construct t sizes all) → BaseStands finds args r k t
  in_base t sizes all h = record {
    agrees = agrees_left finds args k.look (base_sites r t) (behind_base sizes all) (subst Agreed (expr_sites-Construct r t sizes all) h.agrees);
    literals = and_left (base_fits t) (list_all literals_fit sizes && list_all literals_fit all) (sym (literals_fit-Construct t sizes all) ∙ h.literals);
  }

  behind_stands : (t : Base) (sizes all : List Expr) → Stands finds args r k (e.Construct t sizes all) → Agreed (behind_base sizes all)
  behind_stands t sizes all h = agrees_right finds args k.look (base_sites r t) (behind_base sizes all) (subst Agreed (expr_sites-Construct r t sizes all) h.agrees)

  behind_fits : (t : Base) (sizes all : List Expr) → Stands finds args r k (e.Construct t sizes all) → (list_all literals_fit sizes && list_all literals_fit all) ≡ true
  behind_fits t sizes all h = and_right (base_fits t) (list_all literals_fit sizes && list_all literals_fit all) (sym (literals_fit-Construct t sizes all) ∙ h.literals)

  pub in_sizes : (t : Base) (sizes all : List Expr) → Stands finds args r k (e.Construct t sizes all) → AllStand finds args r k sizes
  in_sizes t sizes all h =
      sizes_stand sizes (agrees_left finds args k.look (flat_map (expr_sites r) sizes) (arguments_sites r all) (behind_stands t sizes all h))
      (and_left (list_all literals_fit sizes) (list_all literals_fit all) (behind_fits t sizes all h))

  pub in_values : (t : Base) (sizes all : List Expr) → Stands finds args r k (e.Construct t sizes all) → AllStand finds args r k all
  in_values t sizes all h =
      arguments_stand all (agrees_right finds args k.look (flat_map (expr_sites r) sizes) (arguments_sites r all) (behind_stands t sizes all h))
      (and_right (list_all literals_fit sizes) (list_all literals_fit all) (behind_fits t sizes all h))

  pub in_wrap : (p : Place) (a : Expr) → BaseStands finds args r k (b.Wrap p a) → Stands finds args r k a
  in_wrap p a h = record {
    agrees = subst Agreed (base_sites-Wrap r p a) h.agrees;
    literals = sym (base_fits-Wrap p a) ∙ h.literals;
  }

  pub in_clamp : (p : Place) (a : Expr) → BaseStands finds args r k (b.Clamp p a) → Stands finds args r k a
  in_clamp p a h = record {
    agrees = subst Agreed (base_sites-Clamp r p a) h.agrees;
    literals = sym (base_fits-Clamp p a) ∙ h.literals;
  }

-- ---- faults

module _ (r : Around) (k : Knowledge) where
  abbrev of_all : List Demanded → List Fault
  of_all all = flat_map (type_rows k) all

  one_row : (d : Demand) → of_all (demanded r d ∷ []) ≡ rows_of r k d
  unfolding type_rows
  one_row d = append-nil (rows_of r k d)

  -- of two lists; of a list and one more demand
  both : (xs ys : List Demanded) → of_all (xs ++ ys) ≡ of_all xs ++ of_all ys
  both xs ys = flat_map-append (type_rows k) xs ys

  with_last : (xs : List Demanded) (d : Demand) → of_all (xs ++ demanded r d ∷ []) ≡ of_all xs ++ rows_of r k d
  with_last xs d = both xs (demanded r d ∷ []) ∙ ap (λ (l : List Fault). of_all xs ++ l) (one_row d)

  with_first : (d : Demand) (xs : List Demanded) → of_all (demanded r d ∷ xs) ≡ rows_of r k d ++ of_all xs
  unfolding type_rows
  with_first d xs = refl

  pub faults-Number : (p : Place) (z : ℤ) (w : Bool) → own_faults r k (e.Number p z w) ≡ []
  faults-Number p z w = ap of_all (expr_demands-Number r p z w)

  pub faults-Truth : (p : Place) (t : Bool) → own_faults r k (e.Truth p t) ≡ []
  faults-Truth p t = ap of_all (expr_demands-Truth r p t)

  pub faults-Name : (q : Path) → own_faults r k (e.Name q) ≡ []
  faults-Name q = ap of_all (expr_demands-Name r q)

  pub faults-Paren : (p : Place) (a : Expr) → own_faults r k (e.Paren p a) ≡ own_faults r k a
  faults-Paren p a = ap of_all (expr_demands-Paren r p a)

  pub faults-Field : (p : Place) (a : Expr) (w : Word) → own_faults r k (e.Field p a w) ≡ own_faults r k a ++ rows_of r k (Selects a w)
  faults-Field p a w = ap of_all (expr_demands-Field r p a w) ∙ with_last (expr_demands r a) (Selects a w)

  pub faults-Unary : (p : Place) (o : Unary) (a : Expr) → own_faults r k (e.Unary p o a) ≡ own_faults r k a ++ rows_of r k (OperatesAlone p o a)
  faults-Unary p o a = ap of_all (expr_demands-Unary r p o a) ∙ with_last (expr_demands r a) (OperatesAlone p o a)

  pub faults-Binary : (p : Place) (o : Binary) (a c : Expr)
      → own_faults r k (e.Binary p o a c) ≡ own_faults r k a ++ (own_faults r k c ++ rows_of r k (Operates p o a c))
  faults-Binary p o a c =
      ap of_all (expr_demands-Binary r p o a c) ∙ both (expr_demands r a) (expr_demands r c ++ demanded r (Operates p o a c) ∷ [])
      ∙ ap (λ (l : List Fault). own_faults r k a ++ l) (with_last (expr_demands r c) (Operates p o a c))

  pub faults-Index : (p : Place) (a c : Expr) → own_faults r k (e.Index p a c) ≡ own_faults r k a ++ (own_faults r k c ++ rows_of r k (Indexes p a c))
  faults-Index p a c =
      ap of_all (expr_demands-Index r p a c) ∙ both (expr_demands r a) (expr_demands r c ++ demanded r (Indexes p a c) ∷ [])
      ∙ ap (λ (l : List Fault). own_faults r k a ++ l) (with_last (expr_demands r c) (Indexes p a c))

  pub faults-Choice : (p : Place) (t a c : Expr)
      → own_faults r k (e.Choice p t a c) ≡ own_faults r k t ++ (rows_of r k (IsCondition t) ++ (own_faults r k a ++ (own_faults r k c ++ rows_of r k (Chooses p a c))))
  faults-Choice p t a c =
      ap of_all (expr_demands-Choice r p t a c)
      ∙ both (expr_demands r t) (demanded r (IsCondition t) ∷ (expr_demands r a ++ (expr_demands r c ++ demanded r (Chooses p a c) ∷ [])))
      ∙ ap (λ (l : List Fault). own_faults r k t ++ l) (
      with_first (IsCondition t) (expr_demands r a ++ (expr_demands r c ++ demanded r (Chooses p a c) ∷ []))
      ∙ ap (λ (l : List Fault). rows_of r k (IsCondition t) ++ l) (
      both (expr_demands r a) (expr_demands r c ++ demanded r (Chooses p a c) ∷ [])
      ∙ ap (λ (l : List Fault). own_faults r k a ++ l) (with_last (expr_demands r c) (Chooses p a c))))

  pub faults-constant : (a : Expr) → constant_faults r k a ≡ own_faults r k a ++ rows_of r k (IsConstant a)
  faults-constant a = with_last (expr_demands r a) (IsConstant a)

  of_each : (f : Expr → List Demanded) (all : List Expr) → of_all (flat_map f all) ≡ flat_map (λ (a : Expr). of_all (f a)) all
  of_each f [] = refl
  of_each f (a ∷ all) = both (f a) (flat_map f all) ∙ ap (λ (l : List Fault). of_all (f a) ++ l) (of_each f all)

  pub faults-Call : (q : Path) (all : List Expr) → own_faults r k (e.Call q all) ≡ flat_map (own_faults r k) all ++ rows_of r k (UsesCall q all)
  faults-Call q all =
      ap of_all (expr_demands-Call r q all) ∙ with_last (flat_map (expr_demands r) all) (UsesCall q all)
      ∙ ap (λ (l : List Fault). l ++ rows_of r k (UsesCall q all)) (of_each (expr_demands r) all)

  pub faults-Construct : (t : Base) (sizes all : List Expr)
      → own_faults r k (e.Construct t sizes all) ≡ base_faults r k t ++ (flat_map (count_faults r k) sizes ++ (flat_map (own_faults r k) all ++ rows_of r k (Makes t sizes all)))
  faults-Construct t sizes all =
      ap of_all (expr_demands-Construct r t sizes all)
      ∙ both (base_demands r t) (flat_map (counted_demands r) sizes ++ (flat_map (expr_demands r) all ++ demanded r (Makes t sizes all) ∷ []))
      ∙ ap (λ (l : List Fault). base_faults r k t ++ l) (
      both (flat_map (counted_demands r) sizes) (flat_map (expr_demands r) all ++ demanded r (Makes t sizes all) ∷ [])
      ∙ ap (λ (l : List Fault). l ++ of_all (flat_map (expr_demands r) all ++ demanded r (Makes t sizes all) ∷ [])) (of_each (counted_demands r) sizes)
      ∙ ap (λ (l : List Fault). flat_map (count_faults r k) sizes ++ l) (
      with_last (flat_map (expr_demands r) all) (Makes t sizes all)
      ∙ ap (λ (l : List Fault). l ++ rows_of r k (Makes t sizes all)) (of_each (expr_demands r) all)))

  pub faults-count : (a : Expr) → count_faults r k a ≡ constant_faults r k a ++ (rows_of r k (IsNumber a) ++ rows_of r k (IsCount a))
  faults-count a =
      both (expr_demands r a) (demanded r (IsConstant a) ∷ demanded r (IsNumber a) ∷ demanded r (IsCount a) ∷ [])
      ∙ ap (λ (l : List Fault). own_faults r k a ++ l) (
      with_first (IsConstant a) (demanded r (IsNumber a) ∷ demanded r (IsCount a) ∷ [])
      ∙ ap (λ (l : List Fault). rows_of r k (IsConstant a) ++ l) (
      with_first (IsNumber a) (demanded r (IsCount a) ∷ []) ∙ ap (λ (l : List Fault). rows_of r k (IsNumber a) ++ l) (one_row (IsCount a))))
      ∙ sym (append_assoc (own_faults r k a) (rows_of r k (IsConstant a)) (rows_of r k (IsNumber a) ++ rows_of r k (IsCount a)))
      ∙ ap (λ (l : List Fault). l ++ (rows_of r k (IsNumber a) ++ rows_of r k (IsCount a))) (sym (faults-constant a))

  pub faults-Wrap : (p : Place) (a : Expr) → base_faults r k (b.Wrap p a) ≡ count_faults r k a
  faults-Wrap p a = ap of_all (base_demands-Wrap r p a)

  pub faults-Clamp : (p : Place) (a : Expr) → base_faults r k (b.Clamp p a) ≡ count_faults r k a
  faults-Clamp p a = ap of_all (base_demands-Clamp r p a)

  pub faults-BaseType : (t : Base) (sizes : List Expr) → of_all (type_demands r (y.Base t sizes)) ≡ base_faults r k t ++ (flat_map (count_faults r k) sizes ++ rows_of r k (HasSize (y.Base t sizes)))
  faults-BaseType t sizes =
      both (base_demands r t) (flat_map (counted_demands r) sizes ++ demanded r (HasSize (y.Base t sizes)) ∷ [])
      ∙ ap (λ (l : List Fault). base_faults r k t ++ l) (
      with_last (flat_map (counted_demands r) sizes) (HasSize (y.Base t sizes))
      ∙ ap (λ (l : List Fault). l ++ rows_of r k (HasSize (y.Base t sizes))) (of_each (counted_demands r) sizes))

  pub faults-NamedType : (q : Path) (sizes : List Expr) → of_all (type_demands r (y.Named q sizes)) ≡ flat_map (count_faults r k) sizes ++ rows_of r k (HasSize (y.Named q sizes))
  faults-NamedType q sizes =
      with_last (flat_map (counted_demands r) sizes) (HasSize (y.Named q sizes))
      ∙ ap (λ (l : List Fault). l ++ rows_of r k (HasSize (y.Named q sizes))) (of_each (counted_demands r) sizes)
