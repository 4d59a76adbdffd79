-- The globals of a snapshot, one after another.
use Rattle.std.proofs.Common.{◌≡◌, ◌<◌, ◌+◌, ℕ, List, [], ◌∷◌, length, get_or, take, drop, ◌++◌, ℤ, pos, sym, ap, ◌∙◌, subst, arith}
use Rattle.std.specs.Prelude.{map, true, false, if◌then◌else◌}
use Rattle.std.specs.List.{AllByRecursion}
use Rattle.std.proofs.lemmas.List.{drop_more, take_more, map-append, append_assoc, length-drop}
use Rattle.wasm_runner.proofs.Typing.{joined}
use Rattle.wasm_tree.specs.declared.module.ValType.{ValType}
use Rattle.wasm_tree.specs.declared.module.GlobalVar.{GlobalVar}
use Rattle.wasm_tree.specs.Instance.{constant_of}
use Rattle.wasm_tree.specs.Stopped.{bits_of, restored_globals, first_or_zero}
use Rattle.wasm_tree.specs.Valid.{IsConstantOf}
use Rattle.wasm_sound.specs.Kinds.{IsOf, AreOf}
use Rattle.wasm_runner.specs.Snapshots.{AreNumbersOf, kept_types}

-- the first globals are there, and the others come from the numbers that are left
pub record AreRestored (vars : List GlobalVar) (kept : List ℤ) (i at : ℕ) (globals : List ℕ) : Type 0 where
  pub constants : AllByRecursion (λ global. IsConstantOf global.ty global.value) (drop i vars)
  pub numbers : AreNumbersOf (kept_types (drop i vars)) (drop at kept)
  pub values : globals ++ restored_globals (drop i vars) (drop at kept) ≡ restored_globals vars kept
  pub typed : AreOf (map (λ global. global.ty) (take i vars)) globals

some_left : (type : ValType) (types : List ValType) (zs : List ℤ) → AreNumbersOf (type ∷ types) zs → 0 < length zs
some_left type types [] h = absurd h
some_left type types (z ∷ zs) h = omega arith

module _ (vars : List GlobalVar) (kept : List ℤ) (i at : ℕ) (globals : List ℕ) (a : AreRestored vars kept i at globals) (var : GlobalVar) (l : i < length vars) (e : var ≡ get_or vars i var) where
  here : drop i vars ≡ var ∷ drop (i + 1) vars
  here = drop_more vars i var l ∙ ap (λ (v : GlobalVar). v ∷ drop (i + 1) vars) (sym e)

  both : AllByRecursion (λ global. IsConstantOf global.ty global.value) (var ∷ drop (i + 1) vars)
  both = subst (AllByRecursion (λ global. IsConstantOf global.ty global.value)) here a.constants

  pub constant_here : IsConstantOf var.ty var.value
  constant_here = both.0

  typed_more : (x : ℕ) → IsOf var.ty x → AreOf (map (λ global. global.ty) (take (i + 1) vars)) (globals ++ x ∷ [])
  typed_more x h =
      let more : take (i + 1) vars ≡ take i vars ++ var ∷ [] = take_more vars i var l ∙ ap (λ (v : GlobalVar). take i vars ++ v ∷ []) (sym e) in
      subst (λ types. AreOf types (globals ++ x ∷ [])) (sym (ap (map (λ (global : GlobalVar). global.ty)) more ∙ map-append (λ (global : GlobalVar). global.ty) (take i vars) (var ∷ [])))
      (joined (map (λ (global : GlobalVar). global.ty) (take i vars)) (var.ty ∷ []) globals (x ∷ []) a.typed (h, tt))

  -- a mutable one, from the snapshot
  pub from_snapshot : var.mutable ≡ true → (z : ℤ) (x : ℕ) (globals' : List ℕ) → z ≡ get_or kept at (pos 0) → x ≡ bits_of var.ty z → IsOf var.ty x → globals' ≡ globals ++ x ∷ [] → AreRestored vars kept (i + 1) (at + 1) globals'
  from_snapshot t z x globals' is b f g =
      let types_here : kept_types (drop i vars) ≡ var.ty ∷ kept_types (drop (i + 1) vars) = ap kept_types here ∙ ap (λ m. if m then var.ty ∷ kept_types (drop (i + 1) vars) else kept_types (drop (i + 1) vars)) t in
      let numbers : AreNumbersOf (var.ty ∷ kept_types (drop (i + 1) vars)) (drop at kept) = subst (λ types. AreNumbersOf types (drop at kept)) types_here a.numbers in
      let within : at < length kept = omega (arith, some_left var.ty (kept_types (drop (i + 1) vars)) (drop at kept) numbers, length-drop at kept) in
      let kept_here : drop at kept ≡ z ∷ drop (at + 1) kept = drop_more kept at (pos 0) within ∙ ap (λ (y : ℤ). y ∷ drop (at + 1) kept) (sym is) in
      let rest : AreNumbersOf (var.ty ∷ kept_types (drop (i + 1) vars)) (z ∷ drop (at + 1) kept) = subst (AreNumbersOf (var.ty ∷ kept_types (drop (i + 1) vars))) kept_here numbers in
      let values_here : restored_globals (drop i vars) (drop at kept) ≡ x ∷ restored_globals (drop (i + 1) vars) (drop (at + 1) kept) =
      ap (λ v. restored_globals v (drop at kept)) here ∙ ap (restored_globals (var ∷ drop (i + 1) vars)) kept_here
      ∙ ap (λ m. (if m then bits_of var.ty z else constant_of var.value) ∷ restored_globals (drop (i + 1) vars) (if m then drop (at + 1) kept else z ∷ drop (at + 1) kept)) t
      ∙ ap (λ y. y ∷ restored_globals (drop (i + 1) vars) (drop (at + 1) kept)) (sym b) in
      record {
        constants = both.1;
        numbers = rest.1;
        values = ap (λ l. l ++ restored_globals (drop (i + 1) vars) (drop (at + 1) kept)) g ∙ append_assoc globals (x ∷ []) (restored_globals (drop (i + 1) vars) (drop (at + 1) kept))
            ∙ ap (λ t. globals ++ t) (sym values_here) ∙ a.values;
        typed = subst (AreOf (map (λ global. global.ty) (take (i + 1) vars))) (sym g) (typed_more x f);
      }

  -- another one, with its first value
  pub from_module : var.mutable ≡ false → (x : ℕ) (globals' : List ℕ) → x ≡ constant_of var.value → IsOf var.ty x → globals' ≡ globals ++ x ∷ [] → AreRestored vars kept (i + 1) at globals'
  from_module t x globals' b f g =
      let types_here : kept_types (drop i vars) ≡ kept_types (drop (i + 1) vars) = ap kept_types here ∙ ap (λ m. if m then var.ty ∷ kept_types (drop (i + 1) vars) else kept_types (drop (i + 1) vars)) t in
      let values_here : restored_globals (drop i vars) (drop at kept) ≡ x ∷ restored_globals (drop (i + 1) vars) (drop at kept) =
      ap (λ v. restored_globals v (drop at kept)) here
      ∙ ap (λ m. (if m then bits_of var.ty (first_or_zero (drop at kept)) else constant_of var.value) ∷ restored_globals (drop (i + 1) vars) (if m then drop 1 (drop at kept) else drop at kept)) t
      ∙ ap (λ y. y ∷ restored_globals (drop (i + 1) vars) (drop at kept)) (sym b) in
      record {
        constants = both.1;
        numbers = subst (λ types. AreNumbersOf types (drop at kept)) types_here a.numbers;
        values = ap (λ l. l ++ restored_globals (drop (i + 1) vars) (drop at kept)) g ∙ append_assoc globals (x ∷ []) (restored_globals (drop (i + 1) vars) (drop at kept))
            ∙ ap (λ t. globals ++ t) (sym values_here) ∙ a.values;
        typed = subst (AreOf (map (λ global. global.ty) (take (i + 1) vars))) (sym g) (typed_more x f);
      }
