-- The mutable globals of an instance, one after another.
use Rattle.std.proofs.Common.{◌≡◌, ◌<◌, ◌≤◌, ◌+◌, ℕ, List, [], ◌∷◌, length, get_or, take, drop, set, ◌++◌, ℤ, sym, ap, ◌∙◌, subst, arith}
use Rattle.std.specs.Prelude.{map, Bool, true, false, if◌then◌else◌}
use Rattle.std.proofs.lemmas.List.{drop_more, take_more_set, append_assoc, length-set, drop_all, take_all, append-nil, length-drop}
use Rattle.wasm_tree.specs.declared.module.ValType.{ValType}
use Rattle.wasm_tree.specs.declared.module.GlobalVar.{GlobalVar}
use Rattle.wasm_tree.specs.Stopped.{signed_of, kept_globals}
use Rattle.wasm_sound.specs.Kinds.{IsOf, AreOf}
use Rattle.wasm_runner.specs.Snapshots.{kept_types}

-- the mutable ones of the first globals are written, and the others are to follow
pub record AreKept (vars : List GlobalVar) (globals : List ℕ) (i at : ℕ) (into : List ℤ) : Type 0 where
  pub few : at ≤ i
  pub long : at + length (kept_types (drop i vars)) ≡ length into
  pub typed : AreOf (map (λ global. global.ty) (drop i vars)) (drop i globals)
  pub values : take at into ++ kept_globals (drop i vars) (drop i globals) ≡ kept_globals vars globals

some_left : (type : ValType) (types : List ValType) (bits : List ℕ) → AreOf (type ∷ types) bits → 0 < length bits
some_left type types [] h = absurd h
some_left type types (x ∷ xs) h = omega arith

module _ (vars : List GlobalVar) (globals : List ℕ) (i at : ℕ) (into : List ℤ) (a : AreKept vars globals i at into) (var : GlobalVar) (l : i < length vars) (e : var ≡ get_or vars i var) where
  here : drop i vars ≡ var ∷ drop (i + 1) vars
  here = drop_more vars i var l ∙ ap (λ (v : GlobalVar). v ∷ drop (i + 1) vars) (sym e)

  typed : AreOf (var.ty ∷ map (λ global. global.ty) (drop (i + 1) vars)) (drop i globals)
  typed = subst (λ v. AreOf (map (λ (global : GlobalVar). global.ty) v) (drop i globals)) here a.typed

  pub within : i < length globals
  within = omega (arith, some_left var.ty (map (λ global. global.ty) (drop (i + 1) vars)) (drop i globals) typed, length-drop i globals)

  abbrev x : ℕ
  x = get_or globals i 0

  bits_here : drop i globals ≡ x ∷ drop (i + 1) globals
  bits_here = drop_more globals i 0 within

  both : AreOf (var.ty ∷ map (λ global. global.ty) (drop (i + 1) vars)) (x ∷ drop (i + 1) globals)
  both = subst (AreOf (var.ty ∷ map (λ global. global.ty) (drop (i + 1) vars))) bits_here typed

  pub fits : IsOf var.ty x
  fits = both.0

  types_here : (t : Bool) → var.mutable ≡ t → length (kept_types (drop i vars)) ≡ length (if t then var.ty ∷ kept_types (drop (i + 1) vars) else kept_types (drop (i + 1) vars))
  types_here t m = ap (λ v. length (kept_types v)) here ∙ ap (λ b. length (if b then var.ty ∷ kept_types (drop (i + 1) vars) else kept_types (drop (i + 1) vars))) m

  values_here : (t : Bool) → var.mutable ≡ t → kept_globals (drop i vars) (drop i globals) ≡ (if t then signed_of var.ty x ∷ [] else []) ++ kept_globals (drop (i + 1) vars) (drop (i + 1) globals)
  values_here t m =
      ap (λ v. kept_globals v (drop i globals)) here ∙ ap (kept_globals (var ∷ drop (i + 1) vars)) bits_here
      ∙ ap (λ b. (if b then signed_of var.ty x ∷ [] else []) ++ kept_globals (drop (i + 1) vars) (drop (i + 1) globals)) m

  pub room : var.mutable ≡ true → at < length into
  room m = omega (arith, types_here true m, a.long)

  pub written : var.mutable ≡ true → (z : ℤ) (into' : List ℤ) → z ≡ signed_of var.ty x → into' ≡ set into at z → AreKept vars globals (i + 1) (at + 1) into'
  written m z into' b s =
      let rest : List ℤ = kept_globals (drop (i + 1) vars) (drop (i + 1) globals) in
      let size : length into' ≡ length into = ap length s ∙ length-set into at z in
      let first : take (at + 1) into' ≡ take at into ++ z ∷ [] = ap (take (at + 1)) s ∙ take_more_set into at z (room m) in
      record {
        few = omega (arith, a.few);
        long = omega (arith, types_here true m, a.long, size);
        typed = both.1;
        values = ap (λ l. l ++ rest) first ∙ append_assoc (take at into) (z ∷ []) rest
            ∙ ap (λ (y : ℤ). take at into ++ (y ∷ rest)) b ∙ ap (λ t. take at into ++ t) (sym (values_here true m)) ∙ a.values;
      }

  pub passed : var.mutable ≡ false → AreKept vars globals (i + 1) at into
  passed m =
      record {
        few = omega (arith, a.few);
        long = omega (arith, types_here false m, a.long);
        typed = both.1;
        values = ap (λ t. take at into ++ t) (sym (values_here false m)) ∙ a.values;
      }

pub all_kept : (vars : List GlobalVar) (globals : List ℕ) (i at : ℕ) (into : List ℤ) → AreKept vars globals i at into → length vars ≤ i → into ≡ kept_globals vars globals
all_kept vars globals i at into a l =
    let none : drop i vars ≡ [] = drop_all i vars l in
    let size : at ≡ length into = omega (arith, a.long, ap (λ v. length (kept_types v)) none) in
    sym (take_all at into (omega (arith, size))) ∙ sym (append-nil (take at into)) ∙ ap (λ v. take at into ++ kept_globals v (drop i globals)) (sym none) ∙ a.values
