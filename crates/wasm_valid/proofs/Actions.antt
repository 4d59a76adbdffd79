-- What a plain instruction does to operands is what the typing relation says of it.
use Rattle.std.proofs.Common.{◌≡◌, ◌^◌, ℕ, List, [], ◌∷◌, Option, Some, None, Bool, true, false, refl, sym, ap, ◌∙◌, subst, cond}
use Rattle.std.specs.Prelude.{map, reverse, slice_get, nat_le, ◌&&◌}
use Rattle.std.specs.List.{AllByRecursion, list_all}
use Rattle.std.proofs.lemmas.Option.{slice_get-map}
use Rattle.std.proofs.lemmas.Bool.{leb-true, le-leb}
use Rattle.wasm_tree.specs.declared.module.ValType.{ValType}
use Rattle.wasm_tree.specs.declared.module.ValType.TheVariants.{I32}
use Rattle.wasm_tree.specs.declared.instr.Instr.{Instr}
use Rattle.wasm_tree.specs.declared.instr.Instr.TheVariants as instr
use Rattle.wasm_tree.specs.Meaning.{load_size, store_size}
use Rattle.wasm_tree.specs.Typed.{Context, Has, Takes as TakesTypes, Applies, result_types}
use Rattle.wasm_valid.specs.Checking.{Action, Wrong, action, if_given, is_same_result, takes_along}
use Rattle.wasm_valid.proofs.OperandTypes.{Acts, same_is, same_self, some_is}

abbrev pub types_of : List (Option ValType) → List (List ValType)
types_of labels = map result_types labels

pub result_is : (a b : Option ValType) → is_same_result a b ≡ true → a ≡ b
result_is None None e = refl
result_is (Some a) (Some b) e = ap (λ (t : ValType). Some t) (same_is a b e)
result_is None (Some b) e = absurd cc
result_is (Some a) None e = absurd cc

pub result_self : (a : Option ValType) → is_same_result a a ≡ true
result_self None = refl
result_self (Some a) = same_self a

pub same_types : (a b : Option ValType) → result_types a ≡ result_types b → a ≡ b
same_types None None e = refl
same_types (Some a) (Some b) e = ap (λ (t : ValType). Some t) (cc e)
same_types None (Some b) e = absurd cc
same_types (Some a) None e = absurd cc

-- a label of the list
label_at : (labels : List (Option ValType)) (label : ℕ) (t : Option ValType) → slice_get labels label ≡ Some t → slice_get (types_of labels) label ≡ Some (result_types t)
label_at labels label t e = slice_get-map result_types labels label ∙ ap (λ (o : Option (Option ValType)). elim o [ None ↦ None | Some x ↦ Some (result_types x) ]) e

label_of : (labels : List (Option ValType)) (label : ℕ) (types : List ValType) → slice_get (types_of labels) label ≡ Some types → (t : Option ValType) × (slice_get labels label ≡ Some t) × (result_types t ≡ types)
label_of labels label types e = at (slice_get labels label) refl (sym (slice_get-map result_types labels label) ∙ e)
  where
    at : (o : Option (Option ValType)) → slice_get labels label ≡ o → elim o [ None ↦ None | Some x ↦ Some (result_types x) ] ≡ Some types → (t : Option ValType) × (slice_get labels label ≡ Some t) × (result_types t ≡ types)
    at None is e = absurd cc
    at (Some t) is e = (t, is, some_is _ _ e)

-- what is given
given : {A : Type 0} (o : Option A) (f : A → Action) (before after : List ValType) → Acts (if_given o f) before after → (x : A) × (o ≡ Some x) × Acts (f x) before after
given None f before after h = absurd h
given (Some x) f before after h = (x, refl, h)

give : {A : Type 0} (o : Option A) (f : A → Action) (x : A) (before after : List ValType) → o ≡ Some x → Acts (f x) before after → Acts (if_given o f) before after
give o f x before after e h = subst (λ o. Acts (if_given o f) before after) (sym e) h

-- what is done only where a test holds
tested : (b : Bool) (a : Action) (before after : List ValType) → Acts (cond b a Wrong) before after → (b ≡ true) × Acts a before after
tested true a before after h = (refl, h)
tested false a before after h = absurd h

test : (b : Bool) (a : Action) (before after : List ValType) → b ≡ true → Acts a before after → Acts (cond b a Wrong) before after
test b a before after e h = subst (λ b. Acts (cond b a Wrong) before after) (sym e) h

module _ (c : Context) (result : Option ValType) (labels : List (Option ValType)) (results_are : reverse c.results ≡ result_types result) where
  along_is : (t : Option ValType) (label : ℕ) → takes_along labels t label ≡ true → slice_get labels label ≡ Some t
  along_is t label e = at (slice_get labels label) refl e
    where
      at : (o : Option (Option ValType)) → slice_get labels label ≡ o → elim o [ None ↦ false | Some other ↦ is_same_result other t ] ≡ true → slice_get labels label ≡ Some t
      at None is e = absurd cc
      at (Some other) is e = is ∙ ap (λ (x : Option ValType). Some x) (result_is other t e)

  along_of : (t : Option ValType) (label : ℕ) → slice_get labels label ≡ Some t → takes_along labels t label ≡ true
  along_of t label e = ap (λ (o : Option (Option ValType)). elim o [ None ↦ false | Some other ↦ is_same_result other t ]) e ∙ result_self t

  all_along : (t : Option ValType) (table : List ℕ) → list_all (takes_along labels t) table ≡ true → AllByRecursion (λ label. slice_get (types_of labels) label ≡ Some (result_types t)) table
  all_along t [] e = tt
  all_along t (label ∷ table) e =
      let both = two (takes_along labels t label) (list_all (takes_along labels t) table) e in
      (label_at labels label t (along_is t label both.0), all_along t table both.1)
    where
      two : (a b : Bool) → (a && b) ≡ true → (a ≡ true) × (b ≡ true)
      two true b e = (refl, e)
      two false b e = absurd cc

  along_all : (t : Option ValType) (table : List ℕ) → AllByRecursion (λ label. slice_get (types_of labels) label ≡ Some (result_types t)) table → list_all (takes_along labels t) table ≡ true
  along_all t [] h = refl
  along_all t (label ∷ table) h =
      let l = label_of labels label (result_types t) h.0 in
      let is : slice_get labels label ≡ Some t = l.1 ∙ ap (λ (x : Option ValType). Some x) (same_types l.0 t l.2) in
      rw (along_of t label is) (along_all t table h.1)

  pub applies_from : (i : Instr) (before after : List ValType) → Acts (action c result labels i) before after → Applies c (types_of labels) i before after
  unfolding action
  applies_from instr.Unreachable before after h = tt
  applies_from instr.Nop before after h = h
  applies_from (instr.Br label) before after h =
      let g = given (slice_get labels label) _ before after h in (result_types g.0, label_at labels label g.0 g.1, g.2)
  applies_from (instr.BrIf label) before after h =
      let g = given (slice_get labels label) _ before after h in (result_types g.0, label_at labels label g.0 g.1, g.2)
  applies_from (instr.BrTable table) before after h =
      let g = given (slice_get labels table.other) _ before after h in
      let t = tested (list_all (takes_along labels g.0) table.labels) _ before after g.2 in
      (result_types g.0, label_at labels table.other g.0 g.1, all_along g.0 table.labels t.0, t.1)
  applies_from instr.Return before after h = subst (λ l. Has l before) (sym results_are) h
  applies_from (instr.Call function) before after h = given (slice_get c.functions function) _ before after h
  applies_from instr.Drop before after h = h
  applies_from instr.Select before after h = h
  applies_from (instr.LocalGet local) before after h = given (slice_get c.locals local) _ before after h
  applies_from (instr.LocalSet local) before after h = given (slice_get c.locals local) _ before after h
  applies_from (instr.LocalTee local) before after h = given (slice_get c.locals local) _ before after h
  applies_from (instr.GlobalGet global) before after h = given (slice_get c.globals global) _ before after h
  applies_from (instr.GlobalSet global) before after h =
      let g = given (slice_get c.globals global) _ before after h in
      let t = tested g.0.mutable _ before after g.2 in
      (g.0, g.1, t.0, t.1)
  applies_from (instr.Load op place) before after h =
      let t = tested (nat_le (2 ^ place.align) (load_size op)) _ before after h in (leb-true _ _ t.0, t.1)
  applies_from (instr.Store op place) before after h =
      let t = tested (nat_le (2 ^ place.align) (store_size op)) _ before after h in (leb-true _ _ t.0, t.1)
  applies_from instr.MemorySize before after h = h
  applies_from (instr.I32Const value) before after h = h
  applies_from (instr.I64Const value) before after h = h
  applies_from (instr.Test type) before after h = h
  applies_from (instr.Compare type op) before after h = h
  applies_from (instr.Unary type op) before after h = h
  applies_from (instr.Binary type op) before after h = h
  applies_from (instr.Convert op) before after h = h
  applies_from (instr.Block type) before after h = h
  applies_from (instr.Loop type) before after h = h
  applies_from (instr.If type) before after h = h
  applies_from instr.Else before after h = h
  applies_from instr.End before after h = h

  pub applies_to : (i : Instr) (before after : List ValType) → Applies c (types_of labels) i before after → Acts (action c result labels i) before after
  unfolding action
  applies_to instr.Unreachable before after h = record { below = before; had = refl }
  applies_to instr.Nop before after h = h
  applies_to (instr.Br label) before after h =
      let l = label_of labels label h.0 h.1 in
      give (slice_get labels label) _ l.0 before after l.1 (subst (λ types. Has types before) (sym l.2) h.2)
  applies_to (instr.BrIf label) before after h =
      let l = label_of labels label h.0 h.1 in
      give (slice_get labels label) _ l.0 before after l.1 (subst (λ types. TakesTypes (I32 ∷ types) types before after) (sym l.2) h.2)
  applies_to (instr.BrTable table) before after h =
      let l = label_of labels table.other h.0 h.1 in
      give (slice_get labels table.other) _ l.0 before after l.1
      (test (list_all (takes_along labels l.0) table.labels) _ before after
      (along_all l.0 table.labels (subst (λ types. AllByRecursion (λ label. slice_get (types_of labels) label ≡ Some types) table.labels) (sym l.2) h.2))
      (subst (λ types. Has (I32 ∷ types) before) (sym l.2) h.3))
  applies_to instr.Return before after h = subst (λ l. Has l before) results_are h
  applies_to (instr.Call function) before after h = give (slice_get c.functions function) _ h.0 before after h.1 h.2
  applies_to instr.Drop before after h = h
  applies_to instr.Select before after h = h
  applies_to (instr.LocalGet local) before after h = give (slice_get c.locals local) _ h.0 before after h.1 h.2
  applies_to (instr.LocalSet local) before after h = give (slice_get c.locals local) _ h.0 before after h.1 h.2
  applies_to (instr.LocalTee local) before after h = give (slice_get c.locals local) _ h.0 before after h.1 h.2
  applies_to (instr.GlobalGet global) before after h = give (slice_get c.globals global) _ h.0 before after h.1 h.2
  applies_to (instr.GlobalSet global) before after h = give (slice_get c.globals global) _ h.0 before after h.1 (test h.0.mutable _ before after h.2 h.3)
  applies_to (instr.Load op place) before after h = test (nat_le (2 ^ place.align) (load_size op)) _ before after (le-leb _ _ h.0) h.1
  applies_to (instr.Store op place) before after h = test (nat_le (2 ^ place.align) (store_size op)) _ before after (le-leb _ _ h.0) h.1
  applies_to instr.MemorySize before after h = h
  applies_to (instr.I32Const value) before after h = h
  applies_to (instr.I64Const value) before after h = h
  applies_to (instr.Test type) before after h = h
  applies_to (instr.Compare type op) before after h = h
  applies_to (instr.Unary type op) before after h = h
  applies_to (instr.Binary type op) before after h = h
  applies_to (instr.Convert op) before after h = h
  applies_to (instr.Block type) before after h = h
  applies_to (instr.Loop type) before after h = h
  applies_to (instr.If type) before after h = h
  applies_to instr.Else before after h = h
  applies_to instr.End before after h = h
