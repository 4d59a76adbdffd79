-- The functions of a module whose bodies are typed and hold no more than their rooms are governed: Core Specification 1.0,
-- appendix, "Soundness".
use Rattle.std.proofs.Common.{◌≡◌, ◌≤◌, ◌+◌, ℕ, zero, suc, List, [], ◌∷◌, ◌++◌, length, Option, Some, None, Bool, true, false, refl, sym, ap, ◌∙◌, subst, ◌⊎◌, inl, inr, arith, cond}
use Rattle.std.specs.Prelude.{map, reverse, slice_get, nat_le, ◌^◌}
use Rattle.std.specs.Option.{option_map}
use Rattle.std.specs.List.{AllByRecursion}
use Rattle.std.proofs.lemmas.List.{length-map}
use Rattle.std.proofs.lemmas.Option.{slice_get-map}
use Rattle.wasm_tree.specs.declared.module.ValType.{ValType}
use Rattle.wasm_tree.specs.declared.module.ValType.TheVariants.{I32}
use Rattle.wasm_tree.specs.declared.module.FuncType.{FuncType}
use Rattle.wasm_tree.specs.declared.module.FuncBody.{FuncBody}
use Rattle.wasm_tree.specs.declared.module.Module.{Module}
use Rattle.wasm_tree.specs.declared.instr.Instr.{Instr}
use Rattle.wasm_tree.specs.declared.instr.Instr.TheVariants as instr
use Rattle.wasm_tree.specs.Host.{HasImport}
use Rattle.wasm_tree.specs.Meaning.{load_type, load_size, store_type, store_size}
use Rattle.wasm_tree.specs.Instance.{functions_of, funcs_of}
use Rattle.wasm_tree.specs.Numbers.{type_at, function_types, declared_locals}
use Rattle.wasm_tree.specs.Reduce.{Seq, Nil, Plain, InBlock, InLoop, InIf, Func, Piece, pieces, tree_of, whole_piece}
use Rattle.wasm_tree.specs.Typed.{Context, result_types}
use Rattle.wasm_tree.specs.Valid.{EachBody, IsBody, HaveFewResults, AreBodiesTyped}
use Rattle.wasm_tree.proofs.Imports.{functions_follow}
use Rattle.wasm_sound.specs.Governed.{Rules, Permits, Next, Governed, IsGovernedFunc, IsGovernedScope}
use Rattle.wasm_sound.specs.Rooms.{Rooms, within, scope_of}
use Rattle.wasm_valid.specs.Bodies.{context_of, result_one}
use Rattle.wasm_valid.specs.Checking.{Action, Wrong, Takes, Ends, Drops, Selects, action, if_given, at_begin}
use Rattle.wasm_valid.specs.Needs.{HoldsNoMore, AreNeeds}
use Rattle.wasm_valid.proofs.OperandTypes.{Acts, some_is}
use Rattle.wasm_valid.proofs.Actions.{types_of, applies_from}
use Rattle.wasm_valid.proofs.BodyTypes.{results_are, typed_accepted}
use Rattle.wasm_valid.proofs.NeedLemmas.{few_type}
use Rattle.wasm_valid.proofs.Fit.{IsEnding, FitAct, Fit, HeldFit, fits}

-- ---- what an instruction leaves

acts_of : (c : Context) (result : Option ValType) (May : Instr → Type 0) (cells marks : ℕ) (a : Action) (before : List ValType) (next : List ValType → Type 0) → FitAct c result May cells marks a before next →
    (between : List ValType) × Acts a before between × (IsEnding a ⊎ next between)
acts_of c result May cells marks Wrong before next f = absurd f
acts_of c result May cells marks (Takes ins outs) before next f = (f.0, f.1, inr f.2)
acts_of c result May cells marks (Ends ins) before next f = (before, f, inl tt)
acts_of c result May cells marks Drops before next f = (f.0, f.1, inr f.2)
acts_of c result May cells marks Selects before next f = (f.0, f.1, inr f.2)

never_given : {A : Type 0} (o : Option A) (f : A → Action) → ((x : A) → IsEnding (f x) → ⊥) → IsEnding (if_given o f) → ⊥
never_given None f h e = e
never_given (Some x) f h e = h x e

never_tested : (b : Bool) (a : Action) → (IsEnding a → ⊥) → IsEnding (cond b a Wrong) → ⊥
never_tested true a h e = h e
never_tested false a h e = e

module _ (c : Context) (result : Option ValType) (labels : List (Option ValType)) (R : Type 0) where
  reached : (i : Instr) → (IsEnding (action c result labels i) → ⊥) → IsEnding (action c result labels i) ⊎ R → R
  reached i h (inl e) = absurd (h e)
  reached i h (inr r) = r

  next_of : (i : Instr) → IsEnding (action c result labels i) ⊎ R → Next i R
  unfolding action
  next_of instr.Unreachable h = tt
  next_of (instr.Br label) h = tt
  next_of (instr.BrTable table) h = tt
  next_of instr.Return h = tt
  next_of (instr.BrIf label) h = reached (instr.BrIf label) (never_given (slice_get labels label) _ (λ t e. e)) h
  next_of (instr.Call function) h = reached (instr.Call function) (never_given (slice_get c.functions function) _ (λ t e. e)) h
  next_of (instr.LocalGet local) h = reached (instr.LocalGet local) (never_given (slice_get c.locals local) _ (λ t e. e)) h
  next_of (instr.LocalSet local) h = reached (instr.LocalSet local) (never_given (slice_get c.locals local) _ (λ t e. e)) h
  next_of (instr.LocalTee local) h = reached (instr.LocalTee local) (never_given (slice_get c.locals local) _ (λ t e. e)) h
  next_of (instr.GlobalGet global) h = reached (instr.GlobalGet global) (never_given (slice_get c.globals global) _ (λ t e. e)) h
  next_of (instr.GlobalSet global) h = reached (instr.GlobalSet global) (never_given (slice_get c.globals global) _ (λ var e. never_tested var.mutable _ (λ e. e) e)) h
  next_of (instr.Load op place) h = reached (instr.Load op place) (never_tested (nat_le (2 ^ place.align) (load_size op)) (Takes (I32 ∷ []) (load_type op ∷ [])) (λ e. e)) h
  next_of (instr.Store op place) h = reached (instr.Store op place) (never_tested (nat_le (2 ^ place.align) (store_size op)) (Takes (store_type op ∷ I32 ∷ []) []) (λ e. e)) h
  next_of _ (inl e) = absurd e
  next_of _ (inr r) = r

-- ---- from the pass over a body

module _ (c : Context) (result : Option ValType) (results_are : reverse c.results ≡ result_types result) (rules : Rules) (f : ℕ) (cells marks base : ℕ)
    (room : (height depth : ℕ) → height ≤ cells → depth ≤ marks → rules.Room f (base + height) depth) where
  abbrev Code : List (Option ValType) → ℕ → Seq → List ValType → List ValType → Type 0
  Code labels low s before after = Governed rules f c (types_of labels) (base + low) s before after

  here : (labels : List (Option ValType)) (low : ℕ) (before : List ValType) → low + length before ≤ cells → length labels ≤ marks → rules.Room f (base + low + length before) (length (types_of labels))
  here labels low before h d =
      let n : base + (low + length before) ≡ base + low + length before = omega arith in
      let k : length labels ≡ length (types_of labels) = sym (length-map labels (λ (t : Option ValType). result_types t)) in
      subst (λ k. rules.Room f (base + low + length before) k) k (subst (λ n. rules.Room f n (length labels)) n (room (low + length before) (length labels) h d))

  shifted : (labels : List (List ValType)) (low more : ℕ) (s : Seq) (after : List ValType) → Governed rules f c labels (base + (low + more)) s [] after → Governed rules f c labels (base + low + more) s [] after
  shifted labels low more s after g = let n : base + (low + more) ≡ base + low + more = omega arith in subst (λ n. Governed rules f c labels n s [] after) n g

  pub governed : (s : Seq) (labels : List (Option ValType)) (low : ℕ) (before after : List ValType) → Fit c result (Permits rules f) cells marks labels low s before after → Code labels low s before after
  governed Nil labels low before after t = (here labels low before t.0.0 t.0.1, t.1)
  governed (Plain i s) labels low before after t =
      let a = acts_of c result (Permits rules f) cells marks (action c result labels i) before (λ between. Fit c result (Permits rules f) cells marks labels low s between after) t.2 in
      let rest : IsEnding (action c result labels i) ⊎ Code labels low s a.0 after = elim a.2 [ inl e ↦ inl e | inr r ↦ inr (governed s labels low a.0 after r) ] in
      (here labels low before t.0.0 t.0.1, t.1, (a.0, applies_from c result labels results_are i before a.0 a.1, next_of c result labels (Code labels low s a.0 after) i rest))
  governed (InBlock type body s) labels low before after t = (
    here labels low before t.0.0 t.0.1,
    shifted (result_types type ∷ types_of labels) low (length before) body (result_types type) (governed body (type ∷ labels) (low + length before) [] (result_types type) t.1),
    governed s labels low (result_types type ++ before) after t.2,
  )
  governed (InLoop type body s) labels low before after t = (
    here labels low before t.0.0 t.0.1,
    shifted ([] ∷ types_of labels) low (length before) body (result_types type) (governed body (None ∷ labels) (low + length before) [] (result_types type) t.1),
    governed s labels low (result_types type ++ before) after t.2,
  )
  governed (InIf type first second s) labels low before after t =
      let k = t.1 in (
        here labels low before t.0.0 t.0.1,
        (
          k.0,
          k.1,
          shifted (result_types type ∷ types_of labels) low (length k.0) first (result_types type) (governed first (type ∷ labels) (low + length k.0) [] (result_types type) k.2),
          shifted (result_types type ∷ types_of labels) low (length k.0) second (result_types type) (governed second (type ∷ labels) (low + length k.0) [] (result_types type) k.3),
          governed s labels low (result_types type ++ k.0) after k.4,
        ),
      )

-- ---- bodies

module _ (m : Module) (type : FuncType) (body : FuncBody) (rules : Rules) (f cells marks base : ℕ)
    (room : (height depth : ℕ) → height ≤ cells → depth ≤ marks → rules.Room f (base + height) depth) where
  abbrev ctx : Context
  ctx = context_of m type body.locals

  abbrev res : Option ValType
  res = result_one type.results

  abbrev Whole : List Piece → Type 0
  Whole ps = Governed rules f ctx (result_types res ∷ []) (base + 0) (whole_piece ps) [] (result_types res)

  no_types : (before : List ValType) → [] ≡ map (λ (t : ValType). Some t) before → before ≡ []
  no_types [] e = refl
  no_types (t ∷ before) e = absurd cc

  whole : (are : reverse ctx.results ≡ result_types res) (ps : List Piece) → HeldFit ctx res (Permits rules f) cells marks ps (at_begin res) → Whole ps
  whole are [] h = absurd h
  whole are (p ∷ ps) h =
      let r = h.0 refl in
      let none = no_types r.0 r.1 in
      governed ctx res are rules f cells marks base room p.rest (res ∷ []) 0 [] (result_types res)
      (subst (λ l. Fit ctx res (Permits rules f) cells marks (res ∷ []) 0 p.rest l (result_types res)) none r.2)

  pub body_governed : length type.results ≤ 1 → IsBody m type body → HoldsNoMore m type body cells marks → AllByRecursion (Permits rules f) body.code →
      Governed rules f ctx (reverse type.results ∷ []) base (tree_of body.code) [] (reverse type.results)
  body_governed few typed stays may =
      let are = results_are type.results few in
      let w = whole are (pieces body.code) (fits ctx res (Permits rules f) cells marks body.code may (at_begin res) (typed_accepted m type body few typed) stays ((λ d. ([], refl)), tt)) in
      let n : base + 0 ≡ base = omega arith in
      subst (λ n. Governed rules f ctx (reverse type.results ∷ []) n (tree_of body.code) [] (reverse type.results)) n
      (subst (λ l. Governed rules f ctx (l ∷ []) (base + 0) (tree_of body.code) [] l) (sym are) w)

-- ---- functions

-- the function of this place among the module's own
pub func_at : (m : Module) (types : List ℕ) (bodies : List FuncBody) (k t : ℕ) → EachBody (IsBody m) m types bodies → slice_get types k ≡ Some t →
    (body : FuncBody) × (slice_get bodies k ≡ Some body) × IsBody m (type_at m t) body
    × (slice_get (functions_of m types bodies) k ≡ Some (record { params = length (type_at m t).params; results = length (type_at m t).results; locals = length (declared_locals body.locals); body = tree_of body.code }))
func_at m [] bodies zero t h e = absurd cc
func_at m [] bodies (suc k) t h e = absurd cc
func_at m (u ∷ types) [] k t h e = absurd h
func_at m (u ∷ types) (b ∷ bodies) zero t h e =
    let same : u ≡ t = some_is u t e in (
      b,
      refl,
      subst (λ (u : ℕ). IsBody m (type_at m u) b) same h.0,
      ap (λ (u : ℕ). Some (record { params = length (type_at m u).params; results = length (type_at m u).results; locals = length (declared_locals b.locals); body = tree_of b.code })) same,
    )
func_at m (u ∷ types) (b ∷ bodies) (suc k) t h e = func_at m types bodies k t h.1 e

pub type_of : (m : Module) (k : ℕ) (type : FuncType) → HasImport m → slice_get (function_types m) (suc k) ≡ Some type → (t : ℕ) × (slice_get m.functions k ≡ Some t) × (type_at m t ≡ type)
type_of m k type import e =
    by (slice_get m.functions k) refl (sym (slice_get-map (type_at m) m.functions k) ∙ (sym (ap (λ l. slice_get l (suc k)) (functions_follow m import)) ∙ e))
  where
    by : (o : Option ℕ) → slice_get m.functions k ≡ o → option_map (type_at m) o ≡ Some type → (t : ℕ) × (slice_get m.functions k ≡ Some t) × (type_at m t ≡ type)
    by None is e = absurd cc
    by (Some t) is e = (t, is, some_is _ _ e)

module _ (m : Module) (import : HasImport m) (few : HaveFewResults m) (typed : AreBodiesTyped m) (rooms : Rooms) (most_cells most_marks : ℕ) (needs : AreNeeds m rooms (within rooms most_cells most_marks)) where
  abbrev rules : Rules
  rules = within rooms most_cells most_marks

  own_func : (k : ℕ) (type : FuncType) → slice_get (function_types m) (suc k) ≡ Some type → (f : Func) × (slice_get (funcs_of m) k ≡ Some f) × IsGovernedFunc rules (scope_of m) (suc k) type f
  own_func k type e =
      let t = type_of m k type import e in
      let g = func_at m m.functions m.codes k t.0 typed t.1 in
      let body = g.0 in
      let is = needs k t.0 body t.1 g.1 in
      let few_results : length (type_at m t.0).results ≤ 1 = few_type m.types t.0 few in
      let base = length ((type_at m t.0).params ++ declared_locals body.locals) in
      let fit = is.cells_fit in
      let deep = is.marks_fit in
      let func : Func = record { params = length (type_at m t.0).params; results = length (type_at m t.0).results; locals = length (declared_locals body.locals); body = tree_of body.code } in (
        func,
        g.3,
        subst (λ (type : FuncType). IsGovernedFunc rules (scope_of m) (suc k) type func) t.2
            (record {
              declared = declared_locals body.locals;
              params = refl;
              results = refl;
              locals = refl;
              few = few_results;
              typed = body_governed m (type_at m t.0) body rules (suc k) is.cells is.marks base (λ height depth h d. (omega arith, omega arith)) few_results g.2 is.holds is.permits;
            }),
      )

  pub scope_governed : IsGovernedScope rules (scope_of m)
  scope_governed = record {
    emit = ap (λ l. slice_get l 0) (functions_follow m import);
    own = own_func;
  }
