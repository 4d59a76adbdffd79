-- Calls of a module's exports begin with governed code, so all that they reach is governed and within the rooms.
use Rattle.std.proofs.Common.{◌≡◌, ℕ, zero, suc, ◌≤◌, List, [], ◌∷◌, ◌++◌, length, Some, refl, sym, ap, subst, arith, append-nil}
use Rattle.std.specs.Prelude.{slice_get, reverse, replicate, map, unwrap_or}
use Rattle.wasm_tree.specs.declared.module.ValType.TheVariants.{I32}
use Rattle.wasm_tree.specs.declared.module.FuncType.{FuncType}
use Rattle.wasm_tree.specs.declared.module.Module.{Module}
use Rattle.wasm_tree.specs.Instance.{funcs_of, begun, begun_at, no_function}
use Rattle.wasm_tree.specs.Numbers.{emit_type}
use Rattle.wasm_tree.specs.Reduce.{Config, Step, To, Asks, Ends, Traps, Sticks}
use Rattle.wasm_tree.specs.Valid.{memory_size}
use Rattle.wasm_steps.specs.Steps.{reduce}
use Rattle.wasm_sound.specs.Kinds.{AreOf}
use Rattle.wasm_sound.specs.Sound.{Scope, most_memory}
use Rattle.wasm_sound.specs.Reached.{Reaches, Stay, Reduced, Answered, IsMemoryOf, IsInstanceOf, IsCall, IsReached, IsSafe, AreBounds}
use Rattle.wasm_sound.specs.Governed.{Rules, IsGovernedScope, HasBytes, IsGoverned, KeepsRules}
use Rattle.wasm_sound.specs.Rooms.{Rooms, within, scope_of, AreRooms}
use Rattle.wasm_sound.proofs.Values.{joined, zeros_are}
use Rattle.wasm_sound.proofs.Preserved.{Lessens, reduce_keeps}
use Rattle.wasm_sound.proofs.Bounded.{holds_no_more}

module _ (m : Module) (rooms : Rooms) (most_cells most_marks : ℕ) (are : AreRooms m rooms most_cells most_marks) (small : memory_size m.memory ≤ most_memory)
    (each : IsGovernedScope (within rooms most_cells most_marks) (scope_of m)) where
  abbrev rules : Rules
  rules = within rooms most_cells most_marks

  abbrev scope : Scope
  scope = scope_of m

  abbrev size : ℕ
  size = memory_size m.memory

  abbrev Holds : Config → Type 0
  Holds c = IsGoverned rules scope size c

  lessens : Lessens rules
  lessens f cells more marks others h a b = let h0 = h.0 in let h1 = h.1 in (omega arith, omega arith)

  own_memory : (memory : List ℕ) → IsMemoryOf m memory → HasBytes size memory
  own_memory memory is = record { length_is = is.size; bytes = is.bytes }

  -- ---- where a call begins

  begins_with : (number : ℕ) (type : FuncType) (arguments globals memory : List ℕ) → rules.Begins number → slice_get scope.types number ≡ Some type → AreOf type.params arguments → IsInstanceOf m globals memory →
      Holds (begun_at (funcs_of m) number arguments globals memory)
  begins_with zero type arguments globals memory may e given instance =
      let same : type ≡ emit_type = cc (e, each.emit) in
      let cells = are.emit_cells in
      let labels = are.emit_labels in
      record {
        number = 0;
        locals = [];
        results = [];
        few = omega arith;
        operands = I32 ∷ [];
        held = subst (λ (type : FuncType). AreOf type.params arguments) same given;
        own = tt;
        shared = instance.typed;
        memory = own_memory memory instance.own;
        labels = [] ∷ [];
        low = 0;
        after = [];
        typed = ((omega arith, omega arith), tt, ([], (emit_type, each.emit, record { below = []; had = refl; has = refl }), ((omega arith, omega arith), refl)));
        open_labels = (refl, refl, record { below = []; had = refl }, refl);
        callers = may;
      }
  begins_with (suc number) type arguments globals memory may e given instance =
      let g = each.own number type e in
      let f = g.0 in
      let is = g.2 in
      let zeros : AreOf is.declared (replicate f.locals 0) = subst (λ n. AreOf is.declared (replicate n 0)) (sym is.locals) (zeros_are is.declared) in
      let here : unwrap_or (slice_get (funcs_of m) number) no_function ≡ f = ap (λ o. unwrap_or o no_function) g.1 in
      subst (λ f. Holds (begun f arguments globals memory)) (sym here) (record {
        number = suc number;
        locals = type.params ++ is.declared;
        results = type.results;
        few = is.few;
        operands = [];
        held = tt;
        own = joined type.params is.declared arguments (replicate f.locals 0) given zeros;
        shared = instance.typed;
        memory = own_memory memory instance.own;
        labels = reverse type.results ∷ [];
        low = length (type.params ++ is.declared);
        after = reverse type.results;
        typed = is.typed;
        open_labels = (refl, refl, record { below = []; had = sym (append-nil (reverse type.results)) }, refl);
        callers = may;
      })

  begins : (c : Config) → IsCall m c → Holds c
  begins c call = subst Holds (sym call.begins) (begins_with call.number call.type call.arguments call.globals call.memory (are.begin call.name call.number call.exported) call.has call.given call.instance)

  -- ---- where it comes to

  goes : (c d : Config) → Holds c → reduce scope.funcs c ≡ To d → Holds d
  goes c d h e = subst (KeepsRules rules scope size) e (reduce_keeps rules lessens scope size small each c h)

  goes_on : (number : Rattle.std.specs.Prelude.ℤ) (memory : List ℕ) (c d : Config) → Holds c → reduce scope.funcs c ≡ Asks number memory d → Holds d
  goes_on number memory c d h e = subst (KeepsRules rules scope size) e (reduce_keeps rules lessens scope size small each c h)

  comes : (c d : Config) → Reaches scope.funcs c d → Holds c → Holds d
  comes c d (Stay _) h = h
  comes c d (Reduced _ e _ r more) h = comes e d more (goes c e h r)
  comes c d (Answered number memory _ e _ r more) h = comes e d more (goes_on number memory c e h r)

  reached : (c : Config) → IsReached m c → Holds c
  reached c r = comes r.start c r.comes (begins r.start r.call)

  safe_step : (step : Step) → KeepsRules rules scope size step → IsSafe m step
  safe_step (To next) k = tt
  safe_step (Asks number memory next) k = tt
  safe_step (Ends globals memory) k = record { typed = k.0; own = record { size = k.1.length_is; bytes = k.1.bytes } }
  safe_step Traps k = tt
  safe_step Sticks k = absurd k

  pub bounds : AreBounds m most_cells most_marks
  bounds = record {
    cells = λ c r. (holds_no_more rooms most_cells most_marks are.own_cells are.own_labels scope size c (reached c r)).0;
    marks = λ c r. (holds_no_more rooms most_cells most_marks are.own_cells are.own_labels scope size c (reached c r)).1;
    safe = λ c r. safe_step (reduce (funcs_of m) c) (reduce_keeps rules lessens scope size small each c (reached c r));
  }
