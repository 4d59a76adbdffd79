-- The functions of a valid module are typed code, and so is where a call of an export begins.
use Rattle.std.proofs.Common.{◌≡◌, ◌≤◌, ℕ, zero, suc, List, [], ◌∷◌, ◌++◌, length, Some, refl, sym, ap, subst, arith}
use Rattle.std.specs.Prelude.{slice_get, reverse, replicate, unwrap_or}
use Rattle.wasm_tree.specs.declared.module.ValType.TheVariants.{I32}
use Rattle.wasm_tree.specs.declared.module.FuncType.{FuncType}
use Rattle.wasm_tree.specs.declared.module.Module.{Module}
use Rattle.wasm_tree.specs.Host.{HasImport}
use Rattle.wasm_tree.specs.Instance.{funcs_of, begun, begun_at, no_function}
use Rattle.wasm_tree.specs.Numbers.{emit_type, type_at, function_types, declared_locals}
use Rattle.wasm_tree.specs.Reduce.{Seq, Func, Config, tree_of, whole_piece}
use Rattle.wasm_tree.specs.Section.{CmajorSection}
use Rattle.wasm_tree.specs.Typed.{Typed}
use Rattle.wasm_tree.specs.Valid.{Valid}
use Rattle.wasm_tree.proofs.Imports.{functions_follow}
use Rattle.wasm_sound.specs.Kinds.{AreOf}
use Rattle.wasm_sound.specs.Sound.{context, IsFunc, IsScope, IsSound, most_memory}
use Rattle.wasm_sound.specs.Reached.{IsInstanceOf, IsCall}
use Rattle.wasm_sound.specs.Rooms.{scope_of}
use Rattle.wasm_sound.proofs.Values.{joined, zeros_are}
use Rattle.wasm_valid.proofs.GovernedBodies.{func_at, type_of}
use Rattle.wasm_valid.proofs.NeedLemmas.{few_type}
use Rattle.wasm_valid.proofs.RoomLemmas.{small_memory}

module _ (m : Module) (section : CmajorSection) (valid : Valid m section) where
  import : HasImport m
  import = valid.interface.imports

  own_func : (k : ℕ) (type : FuncType) → slice_get (function_types m) (suc k) ≡ Some type → (f : Func) × (slice_get (funcs_of m) k ≡ Some f) × IsFunc (scope_of m) type f
  own_func k type e =
      let t = type_of m k type import e in
      let g = func_at m m.functions m.codes k t.0 valid.typing.bodies t.1 in
      let body = g.0 in
      let own = type_at m t.0 in
      let is = g.2 in
      let tree : tree_of body.code ≡ is.tree = ap whole_piece is.spells in
      let func : Func = record { params = length own.params; results = length own.results; locals = length (declared_locals body.locals); body = tree_of body.code } in (
        func,
        g.3,
        subst (λ (type : FuncType). IsFunc (scope_of m) type func) t.2
            (record {
              declared = declared_locals body.locals;
              params = refl;
              results = refl;
              locals = refl;
              few = few_type m.types t.0 valid.typing.types;
              typed = subst (λ (s : Seq). Typed (context (scope_of m) (own.params ++ declared_locals body.locals) own.results) (reverse own.results ∷ []) s [] (reverse own.results)) (sym tree) is.typed;
            }),
      )

  pub valid_scope : IsScope (scope_of m)
  valid_scope = record {
    emit = ap (λ l. slice_get l 0) (functions_follow m import);
    own = own_func;
  }

  instance_memory : (globals memory : List ℕ) → IsInstanceOf m globals memory → length memory ≤ most_memory
  instance_memory globals memory is = let n = is.own.size in let s = small_memory m.memory valid.limit.memory in omega arith

  begins_sound : (number : ℕ) (type : FuncType) (arguments globals memory : List ℕ) → slice_get (function_types m) number ≡ Some type → AreOf type.params arguments → IsInstanceOf m globals memory →
      IsSound (scope_of m) (begun_at (funcs_of m) number arguments globals memory)
  begins_sound zero type arguments globals memory e given instance =
      let emit : slice_get (function_types m) 0 ≡ Some emit_type = ap (λ l. slice_get l 0) (functions_follow m import) in
      let same : type ≡ emit_type = cc (e, emit) in
      record {
        locals = [];
        results = [];
        few = omega arith;
        operands = I32 ∷ [];
        held = subst (λ (type : FuncType). AreOf type.params arguments) same given;
        own = tt;
        shared = instance.typed;
        memory = instance_memory globals memory instance;
        labels = [] ∷ [];
        after = [];
        typed = ([], (emit_type, emit, record { below = []; had = refl; has = refl }), refl);
        open_labels = (refl, refl, refl);
        callers = tt;
      }
  begins_sound (suc number) type arguments globals memory e given instance =
      let g = own_func number type e in
      let f = g.0 in
      let is = g.2 in
      let zeros : AreOf is.declared (replicate f.locals 0) = subst (λ n. AreOf is.declared (replicate n 0)) (sym is.locals) (zeros_are is.declared) in
      let here : unwrap_or (slice_get (funcs_of m) number) no_function ≡ f = ap (λ o. unwrap_or o no_function) g.1 in
      subst (λ f. IsSound (scope_of m) (begun f arguments globals memory)) (sym here) (record {
        locals = type.params ++ is.declared;
        results = type.results;
        few = is.few;
        operands = [];
        held = tt;
        own = joined type.params is.declared arguments (replicate f.locals 0) given zeros;
        shared = instance.typed;
        memory = instance_memory globals memory instance;
        labels = reverse type.results ∷ [];
        after = reverse type.results;
        typed = is.typed;
        open_labels = (refl, refl, refl);
        callers = tt;
      })

  pub call_sound : (c : Config) → IsCall m c → IsSound (scope_of m) c
  call_sound c call = subst (IsSound (scope_of m)) (sym call.begins) (begins_sound call.number call.type call.arguments call.globals call.memory call.has call.given call.instance)
