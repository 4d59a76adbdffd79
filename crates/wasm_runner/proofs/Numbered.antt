-- Calls of functions by their numbers.
use Rattle.std.proofs.Common.{◌≡◌, ◌≢◌, ℕ, suc, ◌-◌, List, [], ◌∷◌, Option, Some, None, refl, sym, ap, ◌∙◌, subst, arith}
use Rattle.std.specs.Prelude.{slice_get, unwrap_or}
use Rattle.wasm_tree.specs.declared.module.FuncBody.{FuncBody}
use Rattle.wasm_tree.specs.declared.module.FuncType.{FuncType}
use Rattle.wasm_tree.specs.declared.module.Module.{Module}
use Rattle.wasm_tree.specs.Instance.{funcs_of, begun_at}
use Rattle.wasm_tree.specs.Numbers.{emit_type, function_types}
use Rattle.wasm_tree.specs.Reduce.{Config, exec}
use Rattle.wasm_sound.specs.Kinds.{AreOf}
use Rattle.wasm_sound.specs.Reached.{IsInstanceOf, Stay}
use Rattle.wasm_runner.specs.declared.function.Function.{Function}
use Rattle.wasm_runner.specs.declared.host.Ended.{Ended}
use Rattle.wasm_runner.specs.declared.host.Ended.TheVariants as ended
use Rattle.wasm_runner.specs.declared.calls.Activation.{Activation}
use Rattle.wasm_runner.specs.Standing.{Stacks}
use Rattle.wasm_runner.specs.Activations.{IsActive, IsProgram}
use Rattle.wasm_runner.specs.Following.{Follows}
use Rattle.wasm_runner.specs.Prepared.{scope_of, IsReady, IsCallOf, arguments_of}
use Rattle.wasm_runner.specs.Turns.{Emits, RunsSomewhere}
use Rattle.wasm_runner.proofs.Modules as M
use Rattle.wasm_runner.proofs.Beginning as B
use Rattle.wasm_runner.proofs.Ending as E

module _ (m : Module) (functions : List Function) (cells marks : ℕ) (r : IsReady m functions cells marks) where
  pub program : IsProgram (scope_of m) m.codes functions
  program = M.program_is m r.section r.valid functions r.prepared

  module _ (number : ℕ) (argument : Option ℕ) (globals memory : List ℕ) (k : IsCallOf m number (arguments_of argument) globals memory) where
    abbrev c : Config
    c = begun_at (funcs_of m) number (arguments_of argument) globals memory

    -- one of the module's own functions
    pub own_call : number ≢ 0 → (a : Option ℕ) → arguments_of a ≡ arguments_of argument → IsCallOf m (suc (number - 1)) (arguments_of a) globals memory
    own_call h a e =
        let up : number ≡ suc (number - 1) = omega arith in
        subst (λ l. IsCallOf m (suc (number - 1)) l globals memory) (sym e) (subst (λ n. IsCallOf m n (arguments_of argument) globals memory) up k)

    begins_alike : number ≢ 0 → (a : Option ℕ) → arguments_of a ≡ arguments_of argument → begun_at (funcs_of m) (suc (number - 1)) (arguments_of a) globals memory ≡ c
    begins_alike h a e =
        let up : suc (number - 1) ≡ number = omega arith in
        ap (λ l. begun_at (funcs_of m) (suc (number - 1)) l globals memory) e ∙ ap (λ n. begun_at (funcs_of m) n (arguments_of argument) globals memory) up

    -- the imported function takes one argument
    given_one : (o : Option ℕ) → AreOf emit_type.params (arguments_of o) → arguments_of o ≡ unwrap_or o 0 ∷ []
    given_one None h = absurd h
    given_one (Some x) h = refl

    pub import_argument : number ≡ 0 → arguments_of argument ≡ unwrap_or argument 0 ∷ []
    import_argument z =
        let first : Some emit_type ≡ Some k.type = sym (ap (λ l. slice_get l 0) (M.types_are m r.section r.valid)) ∙ sym (ap (slice_get (function_types m)) z) ∙ k.has in
        let same : k.type ≡ emit_type = cc in
        given_one argument (subst (λ (t : FuncType). AreOf t.params (arguments_of argument)) same k.given)

    pub import_is : number ≡ 0 → begun_at (funcs_of m) 0 (unwrap_or argument 0 ∷ []) globals memory ≡ c
    import_is z = ap (λ l. begun_at (funcs_of m) 0 l globals memory) (sym (import_argument z)) ∙ ap (λ n. begun_at (funcs_of m) n (arguments_of argument) globals memory) (sym z)

    -- what is known where the call begins
    module _ (h : number ≢ 0) (a : Option ℕ) (e : arguments_of a ≡ arguments_of argument) (bodies : List FuncBody) (b : bodies ≡ m.codes) (s : Stacks) (now : Activation)
        (is : IsActive (scope_of m) m.codes s now (begun_at (funcs_of m) (suc (number - 1)) (arguments_of a) globals memory)) where
      pub bodies_program : IsProgram (scope_of m) bodies functions
      bodies_program = subst (λ l. IsProgram (scope_of m) l functions) (sym b) program

      pub active : IsActive (scope_of m) bodies s now c
      active = subst (λ l. IsActive (scope_of m) l s now c) (sym b) (subst (IsActive (scope_of m) m.codes s now) (begins_alike h a e) is)

      pub runs : RunsSomewhere bodies functions s now
      runs = record { scope = scope_of m; program = bodies_program; c = c; is = active }

    module _ {Host : Type 0} (emits : Emits Host) (steps : ℕ) (before after : Host) (end : Ended) (last_globals last_memory : List ℕ) where
      abbrev pub FollowsCall : Type 0
      FollowsCall = Follows emits (funcs_of m) steps (exec (funcs_of m) steps c) before end last_globals last_memory after

      pub leaves : FollowsCall → end ≡ ended.Done → IsInstanceOf m last_globals last_memory
      leaves f e =
          E.leaves m cells marks r.bounds emits steps (exec (funcs_of m) steps c) before end last_globals last_memory after f e steps c refl
          (record { start = c; call = B.is_call m functions cells marks r number (arguments_of argument) globals memory k; comes = Stay c })
