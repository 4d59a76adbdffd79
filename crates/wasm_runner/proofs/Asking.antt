-- A call of the host.
use Rattle.std.proofs.Common.{◌≡◌, ℕ, suc, ◌+◌, ◌*◌, ◌<◌, ◌≤◌, List, [], ◌∷◌, length, Some, refl, sym, ap, ◌∙◌, subst, arith}
use Rattle.std.specs.Prelude.{slice_get, slice_index, ℤ}
use Rattle.std.specs.Int.{w32, cast_signed}
use Rattle.std.proofs.Math.Nat.{mul-le-mul_right}
use Rattle.wasm_tree.specs.declared.module.ValType.TheVariants.{I32}
use Rattle.wasm_tree.specs.declared.module.FuncBody.{FuncBody}
use Rattle.wasm_tree.specs.declared.module.FuncType.{FuncType}
use Rattle.wasm_tree.specs.declared.instr.Instr.{Instr}
use Rattle.wasm_tree.specs.declared.instr.Instr.TheVariants as instr
use Rattle.wasm_tree.specs.Numbers.{emit_type}
use Rattle.wasm_tree.specs.Reduce.{Plain, State, Config, Asks, Emits as Emitted, at, with_values, on_top, act, plain, follow, exec}
use Rattle.wasm_tree.specs.Typed.{Takes}
use Rattle.wasm_steps.specs.Steps.{reduce}
use Rattle.wasm_steps.proofs.Compose.{exec-suc}
use Rattle.wasm_sound.specs.Kinds.{IsOf}
use Rattle.wasm_sound.specs.Sound.{Scope, IsScope}
use Rattle.wasm_sound.specs.Reached.{Answered}
use Rattle.wasm_runner.specs.declared.host.HostAnswer.TheVariants as answer
use Rattle.wasm_runner.specs.declared.host.Ended.TheVariants as ended
use Rattle.wasm_runner.specs.declared.calls.Activation.{Activation}
use Rattle.wasm_runner.specs.declared.run.Turn.TheVariants as turn
use Rattle.wasm_runner.specs.Standing.{Stacks, IsAt}
use Rattle.wasm_runner.specs.Activations.{IsActive, IsCalling}
use Rattle.wasm_runner.specs.Following.{Follows, Goes, Renews, Stops, Refuses}
use Rattle.wasm_runner.specs.Turns.{Emits, Turned}
use Rattle.wasm_runner.proofs.Going as G

module _ (scope : Scope) (codes : List FuncBody) (p : IsScope scope) (s : Stacks) (now : Activation) (c : Config) (a : IsCalling scope codes s now 0 c) where
  abbrev st : State
  st = c.state

  abbrev is : IsAt scope codes a.active.body.code s now.depth now.place c
  is = a.active.is

  abbrev i : Instr
  i = instr.Call 0

  pub h : G.Here scope codes a.active.body.code s now.depth now.place c is i
  h = G.here scope codes a.active.body.code s now.depth now.place c is i a.there tt

  takes : Takes (I32 ∷ []) [] h.sound.operands h.sound.typed.0
  takes =
      let t = h.sound.typed.1 in
      let same : t.0 ≡ emit_type = let e : Some t.0 ≡ Some emit_type = sym t.1 ∙ p.emit in cc in
      subst (λ (x : FuncType). Takes (Rattle.std.specs.Prelude.reverse x.params) (Rattle.std.specs.Prelude.reverse x.results) h.sound.operands h.sound.typed.0) same t.2

  pub one : G.OneIn scope codes a.active.body.code s now.depth now.place c is I32 [] h.rest h.sound.locals
  one = G.one_in scope codes a.active.body.code s now.depth now.place c is i h I32 [] takes

  pub number_there : (now.place.sp < length s.cells) × IsOf I32 (slice_index s.cells now.place.sp)
  number_there = (one.low, one.fits)

  abbrev number : ℤ
  number = cast_signed w32 (slice_index s.cells now.place.sp)

  abbrev next : Config
  next = at h.rest (with_values st one.back) c.labels c.frames

  calls_it : act scope.funcs (Plain i h.rest) st c.labels c.frames ≡ on_top st.values (λ x xs. Asks (cast_signed w32 x) st.memory (at h.rest (with_values st xs) c.labels c.frames))
  unfolding act plain
  calls_it = refl

  pub reduces : reduce scope.funcs c ≡ Asks number s.memory next
  reduces =
      G.now scope codes a.active.body.code s now.depth now.place c is (Plain i h.rest) h.is
      ∙ calls_it
      ∙ ap (λ vs. on_top vs (λ x xs. Asks (cast_signed w32 x) st.memory (at h.rest (with_values st xs) c.labels c.frames))) one.is
      ∙ ap (λ x. Asks (cast_signed w32 x) st.memory next) (sym one.cell)
      ∙ ap (λ m. Asks number m next) is.shows.memory_is

  pub run : (k : ℕ) → exec scope.funcs (suc k) c ≡ Emitted number s.memory next (exec scope.funcs k next)
  run k = exec-suc scope.funcs k c ∙ ap (λ x. follow x (exec scope.funcs k)) reduces

  abbrev arrived : Activation
  arrived = record now { place = record now.place { at = now.place.at + 1; sp = now.place.sp + 1 } }

  pub active : IsActive scope codes s arrived next
  active =
      let low = one.low in
      record {
        body = a.active.body;
        found = a.active.found;
        is = record {
          shows = G.shown scope codes a.active.body.code s now.depth now.place c is h.rest (with_values st one.back) s.cells s.globals s.memory (now.place.at + 1) (now.place.sp + 1)
              h.stands refl one.after (omega arith) refl is.shows.globals_are is.shows.memory_is;
          sound = one.then_sound [] (with_values st one.back) tt refl h.sound.own h.sound.shared h.sound.memory;
          room = record { wherever = λ d r. is.room.wherever d (Answered number s.memory c next d reduces r) };
        };
      }

  module _ {Host : Type 0} (emits : Emits Host) (renewable : Host → ℕ) (steps left rest : ℕ) (one_more : left ≡ suc rest) (fewer : left ≤ steps) (before after : Host) where
    run_is : exec scope.funcs left c ≡ Emitted number s.memory next (exec scope.funcs rest next)
    run_is = ap (λ k. exec scope.funcs k c) one_more ∙ run rest

    pub goes : (to : Activation) → to ≡ arrived → emits before number s.memory answer.Go after → renewable after ≤ renewable before → Turned emits renewable scope codes steps s before after c left (turn.Goes to rest)
    goes to t e r =
        let m : renewable after * (steps + 1) ≤ renewable before * (steps + 1) = mul-le-mul_right (steps + 1) r in (
          record {
            next = next;
            is = subst (λ to. IsActive scope codes s to next) (sym t) active;
            fewer = omega arith;
            follows = λ end globals memory last f. subst (λ run. Follows emits scope.funcs steps run before end globals memory last) (sym run_is)
                (Goes number s.memory next (exec scope.funcs rest next) before after last end globals memory e f);
          },
          omega arith,
        )

    pub renews : (to : Activation) → to ≡ arrived → emits before number s.memory answer.Fresh after → renewable after + 1 ≤ renewable before → Turned emits renewable scope codes steps s before after c left (turn.Goes to steps)
    renews to t e r =
        let m : (renewable after + 1) * (steps + 1) ≤ renewable before * (steps + 1) = mul-le-mul_right (steps + 1) r in
        let n : (renewable after + 1) * (steps + 1) ≡ renewable after * (steps + 1) + (steps + 1) = grind arith in (
          record {
            next = next;
            is = subst (λ to. IsActive scope codes s to next) (sym t) active;
            fewer = omega arith;
            follows = λ end globals memory last f. subst (λ run. Follows emits scope.funcs steps run before end globals memory last) (sym run_is)
                (Renews number s.memory next (exec scope.funcs rest next) before after last end globals memory e f);
          },
          omega arith,
        )

    pub stops : emits before number s.memory answer.Stop after → Turned emits renewable scope codes steps s before after c left (turn.Ends ended.Stopped)
    stops e = subst (λ run. Follows emits scope.funcs steps run before ended.Stopped s.globals s.memory after) (sym run_is)
        (Stops number s.memory next (exec scope.funcs rest next) before after s.globals s.memory e)

    pub refuses : emits before number s.memory answer.Trap after → Turned emits renewable scope codes steps s before after c left (turn.Ends ended.Trapped)
    refuses e = subst (λ run. Follows emits scope.funcs steps run before ended.Trapped s.globals s.memory after) (sym run_is)
        (Refuses number s.memory next (exec scope.funcs rest next) before after s.globals s.memory e)
