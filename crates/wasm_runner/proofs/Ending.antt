-- What a call leaves.
use Rattle.std.proofs.Common.{◌≡◌, ℕ, zero, suc, List, [], ◌∷◌, refl, sym, ap, ◌∙◌, subst}
use Rattle.std.specs.Prelude.{ℤ}
use Rattle.std.specs.Int.{w32, cast_signed}
use Rattle.wasm_tree.specs.declared.module.Module.{Module}
use Rattle.wasm_tree.specs.Instance.{funcs_of, begun_at}
use Rattle.wasm_tree.specs.Reduce.{Func, Nil, Config, Step, To, Asks, Ends, Traps, Sticks, Run, Done, Out, Emits as Emitted, at, act, plain, follow, exec}
use Rattle.wasm_steps.specs.Steps.{reduce}
use Rattle.wasm_steps.proofs.Compose.{exec-zero, exec-suc}
use Rattle.wasm_sound.specs.Reached.{Reaches, Stay, Reduced, Answered, IsReached, IsInstanceOf, AreBounds, IsSafe}
use Rattle.wasm_runner.specs.declared.host.HostAnswer.TheVariants as answer
use Rattle.wasm_runner.specs.declared.host.Ended.{Ended}
use Rattle.wasm_runner.specs.declared.host.Ended.TheVariants as ended
use Rattle.wasm_runner.specs.Following.{Follows, Returns, Fails, Lacks, Goes, Renews, Stops, Refuses}
use Rattle.wasm_runner.specs.Turns.{Emits}

-- ---- runs

pub further : (funcs : List Func) (a b c : Config) → Reaches funcs a b → reduce funcs b ≡ To c → Reaches funcs a c
further funcs a b c (Stay _) e = Reduced a c c e (Stay c)
further funcs a b c (Reduced _ d _ f l) e = Reduced a d c f (further funcs d b c l e)
further funcs a b c (Answered n m _ d _ f l) e = Answered n m a d c f (further funcs d b c l e)

pub asked : (funcs : List Func) (number : ℤ) (memory : List ℕ) (a b c : Config) → Reaches funcs a b → reduce funcs b ≡ Asks number memory c → Reaches funcs a c
asked funcs number memory a b c (Stay _) e = Answered number memory a c c e (Stay c)
asked funcs number memory a b c (Reduced _ d _ f l) e = Reduced a d c f (asked funcs number memory d b c l e)
asked funcs number memory a b c (Answered n m _ d _ f l) e = Answered n m a d c f (asked funcs number memory d b c l e)

module _ (m : Module) (cells marks : ℕ) (bounds : AreBounds m cells marks) where
  abbrev funcs : List Func
  funcs = funcs_of m

  reached_by : (d e : Config) → IsReached m d → reduce funcs d ≡ To e → IsReached m e
  reached_by d e r q = record { start = r.start; call = r.call; comes = further funcs r.start d e r.comes q }

  reached_past : (number : ℤ) (memory : List ℕ) (d e : Config) → IsReached m d → reduce funcs d ≡ Asks number memory e → IsReached m e
  reached_past number memory d e r q = record { start = r.start; call = r.call; comes = asked funcs number memory r.start d e r.comes q }

  -- a run that is done leaves an instance
  done_at : (k : ℕ) (d : Config) (globals memory : List ℕ) → IsReached m d → exec funcs k d ≡ Done globals memory → IsInstanceOf m globals memory
  done_at zero d globals memory r e = absurd (let f : Out ≡ Done globals memory = sym (exec-zero funcs d) ∙ e in cc)
  done_at (suc k) d globals memory r e = by (λ next. done_at k next globals memory) (reduce funcs d) refl (sym (exec-suc funcs k d) ∙ e)
    where
      by : ((next : Config) → IsReached m next → exec funcs k next ≡ Done globals memory → IsInstanceOf m globals memory) →
          (step : Step) → reduce funcs d ≡ step → follow step (exec funcs k) ≡ Done globals memory → IsInstanceOf m globals memory
      by again (To next) q f = again next (reached_by d next r q) f
      by again (Asks number now next) q f = absurd (cc)
      by again (Ends g n) q f =
          let s : IsInstanceOf m g n = subst (IsSafe m) q (bounds.safe d r) in
          let a : g ≡ globals = cc in
          let b : n ≡ memory = cc in
          subst (λ x. IsInstanceOf m globals x) b (subst (λ x. IsInstanceOf m x n) a s)
      by again Traps q f = absurd (cc)
      by again Sticks q f = absurd (cc)

  -- a run that asks goes on where it does
  record Asking (number : ℤ) (now : List ℕ) (next : Config) (rest : Run) : Type 0 where
    reached : IsReached m next
    left : ℕ
    is : rest ≡ exec funcs left next

  asks_at : (k : ℕ) (d : Config) (number : ℤ) (now : List ℕ) (next : Config) (rest : Run) → IsReached m d → exec funcs k d ≡ Emitted number now next rest → Asking number now next rest
  asks_at zero d number now next rest r e = absurd (let f : Out ≡ Emitted number now next rest = sym (exec-zero funcs d) ∙ e in cc)
  asks_at (suc k) d number now next rest r e = by (λ then_at. asks_at k then_at number now next rest) (reduce funcs d) refl (sym (exec-suc funcs k d) ∙ e)
    where
      by : ((then_at : Config) → IsReached m then_at → exec funcs k then_at ≡ Emitted number now next rest → Asking number now next rest) →
          (step : Step) → reduce funcs d ≡ step → follow step (exec funcs k) ≡ Emitted number now next rest → Asking number now next rest
      by again (To after) q f = again after (reached_by d after r q) f
      by again (Asks n l other) q f =
          let a : other ≡ next = cc in
          let b : exec funcs k other ≡ rest = cc in
          record { reached = subst (IsReached m) a (reached_past n l d other r q); left = k; is = sym b ∙ ap (exec funcs k) a }
      by again (Ends g n) q f = absurd (cc)
      by again Traps q f = absurd (cc)
      by again Sticks q f = absurd (cc)

  module _ {Host : Type 0} (emits : Emits Host) (steps : ℕ) where
    pub leaves : (run : Run) (before : Host) (end : Ended) (globals memory : List ℕ) (after : Host) → Follows emits funcs steps run before end globals memory after →
        end ≡ ended.Done → (k : ℕ) (d : Config) → run ≡ exec funcs k d → IsReached m d → IsInstanceOf m globals memory
    leaves run before end globals memory after (Returns _ _ _) e k d q r = done_at k d globals memory r (sym q)
    leaves run before end globals memory after (Fails _ _ _) e k d q r = absurd (cc)
    leaves run before end globals memory after (Lacks _ _ _) e k d q r = absurd (cc)
    leaves run before end globals memory after (Goes number now next rest _ between _ _ _ _ t f) e k d q r =
        let a = asks_at k d number now next rest r (sym q) in
        leaves rest between end globals memory after f e a.left next a.is a.reached
    leaves run before end globals memory after (Renews number now next rest _ between _ _ _ _ t f) e k d q r =
        let a = asks_at k d number now next rest r (sym q) in
        leaves (exec funcs steps next) between end globals memory after f e steps next refl a.reached
    leaves run before end globals memory after (Stops _ _ _ _ _ _ _ _ t) e k d q r = absurd (cc)
    leaves run before end globals memory after (Refuses _ _ _ _ _ _ _ _ t) e k d q r = absurd (cc)

-- ---- the imported function from outside

module _ (funcs : List Func) (x : ℕ) (globals memory : List ℕ) where
  abbrev c : Config
  c = begun_at funcs 0 (x ∷ []) globals memory

  abbrev next : Config
  next = at Nil (record { values = []; locals = []; globals = globals; memory = memory }) [] []

  asks : reduce funcs c ≡ Asks (cast_signed w32 x) memory next
  unfolding act plain
  asks = refl

  finishes : reduce funcs next ≡ Ends globals memory
  unfolding act
  finishes = refl

  run_is : (k : ℕ) → exec funcs (suc k) c ≡ Emitted (cast_signed w32 x) memory next (exec funcs k next)
  run_is k = exec-suc funcs k c ∙ ap (λ s. follow s (exec funcs k)) asks

  done_next : (k : ℕ) → exec funcs (suc k) next ≡ Done globals memory
  done_next k = exec-suc funcs k next ∙ ap (λ s. follow s (exec funcs k)) finishes

  module _ {Host : Type 0} (emits : Emits Host) (steps : ℕ) (before : Host) where
    pub import_spent : steps ≡ 0 → Follows emits funcs steps (exec funcs steps c) before ended.StepsSpent globals memory before
    import_spent e = subst (λ run. Follows emits funcs steps run before ended.StepsSpent globals memory before) (sym (ap (λ k. exec funcs k c) e ∙ exec-zero funcs c)) (Lacks globals memory before)

    module _ (rest : ℕ) (one_more : steps ≡ suc rest) (after : Host) where
      run_so : exec funcs steps c ≡ Emitted (cast_signed w32 x) memory next (exec funcs rest next)
      run_so = ap (λ k. exec funcs k c) one_more ∙ run_is rest

      pub import_stops : emits before (cast_signed w32 x) memory answer.Stop after → Follows emits funcs steps (exec funcs steps c) before ended.Stopped globals memory after
      import_stops t = subst (λ run. Follows emits funcs steps run before ended.Stopped globals memory after) (sym run_so) (Stops (cast_signed w32 x) memory next (exec funcs rest next) before after globals memory t)

      pub import_traps : emits before (cast_signed w32 x) memory answer.Trap after → Follows emits funcs steps (exec funcs steps c) before ended.Trapped globals memory after
      import_traps t = subst (λ run. Follows emits funcs steps run before ended.Trapped globals memory after) (sym run_so) (Refuses (cast_signed w32 x) memory next (exec funcs rest next) before after globals memory t)

      pub import_lacks : emits before (cast_signed w32 x) memory answer.Go after → rest ≡ 0 → Follows emits funcs steps (exec funcs steps c) before ended.StepsSpent globals memory after
      import_lacks t e = subst (λ run. Follows emits funcs steps run before ended.StepsSpent globals memory after) (sym run_so)
          (Goes (cast_signed w32 x) memory next (exec funcs rest next) before after after ended.StepsSpent globals memory t
          (subst (λ run. Follows emits funcs steps run after ended.StepsSpent globals memory after) (sym (ap (λ k. exec funcs k next) e ∙ exec-zero funcs next)) (Lacks globals memory after)))

      pub import_done : (k : ℕ) → emits before (cast_signed w32 x) memory answer.Go after → rest ≡ suc k → Follows emits funcs steps (exec funcs steps c) before ended.Done globals memory after
      import_done k t e = subst (λ run. Follows emits funcs steps run before ended.Done globals memory after) (sym run_so)
          (Goes (cast_signed w32 x) memory next (exec funcs rest next) before after after ended.Done globals memory t
          (subst (λ run. Follows emits funcs steps run after ended.Done globals memory after) (sym (ap (λ k. exec funcs k next) e ∙ done_next k)) (Returns globals memory after)))

      pub import_renews : emits before (cast_signed w32 x) memory answer.Fresh after → Follows emits funcs steps (exec funcs steps c) before ended.Done globals memory after
      import_renews t = subst (λ run. Follows emits funcs steps run before ended.Done globals memory after) (sym run_so)
          (Renews (cast_signed w32 x) memory next (exec funcs rest next) before after after ended.Done globals memory t
          (subst (λ run. Follows emits funcs steps run after ended.Done globals memory after) (sym (ap (λ k. exec funcs k next) one_more ∙ done_next rest)) (Returns globals memory after)))
