-- A call of the host is the reduction of its instruction, and the answer says how the run goes on.
use Rattle.std.proofs.Common.{◌+◌, ◌-◌, arith, ap, ◌∙◌, subst, rules}
use Rattle.std.proofs.lemmas.Int.{to_z-of_z}
use Rattle.std.specs.Int.{w32}
use mir.Val.{SFits}
use Rattle.wasm_runner.specs.Activations.{stacks}
use Rattle.wasm_runner.specs.declared.host.HostAnswer.TheVariants as answer
use Rattle.wasm_runner.proofs.Asking as A
use Rattle.wasm_runner.proofs.run.ask.Goals as goal

pub number_at-number-requires-clause-within : goal.number_at-number-requires-clause-within
number_at-number-requires-clause-within g c = let w = c.requires.there in (A.number_there w.scope w.codes w.typed _ _ w.c w.is).0

pub number_at-number-requires-clause-fits : goal.number_at-number-requires-clause-fits
number_at-number-requires-clause-fits g c = let w = c.requires.there in (A.number_there w.scope w.codes w.typed _ _ w.c w.is).1

pub returns-in-Go : goal.returns-in-Go
returns-in-Go g c =
    λ scope codes blocks callers globals k p a.
    let n = c.in-Go.ensures.counted in
    A.goes scope codes p (stacks c.args.cells.now blocks callers globals c.args.memory.now) c.args.from k a g.H.Host.emits g.H.Host.renewable c.args.steps c.args.left (c.args.left - 1) (let s = c.requires.some in omega arith) c.requires.fewer _ _
    _ (c.past-next.ensures ∙ ap (λ b. record c.args.from { place = record c.args.from.place { at = b; sp = c.args.from.place.sp + 1 } }) c.requires.back)
    (subst (λ z. g.H.Host.emits c.args.host.now z c.args.memory.now answer.Go c.emit.new.self) (let f : SFits w32 c.number_at-number.result = search rules in to_z-of_z w32 c.number_at-number.result f ∙ c.number_at-number.ensures) c.in-Go.ensures.told) (omega arith)

pub returns-in-Fresh : goal.returns-in-Fresh
returns-in-Fresh g c =
    λ scope codes blocks callers globals k p a.
    A.renews scope codes p (stacks c.args.cells.now blocks callers globals c.args.memory.now) c.args.from k a g.H.Host.emits g.H.Host.renewable c.args.steps c.args.left (c.args.left - 1) (let s = c.requires.some in omega arith) c.requires.fewer _ _
    _ (c.past-next.ensures ∙ ap (λ b. record c.args.from { place = record c.args.from.place { at = b; sp = c.args.from.place.sp + 1 } }) c.requires.back)
    (subst (λ z. g.H.Host.emits c.args.host.now z c.args.memory.now answer.Fresh c.emit.new.self) (let f : SFits w32 c.number_at-number.result = search rules in to_z-of_z w32 c.number_at-number.result f ∙ c.number_at-number.ensures) c.in-Fresh.ensures.told) c.in-Fresh.ensures.counted

pub returns-in-Stop : goal.returns-in-Stop
returns-in-Stop g c =
    λ scope codes blocks callers globals k p a.
    A.stops scope codes p (stacks c.args.cells.now blocks callers globals c.args.memory.now) c.args.from k a g.H.Host.emits g.H.Host.renewable c.args.steps c.args.left (c.args.left - 1) (let s = c.requires.some in omega arith) c.requires.fewer _ _
    (subst (λ z. g.H.Host.emits c.args.host.now z c.args.memory.now answer.Stop c.emit.new.self) (let f : SFits w32 c.number_at-number.result = search rules in to_z-of_z w32 c.number_at-number.result f ∙ c.number_at-number.ensures) c.in-Stop.ensures.told)

pub returns-in-Trap : goal.returns-in-Trap
returns-in-Trap g c =
    λ scope codes blocks callers globals k p a.
    A.refuses scope codes p (stacks c.args.cells.now blocks callers globals c.args.memory.now) c.args.from k a g.H.Host.emits g.H.Host.renewable c.args.steps c.args.left (c.args.left - 1) (let s = c.requires.some in omega arith) c.requires.fewer _ _
    (subst (λ z. g.H.Host.emits c.args.host.now z c.args.memory.now answer.Trap c.emit.new.self) (let f : SFits w32 c.number_at-number.result = search rules in to_z-of_z w32 c.number_at-number.result f ∙ c.number_at-number.ensures) c.in-Trap.ensures.told)
