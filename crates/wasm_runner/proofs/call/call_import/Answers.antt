-- The host is called once, and then the call ends.
use Rattle.std.proofs.Common.{◌-◌, arith, ◌∙◌, subst, rules}
use Rattle.std.proofs.lemmas.Int.{to_z-of_z}
use Rattle.std.specs.Int.{w32}
use mir.Val.{SFits}
use Rattle.wasm_runner.specs.declared.host.HostAnswer.TheVariants as answer
use Rattle.wasm_runner.proofs.Ending as E
use Rattle.wasm_runner.proofs.call.call_import.Goals as goal

pub returns-then-steps-eq0 : goal.returns-then-steps-eq0
returns-then-steps-eq0 g c = λ funcs globals. E.import_spent funcs c.args.number globals c.args.memory.now g.H.Host.emits c.args.steps c.args.host.now c.if-steps-eq0.true

pub returns-in-Stop : goal.returns-in-Stop
returns-in-Stop g c = λ funcs globals. E.import_stops funcs c.args.number globals c.args.memory.now g.H.Host.emits c.args.steps c.args.host.now (c.args.steps - 1) (let n = c.if-steps-eq0.false in omega arith) c.emit.new.self (subst (λ z. g.H.Host.emits c.args.host.now z c.args.memory.now answer.Stop c.emit.new.self) (let f : SFits w32 c.cast_signed.result = search rules in to_z-of_z w32 c.cast_signed.result f ∙ c.cast_signed.ensures) c.in-Stop.ensures.told)

pub returns-in-Trap : goal.returns-in-Trap
returns-in-Trap g c = λ funcs globals. E.import_traps funcs c.args.number globals c.args.memory.now g.H.Host.emits c.args.steps c.args.host.now (c.args.steps - 1) (let n = c.if-steps-eq0.false in omega arith) c.emit.new.self (subst (λ z. g.H.Host.emits c.args.host.now z c.args.memory.now answer.Trap c.emit.new.self) (let f : SFits w32 c.cast_signed.result = search rules in to_z-of_z w32 c.cast_signed.result f ∙ c.cast_signed.ensures) c.in-Trap.ensures.told)

pub returns-in-Fresh : goal.returns-in-Fresh
returns-in-Fresh g c = λ funcs globals. E.import_renews funcs c.args.number globals c.args.memory.now g.H.Host.emits c.args.steps c.args.host.now (c.args.steps - 1) (let n = c.if-steps-eq0.false in omega arith) c.emit.new.self (subst (λ z. g.H.Host.emits c.args.host.now z c.args.memory.now answer.Fresh c.emit.new.self) (let f : SFits w32 c.cast_signed.result = search rules in to_z-of_z w32 c.cast_signed.result f ∙ c.cast_signed.ensures) c.in-Fresh.ensures.told)

pub returns-then-steps-eq1 : goal.returns-then-steps-eq1
returns-then-steps-eq1 g c = λ funcs globals. E.import_lacks funcs c.args.number globals c.args.memory.now g.H.Host.emits c.args.steps c.args.host.now (c.args.steps - 1) (let n = c.if-steps-eq0.false in omega arith) c.emit.new.self (subst (λ z. g.H.Host.emits c.args.host.now z c.args.memory.now answer.Go c.emit.new.self) (let f : SFits w32 c.cast_signed.result = search rules in to_z-of_z w32 c.cast_signed.result f ∙ c.cast_signed.ensures) c.in-Go.ensures.told) (let n = c.if-steps-eq1.true in omega arith)

pub returns-else-steps-eq1 : goal.returns-else-steps-eq1
returns-else-steps-eq1 g c = λ funcs globals. E.import_done funcs c.args.number globals c.args.memory.now g.H.Host.emits c.args.steps c.args.host.now (c.args.steps - 1) (let n = c.if-steps-eq0.false in omega arith) c.emit.new.self (c.args.steps - 1 - 1) (subst (λ z. g.H.Host.emits c.args.host.now z c.args.memory.now answer.Go c.emit.new.self) (let f : SFits w32 c.cast_signed.result = search rules in to_z-of_z w32 c.cast_signed.result f ∙ c.cast_signed.ensures) c.in-Go.ensures.told) (let n = c.if-steps-eq1.false in let k = c.if-steps-eq0.false in omega arith)
