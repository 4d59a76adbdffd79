-- Each turn of the loop is one step of the run.
use Rattle.std.proofs.Common.{◌-◌, arith}
use Rattle.wasm_runner.proofs.Running.{begins, still_there, in_code, goes, stays, spent, traps, calls, leaves, exit_spent, exits}
use Rattle.wasm_runner.proofs.code.run_code.Goals as goal

pub code-init : goal.code-init
code-init c = begins _ _ _ _ _ _ _

pub take_step-requires-clause-there : goal.take_step-requires-clause-there
take_step-requires-clause-there c = still_there _ _ _ _ _ _ _ _ _ _ _ _ _ c.requires.there c.code.invariant

pub take_step-requires-clause-at : goal.take_step-requires-clause-at
take_step-requires-clause-at c = (in_code _ _ _ _ _ _ (still_there _ _ _ _ _ _ _ _ _ _ _ _ _ c.requires.there c.code.invariant)).0

pub take_step-requires-clause-sp : goal.take_step-requires-clause-sp
take_step-requires-clause-sp c = (in_code _ _ _ _ _ _ (still_there _ _ _ _ _ _ _ _ _ _ _ _ _ c.requires.there c.code.invariant)).1

pub take_step-requires-clause-lp : goal.take_step-requires-clause-lp
take_step-requires-clause-lp c = (in_code _ _ _ _ _ _ (still_there _ _ _ _ _ _ _ _ _ _ _ _ _ c.requires.there c.code.invariant)).2

pub code-preserved-in-Go : goal.code-preserved-in-Go
code-preserved-in-Go c = λ scope codes callers depth k a. let n = c.code.invariant scope codes callers depth k a in goes (c.code.left - 1) (omega arith) n (c.in-Go.ensures scope codes callers depth n.now n.is)

pub code-preserved : goal.code-preserved
code-preserved c = λ scope codes callers depth k a. let n = c.code.invariant scope codes callers depth k a in stays n (c.in-Free.ensures scope codes callers depth n.now n.is).1

pub code-smaller : goal.code-smaller
code-smaller c =
    let w = c.requires.there in
    let n = c.code.invariant w.scope w.codes w.callers w.depth w.c w.is in
    let e = (c.in-Free.ensures w.scope w.codes w.callers w.depth n.now n.is).0 in
    let h = (in_code _ _ _ _ _ _ (still_there _ _ _ _ _ _ _ _ _ _ _ _ _ c.requires.there c.code.invariant)).0 in
    omega arith

pub returns-then-left-eq0 : goal.returns-then-left-eq0
returns-then-left-eq0 c = λ scope codes callers depth k a. spent c.if-left-eq0.true (c.code.invariant scope codes callers depth k a)

pub returns-in-Trap : goal.returns-in-Trap
returns-in-Trap c = λ scope codes callers depth k a. let n = c.code.invariant scope codes callers depth k a in traps (c.code.left - 1) (omega arith) n (c.in-Trap.ensures scope codes callers depth n.now n.is)

pub returns-in-Call : goal.returns-in-Call
returns-in-Call c = λ scope codes callers depth k a. let n = c.code.invariant scope codes callers depth k a in calls (omega arith) n (c.in-Call.ensures scope codes callers depth n.now n.is)

pub returns-in-Leave : goal.returns-in-Leave
returns-in-Leave c = λ scope codes callers depth k a. let n = c.code.invariant scope codes callers depth k a in leaves (omega arith) n (c.in-Leave.ensures scope codes callers depth n.now n.is)

pub returns-then-left-eq1 : goal.returns-then-left-eq1
returns-then-left-eq1 c = λ scope codes callers depth k a. let n = c.code.invariant scope codes callers depth k a in exit_spent c.if-left-eq1.true n (c.in-Exit.ensures scope codes callers depth n.now n.is)

pub returns-in-Exit : goal.returns-in-Exit
returns-in-Exit c = λ scope codes callers depth k a. let n = c.code.invariant scope codes callers depth k a in exits (c.code.left - 1) (omega arith) (omega arith) n (c.in-Exit.ensures scope codes callers depth n.now n.is)
