-- Each pause of a function's code is followed by a call or an end, or it ends the run.
use Rattle.std.proofs.Common.{arith, rules}
use Rattle.wasm_runner.specs.Activations.{stacks}
use Rattle.wasm_runner.proofs.Turning as T
use Rattle.wasm_runner.proofs.run.take_turn.Goals as goal

pub bounds-functions-from : goal.bounds-functions-from
bounds-functions-from g c = let w = c.requires.there in (T.function_there w.scope _ _ w.program _ _ w.c w.is).1

pub run_code-requires-clause-jumps : goal.run_code-requires-clause-jumps
run_code-requires-clause-jumps g c =
    let w = c.requires.there in
    T.are_jumps w.scope _ _ w.program _ _ w.c w.is _ _ _ _ c.index-bodies-from.is c.index-functions-from.is c.as_slice-code.ensures c.as_slice-jumps.ensures.value

pub run_code-requires-clause-there : goal.run_code-requires-clause-there
run_code-requires-clause-there g c = let w = c.requires.there in T.somewhere w.scope _ _ w.program _ _ w.c w.is _ c.index-bodies-from.is _ c.as_slice-code.ensures

pub overflow_add-back : goal.overflow_add-back
overflow_add-back g c =
    let w = c.requires.there in
    let k = c.in-Calls.ensures w.scope _ c.args.callers.now _ w.c (T.code_at w.scope _ _ w.program _ _ w.c w.is _ c.index-bodies-from.is _ c.as_slice-code.ensures) in
    let h = T.in_code_there w.scope _ _ w.program _ _ w.c w.is _ c.index-bodies-from.is _ c.as_slice-code.ensures _ _ _ _ _ k in
    search rules

pub ask-requires-clause-some : goal.ask-requires-clause-some
ask-requires-clause-some g c = let w = c.requires.there in (c.in-Calls.ensures w.scope _ c.args.callers.now _ w.c (T.code_at w.scope _ _ w.program _ _ w.c w.is _ c.index-bodies-from.is _ c.as_slice-code.ensures)).some

pub ask-requires-clause-fewer : goal.ask-requires-clause-fewer
ask-requires-clause-fewer g c = let w = c.requires.there in let h = (c.in-Calls.ensures w.scope _ c.args.callers.now _ w.c (T.code_at w.scope _ _ w.program _ _ w.c w.is _ c.index-bodies-from.is _ c.as_slice-code.ensures)).fewer in let l = c.requires.fewer in omega arith

pub ask-requires-clause-there : goal.ask-requires-clause-there
ask-requires-clause-there g c =
    let w = c.requires.there in
    let k = c.in-Calls.ensures w.scope _ c.args.callers.now _ w.c (T.code_at w.scope _ _ w.program _ _ w.c w.is _ c.index-bodies-from.is _ c.as_slice-code.ensures) in
    T.asks_somewhere w.scope _ _ w.program _ _ w.c w.is _ c.index-bodies-from.is _ c.as_slice-code.ensures _ _ _ _ _ k c.if-number-eq0.true

pub returns-then-number-eq0 : goal.returns-then-number-eq0
returns-then-number-eq0 g c =
    λ scope k p a.
    let w = c.in-Calls.ensures scope _ c.args.callers.now _ k (T.code_at scope _ _ p _ _ k a _ c.index-bodies-from.is _ c.as_slice-code.ensures) in
    T.earlier g.H.Host.emits g.H.Host.renewable scope _ _ _ _ _ k w.next _ _ _ w.same w.fewer
    (c.ask.ensures scope _ _ _ _ w.next p.is (T.calling_host scope _ _ p _ _ k a _ c.index-bodies-from.is _ c.as_slice-code.ensures _ _ _ _ _ w c.if-number-eq0.true))

pub enter_function-next-requires-clause-there : goal.enter_function-next-requires-clause-there
enter_function-next-requires-clause-there g c =
    let w = c.requires.there in
    let k = c.in-Calls.ensures w.scope _ c.args.callers.now _ w.c (T.code_at w.scope _ _ w.program _ _ w.c w.is _ c.index-bodies-from.is _ c.as_slice-code.ensures) in
    T.calls_somewhere w.scope _ _ w.program _ _ w.c w.is _ c.index-bodies-from.is _ c.as_slice-code.ensures _ _ _ _ _ k c.if-number-eq0.false

pub overflow_sub-result : goal.overflow_sub-result
overflow_sub-result g c = let w = c.requires.there in let h = (c.in-Calls.ensures w.scope _ c.args.callers.now _ w.c (T.code_at w.scope _ _ w.program _ _ w.c w.is _ c.index-bodies-from.is _ c.as_slice-code.ensures)).some in omega arith

pub returns-then-from-callers : goal.returns-then-from-callers
returns-then-from-callers g c =
    λ scope k p a.
    T.done g.H.Host.emits g.H.Host.renewable scope _ _ _ _ k c.args.from _ _ _ (c.in-Leaves.ensures scope _ c.args.callers.now _ k (T.code_at scope _ _ p _ _ k a _ c.index-bodies-from.is _ c.as_slice-code.ensures)) c.if-from-callers.true

pub leave_function-next-requires : goal.leave_function-next-requires
leave_function-next-requires g c =
    let w = c.requires.there in
    let k = c.in-Leaves.ensures w.scope _ c.args.callers.now _ w.c (T.code_at w.scope _ _ w.program _ _ w.c w.is _ c.index-bodies-from.is _ c.as_slice-code.ensures) in
    record { there = T.leaves_somewhere w.scope _ _ w.program _ _ w.c w.is _ c.index-bodies-from.is _ c.as_slice-code.ensures _ _ _ _ k c.if-from-callers.false }

pub overflow_sub-result-in-Leaves : goal.overflow_sub-result-in-Leaves
overflow_sub-result-in-Leaves g c = let w = c.requires.there in let h = (c.in-Leaves.ensures w.scope _ c.args.callers.now _ w.c (T.code_at w.scope _ _ w.program _ _ w.c w.is _ c.index-bodies-from.is _ c.as_slice-code.ensures)).some in omega arith

pub returns-in-Spent : goal.returns-in-Spent
returns-in-Spent g c = λ scope k p a. T.spent g.H.Host.emits g.H.Host.renewable scope c.args.bodies.now _ (stacks c.args.cells.now c.args.blocks.now c.args.callers.now c.run_code.new.globals c.run_code.new.memory) _ k _ (c.in-Spent.ensures scope _ c.args.callers.now _ k (T.code_at scope _ _ p _ _ k a _ c.index-bodies-from.is _ c.as_slice-code.ensures))

pub returns-in-Trapped : goal.returns-in-Trapped
returns-in-Trapped g c = λ scope k p a. T.trapped g.H.Host.emits g.H.Host.renewable scope c.args.bodies.now _ (stacks c.args.cells.now c.args.blocks.now c.args.callers.now c.run_code.new.globals c.run_code.new.memory) _ k _ (c.in-Trapped.ensures scope _ c.args.callers.now _ k (T.code_at scope _ _ p _ _ k a _ c.index-bodies-from.is _ c.as_slice-code.ensures))

pub returns-else-number-eq0 : goal.returns-else-number-eq0
returns-else-number-eq0 g c =
    λ scope k p a.
    let w = c.in-Calls.ensures scope _ c.args.callers.now _ k (T.code_at scope _ _ p _ _ k a _ c.index-bodies-from.is _ c.as_slice-code.ensures) in
    let some = w.some in
    T.entered g.H.Host.emits g.H.Host.renewable scope _ _ _ _ k w.next _ _ _ _ w.same w.fewer c.requires.fewer (omega arith)
    (c.enter_function-next.ensures scope _ _ _ _ w.next p (T.calling_own scope _ _ p _ _ k a _ c.index-bodies-from.is _ c.as_slice-code.ensures _ _ _ _ _ w c.if-number-eq0.false))

pub returns-else-from-callers : goal.returns-else-from-callers
returns-else-from-callers g c =
    λ scope k p a.
    let w = c.in-Leaves.ensures scope _ c.args.callers.now _ k (T.code_at scope _ _ p _ _ k a _ c.index-bodies-from.is _ c.as_slice-code.ensures) in
    let some = w.some in
    T.entered g.H.Host.emits g.H.Host.renewable scope _ _ _ _ k w.next _ _ _ _ w.same w.fewer c.requires.fewer (omega arith)
    (c.leave_function-next.ensures scope _ _ _ _ w.next w.is)
