-- A call is the reduction of its instruction.
use Rattle.std.proofs.Common.{◌-◌, arith, refl, ap, rules}
use Rattle.std.specs.Prelude.{slice_set}
use Rattle.wasm_runner.specs.Activations.{stacks}
use Rattle.wasm_runner.proofs.Calling as K
use Rattle.wasm_runner.proofs.calls.enter_function.Goals as goal

pub bounds-functions-number : goal.bounds-functions-number
bounds-functions-number c = let w = c.requires.there in K.number_there w.scope w.codes _ w.program _ _ _ w.c w.is

pub offset_bounds-functions-number : goal.offset_bounds-functions-number
offset_bounds-functions-number c = let w = c.requires.there in let h = K.number_there w.scope w.codes _ w.program _ _ _ w.c w.is in search rules

pub overflow_sub-depth : goal.overflow_sub-depth
overflow_sub-depth c = let w = c.requires.there in let h = (K.mark_there w.scope w.codes _ w.program _ _ _ w.c w.is).0 in omega arith

pub bounds-callers-depth : goal.bounds-callers-depth
bounds-callers-depth c = let w = c.requires.there in let h = K.mark_there w.scope w.codes _ w.program _ _ _ w.c w.is in let h0 = h.0 in let h1 = h.1 in omega arith

pub overflow_sub-sp : goal.overflow_sub-sp
overflow_sub-sp c = let w = c.requires.there in K.locals_there w.scope w.codes _ w.program _ _ _ w.c w.is _ (K.function_here _ _ _ (K.number_there w.scope w.codes _ w.program _ _ _ w.c w.is) c.index-functions-number.is)

pub clear-requires : goal.clear-requires
clear-requires c =
    let w = c.requires.there in
    let h = K.locals_there w.scope w.codes _ w.program _ _ _ w.c w.is _ (K.function_here _ _ _ (K.number_there w.scope w.codes _ w.program _ _ _ w.c w.is) c.index-functions-number.is) in
    let g = (K.operands_there w.scope w.codes _ w.program _ _ _ w.c w.is).0 in
    omega arith

pub overflow_add-result : goal.overflow_add-result
overflow_add-result c =
    let w = c.requires.there in
    let h = K.params_there w.scope w.codes _ w.program _ _ _ w.c w.is _ (K.function_here _ _ _ (K.number_there w.scope w.codes _ w.program _ _ _ w.c w.is) c.index-functions-number.is) in
    search rules

pub returns : goal.returns
returns c =
    λ scope codes blocks globals memory k p a.
    K.after_call scope codes _ p (stacks c.args.cells.now blocks c.args.callers.now globals memory) _ _ k a _
    (K.function_here _ _ _ (let w = c.requires.there in K.number_there w.scope w.codes _ w.program _ _ _ w.c w.is) c.index-functions-number.is)
    _ _ _ (ap (λ b. slice_set c.args.callers.now (c.args.from.depth - 1) (record { function = c.args.from.function; back = b; base = c.args.from.place.base; floor = c.args.from.place.floor; arity = c.index-functions-number.result.results })) c.requires.back)
    c.clear.ensures.zero c.clear.ensures.long refl
