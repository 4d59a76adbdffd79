-- A call begins where its configuration does.
use Rattle.std.proofs.Common.{◌-◌, length, drop, arith, sym, ap, ◌∙◌, rules}
use Rattle.wasm_runner.specs.Prepared.{arguments_of}
use Rattle.wasm_runner.proofs.Calling.{function_here}
use Rattle.wasm_runner.proofs.Beginning as B
use Rattle.wasm_runner.proofs.begin.begin.Goals as goal

pub offset_bounds-functions-number : goal.offset_bounds-functions-number
offset_bounds-functions-number c = let k = c.requires.call in let h = B.number_there _ _ _ _ c.requires.ready _ _ k.0 k.1 k.2 in search rules

pub bounds-functions-number : goal.bounds-functions-number
bounds-functions-number c = let k = c.requires.call in B.number_there _ _ _ _ c.requires.ready _ _ k.0 k.1 k.2

pub put_argument-requires : goal.put_argument-requires
put_argument-requires c = let k = c.requires.call in (B.cells_there _ _ _ _ c.requires.ready _ _ k.0 k.1 k.2).0

pub overflow_sub-sp : goal.overflow_sub-sp
overflow_sub-sp c =
    let k = c.requires.call in
    let e = function_here _ _ _ (B.number_there _ _ _ _ c.requires.ready _ _ k.0 k.1 k.2) c.index-functions-number.is in
    let h = B.locals_there _ _ _ _ c.requires.ready _ _ k.0 k.1 k.2 _ e in let l = c.put_argument.ensures.long in
    omega arith

pub overflow_sub-sp-2 : goal.overflow_sub-sp-2
overflow_sub-sp-2 c =
    let k = c.requires.call in
    let e = function_here _ _ _ (B.number_there _ _ _ _ c.requires.ready _ _ k.0 k.1 k.2) c.index-functions-number.is in
    let h = B.locals_there _ _ _ _ c.requires.ready _ _ k.0 k.1 k.2 _ e in let l = c.put_argument.ensures.long in
    omega arith

pub clear-requires : goal.clear-requires
clear-requires c =
    let k = c.requires.call in
    let e = function_here _ _ _ (B.number_there _ _ _ _ c.requires.ready _ _ k.0 k.1 k.2) c.index-functions-number.is in
    let h = B.locals_there _ _ _ _ c.requires.ready _ _ k.0 k.1 k.2 _ e in let l = c.put_argument.ensures.long in
    omega arith

pub returns-clause-active : goal.returns-clause-active
returns-clause-active c =
    λ blocks callers globals memory b d k.
    let e = function_here _ _ _ (B.number_there _ _ _ _ c.requires.ready _ _ globals memory k) c.index-functions-number.is in
    B.active _ _ _ _ c.requires.ready _ _ globals memory k _ e c.put_argument.new.cells c.clear.new.cells blocks callers c.put_argument.ensures.long c.clear.ensures.long b d
    (ap (λ l. drop (l - length (arguments_of c.args.argument)) c.put_argument.new.cells) c.put_argument.ensures.long ∙ c.put_argument.ensures.held ∙ sym (B.argument_turned c.args.argument)) c.clear.ensures.zero
