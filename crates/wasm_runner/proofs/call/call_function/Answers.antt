-- A call by its number is that of the function.
use Rattle.std.proofs.Common.{refl}
use Rattle.wasm_runner.specs.Prepared.{scope_of}
use Rattle.wasm_runner.proofs.Numbered as N
use Rattle.wasm_runner.proofs.call.call_function.Goals as goal

pub run-requires : goal.run-requires
run-requires g c =
    N.runs _ _ _ _ c.requires.ready _ _ _ _ c.requires.call c.if-number-eq0.false _ c.cell_of.ensures _ c.as_slice-bodies.ensures _ _
    (c.begin-from.ensures.active _ _ _ _ refl c.requires.callers (N.own_call _ _ _ _ c.requires.ready _ _ _ _ c.requires.call c.if-number-eq0.false _ c.cell_of.ensures))

pub returns-clause-follows : goal.returns-clause-follows
returns-clause-follows g c =
    let is = c.begin-from.ensures.active _ _ _ _ refl c.requires.callers (N.own_call _ _ _ _ c.requires.ready _ _ _ _ c.requires.call c.if-number-eq0.false _ c.cell_of.ensures) in
    c.run.ensures (scope_of c.args.loaded.now) _
    (N.bodies_program _ _ _ _ c.requires.ready _ _ _ _ c.requires.call c.if-number-eq0.false _ c.cell_of.ensures _ c.as_slice-bodies.ensures _ _ is)
    (N.active _ _ _ _ c.requires.ready _ _ _ _ c.requires.call c.if-number-eq0.false _ c.cell_of.ensures _ c.as_slice-bodies.ensures _ _ is)

pub returns-clause-leaves : goal.returns-clause-leaves
returns-clause-leaves g c =
    let is = c.begin-from.ensures.active _ _ _ _ refl c.requires.callers (N.own_call _ _ _ _ c.requires.ready _ _ _ _ c.requires.call c.if-number-eq0.false _ c.cell_of.ensures) in
    N.leaves _ _ _ _ c.requires.ready _ _ _ _ c.requires.call g.H.Host.emits _ _ _ _ _ _ (c.run.ensures (scope_of c.args.loaded.now) _
    (N.bodies_program _ _ _ _ c.requires.ready _ _ _ _ c.requires.call c.if-number-eq0.false _ c.cell_of.ensures _ c.as_slice-bodies.ensures _ _ is)
    (N.active _ _ _ _ c.requires.ready _ _ _ _ c.requires.call c.if-number-eq0.false _ c.cell_of.ensures _ c.as_slice-bodies.ensures _ _ is))
