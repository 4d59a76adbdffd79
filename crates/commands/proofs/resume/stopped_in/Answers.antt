use Rattle.std.proofs.Common.{subst}
use Rattle.std.proofs.lemmas.Result.{err_from_is_err_and}
use Rattle.commands.specs.Restoring.{SpellsState}
use Rattle.commands.proofs.ResumeLemmas.{true_has, false_not, lacks_state, lacks_module, is_first, misfits}
use Rattle.commands.proofs.resume.stopped_in.Goals as goal

pub returns-in_err-state_of-clause-refused : goal.returns-in_err-state_of-clause-refused
returns-in_err-state_of-clause-refused c =
    let p = err_from_is_err_and c.from_residual.result c.from_residual.ensures.1 in
    rw (p.1, p.2) (lacks_state c.args.bytes.now _ c.in_err-state_of.ensures.refused)

pub returns-in-Version1-clause-refused : goal.returns-in-Version1-clause-refused
returns-in-Version1-clause-refused c = is_first c.args.bytes.now c.in-Version1.field-0 _ c.whole.result c.in-Version1.is c.in_ok-state_of.ensures.found c.whole.ensures

pub returns-in_err-valid-in-Version2-clause-refused : goal.returns-in_err-valid-in-Version2-clause-refused
returns-in_err-valid-in-Version2-clause-refused c =
    let p = err_from_is_err_and c.from_residual-in_err-valid-in-Version2.result c.from_residual-in_err-valid-in-Version2.ensures.1 in
    let refused = rw c.as_slice.ensures at c.in_err-valid-in-Version2.ensures.refused in
    rw (p.1, p.2) (lacks_module c.args.bytes.now _ _ _ c.in-Version2.is c.in_ok-state_of.ensures.found refused)

pub returns-then-not-fits-clause-refused : goal.returns-then-not-fits-clause-refused
returns-then-not-fits-clause-refused c =
    let of = rw c.as_slice.ensures at c.in_ok-valid-in-Version2.ensures.found in
    misfits c.args.bytes.now _ _ _ _ c.whole-then-not-fits.result c.in-Version2.is c.in_ok-state_of.ensures.found of (false_not c.fits.result c.fits.ensures c.if-not-fits.true) c.whole-then-not-fits.ensures

pub returns-clause-found : goal.returns-clause-found
returns-clause-found c =
    let of = rw c.as_slice.ensures at c.in_ok-valid-in-Version2.ensures.found in
    record { spelled = subst (SpellsState c.args.bytes.now) c.in-Version2.is c.in_ok-state_of.ensures.found; of = of; fits = true_has c.fits.result c.fits.ensures c.if-not-fits.false }
