use Rattle.cm_meaning.specs.Constants as constants
use Rattle.cm_types.specs.Meant.{meant_type}
use Rattle.const_values.specs.Construct.{meant_givens, values_of, element_faults}
use Rattle.const_values.proofs.Fits.{start_with, sound_rest, refused_as, passed_failure, element_refused, element_next, elements_all}
use Rattle.const_values.proofs.construct.elements.Goals as goal

pub loop-one-init : goal.loop-one-init
loop-one-init c = record {
  gathered = start_with (element_faults (meant_type c.args.ty.now) (meant_givens c.args.given.now)) (constants.elements (meant_type c.args.ty.now) (values_of (meant_givens c.args.given.now)))
      c.in_ok-all.all.items c.in_ok-all.ensures.items;
  sound = c.requires.sound;
}

pub returns-in_err-fit : goal.returns-in_err-fit
returns-in_err-fit c =
    let faults = element_faults (meant_type c.args.ty.now) (meant_givens c.args.given.now) in
    let values = constants.elements (meant_type c.args.ty.now) (values_of (meant_givens c.args.given.now)) in
    refused_as faults values c.from_residual-in_err-fit.result c.in_err-fit.field-0.0 (passed_failure c.from_residual-in_err-fit.result c.in_err-fit.field-0.0 c.from_residual-in_err-fit.ensures)
    (element_refused (meant_type c.args.ty.now) faults values c.loop-one.left.now c.in-Some.rest.now c.in-Some.one.now c.loop-one.all.items c.in_err-fit.field-0.0 c.in-Some.ensures.cases.0 c.loop-one.invariant.gathered c.in_err-fit.ensures)

pub loop-one-preserved : goal.loop-one-preserved
loop-one-preserved c = record {
  gathered = element_next (meant_type c.args.ty.now) (element_faults (meant_type c.args.ty.now) (meant_givens c.args.given.now)) (constants.elements (meant_type c.args.ty.now) (values_of (meant_givens c.args.given.now)))
      c.loop-one.left.now c.in-Some.rest.now c.in-Some.one.now c.loop-one.all.items c.push.new.self.items c.in_ok-fit.field-0 c.in-Some.ensures.cases.0 c.in_ok-push.ensures.items c.loop-one.invariant.gathered c.in_ok-fit.ensures;
  sound = sound_rest c.loop-one.left.now c.in-Some.rest.now c.in-Some.one.now c.in-Some.ensures.cases.0 c.loop-one.invariant.sound;
}

pub returns : goal.returns
returns c =
    elements_all (meant_type c.args.ty.now) (element_faults (meant_type c.args.ty.now) (meant_givens c.args.given.now)) (constants.elements (meant_type c.args.ty.now) (values_of (meant_givens c.args.given.now)))
    c.loop-one.left.now c.loop-one.all.items c.from_vec.result c.in_default.ensures.cases c.from_vec.ensures c.loop-one.invariant.gathered
