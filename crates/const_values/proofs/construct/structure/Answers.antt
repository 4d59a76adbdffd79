use Rattle.cm_meaning.specs.Constants as constants
use Rattle.cm_types.specs.Meant.{meant_fields}
use Rattle.const_values.specs.Construct.{meant_givens, values_of, field_faults}
use Rattle.const_values.proofs.Fits.{start_with, sound_rest, refused_as, passed_failure, field_lawful, others_lawful, still_equal, field_refused, field_next, fields_all}
use Rattle.const_values.proofs.construct.structure.Goals as goal

pub loop-one-init : goal.loop-one-init
loop-one-init c = record {
  gathered = start_with (field_faults (meant_fields c.args.fields.now) (meant_givens c.args.given.now)) (constants.field_values (meant_fields c.args.fields.now) (values_of (meant_givens c.args.given.now)))
      c.in_ok-all.all.items c.in_ok-all.ensures.items;
  sound = c.requires.sound;
  lawful = c.requires.lawful;
  count = c.requires.count;
}

pub returns-in_default : goal.returns-in_default
returns-in_default c =
    fields_all (field_faults (meant_fields c.args.fields.now) (meant_givens c.args.given.now)) (constants.field_values (meant_fields c.args.fields.now) (values_of (meant_givens c.args.given.now)))
    c.loop-one.types.now c.loop-one.left.now c.loop-one.all.items c.from_vec.result c.in_default.ensures.cases c.loop-one.invariant.count c.from_vec.ensures c.loop-one.invariant.gathered

pub fit-requires-clause-lawful : goal.fit-requires-clause-lawful
fit-requires-clause-lawful c = field_lawful c.loop-one.types.now c.in-Some-split_first.others.now c.in-Some-split_first.field.now c.in-Some-split_first.ensures.cases.0 c.loop-one.invariant.lawful

pub returns-in_err-fit : goal.returns-in_err-fit
returns-in_err-fit c =
    let faults = field_faults (meant_fields c.args.fields.now) (meant_givens c.args.given.now) in
    let values = constants.field_values (meant_fields c.args.fields.now) (values_of (meant_givens c.args.given.now)) in
    refused_as faults values c.from_residual-in_err-fit.result c.in_err-fit.field-0.0 (passed_failure c.from_residual-in_err-fit.result c.in_err-fit.field-0.0 c.from_residual-in_err-fit.ensures)
    (field_refused faults values c.loop-one.types.now c.in-Some-split_first.others.now c.loop-one.left.now c.in-Some.rest.now c.in-Some-split_first.field.now c.in-Some.one.now c.loop-one.all.items c.in_err-fit.field-0.0
    c.in-Some-split_first.ensures.cases.0 c.in-Some.ensures.cases.0 c.loop-one.invariant.gathered c.in_err-fit.ensures)

pub loop-one-preserved : goal.loop-one-preserved
loop-one-preserved c = record {
  gathered = field_next (field_faults (meant_fields c.args.fields.now) (meant_givens c.args.given.now)) (constants.field_values (meant_fields c.args.fields.now) (values_of (meant_givens c.args.given.now)))
      c.loop-one.types.now c.in-Some-split_first.others.now c.loop-one.left.now c.in-Some.rest.now c.in-Some-split_first.field.now c.in-Some.one.now c.loop-one.all.items c.push.new.self.items c.in_ok-fit.field-0
      c.in-Some-split_first.ensures.cases.0 c.in-Some.ensures.cases.0 c.in_ok-push.ensures.items c.loop-one.invariant.gathered c.in_ok-fit.ensures;
  sound = sound_rest c.loop-one.left.now c.in-Some.rest.now c.in-Some.one.now c.in-Some.ensures.cases.0 c.loop-one.invariant.sound;
  lawful = others_lawful c.loop-one.types.now c.in-Some-split_first.others.now c.in-Some-split_first.field.now c.in-Some-split_first.ensures.cases.0 c.loop-one.invariant.lawful;
  count = still_equal c.loop-one.left.now c.in-Some.rest.now c.loop-one.types.now c.in-Some-split_first.others.now c.in-Some.one.now c.in-Some-split_first.field.now c.in-Some.ensures.cases.0 c.in-Some-split_first.ensures.cases.0
      c.loop-one.invariant.count;
}
