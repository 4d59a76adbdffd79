use Rattle.std.proofs.Common.{◌≤◌, length, subst, arith, inr}
use Rattle.cm_base.specs.declared.forms.FormFail.{FormFail}
use Rattle.saved_state.specs.State.{IsStateFail, limit_of}
use Rattle.commands.specs.Restoring.{PastLimit, NoForm}
use Rattle.commands.proofs.state.state_of.Goals as goal

pub returns-then-length-most_bytes-clause-refused : goal.returns-then-length-most_bytes-clause-refused
returns-then-length-most_bytes-clause-refused c = inr (PastLimit (omega (arith, c.if-length-most_bytes.true, c.most_bytes.ensures)))

pub returns-in-Err-Refused-clause-refused : goal.returns-in-Err-Refused-clause-refused
returns-in-Err-Refused-clause-refused c =
    let within : length c.args.bytes.now ≤ limit_of c.args.bytes.now = omega (arith, c.if-length-most_bytes.false, c.most_bytes.ensures) in
    inr (NoForm c.in-Err-Refused.fault within (subst (λ (e : FormFail). IsStateFail c.args.bytes.now e) c.in-Err-Refused.field-0-is c.in-Err-Refused.ensures.refused))
