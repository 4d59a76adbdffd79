use Rattle.std.proofs.Common.{subst, ◌++◌}
use Rattle.std.proofs.lemmas.Result.{err_from_is_err_and}
use Rattle.saved_state.specs.State.{of_version_1, IsVersion2Fail}
use Rattle.saved_state.specs.Version2.{mark, IsVersion2}
use Rattle.saved_state.proofs.Answering.{version_2_state, version_2_fail, version_1_fail}
use Rattle.saved_state.proofs.state.read_state.Goals as goal

pub returns-in_err-read_version_2-in-Some-clause-refused : goal.returns-in_err-read_version_2-in-Some-clause-refused
returns-in_err-read_version_2-in-Some-clause-refused c =
    let p = err_from_is_err_and c.from_residual.result c.from_residual.ensures.1 in
    rw (p.1, p.2) (version_2_fail c.args.bytes.now c.in_err-read_version_2-in-Some.field-0.0 c.in-Some.ensures.cases.0
    (subst (λ rest. IsVersion2Fail (mark ++ rest) c.in_err-read_version_2-in-Some.field-0.0) c.in-Some.ensures.cases.1 c.in_err-read_version_2-in-Some.ensures.refused))

pub returns-in_err-read_version_1-in-None-clause-refused : goal.returns-in_err-read_version_1-in-None-clause-refused
returns-in_err-read_version_1-in-None-clause-refused c =
    let p = err_from_is_err_and c.from_residual-in_err-read_version_1-in-None.result c.from_residual-in_err-read_version_1-in-None.ensures.1 in
    rw (p.1, p.2) (version_1_fail c.args.bytes.now c.in_err-read_version_1-in-None.field-0.0 c.in-None.ensures.cases c.in_err-read_version_1-in-None.ensures)

pub returns-in_ok-read_version_2-in-Some-clause-state : goal.returns-in_ok-read_version_2-in-Some-clause-state
returns-in_ok-read_version_2-in-Some-clause-state c =
    version_2_state c.args.bytes.now c.in_ok-read_version_2-in-Some.field-0 c.in-Some.ensures.cases.0
    (subst (λ rest. IsVersion2 (mark ++ rest) c.in_ok-read_version_2-in-Some.field-0) c.in-Some.ensures.cases.1 c.in_ok-read_version_2-in-Some.ensures.found)

pub returns-in_ok-read_version_1-in-None-clause-state : goal.returns-in_ok-read_version_1-in-None-clause-state
returns-in_ok-read_version_1-in-None-clause-state c =
    of_version_1 c.in_ok-read_version_1-in-None.field-0 c.in-None.ensures.cases c.in_ok-read_version_1-in-None.ensures
