use Rattle.std.proofs.Common.{Ok}
use Rattle.std.proofs.lemmas.Result.{err_from_is_err_and}
use Rattle.name_scopes.specs.declared.scopes.Scopes.{Scopes}
use Rattle.name_scopes.proofs.BuildLemmas.{build-clash, build-names, build-units, exactly-else}
use Rattle.name_scopes.proofs.scopes.Scopes.build.Goals as goal

pub returns-in_err-add_files-clause-exact : goal.returns-in_err-add_files-clause-exact
returns-in_err-add_files-clause-exact c =
    let p = err_from_is_err_and c.from_residual.result c.from_residual.ensures.1 in
    rw (p.1, p.2) (build-clash (Unit {0}) Scopes c.args.files.now c.new-members.result c.add_files.new.members c.in_err-add_files.field-0.0 c.new-members.ensures c.in_err-add_files.ensures)

pub returns-in_err-check_members-clause-exact : goal.returns-in_err-check_members-clause-exact
returns-in_err-check_members-clause-exact c =
    let p = err_from_is_err_and c.from_residual-in_err-check_members.result c.from_residual-in_err-check_members.ensures.1 in
    rw (p.1, p.2) (exactly-else (Unit {0}) Scopes c.args.files.now c.new-members.result c.add_files.new.members c.as_slice.result.now c.in_err-check_members.field-0.0 c.new-members.ensures c.in_ok-add_files.ensures c.as_slice.ensures
    c.in_err-check_members.ensures)

pub invariant_of-result : goal.invariant_of-result
invariant_of-result c = build-names c.args.files.now c.new-members.result c.add_files.new.members c.new-members.ensures c.in_ok-add_files.ensures

pub returns-clause-exact : goal.returns-clause-exact
returns-clause-exact c = build-units {A = Unit {0}} c.args.files.now c.new-members.result c.add_files.new.members c.as_slice.result.now (Ok tt) c.new-members.ensures c.in_ok-add_files.ensures c.as_slice.ensures
    c.in_ok-check_members.ensures
