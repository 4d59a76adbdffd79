use Rattle.std.proofs.Common.{slice_index_or, []}
use Rattle.name_scopes.proofs.OpenLemmas.{in-let, in-assert}
use Rattle.name_scopes.proofs.walk.add_shared.Goals as goal

pub returns-in-Let : goal.returns-in-Let
returns-in-Let c = in-let c.args.members.now c.add_inits.new.members (slice_index_or c.args.members.now.spaces c.args.space []) c.in-Let.field-0 c.in-Let.inits c.as_slice-in-Let.result.now c.args.shared.now c.add_inits.result
    c.in-Let.is c.as_slice-in-Let.ensures c.add_inits.ensures

pub returns-in-Assert : goal.returns-in-Assert
returns-in-Assert c = in-assert c.args.members.now (slice_index_or c.args.members.now.spaces c.args.space []) c.in-Assert.field-0 c.args.shared.now c.in-Assert.is
