use Rattle.std.proofs.Common.{refl}
use Rattle.cm_base.specs.declared.cause.Cause.TheVariants as cause
use Rattle.std.proofs.Common.{[]}
use Rattle.name_scopes.specs.Members.{declared_in}
use Rattle.name_scopes.proofs.AddLemmas.{adds-clash, added-one}
use Rattle.name_scopes.proofs.members.Members.declare.Goals as goal

pub returns-then-clashes-clause-adds : goal.returns-then-clashes-clause-adds
returns-then-clashes-clause-adds c = adds-clash (Unit {0}) c.args.self.now c.args.self.now (declared_in c.args.self.now.spaces c.args.member) c.refused.result
    (record { cause = cause.DuplicateName; place = c.args.member.place; cycle = [] }) c.clashes.result c.clashes.ensures c.if-clashes.true c.refused.ensures refl

pub returns-clause-adds : goal.returns-clause-adds
returns-clause-adds c = added-one c.args.self.now c.push.new.self c.args.member c.clashes.result c.clashes.ensures c.if-clashes.false c.in_ok-push.ensures.ok
