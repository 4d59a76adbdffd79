use Rattle.name_scopes.proofs.BuildLemmas.{in-processor, in-graph}
use Rattle.name_scopes.proofs.scopes.check_member.Goals as goal

pub returns-in-Processor : goal.returns-in-Processor
returns-in-Processor c = λ spaces. in-processor spaces c.args.member.now c.in-Processor.unit c.check_unit.result c.in-Processor.is c.check_unit.ensures

pub returns-in-Graph : goal.returns-in-Graph
returns-in-Graph c = λ spaces. in-graph spaces c.args.member.now c.in-Graph.unit c.check_unit-in-Graph.result c.in-Graph.is c.check_unit-in-Graph.ensures
