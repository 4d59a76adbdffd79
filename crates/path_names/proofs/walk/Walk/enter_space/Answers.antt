use Rattle.path_names.proofs.StandLemmas.{enters-space}
use Rattle.path_names.proofs.walk.Walk.enter_space.Goals as goal

pub returns-clause-takes : goal.returns-clause-takes
returns-clause-takes c = enters-space c.args.self.now c.number_space.new.self c.in_ok-self.field-0 c.as_str.result.now c.args.name.now c.in_ok-self.ensures.names c.in_ok-self.ensures.spaces c.in_ok-self.ensures.number c.as_str.ensures
