use Rattle.std.proofs.Common.{sym}
use Rattle.path_names.proofs.StandLemmas.{given-none, given-path, given-type}
use Rattle.path_names.proofs.walk.Walk.meet_given.Goals as goal

pub returns-in-Type-clause-takes : goal.returns-in-Type-clause-takes
returns-in-Type-clause-takes c = given-type c.args.self.now c.args.path.now c.args.position c.in-Type.field-0 c.in-Type.field-1 c.args.arg.now c.in-Type.is

pub returns-in-None-clause-takes : goal.returns-in-None-clause-takes
returns-in-None-clause-takes c = given-none c.args.self.now c.args.path.now c.args.position c.in-Value.value c.args.arg.now c.in-Value.is (sym c.in-None.ensures)

pub returns-in-Some-clause-takes : goal.returns-in-Some-clause-takes
returns-in-Some-clause-takes c = given-path c.args.self.now c.look.new.self c.args.path.now c.args.position c.in-Value.value c.args.arg.now c.in-Some.path.now c.look.result c.in-Value.is (sym c.in-Some.ensures) c.look.ensures.looks
