use Rattle.path_names.proofs.StandLemmas.{outer-in, outer-of-none, outer-ready}
use Rattle.path_names.proofs.walk.outer_number.Goals as goal

pub returns-in-None-clause-outer : goal.returns-in-None-clause-outer
returns-in-None-clause-outer c = λ s at. outer-of-none c.args.known.now.spaces c.args.space s c.in-None.ensures at

pub returns-in-Some-clause-below : goal.returns-in-Some-clause-below
returns-in-Some-clause-below c = outer-ready c.args.known.now.spaces c.args.space c.in-Some.outer c.in-Some.ensures

pub returns-in-Some-clause-outer : goal.returns-in-Some-clause-outer
returns-in-Some-clause-outer c = λ s at. outer-in c.args.known.now.spaces c.args.space c.in-Some.outer s c.in-Some.ensures at
