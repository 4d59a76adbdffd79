use Rattle.path_names.proofs.StandLemmas.{path-none, path-some}
use Rattle.path_names.proofs.look.find_path.Goals as goal

pub returns-in-None : goal.returns-in-None
returns-in-None c = λ s xs found h. path-none s xs c.args.path.now c.as_slice.result.now c.as_slice.ensures c.in-None.ensures.cases

pub returns-in-Some : goal.returns-in-Some
returns-in-Some c = λ s xs found h. path-some c.args.walk.now s xs found c.args.path.now c.as_slice.result.now c.in-Some.further.now c.in-Some.name.now c.as_str.result.now c.find_first-first.result c.find_onward.result h
    c.as_slice.ensures c.in-Some.ensures.cases.0 c.as_str.ensures (c.find_first-first.ensures s xs found h) c.find_onward.ensures
