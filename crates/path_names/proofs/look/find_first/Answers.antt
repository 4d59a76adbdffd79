use Rattle.path_names.proofs.StandLemmas.{first-local, first-member, first-none}
use Rattle.path_names.proofs.look.find_first.Goals as goal

pub returns-in-Some : goal.returns-in-Some
returns-in-Some c = λ s xs found h. first-local c.args.walk.now s xs found c.args.text.now c.in-Some.local h c.in-Some.ensures

pub returns-in-Some-find_outward : goal.returns-in-Some-find_outward
returns-in-Some-find_outward c = λ s xs found h. first-member c.args.walk.now s xs found c.args.text.now c.in-Some-find_outward.member h c.in-None.ensures c.in-Some-find_outward.ensures

pub returns-in-None-find_outward : goal.returns-in-None-find_outward
returns-in-None-find_outward c = λ s xs found h. first-none c.args.walk.now s xs found c.args.text.now h c.in-None.ensures c.in-None-find_outward.ensures
