use Rattle.std.proofs.Common.{map}
use Rattle.scope_walk.specs.Meant.{step_as}
use Rattle.path_names.proofs.StandLemmas.{walk-end}
use Rattle.path_names.proofs.path_names.PathNames.find_all.Goals as goal

pub returns : goal.returns
returns c =
    let e = walk-end c.args.members c.in_ok-walk.walk c.follow.new.walk (map step_as c.as_slice.result.now) c.args.steps.now c.in_ok-walk.ensures.start c.in_ok-follow.ensures c.as_slice.ensures in
    record { members = e.members; locals = e.locals; uses = e.uses }
