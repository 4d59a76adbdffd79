use Rattle.std.proofs.Common.{arith, take}
use Rattle.cm_meaning.specs.Scopes.{onward}
use Rattle.name_scopes.specs.Members.{names_of}
use Rattle.path_names.proofs.StandLemmas.{onward-all, onward-next, onward-start}
use Rattle.path_names.proofs.look.find_onward.Goals as goal

pub loop-name-init : goal.loop-name-init
loop-name-init c = λ locals x plain h. onward-start (names_of c.args.known.now) locals c.args.first x h

pub loop-name-preserved : goal.loop-name-preserved
loop-name-preserved c = λ locals x plain h. onward-next (names_of c.args.known.now) locals c.find_next-found.result x c.args.names.now c.loop-name.name-index c.name-item.result c.as_str.result.now
    c.loop-name-test.true c.name-item.is c.as_str.ensures
    (c.find_next-found.ensures locals (onward (names_of c.args.known.now) x (take c.loop-name.name-index c.args.names.now)) plain (c.loop-name.invariant locals x plain h))

pub returns : goal.returns
returns c = λ locals x plain h. onward-all (names_of c.args.known.now) locals c.loop-name.found x c.args.names.now c.loop-name.name-index
    (let w = c.loop-name-test.false in let e = c.loop-name.auto.name-index-end in omega arith) (c.loop-name.invariant locals x plain h)
