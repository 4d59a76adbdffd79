use Rattle.std.proofs.Common.{arith}
use Rattle.std.proofs.lemmas.Result.{err_from_is_err_and}
use Rattle.name_scopes.specs.Members.{init_names}
use Rattle.name_scopes.proofs.AddLemmas.{adds-start, adds-next, adds-stop, adds-all}
use Rattle.name_scopes.proofs.walk.add_inits.Goals as goal

pub loop-init-init : goal.loop-init-init
loop-init-init c = adds-start init_names c.args.inits.now c.args.space c.args.members.now

pub returns-in_err-add_init : goal.returns-in_err-add_init
returns-in_err-add_init c =
    let p = err_from_is_err_and c.from_residual.result c.from_residual.ensures.1 in
    rw (p.1, p.2) (adds-stop (Unit {0}) init_names c.args.inits.now c.args.space c.loop-init.init-index c.init-item.result c.args.members.now c.loop-init.members c.add_init.new.members c.add_init.new.members
    c.in_err-add_init.field-0.0 c.requires c.loop-init-test.true c.init-item.is c.loop-init.invariant c.in_err-add_init.ensures)

pub loop-init-preserved : goal.loop-init-preserved
loop-init-preserved c = adds-next init_names c.args.inits.now c.args.space c.loop-init.init-index c.init-item.result c.args.members.now c.loop-init.members c.add_init.new.members
    c.requires c.loop-init-test.true c.init-item.is c.loop-init.invariant c.in_ok-add_init.ensures

pub returns : goal.returns
returns c = adds-all init_names c.args.inits.now c.args.space c.loop-init.init-index c.args.members.now c.loop-init.members
    (let w = c.loop-init-test.false in let e = c.loop-init.auto.init-index-end in omega arith) c.loop-init.invariant
