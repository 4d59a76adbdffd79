use Rattle.std.proofs.Common.{arith}
use Rattle.std.proofs.lemmas.Result.{err_from_is_err_and}
use Rattle.name_scopes.specs.Apart.{init_words}
use Rattle.name_scopes.proofs.ApartLemmas.{keeps-start, keeps-next, keeps-stop, keeps-all}
use Rattle.name_scopes.proofs.apart.keep_inits.Goals as goal

pub loop-init-init : goal.loop-init-init
loop-init-init c = keeps-start init_words c.args.inits.now c.args.names.now

pub returns-in_err-keep_word : goal.returns-in_err-keep_word
returns-in_err-keep_word c =
    let p = err_from_is_err_and c.from_residual.result c.from_residual.ensures.1 in
    rw (p.1, p.2) (keeps-stop init_words c.args.inits.now c.loop-init.init-index c.init-item.result c.args.names.now c.loop-init.names c.keep_word.new.names c.keep_word.new.names
    c.in_err-keep_word.field-0.0 c.loop-init-test.true c.init-item.is c.loop-init.invariant c.in_err-keep_word.ensures)

pub loop-init-preserved : goal.loop-init-preserved
loop-init-preserved c = keeps-next init_words c.args.inits.now c.loop-init.init-index c.init-item.result c.args.names.now c.loop-init.names c.keep_word.new.names
    c.loop-init-test.true c.init-item.is c.loop-init.invariant c.in_ok-keep_word.ensures

pub returns : goal.returns
returns c = keeps-all init_words c.args.inits.now c.loop-init.init-index c.args.names.now c.loop-init.names
    (let w = c.loop-init-test.false in let e = c.loop-init.auto.init-index-end in omega arith) c.loop-init.invariant
