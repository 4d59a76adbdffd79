use Rattle.std.proofs.Common.{arith}
use Rattle.std.proofs.lemmas.Result.{err_from_is_err_and}
use Rattle.name_scopes.specs.Apart.{var_words}
use Rattle.name_scopes.proofs.ApartLemmas.{keeps-start, keeps-next, keeps-stop, keeps-all}
use Rattle.name_scopes.proofs.apart.keep_vars.Goals as goal

pub loop-var-init : goal.loop-var-init
loop-var-init c = keeps-start var_words c.args.vars.now c.args.names.now

pub returns-in_err-keep_word : goal.returns-in_err-keep_word
returns-in_err-keep_word c =
    let p = err_from_is_err_and c.from_residual.result c.from_residual.ensures.1 in
    rw (p.1, p.2) (keeps-stop var_words c.args.vars.now c.loop-var.var-index c.var-item.result c.args.names.now c.loop-var.names c.keep_word.new.names c.keep_word.new.names
    c.in_err-keep_word.field-0.0 c.loop-var-test.true c.var-item.is c.loop-var.invariant c.in_err-keep_word.ensures)

pub loop-var-preserved : goal.loop-var-preserved
loop-var-preserved c = keeps-next var_words c.args.vars.now c.loop-var.var-index c.var-item.result c.args.names.now c.loop-var.names c.keep_word.new.names
    c.loop-var-test.true c.var-item.is c.loop-var.invariant c.in_ok-keep_word.ensures

pub returns : goal.returns
returns c = keeps-all var_words c.args.vars.now c.loop-var.var-index c.args.names.now c.loop-var.names
    (let w = c.loop-var-test.false in let e = c.loop-var.auto.var-index-end in omega arith) c.loop-var.invariant
