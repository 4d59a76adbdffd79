use Rattle.std.proofs.Common.{arith}
use Rattle.std.proofs.lemmas.Result.{err_from_is_err_and}
use Rattle.name_scopes.specs.Apart.{param_words}
use Rattle.name_scopes.proofs.ApartLemmas.{keeps-start, keeps-next, keeps-stop, keeps-all}
use Rattle.name_scopes.proofs.apart.keep_params.Goals as goal

pub loop-param-init : goal.loop-param-init
loop-param-init c = keeps-start param_words c.args.params.now c.args.names.now

pub returns-in_err-keep_param : goal.returns-in_err-keep_param
returns-in_err-keep_param c =
    let p = err_from_is_err_and c.from_residual.result c.from_residual.ensures.1 in
    rw (p.1, p.2) (keeps-stop param_words c.args.params.now c.loop-param.param-index c.param-item.result c.args.names.now c.loop-param.names c.keep_param.new.names c.keep_param.new.names
    c.in_err-keep_param.field-0.0 c.loop-param-test.true c.param-item.is c.loop-param.invariant c.in_err-keep_param.ensures)

pub loop-param-preserved : goal.loop-param-preserved
loop-param-preserved c = keeps-next param_words c.args.params.now c.loop-param.param-index c.param-item.result c.args.names.now c.loop-param.names c.keep_param.new.names
    c.loop-param-test.true c.param-item.is c.loop-param.invariant c.in_ok-keep_param.ensures

pub returns : goal.returns
returns c = keeps-all param_words c.args.params.now c.loop-param.param-index c.args.names.now c.loop-param.names
    (let w = c.loop-param-test.false in let e = c.loop-param.auto.param-index-end in omega arith) c.loop-param.invariant
