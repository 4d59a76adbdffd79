use Rattle.std.proofs.Common.{arith}
use Rattle.std.proofs.lemmas.Result.{err_from_is_err_and}
use Rattle.name_scopes.specs.Apart.{end_words}
use Rattle.name_scopes.proofs.ApartLemmas.{keeps-start, keeps-next, keeps-stop, keeps-all}
use Rattle.name_scopes.proofs.apart.keep_ends.Goals as goal

pub loop-end-init : goal.loop-end-init
loop-end-init c = keeps-start end_words c.args.ends.now c.args.names.now

pub returns-in_err-keep_end : goal.returns-in_err-keep_end
returns-in_err-keep_end c =
    let p = err_from_is_err_and c.from_residual.result c.from_residual.ensures.1 in
    rw (p.1, p.2) (keeps-stop end_words c.args.ends.now c.loop-end.end-index c.end-item.result c.args.names.now c.loop-end.names c.keep_end.new.names c.keep_end.new.names
    c.in_err-keep_end.field-0.0 c.loop-end-test.true c.end-item.is c.loop-end.invariant c.in_err-keep_end.ensures)

pub loop-end-preserved : goal.loop-end-preserved
loop-end-preserved c = keeps-next end_words c.args.ends.now c.loop-end.end-index c.end-item.result c.args.names.now c.loop-end.names c.keep_end.new.names
    c.loop-end-test.true c.end-item.is c.loop-end.invariant c.in_ok-keep_end.ensures

pub returns : goal.returns
returns c = keeps-all end_words c.args.ends.now c.loop-end.end-index c.args.names.now c.loop-end.names
    (let w = c.loop-end-test.false in let e = c.loop-end.auto.end-index-end in omega arith) c.loop-end.invariant
