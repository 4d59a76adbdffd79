use Rattle.std.proofs.Common.{arith}
use Rattle.std.proofs.lemmas.Result.{err_from_is_err_and}
use Rattle.name_scopes.specs.Apart.{node_words}
use Rattle.name_scopes.proofs.ApartLemmas.{keeps-start, keeps-next, keeps-stop, keeps-all}
use Rattle.name_scopes.proofs.apart.keep_nodes.Goals as goal

pub loop-node-init : goal.loop-node-init
loop-node-init c = keeps-start node_words c.args.nodes.now c.args.names.now

pub returns-in_err-keep_word : goal.returns-in_err-keep_word
returns-in_err-keep_word c =
    let p = err_from_is_err_and c.from_residual.result c.from_residual.ensures.1 in
    rw (p.1, p.2) (keeps-stop node_words c.args.nodes.now c.loop-node.node-index c.node-item.result c.args.names.now c.loop-node.names c.keep_word.new.names c.keep_word.new.names
    c.in_err-keep_word.field-0.0 c.loop-node-test.true c.node-item.is c.loop-node.invariant c.in_err-keep_word.ensures)

pub loop-node-preserved : goal.loop-node-preserved
loop-node-preserved c = keeps-next node_words c.args.nodes.now c.loop-node.node-index c.node-item.result c.args.names.now c.loop-node.names c.keep_word.new.names
    c.loop-node-test.true c.node-item.is c.loop-node.invariant c.in_ok-keep_word.ensures

pub returns : goal.returns
returns c = keeps-all node_words c.args.nodes.now c.loop-node.node-index c.args.names.now c.loop-node.names
    (let w = c.loop-node-test.false in let e = c.loop-node.auto.node-index-end in omega arith) c.loop-node.invariant
