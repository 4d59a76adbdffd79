use Rattle.std.proofs.Common.{arith}
use Rattle.std.proofs.lemmas.Result.{err_from_is_err_and}
use Rattle.name_scopes.specs.Apart.{word_itself}
use Rattle.name_scopes.proofs.ApartLemmas.{keeps-start, keeps-next, keeps-stop, keeps-all}
use Rattle.name_scopes.proofs.apart.keep_words.Goals as goal

pub loop-word-init : goal.loop-word-init
loop-word-init c = keeps-start word_itself c.args.words.now c.args.names.now

pub returns-in_err-keep_word : goal.returns-in_err-keep_word
returns-in_err-keep_word c =
    let p = err_from_is_err_and c.from_residual.result c.from_residual.ensures.1 in
    rw (p.1, p.2) (keeps-stop word_itself c.args.words.now c.loop-word.word-index c.word-item.result c.args.names.now c.loop-word.names c.keep_word.new.names c.keep_word.new.names
    c.in_err-keep_word.field-0.0 c.loop-word-test.true c.word-item.is c.loop-word.invariant c.in_err-keep_word.ensures)

pub loop-word-preserved : goal.loop-word-preserved
loop-word-preserved c = keeps-next word_itself c.args.words.now c.loop-word.word-index c.word-item.result c.args.names.now c.loop-word.names c.keep_word.new.names
    c.loop-word-test.true c.word-item.is c.loop-word.invariant c.in_ok-keep_word.ensures

pub returns : goal.returns
returns c = keeps-all word_itself c.args.words.now c.loop-word.word-index c.args.names.now c.loop-word.names
    (let w = c.loop-word-test.false in let e = c.loop-word.auto.word-index-end in omega arith) c.loop-word.invariant
