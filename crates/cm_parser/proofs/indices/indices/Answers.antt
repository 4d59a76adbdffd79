use Rattle.std.proofs.Common.{◌≡◌, ◌∙◌, refl, true, false}
use Rattle.std.proofs.lemmas.Result.{err_from_is_err_and}
use Rattle.cm_tree.specs.declared.sign.Sign.TheVariants as s
use Rattle.token_reader.specs.Parsers.{sees, is_sign}
use Rattle.token_reader.proofs.Inverses.{Reads-err}
use Rattle.token_reader.proofs.Parts.{while_more, while_fails, while_ends}
use Rattle.file_grammar.specs.Words.{bracket}
use Rattle.file_grammar.proofs.Far.{local_bracket, takes_bracket}
use Rattle.cm_parser.proofs.indices.indices.Goals as goal

pub returns-in_err-index : goal.returns-in_err-index
returns-in_err-index c =
    let p = err_from_is_err_and c.from_residual.result c.from_residual.ensures.1 in
    let goes_on : sees (is_sign s.LeftBracket) c.loop-tokens.tokens ≡ true = cc in
    rw (p.1, p.2)
    (Reads-err _ _ c.in_err-index.field-0.0 c.bracket.new.tokens
    (λ l is. c.loop-tokens.invariant ∙ while_fails (is_sign s.LeftBracket) (bracket c.args.room) (local_bracket c.args.room) (takes_bracket c.args.room) c.loop-tokens.found c.loop-tokens.tokens l goes_on is)
    c.in_err-index.ensures)

pub loop-tokens-smaller : goal.loop-tokens-smaller
loop-tokens-smaller c = (takes_bracket c.args.room).some c.loop-tokens.tokens c.in_ok-index.index c.bracket.new.tokens c.in_ok-index.ensures

pub loop-tokens-preserved : goal.loop-tokens-preserved
loop-tokens-preserved c =
    let goes_on : sees (is_sign s.LeftBracket) c.loop-tokens.tokens ≡ true = cc in
    c.loop-tokens.invariant
    ∙ while_more (is_sign s.LeftBracket) (bracket c.args.room) (local_bracket c.args.room) (takes_bracket c.args.room) c.loop-tokens.found c.loop-tokens.tokens c.in_ok-index.index c.bracket.new.tokens goes_on c.in_ok-index.ensures
    ∙ rw c.in_ok-push.ensures.ok refl

pub returns : goal.returns
returns c =
    let ends : sees (is_sign s.LeftBracket) c.loop-tokens.tokens ≡ false = cc in
    c.loop-tokens.invariant ∙ while_ends (is_sign s.LeftBracket) (bracket c.args.room) (local_bracket c.args.room) (takes_bracket c.args.room) c.loop-tokens.found c.loop-tokens.tokens ends
