use Rattle.std.proofs.Common.{◌≡◌, ◌∙◌, [], List, ◌∷◌, refl, true, false}
use Rattle.std.proofs.lemmas.Result.{err_from_is_err_and}
use Rattle.cm_tree.specs.declared.token.Token.{Token}
use Rattle.token_reader.specs.Parsers.{sees, is_any}
use Rattle.token_reader.proofs.Inverses.{Reads-err}
use Rattle.token_reader.proofs.Parts.{while_more, while_fails, while_ends}
use Rattle.file_grammar.specs.Files.{decl, decls}
use Rattle.file_grammar.proofs.FarDecls.{decl_reads}
use Rattle.cm_parser.proofs.decls.decls.Goals as goal

none_left : (ts : List Token) → sees is_any ts ≡ false → ts ≡ []
unfolding sees
none_left [] ends = refl
none_left (t ∷ ts) ends = absurd cc

pub loop-tokens-init : goal.loop-tokens-init
unfolding decls
loop-tokens-init c = rw c.new-found.ensures refl

pub returns-in_err-part-clause-reads : goal.returns-in_err-part-clause-reads
returns-in_err-part-clause-reads c =
    let p = err_from_is_err_and c.from_residual.result c.from_residual.ensures.1 in
    let goes_on : sees is_any c.loop-tokens.tokens ≡ true = cc in
    rw (p.1, p.2)
    (Reads-err _ _ c.in_err-part.field-0.0 c.decl.new.tokens
    (λ l is. c.loop-tokens.invariant ∙ while_fails is_any (decl c.args.room) (decl_reads c.args.room).local (decl_reads c.args.room).takes c.loop-tokens.found c.loop-tokens.tokens l goes_on is)
    c.in_err-part.ensures)

pub loop-tokens-smaller : goal.loop-tokens-smaller
loop-tokens-smaller c = (decl_reads c.args.room).takes.some c.loop-tokens.tokens c.in_ok-part.part c.decl.new.tokens c.in_ok-part.ensures

pub loop-tokens-preserved : goal.loop-tokens-preserved
loop-tokens-preserved c =
    let goes_on : sees is_any c.loop-tokens.tokens ≡ true = cc in
    c.loop-tokens.invariant
    ∙ while_more is_any (decl c.args.room) (decl_reads c.args.room).local (decl_reads c.args.room).takes c.loop-tokens.found c.loop-tokens.tokens c.in_ok-part.part c.decl.new.tokens goes_on c.in_ok-part.ensures
    ∙ rw c.in_ok-push.ensures.ok refl

pub returns-clause-reads : goal.returns-clause-reads
returns-clause-reads c =
    let ends : sees is_any c.loop-tokens.tokens ≡ false = cc in
    c.loop-tokens.invariant ∙ while_ends is_any (decl c.args.room) (decl_reads c.args.room).local (decl_reads c.args.room).takes c.loop-tokens.found c.loop-tokens.tokens ends

pub returns-clause-whole : goal.returns-clause-whole
returns-clause-whole c = let ends : sees is_any c.loop-tokens.tokens ≡ false = cc in none_left c.loop-tokens.tokens ends
