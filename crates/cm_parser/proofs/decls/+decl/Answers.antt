use Rattle.std.proofs.Common.{◌≡◌, ◌-◌, ◌∙◌, Some, None, refl, sym, true, false, arith}
use Rattle.std.proofs.lemmas.Result.{err_from_is_err_and}
use Rattle.cm_tree.specs.declared.sign.Sign.TheVariants as s
use Rattle.token_reader.specs.Parsers.{first, sees, is_other}
use Rattle.token_reader.proofs.Inverses.{Reads-err}
use Rattle.token_reader.proofs.Parts.{while_more, while_fails, while_ends}
use Rattle.file_grammar.specs.Files.{decl}
use Rattle.file_grammar.proofs.FarDecls.{decl_reads}
use Rattle.cm_parser.specs.DeclStarts.{decl_start}
use Rattle.cm_parser.proofs.DeclStarts.{one_none, one_starts, decl_none, decl_at}
use Rattle.cm_parser.proofs.decls.+decl.Goals as goal

-- ---- up to a brace

pub until_brace-returns-in_err-part : goal.until_brace-returns-in_err-part
until_brace-returns-in_err-part t c =
    let p = err_from_is_err_and c.from_residual.result c.from_residual.ensures.1 in
    let goes_on : sees (is_other s.RightBrace) c.loop-tokens.tokens ≡ true = cc in
    rw (p.1, p.2)
    (Reads-err _ _ c.in_err-part.field-0.0 c.decl.new.tokens
    (λ l is. c.loop-tokens.invariant ∙ while_fails (is_other s.RightBrace) (decl c.args.room) (decl_reads c.args.room).local (decl_reads c.args.room).takes c.loop-tokens.found c.loop-tokens.tokens l goes_on is)
    c.in_err-part.ensures)

pub until_brace-loop-tokens-smaller : goal.until_brace-loop-tokens-smaller
until_brace-loop-tokens-smaller t c = (decl_reads c.args.room).takes.some c.loop-tokens.tokens c.in_ok-part.part c.decl.new.tokens c.in_ok-part.ensures

pub until_brace-loop-tokens-preserved : goal.until_brace-loop-tokens-preserved
until_brace-loop-tokens-preserved t c =
    let goes_on : sees (is_other s.RightBrace) c.loop-tokens.tokens ≡ true = cc in
    c.loop-tokens.invariant
    ∙ while_more (is_other s.RightBrace) (decl c.args.room) (decl_reads c.args.room).local (decl_reads c.args.room).takes c.loop-tokens.found c.loop-tokens.tokens c.in_ok-part.part c.decl.new.tokens goes_on c.in_ok-part.ensures
    ∙ rw c.in_ok-push.ensures.ok refl

pub until_brace-returns : goal.until_brace-returns
until_brace-returns t c =
    let ends : sees (is_other s.RightBrace) c.loop-tokens.tokens ≡ false = cc in
    c.loop-tokens.invariant ∙ while_ends (is_other s.RightBrace) (decl c.args.room) (decl_reads c.args.room).local (decl_reads c.args.room).takes c.loop-tokens.found c.loop-tokens.tokens ends

-- ---- by height

pub decl-returns-then-room-eq0 : goal.decl-returns-then-room-eq0
decl-returns-then-room-eq0 t c = decl_none c.args.room c.args.tokens.now (omega arith)

pub decl-returns : goal.decl-returns
decl-returns t c = rw (decl_at c.args.room (c.args.room - 1) c.args.tokens.now (omega arith)) c.one.ensures

-- ---- by the first token

pub one-returns-in_default : goal.one-returns-in_default
one-returns-in_default t c = let none : first c.args.tokens.now ≡ None = cc in one_none c.args.room (decl c.args.room) c.args.tokens.now none

pub one-returns-in-None : goal.one-returns-in-None
one-returns-in-None t c =
    let head : first c.args.tokens.now ≡ Some c.in-Some.token.now = sym c.in-Some.ensures.value in
    let is : decl_start c.in-Some.token.now.kind ≡ None = cc in
    one_starts c.args.room (decl c.args.room) c.args.tokens.now c.in-Some.token.now None head is

pub one-returns-in-Some-decl_start : goal.one-returns-in-Some-decl_start
one-returns-in-Some-decl_start t c =
    let head : first c.args.tokens.now ≡ Some c.in-Some.token.now = sym c.in-Some.ensures.value in
    let is : decl_start c.in-Some.token.now.kind ≡ Some c.in-Some-decl_start.start = cc in
    rw (one_starts c.args.room (decl c.args.room) c.args.tokens.now c.in-Some.token.now _ head is) c.decl_from.ensures
