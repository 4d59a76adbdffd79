use Rattle.std.proofs.Common.{◌≡◌, ◌-◌, ◌∙◌, Some, None, refl, sym, true, false, arith}
use Rattle.std.proofs.lemmas.Result.{err_from_is_err_and}
use Rattle.cm_tree.specs.declared.sign.Sign.TheVariants as s
use Rattle.token_reader.specs.Parsers.{first, sees, is_other}
use Rattle.token_reader.proofs.Inverses.{Reads-err}
use Rattle.token_reader.proofs.Parts.{while_more, while_fails, while_ends}
use Rattle.file_grammar.specs.Stmts.{stmt}
use Rattle.file_grammar.proofs.Far.{stmt_reads}
use Rattle.cm_parser.specs.declared.starts.StmtStart.TheVariants as b
use Rattle.cm_parser.specs.StmtStarts.{stmt_start}
use Rattle.cm_parser.proofs.StmtStarts.{one_none, one_starts, head_none, head_starts, stmt_none, stmt_at}
use Rattle.cm_parser.proofs.stmts.+stmt.Goals as goal

-- ---- up to a brace

pub until_brace-returns-in_err-part : goal.until_brace-returns-in_err-part
until_brace-returns-in_err-part t c =
    let p = err_from_is_err_and c.from_residual.result c.from_residual.ensures.1 in
    let goes_on : sees (is_other s.RightBrace) c.loop-tokens.tokens ≡ true = cc in
    rw (p.1, p.2)
    (Reads-err _ _ c.in_err-part.field-0.0 c.stmt.new.tokens
    (λ l is. c.loop-tokens.invariant ∙ while_fails (is_other s.RightBrace) (stmt c.args.room) (stmt_reads c.args.room).local (stmt_reads c.args.room).takes c.loop-tokens.found c.loop-tokens.tokens l goes_on is)
    c.in_err-part.ensures)

pub until_brace-loop-tokens-smaller : goal.until_brace-loop-tokens-smaller
until_brace-loop-tokens-smaller t c = (stmt_reads c.args.room).takes.some c.loop-tokens.tokens c.in_ok-part.part c.stmt.new.tokens c.in_ok-part.ensures

pub until_brace-loop-tokens-preserved : goal.until_brace-loop-tokens-preserved
until_brace-loop-tokens-preserved t c =
    let goes_on : sees (is_other s.RightBrace) c.loop-tokens.tokens ≡ true = cc in
    c.loop-tokens.invariant
    ∙ while_more (is_other s.RightBrace) (stmt c.args.room) (stmt_reads c.args.room).local (stmt_reads c.args.room).takes c.loop-tokens.found c.loop-tokens.tokens c.in_ok-part.part c.stmt.new.tokens goes_on c.in_ok-part.ensures
    ∙ rw c.in_ok-add.ensures refl

pub until_brace-returns : goal.until_brace-returns
until_brace-returns t c =
    let ends : sees (is_other s.RightBrace) c.loop-tokens.tokens ≡ false = cc in
    c.loop-tokens.invariant ∙ while_ends (is_other s.RightBrace) (stmt c.args.room) (stmt_reads c.args.room).local (stmt_reads c.args.room).takes c.loop-tokens.found c.loop-tokens.tokens ends

-- ---- by height

pub stmt-returns-then-room-eq0 : goal.stmt-returns-then-room-eq0
stmt-returns-then-room-eq0 t c = stmt_none c.args.room c.args.tokens.now (omega arith)

pub stmt-returns : goal.stmt-returns
stmt-returns t c = rw (stmt_at c.args.room (c.args.room - 1) c.args.tokens.now (omega arith)) c.one.ensures

-- ---- by the first token

pub one-returns-in_default : goal.one-returns-in_default
one-returns-in_default t c = let none : first c.args.tokens.now ≡ None = cc in one_none c.args.room (stmt c.args.room) c.args.tokens.now none

pub one-returns-in-None : goal.one-returns-in-None
one-returns-in-None t c =
    let head : first c.args.tokens.now ≡ Some c.in-Some.token.now = sym c.in-Some.ensures.value in
    let is : stmt_start c.in-Some.token.now.kind ≡ None = cc in
    one_starts c.args.room (stmt c.args.room) c.args.tokens.now c.in-Some.token.now None head is

pub one-returns-in-Some-Step : goal.one-returns-in-Some-Step
one-returns-in-Some-Step t c =
    let head : first c.args.tokens.now ≡ Some c.in-Some.token.now = sym c.in-Some.ensures.value in
    let is : stmt_start c.in-Some.token.now.kind ≡ Some b.Step = cc in
    rw (one_starts c.args.room (stmt c.args.room) c.args.tokens.now c.in-Some.token.now _ head is) c.step_stmt.ensures

pub one-returns-in-Some-Base : goal.one-returns-in-Some-Base
one-returns-in-Some-Base t c =
    let head : first c.args.tokens.now ≡ Some c.in-Some.token.now = sym c.in-Some.ensures.value in
    let is : stmt_start c.in-Some.token.now.kind ≡ Some b.Base = cc in
    rw (one_starts c.args.room (stmt c.args.room) c.args.tokens.now c.in-Some.token.now _ head is) c.based_stmt.ensures

pub one-returns-in-Some-Name : goal.one-returns-in-Some-Name
one-returns-in-Some-Name t c =
    let head : first c.args.tokens.now ≡ Some c.in-Some.token.now = sym c.in-Some.ensures.value in
    let is : stmt_start c.in-Some.token.now.kind ≡ Some b.Name = cc in
    rw (one_starts c.args.room (stmt c.args.room) c.args.tokens.now c.in-Some.token.now _ head is) c.named_stmt.ensures

pub one-returns-in-Some-Opening : goal.one-returns-in-Some-Opening
one-returns-in-Some-Opening t c =
    let head : first c.args.tokens.now ≡ Some c.in-Some.token.now = sym c.in-Some.ensures.value in
    let is : stmt_start c.in-Some.token.now.kind ≡ Some (b.Opening c.in-Some-Opening.opening) = cc in
    rw (one_starts c.args.room (stmt c.args.room) c.args.tokens.now c.in-Some.token.now _ head is, c.skip.ensures) c.opened.ensures

-- ---- the head of a `for`

pub for_head-returns-in_default : goal.for_head-returns-in_default
for_head-returns-in_default t c =
    let none : first c.args.tokens.now ≡ None = cc in head_none c.args.room (stmt c.args.room) c.args.place c.args.tokens.now none

pub for_head-returns-in-Some-Step : goal.for_head-returns-in-Some-Step
for_head-returns-in-Some-Step t c =
    let head : first c.args.tokens.now ≡ Some c.in-Some.token.now = sym c.in-Some.ensures.value in
    let is : stmt_start c.in-Some.token.now.kind ≡ Some b.Step = cc in
    rw (head_starts c.args.room (stmt c.args.room) c.args.place c.args.tokens.now c.in-Some.token.now _ head is) c.for_step.ensures

pub for_head-returns-in-Some-Base : goal.for_head-returns-in-Some-Base
for_head-returns-in-Some-Base t c =
    let head : first c.args.tokens.now ≡ Some c.in-Some.token.now = sym c.in-Some.ensures.value in
    let is : stmt_start c.in-Some.token.now.kind ≡ Some b.Base = cc in
    rw (head_starts c.args.room (stmt c.args.room) c.args.place c.args.tokens.now c.in-Some.token.now _ head is) c.for_base.ensures

pub for_head-returns-in-Some-Name : goal.for_head-returns-in-Some-Name
for_head-returns-in-Some-Name t c =
    let head : first c.args.tokens.now ≡ Some c.in-Some.token.now = sym c.in-Some.ensures.value in
    let is : stmt_start c.in-Some.token.now.kind ≡ Some b.Name = cc in
    rw (head_starts c.args.room (stmt c.args.room) c.args.place c.args.tokens.now c.in-Some.token.now _ head is) c.for_name.ensures

pub for_head-returns-in-Some-Opening : goal.for_head-returns-in-Some-Opening
for_head-returns-in-Some-Opening t c =
    let head : first c.args.tokens.now ≡ Some c.in-Some.token.now = sym c.in-Some.ensures.value in
    let is : stmt_start c.in-Some.token.now.kind ≡ Some (b.Opening c.in-Some-Opening.opening) = cc in
    rw (head_starts c.args.room (stmt c.args.room) c.args.place c.args.tokens.now c.in-Some.token.now _ head is) c.head_opened.ensures

pub for_head-returns-in-None : goal.for_head-returns-in-None
for_head-returns-in-None t c =
    let head : first c.args.tokens.now ≡ Some c.in-Some.token.now = sym c.in-Some.ensures.value in
    let is : stmt_start c.in-Some.token.now.kind ≡ None = cc in
    head_starts c.args.room (stmt c.args.room) c.args.place c.args.tokens.now c.in-Some.token.now None head is
