use Rattle.std.proofs.Common.{◌≡◌, ◌+◌, ◌-◌, true, false, Some, None, refl, sym, ◌∙◌, arith}
use Rattle.std.specs.Prelude.{nat_le}
use Rattle.std.proofs.lemmas.Bool.{leb-true, leb-false}
use Rattle.std.proofs.lemmas.Result.{err_from_is_err_and}
use Rattle.cm_tree.specs.declared.sign.Sign.TheVariants as s
use Rattle.cm_tree.specs.Heights.{height}
use Rattle.token_reader.specs.Parsers.{first, sees, is_sign}
use Rattle.token_reader.proofs.Inverses.{Reads-err}
use Rattle.token_reader.proofs.Parts.{while_more, while_fails, while_ends}
use Rattle.token_reader.proofs.Turns.{separated_begins, separated_ends, separated_more, separated_less}
use Rattle.cm_parse_expr.specs.Reading.{operator, unary_of, bracketed, expr, binary}
use Rattle.cm_parse_expr.specs.Starts.{start_of, base_word_of}
use Rattle.cm_parse_expr.specs.declared.start.Start.TheVariants as a
use Rattle.cm_parse_expr.specs.declared.start.BaseWord.TheVariants as b
use Rattle.cm_parse_expr.proofs.Reach.{local_expr, local_binary, local_bracketed, takes_bracketed, takes_field, takes_index}
use Rattle.cm_parse_expr.proofs.Turns.{steps_end, field_high, field_fails, field_more, index_high, index_fails, index_more, climb_stops, climb_looser, climb_high, climb_fails, climb_more, binary_at, expr_at}
use Rattle.cm_parse_expr.proofs.Starting.{atom_none, atom_starts, base_none, base_starts, operand_none, operand_starts, climb_less, binary_none, expr_none}
use Rattle.cm_parse_expr.proofs.grammar.+expr.Goals as goal

-- ---- atoms

pub atom-returns-in_default : goal.atom-returns-in_default
atom-returns-in_default t c = let none : first c.args.tokens.now ≡ None = cc in atom_none (expr c.args.room) (binary c.args.room) (c.args.room + 1) c.args.tokens.now none

pub atom-returns-in-None : goal.atom-returns-in-None
atom-returns-in-None t c =
    let head : first c.args.tokens.now ≡ Some c.in-Some.token.now = sym c.in-Some.ensures.value in
    let is : start_of c.in-Some.token.now.kind ≡ None = cc in
    atom_starts (expr c.args.room) (binary c.args.room) (c.args.room + 1) c.args.tokens.now c.in-Some.token.now None head is

pub atom-returns-in-Some-Number : goal.atom-returns-in-Some-Number
atom-returns-in-Some-Number t c =
    let head : first c.args.tokens.now ≡ Some c.in-Some.token.now = sym c.in-Some.ensures.value in
    let is : start_of c.in-Some.token.now.kind ≡ Some a.Number = cc in
    rw (atom_starts (expr c.args.room) (binary c.args.room) (c.args.room + 1) c.args.tokens.now c.in-Some.token.now _ head is) c.number.ensures

pub atom-returns-in-Some-Truth : goal.atom-returns-in-Some-Truth
atom-returns-in-Some-Truth t c =
    let head : first c.args.tokens.now ≡ Some c.in-Some.token.now = sym c.in-Some.ensures.value in
    let is : start_of c.in-Some.token.now.kind ≡ Some (a.Truth c.in-Some-Truth.value) = cc in
    atom_starts (expr c.args.room) (binary c.args.room) (c.args.room + 1) c.args.tokens.now c.in-Some.token.now _ head is ∙ rw (c.skip.ensures, c.truth.ensures) refl

pub atom-returns-in-Some-Base : goal.atom-returns-in-Some-Base
atom-returns-in-Some-Base t c =
    let head : first c.args.tokens.now ≡ Some c.in-Some.token.now = sym c.in-Some.ensures.value in
    let is : start_of c.in-Some.token.now.kind ≡ Some a.Base = cc in
    rw (atom_starts (expr c.args.room) (binary c.args.room) (c.args.room + 1) c.args.tokens.now c.in-Some.token.now _ head is) c.construct.ensures

pub atom-returns-in-Some-Path : goal.atom-returns-in-Some-Path
atom-returns-in-Some-Path t c =
    let head : first c.args.tokens.now ≡ Some c.in-Some.token.now = sym c.in-Some.ensures.value in
    let is : start_of c.in-Some.token.now.kind ≡ Some a.Path = cc in
    rw (atom_starts (expr c.args.room) (binary c.args.room) (c.args.room + 1) c.args.tokens.now c.in-Some.token.now _ head is) c.named.ensures

pub atom-returns-in-Some-Parenthesis : goal.atom-returns-in-Some-Parenthesis
atom-returns-in-Some-Parenthesis t c =
    let head : first c.args.tokens.now ≡ Some c.in-Some.token.now = sym c.in-Some.ensures.value in
    let is : start_of c.in-Some.token.now.kind ≡ Some a.Parenthesis = cc in
    rw (atom_starts (expr c.args.room) (binary c.args.room) (c.args.room + 1) c.args.tokens.now c.in-Some.token.now _ head is, c.skip-in-Some-Parenthesis.ensures) c.paren.ensures

-- ---- base types

pub base-returns-in_default : goal.base-returns-in_default
base-returns-in_default t c = let none : first c.args.tokens.now ≡ None = cc in base_none (expr c.args.room) (binary c.args.room) c.args.tokens.now none

pub base-returns-in_default-base_word_of : goal.base-returns-in_default-base_word_of
base-returns-in_default-base_word_of t c =
    let head : first c.args.tokens.now ≡ Some c.in-Some.token.now = sym c.in-Some.ensures.value in
    let is : base_word_of c.in-Some.token.now.kind ≡ None = cc in
    base_starts (expr c.args.room) (binary c.args.room) c.args.tokens.now c.in-Some.token.now None head is

pub base-returns-in_err-count-in-Counted : goal.base-returns-in_err-count-in-Counted
base-returns-in_err-count-in-Counted t c =
    let p = err_from_is_err_and c.from_residual.result c.from_residual.ensures.1 in
    let head : first c.args.tokens.now ≡ Some c.in-Some.token.now = sym c.in-Some.ensures.value in
    let is : base_word_of c.in-Some.token.now.kind ≡ Some (b.Counted c.in-Counted.word) = cc in
    rw (p.1, p.2)
    (Reads-err _ _ c.in_err-count-in-Counted.field-0.0 c.limit.new.tokens
    (λ l fails. base_starts (expr c.args.room) (binary c.args.room) c.args.tokens.now c.in-Some.token.now _ head is ∙ rw (c.skip.ensures, fails) refl) c.in_err-count-in-Counted.ensures)

pub base-returns-in-Plain : goal.base-returns-in-Plain
base-returns-in-Plain t c =
    let head : first c.args.tokens.now ≡ Some c.in-Some.token.now = sym c.in-Some.ensures.value in
    let is : base_word_of c.in-Some.token.now.kind ≡ Some (b.Plain c.in-Plain.word) = cc in
    base_starts (expr c.args.room) (binary c.args.room) c.args.tokens.now c.in-Some.token.now _ head is ∙ rw (c.skip.ensures, c.plain.ensures) refl

pub base-returns-in_ok-counted-in-Counted : goal.base-returns-in_ok-counted-in-Counted
base-returns-in_ok-counted-in-Counted t c =
    let head : first c.args.tokens.now ≡ Some c.in-Some.token.now = sym c.in-Some.ensures.value in
    let is : base_word_of c.in-Some.token.now.kind ≡ Some (b.Counted c.in-Counted.word) = cc in
    base_starts (expr c.args.room) (binary c.args.room) c.args.tokens.now c.in-Some.token.now _ head is
    ∙ rw (c.skip.ensures, c.in_ok-count-in-Counted.ensures, c.in_ok-counted-in-Counted.ensures) refl

-- ---- by height

pub binary-returns-then-room-eq0 : goal.binary-returns-then-room-eq0
binary-returns-then-room-eq0 t c = binary_none c.args.room c.args.least c.args.tokens.now (omega arith)

pub binary-returns : goal.binary-returns
binary-returns t c = rw (binary_at c.args.room (c.args.room - 1) c.args.least c.args.tokens.now (omega arith)) c.operation.ensures

pub expr-returns-then-room-eq0 : goal.expr-returns-then-room-eq0
expr-returns-then-room-eq0 t c = expr_none c.args.room c.args.tokens.now (omega arith)

pub expr-returns-in_err-left : goal.expr-returns-in_err-left
expr-returns-in_err-left t c =
    let p = err_from_is_err_and c.from_residual.result c.from_residual.ensures.1 in
    rw (p.1, p.2)
    (Reads-err _ _ c.in_err-left.field-0.0 c.operation.new.tokens (λ l fails. expr_at c.args.room (c.args.room - 1) c.args.tokens.now (omega arith) ∙ rw fails refl) c.in_err-left.ensures)

pub expr-returns : goal.expr-returns
expr-returns t c = rw (expr_at c.args.room (c.args.room - 1) c.args.tokens.now (omega arith), c.in_ok-left.ensures) c.tail.ensures

-- ---- operators

pub climb-returns-in_default : goal.climb-returns-in_default
climb-returns-in_default t c =
    let none : operator c.loop-operator.tokens ≡ None = cc in c.loop-operator.invariant ∙ climb_stops c.args.room (c.args.room + 1) c.args.least c.loop-operator.left c.loop-operator.tokens none

pub climb-returns-then-level-least : goal.climb-returns-then-level-least
climb-returns-then-level-least t c =
    let some : operator c.loop-operator.tokens ≡ Some c.in-Some.operator = cc in
    c.loop-operator.invariant
    ∙ climb_looser c.args.room (c.args.room + 1) c.args.least c.loop-operator.left c.loop-operator.tokens c.in-Some.operator some (omega (arith, c.binds-level.ensures.level))

pub climb-returns-then-is_above : goal.climb-returns-then-is_above
climb-returns-then-is_above t c =
    let some : operator c.loop-operator.tokens ≡ Some c.in-Some.operator = cc in
    let high : nat_le (c.args.room + 1) (height c.loop-operator.left) ≡ true = cc in
    c.loop-operator.invariant
    ∙ climb_high c.args.room (c.args.room + 1) c.args.least c.loop-operator.left c.loop-operator.tokens c.in-Some.operator some (omega (arith, c.binds-level.ensures.level)) (leb-true _ _ high)

pub climb-returns-in_err-right : goal.climb-returns-in_err-right
climb-returns-in_err-right t c =
    let p = err_from_is_err_and c.from_residual.result c.from_residual.ensures.1 in
    let some : operator c.loop-operator.tokens ≡ Some c.in-Some.operator = cc in
    let low : nat_le (c.args.room + 1) (height c.loop-operator.left) ≡ false = cc in
    let fails =
    climb_fails c.args.room (c.args.room + 1) c.args.least c.loop-operator.left c.loop-operator.tokens c.in-Some.operator some (omega (arith, c.binds-level.ensures.level))
    (leb-false _ _ low) _ c.skip.ensures in
    rw (p.1, p.2)
    (Reads-err _ _ c.in_err-right.field-0.0 c.binary.new.tokens (λ l is. c.loop-operator.invariant ∙ fails l (rw (← c.binds-level.ensures.level) is)) c.in_err-right.ensures)

pub climb-loop-operator-smaller : goal.climb-loop-operator-smaller
climb-loop-operator-smaller t c =
    let some : operator c.loop-operator.tokens ≡ Some c.in-Some.operator = cc in
    climb_less c.args.room (c.binds-level.result + 1) c.loop-operator.tokens _ c.binary.new.tokens c.in-Some.operator c.in_ok-right.right some c.skip.ensures c.in_ok-right.ensures

pub climb-loop-operator-preserved : goal.climb-loop-operator-preserved
climb-loop-operator-preserved t c =
    let some : operator c.loop-operator.tokens ≡ Some c.in-Some.operator = cc in
    let low : nat_le (c.args.room + 1) (height c.loop-operator.left) ≡ false = cc in
    let goes =
    climb_more c.args.room (c.args.room + 1) c.args.least c.loop-operator.left c.loop-operator.tokens c.in-Some.operator some (omega (arith, c.binds-level.ensures.level))
    (leb-false _ _ low) _ c.skip.ensures c.in_ok-right.right c.binary.new.tokens in
    c.loop-operator.invariant ∙ goes (rw (← c.binds-level.ensures.level) c.in_ok-right.ensures) ∙ rw c.in_ok-left.ensures refl

-- ---- operands

pub operand-returns-in_default : goal.operand-returns-in_default
operand-returns-in_default t c = let none : first c.args.tokens.now ≡ None = cc in operand_none (expr c.args.room) (binary c.args.room) (c.args.room + 1) c.args.tokens.now none

pub operand-returns-in_default-unary_of : goal.operand-returns-in_default-unary_of
operand-returns-in_default-unary_of t c =
    let head : first c.args.tokens.now ≡ Some c.in-Some.token.now = sym c.in-Some.ensures.value in
    let is : unary_of c.in-Some.token.now.kind ≡ None = cc in
    rw (operand_starts (expr c.args.room) (binary c.args.room) (c.args.room + 1) c.args.tokens.now c.in-Some.token.now None head is) c.post.ensures

pub operand-returns-in_err-inner : goal.operand-returns-in_err-inner
operand-returns-in_err-inner t c =
    let p = err_from_is_err_and c.from_residual.result c.from_residual.ensures.1 in
    let head : first c.args.tokens.now ≡ Some c.in-Some.token.now = sym c.in-Some.ensures.value in
    let is : unary_of c.in-Some.token.now.kind ≡ Some c.in-Some-unary_of.operator = cc in
    rw (p.1, p.2)
    (Reads-err _ _ c.in_err-inner.field-0.0 c.binary.new.tokens
    (λ l fails. operand_starts (expr c.args.room) (binary c.args.room) (c.args.room + 1) c.args.tokens.now c.in-Some.token.now _ head is ∙ rw (c.skip.ensures, fails) refl) c.in_err-inner.ensures)

pub operand-returns : goal.operand-returns
operand-returns t c =
    let head : first c.args.tokens.now ≡ Some c.in-Some.token.now = sym c.in-Some.ensures.value in
    let is : unary_of c.in-Some.token.now.kind ≡ Some c.in-Some-unary_of.operator = cc in
    operand_starts (expr c.args.room) (binary c.args.room) (c.args.room + 1) c.args.tokens.now c.in-Some.token.now _ head is
    ∙ rw (c.skip.ensures, c.in_ok-inner.ensures, c.in_ok-unary.ensures) refl

-- ---- sizes

pub sizes-returns-in_err-size : goal.sizes-returns-in_err-size
sizes-returns-in_err-size t c =
    let p = err_from_is_err_and c.from_residual.result c.from_residual.ensures.1 in
    let x = expr c.args.room in
    let y = binary c.args.room in
    let local = local_bracketed x y (local_expr c.args.room) (local_binary c.args.room) in
    let takes = takes_bracketed x y (local_expr c.args.room) (local_binary c.args.room) in
    let goes_on : sees (is_sign s.LeftBracket) c.loop-tokens.tokens ≡ true = cc in
    rw (p.1, p.2)
    (Reads-err _ _ c.in_err-size.field-0.0 c.bracketed.new.tokens
    (λ l is. c.loop-tokens.invariant ∙ while_fails (is_sign s.LeftBracket) (bracketed x y) local takes c.loop-tokens.found c.loop-tokens.tokens l goes_on is) c.in_err-size.ensures)

pub sizes-loop-tokens-smaller : goal.sizes-loop-tokens-smaller
sizes-loop-tokens-smaller t c =
    (takes_bracketed (expr c.args.room) (binary c.args.room) (local_expr c.args.room) (local_binary c.args.room)).some c.loop-tokens.tokens c.in_ok-size.size c.bracketed.new.tokens c.in_ok-size.ensures

pub sizes-loop-tokens-preserved : goal.sizes-loop-tokens-preserved
sizes-loop-tokens-preserved t c =
    let x = expr c.args.room in
    let y = binary c.args.room in
    let local = local_bracketed x y (local_expr c.args.room) (local_binary c.args.room) in
    let takes = takes_bracketed x y (local_expr c.args.room) (local_binary c.args.room) in
    let goes_on : sees (is_sign s.LeftBracket) c.loop-tokens.tokens ≡ true = cc in
    c.loop-tokens.invariant
    ∙ while_more (is_sign s.LeftBracket) (bracketed x y) local takes c.loop-tokens.found c.loop-tokens.tokens c.in_ok-size.size c.bracketed.new.tokens goes_on c.in_ok-size.ensures
    ∙ rw c.in_ok-push.ensures refl

pub sizes-returns : goal.sizes-returns
sizes-returns t c =
    let x = expr c.args.room in
    let y = binary c.args.room in
    let local = local_bracketed x y (local_expr c.args.room) (local_binary c.args.room) in
    let takes = takes_bracketed x y (local_expr c.args.room) (local_binary c.args.room) in
    let ends : sees (is_sign s.LeftBracket) c.loop-tokens.tokens ≡ false = cc in
    c.loop-tokens.invariant ∙ while_ends (is_sign s.LeftBracket) (bracketed x y) local takes c.loop-tokens.found c.loop-tokens.tokens ends

-- ---- values

pub values-loop-found-init : goal.values-loop-found-init
values-loop-found-init t c = separated_begins (is_sign s.Comma) (expr c.args.room) (local_expr c.args.room) c.args.tokens.now ∙ rw c.new-found.ensures refl

pub values-returns-then-not-sees : goal.values-returns-then-not-sees
values-returns-then-not-sees t c =
    let ends : sees (is_sign s.Comma) c.expr.new.tokens ≡ false = cc in
    c.loop-found.invariant
    ∙ separated_ends (is_sign s.Comma) (expr c.args.room) (local_expr c.args.room) c.loop-found.found c.loop-found.tokens c.in_ok-value.value c.expr.new.tokens c.in_ok-value.ensures ends
    ∙ rw c.in_ok-push.ensures refl

pub values-loop-found-smaller : goal.values-loop-found-smaller
values-loop-found-smaller t c =
    let goes_on : sees (is_sign s.Comma) c.expr.new.tokens ≡ true = cc in
    separated_less (is_sign s.Comma) (expr c.args.room) (local_expr c.args.room) c.loop-found.tokens c.in_ok-value.value c.expr.new.tokens tt _ c.in_ok-value.ensures goes_on c.skip.ensures

pub values-loop-found-preserved : goal.values-loop-found-preserved
values-loop-found-preserved t c =
    let goes_on : sees (is_sign s.Comma) c.expr.new.tokens ≡ true = cc in
    c.loop-found.invariant
    ∙ separated_more (is_sign s.Comma) (expr c.args.room) (local_expr c.args.room) c.loop-found.found c.loop-found.tokens c.in_ok-value.value c.expr.new.tokens tt _ c.in_ok-value.ensures goes_on
    c.skip.ensures
    ∙ rw c.in_ok-push.ensures refl

-- ---- steps

pub steps-returns-then-is_above : goal.steps-returns-then-is_above
steps-returns-then-is_above t c =
    let dot : sees (is_sign s.Dot) c.loop-left.tokens ≡ true = cc in
    let high : nat_le (c.args.room + 1) (height c.loop-left.left) ≡ true = cc in
    c.loop-left.invariant ∙ field_high c.args.room (c.args.room + 1) c.loop-left.left c.loop-left.tokens dot (leb-true _ _ high)

pub steps-returns-in_err-left : goal.steps-returns-in_err-left
steps-returns-in_err-left t c =
    let p = err_from_is_err_and c.from_residual.result c.from_residual.ensures.1 in
    let dot : sees (is_sign s.Dot) c.loop-left.tokens ≡ true = cc in
    let low : nat_le (c.args.room + 1) (height c.loop-left.left) ≡ false = cc in
    rw (p.1, p.2)
    (Reads-err _ _ c.in_err-left.field-0.0 c.field.new.tokens
    (λ l is. c.loop-left.invariant ∙ field_fails c.args.room (c.args.room + 1) c.loop-left.left c.loop-left.tokens dot (leb-false _ _ low) l is)
    (c.in_err-left.ensures (expr c.args.room) (binary c.args.room)))

pub steps-loop-left-smaller-then-sees : goal.steps-loop-left-smaller-then-sees
steps-loop-left-smaller-then-sees t c =
    (takes_field (expr c.args.room) (binary c.args.room) (local_expr c.args.room) (local_binary c.args.room) c.loop-left.left).some c.loop-left.tokens _ c.field.new.tokens
    (c.in_ok-left.ensures (expr c.args.room) (binary c.args.room))

pub steps-loop-left-preserved-then-sees : goal.steps-loop-left-preserved-then-sees
steps-loop-left-preserved-then-sees t c =
    let dot : sees (is_sign s.Dot) c.loop-left.tokens ≡ true = cc in
    let low : nat_le (c.args.room + 1) (height c.loop-left.left) ≡ false = cc in
    c.loop-left.invariant
    ∙ field_more c.args.room (c.args.room + 1) c.loop-left.left c.loop-left.tokens dot (leb-false _ _ low) _ c.field.new.tokens (c.in_ok-left.ensures (expr c.args.room) (binary c.args.room))

pub steps-returns-then-is_above-2 : goal.steps-returns-then-is_above-2
steps-returns-then-is_above-2 t c =
    let no_dot : sees (is_sign s.Dot) c.loop-left.tokens ≡ false = cc in
    let bracket : sees (is_sign s.LeftBracket) c.loop-left.tokens ≡ true = cc in
    let high : nat_le (c.args.room + 1) (height c.loop-left.left) ≡ true = cc in
    c.loop-left.invariant ∙ index_high c.args.room (c.args.room + 1) c.loop-left.left c.loop-left.tokens no_dot bracket (leb-true _ _ high)

pub steps-returns-in_err-left-2 : goal.steps-returns-in_err-left-2
steps-returns-in_err-left-2 t c =
    let p = err_from_is_err_and c.from_residual-in_err-left-2.result c.from_residual-in_err-left-2.ensures.1 in
    let no_dot : sees (is_sign s.Dot) c.loop-left.tokens ≡ false = cc in
    let bracket : sees (is_sign s.LeftBracket) c.loop-left.tokens ≡ true = cc in
    let low : nat_le (c.args.room + 1) (height c.loop-left.left) ≡ false = cc in
    rw (p.1, p.2)
    (Reads-err _ _ c.in_err-left-2.field-0.0 c.index.new.tokens
    (λ l is. c.loop-left.invariant ∙ index_fails c.args.room (c.args.room + 1) c.loop-left.left c.loop-left.tokens no_dot bracket (leb-false _ _ low) l is) c.in_err-left-2.ensures)

pub steps-loop-left-smaller : goal.steps-loop-left-smaller
steps-loop-left-smaller t c =
    (takes_index (expr c.args.room) (binary c.args.room) (local_expr c.args.room) (local_binary c.args.room) c.loop-left.left).some c.loop-left.tokens _ c.index.new.tokens c.in_ok-left-2.ensures

pub steps-loop-left-preserved : goal.steps-loop-left-preserved
steps-loop-left-preserved t c =
    let no_dot : sees (is_sign s.Dot) c.loop-left.tokens ≡ false = cc in
    let bracket : sees (is_sign s.LeftBracket) c.loop-left.tokens ≡ true = cc in
    let low : nat_le (c.args.room + 1) (height c.loop-left.left) ≡ false = cc in
    c.loop-left.invariant ∙ index_more c.args.room (c.args.room + 1) c.loop-left.left c.loop-left.tokens no_dot bracket (leb-false _ _ low) _ c.index.new.tokens c.in_ok-left-2.ensures

pub steps-returns-else-sees-2 : goal.steps-returns-else-sees-2
steps-returns-else-sees-2 t c =
    let no_dot : sees (is_sign s.Dot) c.loop-left.tokens ≡ false = cc in
    let no_bracket : sees (is_sign s.LeftBracket) c.loop-left.tokens ≡ false = cc in
    c.loop-left.invariant ∙ steps_end c.args.room (c.args.room + 1) c.loop-left.left c.loop-left.tokens no_dot no_bracket
