use Rattle.std.proofs.Common.{◌≡◌, ◌+◌, ◌<◌, ◌≤◌, [], List, length, ℕ, take, fold, refl, sym, ap, subst, ◌∙◌, arith}
use Rattle.std.specs.Str.{IsValidUpTo}
use Rattle.cm_base.specs.declared.cause.Cause.TheVariants.{BadByte}
use Rattle.cm_base.specs.declared.place.Place.{Place}
use Rattle.cm_tree.specs.Tokens.{IsLexFault, ill_formed, place_after}
use Rattle.cm_lexer.specs.Answer.{IsLexRefusal}
use Rattle.cm_lexer.specs.declared.pen.Pen.{Pen}
use Rattle.cm_lexer.specs.Moving.{moved}
use Rattle.cm_lexer.proofs.Places.{first_place, moved_all}
use Rattle.cm_lexer.proofs.Spanning.{spans_found}
use Rattle.cm_lexer.proofs.Unique.{only_tokens, no_fault_found}
use Rattle.cm_lexer.proofs.cut.lex.Goals as goal

pub returns-in-Ok-clause-only : goal.returns-in-Ok-clause-only
returns-in-Ok-clause-only c = only_tokens c.args.file c.args.bytes.now c.cut.result c.cut.ensures.found c.cut.ensures.refused

pub returns-in-Ok-clause-no_fault : goal.returns-in-Ok-clause-no_fault
returns-in-Ok-clause-no_fault c = no_fault_found c.args.file c.args.bytes.now c.cut.result c.cut.ensures.found

pub returns-in-Ok-clause-spans : goal.returns-in-Ok-clause-spans
returns-in-Ok-clause-spans c = spans_found c.args.file c.args.bytes.now c.cut.result c.cut.ensures.found

pub returns-in-Err-clause-refused : goal.returns-in-Err-clause-refused
returns-in-Err-clause-refused c =
    let bytes = c.args.bytes.now in
    let n = c.valid_up_to.result in
    let place : c.past.result.place ≡ place_after c.args.file (take n bytes) =
    c.past.ensures.place ∙ ap (fold moved c.new.result.place) c.split_at.ensures.front
    ∙ ap (λ (p : Place). fold moved p (take n bytes)) (ap (λ (p : Pen). p.place) c.new.ensures ∙ sym (first_place c.args.file))
    ∙ moved_all c.args.file [] (take n bytes) in
    let valid : IsValidUpTo bytes n = subst (λ (m : ℕ). IsValidUpTo bytes m) (sym c.valid_up_to.ensures) c.in-Err.ensures.cases.1 in
    let fault = subst (λ (p : Place). IsLexFault c.args.file bytes BadByte p) (sym place) (ill_formed n valid) in
    rw c.refused.ensures (record { fault = fault; cycle = refl })
