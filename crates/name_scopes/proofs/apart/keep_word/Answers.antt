use Rattle.std.proofs.Common.{◌∙◌, [], ap, not, bytes_eq, refl}
use Rattle.std.specs.List.{list_any}
use Rattle.cm_base.specs.declared.cause.Cause.TheVariants as cause
use Rattle.name_scopes.specs.Numbers.{added}
use Rattle.name_scopes.proofs.ApartLemmas.{keeps-new, keeps-old}
use Rattle.name_scopes.proofs.apart.keep_word.Goals as goal

pub returns-then-branch : goal.returns-then-branch
returns-then-branch c = keeps-new c.args.names.now c.insert.new.self c.args.word.now c.in_ok-insert.field-0 c.if-branch.true
    (c.in_ok-insert.ensures.new ∙ ap (λ t. not (list_any (bytes_eq t) c.args.names.now)) c.as_str.ensures)
    (c.in_ok-insert.ensures.names ∙ ap (added c.args.names.now) c.as_str.ensures)

pub returns : goal.returns
returns c = rw c.refused.ensures (keeps-old c.args.names.now c.insert.new.self c.args.word.now c.in_ok-insert.field-0 (record { cause = cause.DuplicateName; place = c.args.word.now.place; cycle = [] }) c.if-branch.false
    (c.in_ok-insert.ensures.new ∙ ap (λ t. not (list_any (bytes_eq t) c.args.names.now)) c.as_str.ensures) refl)
