use Rattle.std.proofs.Common.{refl, ap, sym, ◌∙◌, ◌≡◌, ◌++◌, ◌∷◌, [], length}
use Rattle.name_scopes.specs.Numbers.{added, number_in}
use Rattle.name_scopes.specs.Stacks.{Visible, with_entry}
use Rattle.scope_walk.specs.Meant.{named_as}
use Rattle.scope_walk.specs.Steps.{Introduces}
use Rattle.scope_walk.proofs.StepLemmas.{ok-map}
use Rattle.path_names.specs.declared.local.Local.{Local}
use Rattle.path_names.specs.Walking.{Takes}
use Rattle.path_names.proofs.StandLemmas.{introduces}
use Rattle.path_names.proofs.walk.Walk.declare.Goals as goal

pub returns-clause-takes : goal.returns-clause-takes
returns-clause-takes c =
    let w = c.args.self.now in
    let l : Local = record { space = w.space; unit = w.unit; word = c.args.word; declaration = c.args.declaration } in
    ok-map c.push.result (c.push.new.self ≡ w.locals ++ l ∷ [])
    (Takes w (record w { names = c.number_name.new.names; table = c.declare.new.self; locals = c.push.new.self }) (Introduces c.args.word.now (named_as c.args.declaration)))
    (λ more. introduces w c.number_name.new.names c.declare.new.self c.push.new.self l c.in_ok-number.number
    (c.in_ok-number.ensures.names ∙ ap (added w.names) c.as_str.ensures) (ap (number_in c.number_name.new.names) (sym c.as_str.ensures) ∙ c.in_ok-number.ensures.number)
    (ap (λ (v : Visible). v.scopes) c.in_ok-declare.ensures.ok ∙ ap (λ z. with_entry (record { name = c.in_ok-number.number; declaration = z }) c.number_name.new.table.scopes) c.len.ensures
    ∙ ap (with_entry (record { name = c.in_ok-number.number; declaration = length w.locals })) c.in_ok-number.ensures.scopes) refl refl more) c.push.ensures.ok
