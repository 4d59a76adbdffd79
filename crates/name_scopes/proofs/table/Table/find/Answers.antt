use Rattle.std.proofs.Common.{rules, ◌∙◌, ap, [], slice_get, length, ◌-◌}
use Rattle.std.proofs.lemmas.List.{get_or_default}
use Rattle.name_scopes.specs.Stacks.{found}
use Rattle.name_scopes.proofs.StackLemmas.{found-newest}
use Rattle.name_scopes.proofs.table.Table.find.Goals as goal

pub returns : goal.returns
returns c = c.copied.ensures ∙ c.last.ensures.value ∙ ap (λ z. slice_get z (length z - 1)) c.as_slice.ensures
    ∙ found-newest c.self.inside.stacks.items c.self.inside.log c.args.name c.index.result.now c.self.invariant (search rules)
    (c.index.ensures ∙ get_or_default c.self.inside.stacks.items c.args.name c.index.result.now [] (search rules))
    ∙ ap (λ v. found c.args.name v.scopes) c.self.view_is
