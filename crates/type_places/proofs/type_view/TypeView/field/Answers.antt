use Rattle.std.proofs.Common.{rules, ◌∙◌, sym, length, ◌≤◌}
use Rattle.std.proofs.lemmas.List.{get_or_past}
use Rattle.cm_core.specs.Types.{fields_of}
use Rattle.type_places.proofs.type_view.TypeView.field.Goals as goal

pub returns-in-None : goal.returns-in-None
returns-in-None c =
    let past : length (fields_of c.args.structs.now c.args.self.base) ≤ c.args.position = search rules in
    c.scalar.ensures ∙ sym (get_or_past _ c.args.position _ past)
