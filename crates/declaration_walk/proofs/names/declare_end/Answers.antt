use Rattle.cm_meaning.specs.Scopes.{end_name, end_names}
use Rattle.declaration_walk.proofs.NameLemmas.{same-names}
use Rattle.std.proofs.Common.{ap, map, sym}
use Rattle.declaration_walk.proofs.names.declare_end.Goals as goal

pub returns : goal.returns
returns c = same-names c.args.steps.now c.declare_end_names.new.steps (λ h. map (end_name h c.args.flow c.args.end.now) c.as_slice.result.now) (λ h. end_names h c.args.flow c.args.end.now) c.declare_end_names.result
    (λ h. ap (map (end_name h c.args.flow c.args.end.now)) (sym c.as_slice.ensures)) c.declare_end_names.ensures
