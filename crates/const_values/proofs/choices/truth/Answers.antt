use Rattle.cm_types.specs.Meant.{meant_valued}
use Rattle.const_values.proofs.Arms.{truth_none}
use Rattle.const_values.proofs.choices.truth.Goals as goal

pub returns-in-None : goal.returns-in-None
returns-in-None c = truth_none (meant_valued c.args.test.now) c.requires.sound c.requires.condition c.in-None.ensures
