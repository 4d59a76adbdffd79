use Rattle.const_values.specs.Construct.{meant_given}
use Rattle.const_values.proofs.Fits.{told_cast, told_no_cast}
use Rattle.const_values.proofs.construct.scalar.Goals as goal

pub returns-in-Some : goal.returns-in-Some
returns-in-Some c = told_cast c.args.kind (meant_given c.args.given.now) c.in-Some.value c.requires.sound c.in-Some.ensures

pub returns-in-None : goal.returns-in-None
returns-in-None c = told_no_cast c.args.kind (meant_given c.args.given.now) c.refused.result c.refused.ensures c.requires.sound c.in-None.ensures
