use Rattle.const_values.proofs.Constructed.{sound_made}
use Rattle.const_values.proofs.construct.made.Goals as goal

pub returns-clause-sound : goal.returns-clause-sound
returns-clause-sound c = sound_made c.args.ty c.args.given.now c.in_ok-value.value c.requires.lawful c.requires.sound c.in_ok-value.ensures
