use Rattle.std.proofs.Common.{◌∙◌}
use Rattle.type_places.specs.Views.{viewed}
use Rattle.type_places.proofs.Whole.{known_before}
use Rattle.type_places.proofs.places.Places.before.Goals as goal

pub returns : goal.returns
returns c = c.bytes_before.ensures ∙ known_before c.args.self.known.now c.args.self.structs.now (viewed c.args.ty) c.args.position c.args.self.counted
