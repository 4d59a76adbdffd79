use Rattle.std.proofs.Common.{◌∙◌}
use Rattle.type_places.specs.Views.{viewed}
use Rattle.type_places.proofs.Whole.{known_bytes}
use Rattle.type_places.proofs.places.Places.bytes.Goals as goal

pub returns : goal.returns
returns c = c.bytes.ensures ∙ known_bytes c.args.self.known.now c.args.self.structs.now (viewed c.args.ty) c.args.self.counted
