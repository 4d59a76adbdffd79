-- A part after a comma.
use Rattle.token_reader.specs.Parsers.{Parser}
use Rattle.token_reader.specs.Local.{Local, Takes}
use Rattle.token_reader.proofs.Locality.{local_bind, local_expect, takes_bind, takes_expect}
use Rattle.cm_parser.specs.Parts.{next}

pub local_next : {A : Type 0} {part : Parser A} → Local part → Local (next part)
local_next lp = local_bind (local_expect _) (λ _. lp)

pub takes_next : {A : Type 0} {part : Parser A} → Local part → Takes (next part)
takes_next lp = takes_bind (takes_expect _) (λ _. lp)
