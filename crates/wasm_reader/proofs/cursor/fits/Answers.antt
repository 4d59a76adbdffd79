use Rattle.std.proofs.Common.{◌∙◌, sym}
use Rattle.std.proofs.lemmas.Bool.{lt-ltb}
use Rattle.wasm_reader.proofs.Steps.{fits_seven}
use Rattle.wasm_reader.proofs.cursor.fits.Goals as goal

pub returns-then-bits-gt6 : goal.returns-then-bits-gt6
returns-then-bits-gt6 c = lt-ltb 6 c.args.bits c.if-bits-gt6.true ∙ sym (fits_seven c.args.low c.args.bits c.requires c.if-bits-gt6.true)
