use Rattle.wasm_reader.proofs.cursor.Cursor.+signed.Given as goal

abbrev pub decreases-signed : goal.decreases-signed
decreases-signed l = l.bits
