use Rattle.wasm_examples.proofs.Modules.{section_spelled, add_valid, no_room}
use Rattle.wasm_examples.proofs.Rules.{bare_within}
use Rattle.wasm_examples.proofs.modules_are_valid.Goals as goal

pub returns : goal.returns
returns c = record { section = section_spelled; adds = add_valid; no_room = no_room; bare = bare_within }
