use Rattle.std.proofs.Common.{[], ◌∷◌}
use Rattle.std.specs.Prelude.{codes}
use Rattle.wasm_tree.specs.Numbers.{no_type}
use Rattle.wasm_tree.specs.Host.{frame_export}
use Rattle.wasm_valid.proofs.ExportLemmas.{first_function, functions_of}
use Rattle.wasm_valid.proofs.exports.find_functions.Goals as goal

pub returns : goal.returns
returns c =
    functions_of c.args.module.now (codes "init", no_type) (frame_export c.args.interface) c.find_function-init.result c.with_one.result c.args.events c.find_events.result
    (first_function c.args.module.now (codes "init", no_type) c.find_function-init.result c.find_function-init.ensures) (λ h. c.with_one.ensures c.args.module.now ((codes "init", no_type) ∷ []) (frame_export c.args.interface) h c.find_frame-frame.ensures) c.find_events.ensures
