use Rattle.std.proofs.Common.{◌≡◌, ◌∙◌, ◌∷◌, subst, sym, ap}
use Rattle.std.specs.Prelude.{codes}
use Rattle.wasm_tree.specs.Host.{event_inputs, event_exports, frame_export}
use Rattle.wasm_tree.specs.Numbers.{no_type}
use Rattle.wasm_tree.specs.Section.{ends_of}
use Rattle.section_reader.specs.Raw.{said}
use Rattle.wasm_valid.specs.Exported.{TellsFunctions}
use Rattle.wasm_valid.proofs.SlotLemmas.{ends_are}
use Rattle.wasm_valid.proofs.exports.find_exports.Goals as goal

pub returns : goal.returns
returns c =
    let s = c.args.section.now in
    let events : c.count_event_inputs-events.result ≡ event_inputs (ends_of (said s)) =
    c.count_event_inputs-events.ensures ∙ ap event_inputs c.as_slice.ensures ∙ ap event_inputs (sym (ends_are s.host s.addresses c.requires.paired)) in
    c.joined.ensures c.args.module.now (said s) (sym c.as_slice-exports.ensures) events c.find_memory-memory.ensures
    (subst (λ n. TellsFunctions c.args.module.now ((codes "init", no_type) ∷ frame_export s.interface ∷ event_exports 0 n) c.in_ok-functions.functions) events c.in_ok-functions.ensures)
