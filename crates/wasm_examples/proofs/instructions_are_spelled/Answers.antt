use Rattle.wasm_examples.proofs.Instructions.{load_spelled, nested_closed, stray_open, second_open, deep_opened, too_deep_refused, body_spelled, no_body, empty_spelled, type_spelled, no_version_two}
use Rattle.wasm_examples.proofs.instructions_are_spelled.Goals as goal

pub returns : goal.returns
returns c = record { load = load_spelled; closed = nested_closed; stray = stray_open; second = second_open; deep = deep_opened; too_deep = too_deep_refused; body = body_spelled; many_locals = no_body; empty = empty_spelled; types = type_spelled; other_version = no_version_two }
