use Rattle.wasm_examples.proofs.Rules.{quiet_valid, type_missing, label_missing, pages_past_limit, number_untyped, cycle_of_one, byte_outside, import_missing, frame_missing, export_added, section_twice, section_empty, refused_at_types, refused_at_end}
use Rattle.wasm_examples.proofs.rules_are_broken.Goals as goal

pub returns : goal.returns
returns c = record { valid = quiet_valid; index_of_type = type_missing; index_of_label = label_missing; limit = pages_past_limit; typing = number_untyped; call_cycle = cycle_of_one; segment = byte_outside; no_import = import_missing; no_export = frame_missing; other_export = export_added; second_section = section_twice; empty_section = section_empty; at_types = refused_at_types; at_end = refused_at_end }
