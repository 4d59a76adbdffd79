use Rattle.std.proofs.Common.{length, ap, ◌∙◌, arith}
use Rattle.std.specs.List.{flat_map}
use Rattle.wasm_writer.specs.Size.{capped}
use Rattle.wasm_writer.specs.Spelling.{custom_bytes}
use Rattle.wasm_writer.proofs.ModuleLemmas.{length-spelling}
use Rattle.wasm_writer.proofs.section_sizes.SectionSizes.module_size.Goals as goal

pub returns : goal.returns
returns c =
    let customs = c.size_of_customs.ensures ∙ ap (λ customs. capped (length (flat_map custom_bytes customs))) c.as_slice.ensures in
    omega (arith, customs, length-spelling c.args.module.now, c.size_of_section.ensures.exact 1, c.size_of_section-2.ensures.exact 2, c.size_of_section-3.ensures.exact 3, c.size_of_section-4.ensures.exact 5, c.size_of_section-5.ensures.exact 6, c.size_of_section-6.ensures.exact 7, c.size_of_section-7.ensures.exact 10, c.size_of_section-8.ensures.exact 11)
