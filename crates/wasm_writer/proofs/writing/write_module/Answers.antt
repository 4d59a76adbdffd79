use Rattle.std.proofs.Common.{◌≡◌, ◌++◌, subst, ap, ◌∙◌, All}
use Rattle.wasm_tree.specs.Spelled.{header, Custom_contents}
use Rattle.wasm_writer.specs.Spelling.{spelling, function_type_bytes, import_bytes, unsigned_bytes, memory_bytes, global_bytes, export_bytes, body_bytes, segment_bytes, custom_contents}
use Rattle.wasm_writer.proofs.ModuleLemmas.{module_spelled, section_at, whole_at}
use Rattle.wasm_writer.proofs.writing.write_module.Goals as goal

pub returns-clause-shortest : goal.returns-clause-shortest
returns-clause-shortest c =
    let m = c.args.module.now in
    let begun = c.in_ok-extend_from_slice.ensures.items ∙ ap (λ bytes. bytes ++ header) c.in_ok-out.ensures.items in
    let types = section_at 1 function_type_bytes m.types _ _ _ c.in_ok-put_section.ensures.appended begun in
    let imports = section_at 2 import_bytes m.imports _ _ _ c.in_ok-put_section-2.ensures.appended types in
    let functions = section_at 3 unsigned_bytes m.functions _ _ _ c.in_ok-put_section-3.ensures.appended imports in
    let memory = section_at 5 memory_bytes m.memory _ _ _ c.in_ok-put_section-4.ensures.appended functions in
    let globals = section_at 6 global_bytes m.globals _ _ _ c.in_ok-put_section-5.ensures.appended memory in
    let exports = section_at 7 export_bytes m.exports _ _ _ c.in_ok-put_section-6.ensures.appended globals in
    let codes = section_at 10 body_bytes m.codes _ _ _ c.in_ok-put_section-7.ensures.appended exports in
    let segments = section_at 11 segment_bytes m.segments _ _ _ c.in_ok-put_section-8.ensures.appended codes in
    c.from_vec.ensures ∙ whole_at m c.as_slice.result.now _ _ c.as_slice.ensures c.in_ok-put_customs.ensures.appended segments

pub returns-clause-spelled : goal.returns-clause-spelled
returns-clause-spelled c =
    let m = c.args.module.now in
    let is : c.from_vec.result ≡ spelling m = returns-clause-shortest c in
    rw is (module_spelled m c.requires (record {
      types = c.in_ok-put_section.ensures.spelled;
      imports = c.in_ok-put_section-2.ensures.spelled;
      functions = c.in_ok-put_section-3.ensures.spelled;
      memory = c.in_ok-put_section-4.ensures.spelled;
      globals = c.in_ok-put_section-5.ensures.spelled;
      exports = c.in_ok-put_section-6.ensures.spelled;
      codes = c.in_ok-put_section-7.ensures.spelled;
      segments = c.in_ok-put_section-8.ensures.spelled;
      customs = subst (λ customs. All (λ custom. Custom_contents custom (custom_contents custom)) customs) c.as_slice.ensures c.in_ok-put_customs.ensures.spelled;
    }))
