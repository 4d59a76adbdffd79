-- The sizes of a module's sections, in bytes.
use Rattle.std.specs.Prelude.{◌≡◌, length}
use Rattle.wasm_tree.specs.declared.module.Module.{Module}
use Rattle.wasm_writer.specs.declared.section_sizes.SectionSizes.{SectionSizes}
use Rattle.wasm_writer.specs.Spelling.{unsigned_bytes, vector_bytes, function_type_bytes, import_bytes, memory_bytes, global_bytes, export_bytes, body_bytes, segment_bytes}

-- the sizes of the contents of the module's sections other than custom ones
pub record AreSizes (sizes : SectionSizes) (m : Module) : Type 0 where
  pub types : sizes.types ≡ length (vector_bytes function_type_bytes m.types)
  pub imports : sizes.imports ≡ length (vector_bytes import_bytes m.imports)
  pub functions : sizes.functions ≡ length (vector_bytes unsigned_bytes m.functions)
  pub memory : sizes.memory ≡ length (vector_bytes memory_bytes m.memory)
  pub globals : sizes.globals ≡ length (vector_bytes global_bytes m.globals)
  pub exports : sizes.exports ≡ length (vector_bytes export_bytes m.exports)
  pub codes : sizes.codes ≡ length (vector_bytes body_bytes m.codes)
  pub segments : sizes.segments ≡ length (vector_bytes segment_bytes m.segments)
