-- Types are spelled as the format says.
use Rattle.std.proofs.Common.{◌≡◌, ℕ, ◌<◌, ◌^◌, ◌++◌, length, Option, Some, None, arith}
use Rattle.std.proofs.lemmas.List.{length-append}
use Rattle.wasm_tree.specs.declared.module.FuncType.{FuncType}
use Rattle.wasm_tree.specs.Spelled.{Joined, Index, Vector, Type_of_value, Type_of_function, Bounds}
use Rattle.wasm_writer.specs.Spelling.{unsigned_bytes, vector_bytes, value_type_bytes, function_type_bytes, bounds_bytes}
use Rattle.wasm_writer.proofs.Nonempty.{value_type_nonempty}
use Rattle.wasm_writer.proofs.Parts.{joined, begins, vector_count}

pub function_type_spelled : (type : FuncType) → Vector Type_of_value type.params (vector_bytes value_type_bytes type.params) → Vector Type_of_value type.results (vector_bytes value_type_bytes type.results) → Type_of_function type (function_type_bytes type)
function_type_spelled type params results =
    begins 0x60 (Joined (Vector Type_of_value type.params) (Vector Type_of_value type.results)) (vector_bytes value_type_bytes type.params ++ vector_bytes value_type_bytes type.results)
    (joined (Vector Type_of_value type.params) (Vector Type_of_value type.results) (vector_bytes value_type_bytes type.params) (vector_bytes value_type_bytes type.results) params results)

-- both lists are within the type's bytes
pub record Sizes (type : FuncType) : Type 0 where
  pub params : length type.params < 2 ^ 32
  pub params_sized : length (vector_bytes value_type_bytes type.params) < 2 ^ 32
  pub results : length type.results < 2 ^ 32
  pub results_sized : length (vector_bytes value_type_bytes type.results) < 2 ^ 32

pub function_type_sizes : (type : FuncType) → length (function_type_bytes type) < 2 ^ 32 → Sizes type
function_type_sizes type h =
    let whole = length-append (vector_bytes value_type_bytes type.params) (vector_bytes value_type_bytes type.results) in
    let params : length (vector_bytes value_type_bytes type.params) < 2 ^ 32 = omega (arith, whole) in
    let results : length (vector_bytes value_type_bytes type.results) < 2 ^ 32 = omega (arith, whole) in
    record {
      params = vector_count value_type_bytes type.params value_type_nonempty params;
      params_sized = params;
      results = vector_count value_type_bytes type.results value_type_nonempty results;
      results_sized = results;
    }

pub least_spelled : (least : ℕ) (most : Option ℕ) → most ≡ None → Index least (unsigned_bytes least) → Bounds least most (bounds_bytes least most)
least_spelled least most e h = rw e (begins 0x00 (Index least) (unsigned_bytes least) h)

pub bounds_spelled : (least most : ℕ) (limit : Option ℕ) → limit ≡ Some most → Index least (unsigned_bytes least) → Index most (unsigned_bytes most) → Bounds least limit (bounds_bytes least limit)
bounds_spelled least most limit e h k =
    rw e (begins 0x01 (Joined (Index least) (Index most)) (unsigned_bytes least ++ unsigned_bytes most) (joined (Index least) (Index most) (unsigned_bytes least) (unsigned_bytes most) h k))
