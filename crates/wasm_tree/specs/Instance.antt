-- How a module is instantiated, and how its exports are called: Core Specification 1.0, 4.5.4 and 4.5.5.
use Rattle.std.specs.Prelude.{ℕ, zero, suc, List, [], ◌∷◌, ◌++◌, length, map, replicate, slice_get, if◌then◌else◌, unwrap_or}
use Rattle.std.specs.Int.{w32, w64, cast_unsigned}
use Rattle.cm_base.specs.Parts.{is_name}
use Rattle.wasm_tree.specs.declared.module.FuncBody.{FuncBody}
use Rattle.wasm_tree.specs.declared.module.ExportEntry.{ExportEntry}
use Rattle.wasm_tree.specs.declared.module.ExportKind.{ExportKind}
use Rattle.wasm_tree.specs.declared.module.ExportKind.TheVariants as exported
use Rattle.wasm_tree.specs.declared.module.Segment.{Segment}
use Rattle.wasm_tree.specs.declared.module.Module.{Module}
use Rattle.wasm_tree.specs.declared.instr.Instr.{Instr}
use Rattle.wasm_tree.specs.declared.instr.Instr.TheVariants as instr
use Rattle.wasm_tree.specs.Reduce.{Func, Config, Nil, Plain, at, tree_of, write_bytes}
use Rattle.wasm_tree.specs.Valid.{declared_locals, memory_size, type_at}

-- the module's own functions as the machine runs them
abbrev pub functions_of : Module → List ℕ → List FuncBody → List Func
functions_of m [] bodies = []
functions_of m (type ∷ types) [] = []
functions_of m (type ∷ types) (body ∷ bodies) =
    record {
      params = length (type_at m type).params;
      results = length (type_at m type).results;
      locals = length (declared_locals body.locals);
      body = tree_of body.code;
    } ∷ functions_of m types bodies

abbrev pub funcs_of : Module → List Func
funcs_of m = functions_of m m.functions m.codes

-- ---- the first globals and the first memory

-- the bits of a constant
abbrev pub constant_of : Instr → ℕ
constant_of (instr.I32Const value) = cast_unsigned w32 value
constant_of (instr.I64Const value) = cast_unsigned w64 value
constant_of _ = 0

abbrev pub first_globals : Module → List ℕ
first_globals m = map (λ global. constant_of global.value) m.globals

-- the memory with the segments written one after another
abbrev pub with_segments : List Segment → List ℕ → List ℕ
with_segments [] memory = memory
with_segments (segment ∷ segments) memory = with_segments segments (write_bytes memory (cast_unsigned w32 segment.offset) segment.bytes)

-- memory is zero, and then the segments are written
abbrev pub first_memory : Module → List ℕ
first_memory m = with_segments m.segments (replicate (memory_size m.memory) 0)

-- ---- calls from outside

-- the number of the function that is exported under the name
abbrev pub number_of : ExportKind → ℕ
number_of (exported.Function number) = number
number_of (exported.Memory number) = 0

abbrev pub exported_as : List ℕ → List ExportEntry → ℕ
exported_as name [] = 0
exported_as name (entry ∷ entries) = if is_name entry.name name then number_of entry.kind else exported_as name entries

abbrev pub no_function : Func
no_function = record { params = 0; results = 0; locals = 0; body = Nil }

-- a call of one of the module's own functions from outside, before its first reduction
abbrev pub begun : Func → List ℕ → List ℕ → List ℕ → Config
begun f arguments globals memory =
    at f.body (record { values = []; locals = arguments ++ replicate f.locals 0; globals = globals; memory = memory }) [] []

-- A call of the function of this number from outside. Function 0 is the imported one: the first reduction asks
-- the host with the argument, and the second ends the call.
abbrev pub begun_at : List Func → ℕ → List ℕ → List ℕ → List ℕ → Config
begun_at funcs zero arguments globals memory =
    at (Plain (instr.Call 0) Nil) (record { values = arguments; locals = []; globals = globals; memory = memory }) [] []
begun_at funcs (suc number) arguments globals memory = begun (unwrap_or (slice_get funcs number) no_function) arguments globals memory

-- a call of an export by its name, from outside
abbrev pub call_of : Module → List ℕ → List ℕ → List ℕ → List ℕ → Config
call_of m name arguments globals memory = begun_at (funcs_of m) (exported_as name m.exports) arguments globals memory
