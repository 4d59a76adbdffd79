-- The module of a patch that passes its input through: docs/MODULE.md, "An example".
use Rattle.std.specs.Prelude.{ℕ, List, [], ◌∷◌, Some, codes, pos}
use Rattle.cm_base.specs.declared.host.Flow.TheVariants.{Input, Output}
use Rattle.through_meaning.specs.Parts.{host_stream}
use Rattle.wasm_tree.specs.declared.module.Limits.{Limits}
use Rattle.wasm_tree.specs.declared.module.Import.{Import}
use Rattle.wasm_tree.specs.declared.module.ImportKind.TheVariants as imported
use Rattle.wasm_tree.specs.declared.module.ExportEntry.{ExportEntry}
use Rattle.wasm_tree.specs.declared.module.ExportKind.TheVariants as exported
use Rattle.wasm_tree.specs.declared.module.FuncBody.{FuncBody}
use Rattle.wasm_tree.specs.declared.module.Custom.{Custom}
use Rattle.wasm_tree.specs.declared.module.Module.{Module}
use Rattle.wasm_tree.specs.declared.instr.MemArg.{MemArg}
use Rattle.wasm_tree.specs.declared.instr.Instr.{Instr}
use Rattle.wasm_tree.specs.declared.instr.Instr.TheVariants as instr
use Rattle.wasm_tree.specs.declared.op.LoadOp.TheVariants as load
use Rattle.wasm_tree.specs.declared.op.StoreOp.TheVariants as store
use Rattle.wasm_tree.specs.declared.interface.Interface.TheVariants.{Single}
use Rattle.wasm_tree.specs.Section.{CmajorSection, Slot}
use Rattle.wasm_tree.specs.Spelled.{cmajor}
use Rattle.wasm_tree.specs.Valid.{no_type, emit_type}

-- a word of four bytes at this offset
abbrev pub word_at : ℕ → MemArg
word_at offset = record { align = 2; offset = offset }

-- the input's slot is at address 0, and the output's at 4
abbrev pub through_slots : List ℕ → List ℕ → List Slot
through_slots input output =
    record { end = host_stream Input input; address = 0 } ∷ record { end = host_stream Output output; address = 4 } ∷ []

abbrev pub through_section : List ℕ → List ℕ → CmajorSection
through_section input output = record { interface = Single; latency = 0; slots = through_slots input output }

-- the word of the input is copied to the output
abbrev pub frame_code : List Instr
frame_code =
    instr.I32Const (pos 0) ∷ instr.I32Const (pos 0) ∷ instr.Load load.I32 (word_at 0) ∷ instr.Store store.I32 (word_at 4) ∷ instr.End ∷ []

abbrev pub init_code : List Instr
init_code = instr.End ∷ []

abbrev pub body_of : List Instr → FuncBody
body_of code = record { locals = []; code = code }

abbrev pub one_page : Limits
one_page = record { min = 1; max = Some 1 }

abbrev pub emit_import : Import
emit_import = record { «module» = codes "host"; name = codes "emit"; kind = imported.Function 0 }

abbrev pub function_export : List ℕ → ℕ → ExportEntry
function_export name number = record { name = name; kind = exported.Function number }

abbrev pub memory_export : ExportEntry
memory_export = record { name = codes "memory"; kind = exported.Memory 0 }

abbrev pub cmajor_custom : List ℕ → Custom
cmajor_custom bytes = record { name = cmajor; bytes = bytes }

-- the module, with these bytes as its section `cmajor`
abbrev pub through_module : List ℕ → Module
through_module described =
    record {
      types = emit_type ∷ no_type ∷ [];
      imports = emit_import ∷ [];
      functions = 1 ∷ 1 ∷ [];
      memory = one_page ∷ [];
      globals = [];
      exports = memory_export ∷ function_export (codes "init") 1 ∷ function_export (codes "frame") 2 ∷ [];
      codes = body_of init_code ∷ body_of frame_code ∷ [];
      segments = [];
      customs = cmajor_custom described ∷ [];
    }
