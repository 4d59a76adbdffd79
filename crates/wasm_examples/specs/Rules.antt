-- The smallest valid module, and modules that break one rule each.
use Rattle.std.specs.Prelude.{ℕ, List, [], ◌∷◌, ◌++◌, None, codes, pos}
use Rattle.cm_base.specs.declared.host.Flow.TheVariants.{Output}
use Rattle.cm_base.specs.declared.host.Kind.TheVariants.{Stream}
use Rattle.wasm_tree.specs.declared.module.ValType.TheVariants.{I32}
use Rattle.wasm_tree.specs.declared.module.Custom.{Custom}
use Rattle.wasm_tree.specs.declared.module.Module.{Module}
use Rattle.wasm_tree.specs.declared.instr.Instr.TheVariants as instr
use Rattle.wasm_tree.specs.declared.interface.Interface.TheVariants.{Single}
use Rattle.wasm_tree.specs.Section.{CmajorSection}
use Rattle.wasm_tree.specs.Spelled.{cmajor, header}
use Rattle.wasm_tree.specs.Valid.{no_type, emit_type}
use Rattle.wasm_examples.specs.Bytes.{empty_module}
use Rattle.wasm_examples.specs.Hosts.{emit_import, memory_export, function_export, body_of}

-- no endpoint and no latency
abbrev pub quiet_section : CmajorSection
quiet_section = record { interface = Single; latency = 0; slots = [] }

abbrev pub quiet_custom : Custom
quiet_custom = record { name = cmajor; bytes = 1 ∷ 0 ∷ 0 ∷ [] }

-- a memory of no page, and one function that does nothing as `init` and as `frame`
abbrev pub quiet_module : Module
quiet_module =
    record {
      types = emit_type ∷ no_type ∷ [];
      imports = emit_import ∷ [];
      functions = 1 ∷ [];
      memory = record { min = 0; max = None } ∷ [];
      globals = [];
      exports = memory_export ∷ function_export (codes "init") 1 ∷ function_export (codes "frame") 1 ∷ [];
      codes = body_of (instr.End ∷ []) ∷ [];
      segments = [];
      customs = quiet_custom ∷ [];
    }

-- the function's type has number 2, and the types end before it
abbrev pub no_such_type : Module
no_such_type = record quiet_module { functions = 2 ∷ [] }

-- the function branches to label 1, where only its own sequence is open
abbrev pub no_such_label : Module
no_such_label = record quiet_module { codes = body_of (instr.Br 1 ∷ instr.End ∷ []) ∷ [] }

-- 257 pages
abbrev pub many_pages : Module
many_pages = record quiet_module { memory = record { min = 257; max = None } ∷ [] }

-- the function leaves a number, which its type doesn't have as a result
abbrev pub number_left : Module
number_left = record quiet_module { codes = body_of (instr.I32Const (pos 0) ∷ instr.End ∷ []) ∷ [] }

-- the function calls itself
abbrev pub calls_itself : Module
calls_itself = record quiet_module { codes = body_of (instr.Call 1 ∷ instr.End ∷ []) ∷ [] }

-- one byte of data, and no page
abbrev pub byte_past_end : Module
byte_past_end = record quiet_module { segments = record { memory = 0; offset = pos 0; bytes = 7 ∷ [] } ∷ [] }

-- nothing is imported
abbrev pub no_import : Module
no_import = record quiet_module { imports = [] }

-- there is no `frame`
abbrev pub no_frame : Module
no_frame = record quiet_module { exports = memory_export ∷ function_export (codes "init") 1 ∷ [] }

-- the function is exported by a fourth name too
abbrev pub other_export : Module
other_export =
    record quiet_module { exports = memory_export ∷ function_export (codes "init") 1 ∷ function_export (codes "frame") 1 ∷ function_export (codes "other") 1 ∷ [] }

-- two sections `cmajor`
abbrev pub two_sections : Module
two_sections = record quiet_module { customs = quiet_custom ∷ quiet_custom ∷ [] }

-- a section `cmajor` with nothing in it
abbrev pub empty_section : Module
empty_section = record quiet_module { customs = record { name = cmajor; bytes = [] } ∷ [] }

-- ---- at which byte

-- a module that has only a type of two results
abbrev pub two_results : Module
two_results = record empty_module { types = record { params = []; results = I32 ∷ I32 ∷ [] } ∷ [] }

-- the header, and the section of types
abbrev pub two_results_bytes : List ℕ
two_results_bytes = header ++ 0x01 ∷ 0x06 ∷ 0x01 ∷ 0x60 ∷ 0x00 ∷ 0x02 ∷ 0x7F ∷ 0x7F ∷ []

-- ---- slots

-- an endpoint without scalars at this address
abbrev pub bare_slot : ℕ → CmajorSection
bare_slot address =
    record quiet_section { slots = record { end = record { flow = Output; kind = Stream; name = codes "out"; shape = []; parameter = None }; address = address } ∷ [] }
