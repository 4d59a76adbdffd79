-- Small modules that a host runs, and their runs.
use Rattle.std.specs.Prelude.{ℕ, List, [], ◌∷◌, None, Some, codes, ℤ, pos, negsuc}
use Rattle.cm_base.specs.declared.host.Scalar.TheVariants.{Int32}
use Rattle.cm_base.specs.declared.host.Flow.{Flow}
use Rattle.cm_base.specs.declared.host.Flow.TheVariants.{Input, Output}
use Rattle.cm_base.specs.declared.host.Kind.{Kind}
use Rattle.cm_base.specs.declared.host.Kind.TheVariants.{Stream, Value, Event}
use Rattle.cm_base.specs.declared.play.Saved.{Saved}
use Rattle.cm_base.specs.declared.play.Script.{Script}
use Rattle.cm_base.specs.Players.{Outcome, PartEnd}
use Rattle.wasm_tree.specs.declared.module.ValType.TheVariants.{I32}
use Rattle.wasm_tree.specs.declared.module.Limits.{Limits}
use Rattle.wasm_tree.specs.declared.module.Import.{Import}
use Rattle.wasm_tree.specs.declared.module.ImportKind.TheVariants as imported
use Rattle.wasm_tree.specs.declared.module.ExportEntry.{ExportEntry}
use Rattle.wasm_tree.specs.declared.module.ExportKind.TheVariants as exported
use Rattle.wasm_tree.specs.declared.module.FuncBody.{FuncBody}
use Rattle.wasm_tree.specs.declared.module.Module.{Module}
use Rattle.wasm_tree.specs.declared.instr.MemArg.{MemArg}
use Rattle.wasm_tree.specs.declared.instr.Instr.{Instr}
use Rattle.wasm_tree.specs.declared.instr.Instr.TheVariants as instr
use Rattle.wasm_tree.specs.declared.op.BinaryOp.TheVariants as binary
use Rattle.wasm_tree.specs.declared.op.CompareOp.TheVariants as compare
use Rattle.wasm_tree.specs.declared.op.LoadOp.TheVariants as load
use Rattle.wasm_tree.specs.declared.op.StoreOp.TheVariants as store
use Rattle.wasm_tree.specs.declared.interface.Interface.TheVariants.{Single, Blocks}
use Rattle.wasm_tree.specs.Section.{CmajorSection, Slot}
use Rattle.wasm_tree.specs.Spelled.{cmajor}
use Rattle.wasm_tree.specs.Valid.{no_type, emit_type}
use Rattle.wasm_tree.specs.HostRun.{host_run, host_part}

abbrev pub slot_of : Flow → Kind → List ℕ → ℕ → Slot
slot_of flow kind name address = record { end = record { flow = flow; kind = kind; name = name; shape = Int32 ∷ []; parameter = None }; address = address }

-- an event input at address 0, a stream output at 4, and an event output at 8
abbrev pub three_slots : CmajorSection
three_slots =
    record {
      interface = Single;
      latency = 0;
      slots = slot_of Input Event (codes "add") 0 ∷ slot_of Output Stream (codes "sum") 4 ∷ slot_of Output Event (codes "added") 8 ∷ [];
    }

abbrev pub word_at : ℕ → MemArg
word_at offset = record { align = 2; offset = offset }

-- the event's number is added to the sum
abbrev pub add_event : List Instr
add_event =
    instr.I32Const (pos 0) ∷ instr.I32Const (pos 0) ∷ instr.Load load.I32 (word_at 4) ∷ instr.I32Const (pos 0) ∷ instr.Load load.I32 (word_at 0)
    ∷ instr.Binary I32 binary.Add ∷ instr.Store store.I32 (word_at 4) ∷ instr.End ∷ []

-- the event's number is sent on by endpoint 2
abbrev pub pass_event : List Instr
pass_event =
    instr.I32Const (pos 0) ∷ instr.I32Const (pos 0) ∷ instr.Load load.I32 (word_at 0) ∷ instr.Store store.I32 (word_at 8)
    ∷ instr.I32Const (pos 2) ∷ instr.Call 0 ∷ instr.End ∷ []

-- an event's number divides 1
abbrev pub divide_event : List Instr
divide_event =
    instr.I32Const (pos 1) ∷ instr.I32Const (pos 0) ∷ instr.Load load.I32 (word_at 0) ∷ instr.Binary I32 binary.DivUnsigned ∷ instr.Drop ∷ instr.End ∷ []

abbrev pub body_of : List Instr → FuncBody
body_of code = record { locals = []; code = code }

abbrev pub function_export : List ℕ → ℕ → ExportEntry
function_export name number = record { name = name; kind = exported.Function number }

-- what the host is told of the three slots: the interface, the latency, and the count of endpoints, each with
-- its flow, its kind, its name, its address, its shape and no parameter
abbrev pub three_slots_bytes : List ℕ
three_slots_bytes =
    1 ∷ 0 ∷ 3
    ∷ 0 ∷ 2 ∷ 3 ∷ 0x61 ∷ 0x64 ∷ 0x64 ∷ 0 ∷ 1 ∷ 1 ∷ 0 ∷ 0
    ∷ 1 ∷ 0 ∷ 3 ∷ 0x73 ∷ 0x75 ∷ 0x6D ∷ 4 ∷ 1 ∷ 1 ∷ 0 ∷ 0
    ∷ 1 ∷ 2 ∷ 5 ∷ 0x61 ∷ 0x64 ∷ 0x64 ∷ 0x65 ∷ 0x64 ∷ 8 ∷ 1 ∷ 1 ∷ 0 ∷ 0 ∷ []

abbrev pub one_page : Limits
one_page = record { min = 1; max = Some 1 }

abbrev pub emit_import : Import
emit_import = record { «module» = codes "host"; name = codes "emit"; kind = imported.Function 0 }

abbrev pub memory_export : ExportEntry
memory_export = record { name = codes "memory"; kind = exported.Memory 0 }

-- a module whose `init` and `frame` do nothing, and whose `e0` has this code
abbrev pub event_module : List Instr → Module
event_module code =
    record {
      types = emit_type ∷ no_type ∷ [];
      imports = emit_import ∷ [];
      functions = 1 ∷ 1 ∷ 1 ∷ [];
      memory = one_page ∷ [];
      globals = [];
      exports = memory_export ∷ function_export (codes "init") 1 ∷ function_export (codes "frame") 2 ∷ function_export (codes "e0") 3 ∷ [];
      codes = body_of (instr.End ∷ []) ∷ body_of (instr.End ∷ []) ∷ body_of code ∷ [];
      segments = [];
      customs = record { name = cmajor; bytes = three_slots_bytes } ∷ [];
    }

-- the module that adds, with no page of memory
abbrev pub pageless_module : Module
pageless_module = record (event_module add_event) { memory = record { min = 0; max = None } ∷ [] }

-- two frames, and the number comes as an event at frame 1
abbrev pub event_script : ℤ → Script
event_script value = record { frames = 2; streams = []; values = []; events = record { frame = 1; endpoint = 0; value = value ∷ [] } ∷ [] }

-- a run of two frames with the event, where so many reductions may be spent on each part
abbrev pub run_of_event : List Instr → ℤ → ℕ → Outcome
run_of_event code value steps = host_run (event_module code) three_slots [] (event_script value) 2 steps

-- how one part of it comes out: `init`, frame 0, the event and frame 1 are the parts 0 to 3
abbrev pub part_of_event : List Instr → ℤ → (steps number : ℕ) → PartEnd
part_of_event code value steps number = host_part (event_module code) three_slots [] (event_script value) 2 steps number

-- ---- blocks

-- a stream output with an entry for each of two frames
abbrev pub two_entries : CmajorSection
two_entries = record { interface = Blocks 2; latency = 0; slots = slot_of Output Stream (codes "out") 0 ∷ [] }

-- 7 for the first frame, and 8 for the second where there is one. Each -1 ends a frame
abbrev pub frames_code : List Instr
frames_code =
    instr.I32Const (pos 0) ∷ instr.I32Const (pos 7) ∷ instr.Store store.I32 (word_at 0) ∷ instr.I32Const (negsuc 0) ∷ instr.Call 0
    ∷ instr.LocalGet 0 ∷ instr.I32Const (pos 1) ∷ instr.Compare I32 compare.Equal ∷ instr.BrIf 0
    ∷ instr.I32Const (pos 0) ∷ instr.I32Const (pos 8) ∷ instr.Store store.I32 (word_at 4) ∷ instr.I32Const (negsuc 0) ∷ instr.Call 0
    ∷ instr.End ∷ []

abbrev pub frames_module : Module
frames_module =
    record {
      types = emit_type ∷ no_type ∷ [];
      imports = emit_import ∷ [];
      functions = 1 ∷ 0 ∷ [];
      memory = one_page ∷ [];
      globals = [];
      exports = memory_export ∷ function_export (codes "init") 1 ∷ function_export (codes "frames") 2 ∷ [];
      codes = body_of (instr.End ∷ []) ∷ body_of frames_code ∷ [];
      segments = [];
      customs = [];
    }

-- a run of three frames: a call for two of them, and one for the last
abbrev pub run_of_frames : ℕ → Outcome
run_of_frames steps = host_run frames_module two_entries [] (record { frames = 3; streams = []; values = []; events = [] }) 3 steps

-- ---- streams, values and parameters

-- a stream input at address 0, a value input at 4 that is a parameter and starts with 2, and a stream output at 8
abbrev pub mix_slots : CmajorSection
mix_slots =
    record {
      interface = Single;
      latency = 0;
      slots = slot_of Input Stream (codes "in") 0
          ∷ record { end = record { flow = Input; kind = Value; name = codes "level"; shape = Int32 ∷ []; parameter = Some (record { min = pos 0; max = pos 9; init = pos 2 }) }; address = 4 }
          ∷ slot_of Output Stream (codes "out") 8 ∷ [];
    }

-- the output is the sum of the two inputs
abbrev pub mix_frame : List Instr
mix_frame =
    instr.I32Const (pos 0) ∷ instr.I32Const (pos 0) ∷ instr.Load load.I32 (word_at 0) ∷ instr.I32Const (pos 0) ∷ instr.Load load.I32 (word_at 4)
    ∷ instr.Binary I32 binary.Add ∷ instr.Store store.I32 (word_at 8) ∷ instr.End ∷ []

abbrev pub mix_module : Module
mix_module =
    record {
      types = emit_type ∷ no_type ∷ [];
      imports = emit_import ∷ [];
      functions = 1 ∷ 1 ∷ [];
      memory = one_page ∷ [];
      globals = [];
      exports = memory_export ∷ function_export (codes "init") 1 ∷ function_export (codes "frame") 2 ∷ [];
      codes = body_of (instr.End ∷ []) ∷ body_of mix_frame ∷ [];
      segments = [];
      customs = [];
    }

-- the stream has -10, 20 and no third number, and the value is set to 3 at frame 1
abbrev pub mix_script : Script
mix_script =
    record { frames = 3; streams = (negsuc 9 ∷ pos 20 ∷ []) ∷ []; values = record { frame = 1; endpoint = 1; value = pos 3 ∷ [] } ∷ []; events = [] }

-- a run of three frames, with these saved values of parameters, and five reductions for each part
abbrev pub run_of_mix : List Saved → Outcome
run_of_mix saved = host_run mix_module mix_slots saved mix_script 3 5

-- 5 as the saved value of the parameter
abbrev pub saved_level : List Saved
saved_level = record { name = codes "level"; value = pos 5 } ∷ []
