-- A module that sums its inputs, stopped after three frames and resumed over two more.
use Rattle.std.specs.Prelude.{ℕ, List, [], ◌∷◌, codes, pos, true, false}
use Rattle.cm_base.specs.declared.host.Flow.TheVariants.{Input, Output}
use Rattle.cm_base.specs.declared.host.Kind.TheVariants.{Stream, Value, Event}
use Rattle.cm_base.specs.declared.play.Script.{Script}
use Rattle.cm_base.specs.declared.play.Snapshot.{Snapshot}
use Rattle.cm_base.specs.Players.{Outcome, last_world}
use Rattle.wasm_tree.specs.declared.module.ValType.TheVariants.{I32, I64}
use Rattle.wasm_tree.specs.declared.module.Module.{Module}
use Rattle.wasm_tree.specs.declared.instr.Instr.{Instr}
use Rattle.wasm_tree.specs.declared.instr.Instr.TheVariants as instr
use Rattle.wasm_tree.specs.declared.op.BinaryOp.TheVariants as binary
use Rattle.wasm_tree.specs.declared.op.LoadOp.TheVariants as load
use Rattle.wasm_tree.specs.declared.op.StoreOp.TheVariants as store
use Rattle.wasm_tree.specs.declared.interface.Interface.TheVariants.{Single, Blocks}
use Rattle.wasm_tree.specs.Section.{CmajorSection, ends_of}
use Rattle.wasm_tree.specs.Valid.{no_type, emit_type}
use Rattle.wasm_tree.specs.HostRun.{Instance, host_run, host_stops}
use Rattle.wasm_tree.specs.Stopped.{joined_scripts, snapshot_of, resumed_run}
use Rattle.wasm_examples.specs.Hosts.{slot_of, word_at, body_of, function_export, memory_export, emit_import, one_page}

-- a stream input at address 0, a value input at 4, and a stream output at 8
abbrev pub sum_slots : CmajorSection
sum_slots =
    record { interface = Single; latency = 0; slots = slot_of Input Stream (codes "in") 0 ∷ slot_of Input Value (codes "level") 4 ∷ slot_of Output Stream (codes "sum") 8 ∷ [] }

-- global 1 is the sum so far of both inputs
abbrev pub sum_frame : List Instr
sum_frame =
    instr.GlobalGet 1 ∷ instr.I32Const (pos 0) ∷ instr.Load load.I32 (word_at 0) ∷ instr.Binary I32 binary.Add
    ∷ instr.I32Const (pos 0) ∷ instr.Load load.I32 (word_at 4) ∷ instr.Binary I32 binary.Add ∷ instr.GlobalSet 1
    ∷ instr.I32Const (pos 0) ∷ instr.GlobalGet 1 ∷ instr.Store store.I32 (word_at 8) ∷ instr.End ∷ []

-- global 0 is fixed
abbrev pub sum_module : Module
sum_module =
    record {
      types = emit_type ∷ no_type ∷ [];
      imports = emit_import ∷ [];
      functions = 1 ∷ 1 ∷ [];
      memory = one_page ∷ [];
      globals = record { ty = I64; mutable = false; value = instr.I64Const (pos 7) } ∷ record { ty = I32; mutable = true; value = instr.I32Const (pos 0) } ∷ [];
      exports = memory_export ∷ function_export (codes "init") 1 ∷ function_export (codes "frame") 2 ∷ [];
      codes = body_of (instr.End ∷ []) ∷ body_of sum_frame ∷ [];
      segments = [];
      customs = [];
    }

-- three frames, of which the stream has two; the value is set to 3 at frame 1
abbrev pub first_script : Script
first_script = record { frames = 3; streams = (pos 1 ∷ pos 2 ∷ []) ∷ []; values = record { frame = 1; endpoint = 1; value = pos 3 ∷ [] } ∷ []; events = [] }

-- two frames, of which the stream has one; the value is set to 5 at frame 1
abbrev pub second_script : Script
second_script = record { frames = 2; streams = (pos 10 ∷ []) ∷ []; values = record { frame = 1; endpoint = 1; value = pos 5 ∷ [] } ∷ []; events = [] }

abbrev pub both_scripts : Script
both_scripts = joined_scripts (ends_of sum_slots) first_script second_script

-- the instance after the first script, with nine reductions for each part
abbrev pub stopped_sum : Instance
stopped_sum = last_world (host_stops sum_module sum_slots [] first_script 3 9)

abbrev pub snapshot_of_sum : Snapshot
snapshot_of_sum = snapshot_of sum_module sum_slots stopped_sum

abbrev pub resumed_sum : Outcome
resumed_sum = resumed_run sum_module sum_slots snapshot_of_sum second_script 2 9

-- the run over both scripts, which isn't stopped
abbrev pub whole_sum : Outcome
whole_sum = host_run sum_module sum_slots [] both_scripts 5 9

-- ---- `emit` as `frames`

-- a stream output with an entry for each of two frames, and an event output at address 8
abbrev pub ping_slots : CmajorSection
ping_slots = record { interface = Blocks 2; latency = 0; slots = slot_of Output Stream (codes "out") 0 ∷ slot_of Output Event (codes "ping") 8 ∷ [] }

-- the imported function is exported as `frames`
abbrev pub ping_module : Module
ping_module =
    record {
      types = emit_type ∷ no_type ∷ [];
      imports = emit_import ∷ [];
      functions = 1 ∷ [];
      memory = one_page ∷ [];
      globals = [];
      exports = memory_export ∷ function_export (codes "init") 1 ∷ function_export (codes "frames") 0 ∷ [];
      codes = body_of (instr.End ∷ []) ∷ [];
      segments = [];
      customs = [];
    }

-- a run of one frame
abbrev pub run_of_ping : (steps : ℕ) → Outcome
run_of_ping steps = host_run ping_module ping_slots [] (record { frames = 1; streams = []; values = []; events = [] }) 1 steps
