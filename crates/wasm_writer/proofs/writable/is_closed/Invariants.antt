use Rattle.std.proofs.Common.{◌≡◌, drop}
use Rattle.wasm_tree.specs.Control.{after_code, at_begin}
use Rattle.wasm_writer.proofs.writable.is_closed.Given as goal

-- the code leaves open what the rest of it leaves, after what is open now
abbrev pub invariant-loop-instr : goal.invariant-loop-instr
invariant-loop-instr l = after_code at_begin l.code ≡ after_code l.stack (drop l.instr-index l.code)
