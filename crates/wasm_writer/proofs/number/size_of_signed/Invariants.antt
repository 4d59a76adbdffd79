use Rattle.std.proofs.Common.{◌≡◌, ◌+◌, ◌<◌, ◌^◌, length, pos}
use Rattle.wasm_writer.specs.Spelling.{signed_bytes}
use Rattle.wasm_writer.proofs.number.size_of_signed.Given as goal

-- the bytes so far and those of the rest are all, where the rest's last byte is counted already
abbrev pub invariant-loop-rest : goal.invariant-loop-rest
invariant-loop-rest l = record {
  within : l.rest < 2 ^ 63;
  counted : l.size + length (signed_bytes (pos l.rest)) ≡ 1 + length (signed_bytes l.number);
}

abbrev pub decreases-loop-rest : goal.decreases-loop-rest
decreases-loop-rest l = l.rest
