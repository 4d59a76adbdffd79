use Rattle.std.proofs.Common.{rules}
use Rattle.wasm_valid.proofs.DescribedLemmas.{right_told}
use Rattle.wasm_valid.proofs.described.is_right.Goals as goal

pub returns : goal.returns
returns c =
    right_told c.args.memory.now c.args.section.now c.block-block.result c.memory_bytes-bytes.result c.as_slice-host.result.now c.as_slice.result.now c.lie_within.result c.requires.paired c.block-block.ensures c.memory_bytes-bytes.ensures
    c.as_slice-host.ensures c.as_slice.ensures c.lie_within.ensures (search rules) (search rules)
