use Rattle.wasm_examples.proofs.Hosts.{adds, passes, spends, part_ends, part_spends, part_waits, traps, blocks, blocks_spend}
use Rattle.wasm_examples.proofs.hosts_run.Goals as goal

pub returns : goal.returns
returns c = record { adds = adds; passes = passes; spends = spends; part_ends = part_ends; part_spends = part_spends; part_waits = part_waits; traps = traps; blocks = blocks; blocks_spend = blocks_spend }
