-- Facts of calls of `frames`.
use Rattle.std.proofs.Common.{◌≡◌, ◌≤◌, ℕ, refl}
use Rattle.wasm_tree.specs.declared.interface.Interface.{Interface}
use Rattle.wasm_tree.specs.declared.interface.Interface.TheVariants.{Single, Blocks}
use Rattle.wasm_runner.specs.declared.host.Ended.{Ended}
use Rattle.wasm_runner.specs.declared.host.Ended.TheVariants as ended
use Rattle.wasm_runner.specs.Exporting.{TakesFrames}
use Rattle.module_player.specs.declared.came.Came.TheVariants as came
use Rattle.module_player.specs.Coming.{block_came}

-- a module that offers such a call has interface 2, and the call is for some frames
pub record IsOffered (interface : Interface) (count : ℕ) : Type 0 where
  pub size : ℕ
  pub is : interface ≡ Blocks size
  pub some : 1 ≤ count

pub offered : (interface : Interface) (count : ℕ) → TakesFrames interface count → IsOffered interface count
offered Single count takes = absurd takes
offered (Blocks size) count takes = record { size = size; is = refl; some = takes.0 }

-- only a call that returned comes to an end
pub ended_done : (end : Ended) (marks frame : ℕ) → block_came end marks frame ≡ came.Ended → end ≡ ended.Done
ended_done ended.Done marks frame is = refl
ended_done ended.StepsSpent marks frame is = absurd (cc is)
ended_done ended.Trapped marks frame is = absurd (cc is)
ended_done ended.Stopped marks frame is = absurd (cc is)
