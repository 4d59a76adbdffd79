-- When a module keeps what a source does: docs/PROOFS.md, "The headline". A source is what `Players` of `cm_base`
-- says, so that every level of the compiler can say it of its own.
use Rattle.std.specs.Prelude.{ℕ, ◌≡◌, ◌≢◌, ◌+◌, ◌*◌, ◌≤◌, List, ◌++◌}
use Rattle.cm_base.specs.declared.play.Item.{Item}
use Rattle.cm_base.specs.declared.play.Saved.{Saved}
use Rattle.cm_base.specs.declared.play.Script.{Script}
use Rattle.cm_base.specs.Parts.{Part}
use Rattle.cm_base.specs.Players.{Ended, Trapped, Outcome, PartEnd, NotBegun, PartEnds, PartSpent, Source, source_run, source_part}
use Rattle.cm_base.specs.Scripts.{IsScriptFor, AreSaved}
use Rattle.wasm_tree.specs.declared.module.Module.{Module}
use Rattle.wasm_tree.specs.Section.{CmajorSection, ends_of}
use Rattle.wasm_tree.specs.Valid.{Valid}
use Rattle.wasm_tree.specs.HostRun.{host_run, host_part}
use Rattle.wasm_tree.specs.Stopped.{KeepsStopped}

-- one trace begins another
pub record IsFront (front whole : List Item) : Type 0 where
  pub rest : List Item
  pub joined : whole ≡ front ++ rest

-- The runs of the module and of the source, over one script, saved parameters and count of frames. `source`
-- is the source's run with a bound on its turns, `target` the module's with a bound on its reductions, and
-- `cost` times one more than the turns is how many reductions the turns are worth. `source_part` is how the part
-- of a number comes out with a bound on the parts before it and one of its own, `target_part` with one bound.
pub record KeepsRun (cost : ℕ) (source target : ℕ → Outcome) (source_part : (before own number : ℕ) → PartEnd) (target_part : (bound number : ℕ) → PartEnd) : Type 0 where
  -- a run of the source that ends is a run of the module that ends, with the same trace
  pub forward : (n : ℕ) → (source n).ending ≡ Ended → target (cost * (n + 1)) ≡ source n
  -- a run of the module that ends is a run of the source that ends, with the same trace
  pub backward : (m : ℕ) → (target m).ending ≡ Ended → source m ≡ target m
  -- what the module told so far, the source tells
  pub told : (m : ℕ) → IsFront (target m).trace (source m).trace
  -- what the source told so far, the module tells
  pub reached : (n : ℕ) → IsFront (source n).trace (target (cost * (n + 1))).trace
  -- the module never traps
  pub never_traps : (m : ℕ) (part : Part) → (target m).ending ≡ Trapped part → ⊥
  -- The same part by part: with the reductions that n turns are worth, the module ends each part that it begins,
  -- but for one in which the source runs out of n turns, where it comes to it with so many turns in the parts before.
  pub part_by_part : (n number : ℕ) → source_part (cost * (n + 1)) n number ≢ PartSpent → target_part (cost * (n + 1)) number ≢ NotBegun →
      target_part (cost * (n + 1)) number ≡ PartEnds

-- every script for the endpoints, of any length, saved parameters in their ranges, and frames of the script
abbrev pub KeepsRuns : {World : Type 0} → Source World → Module → CmajorSection → Type 0
KeepsRuns source m section =
    (saved : List Saved) (script : Script) (frames : ℕ) → AreSaved source.ends saved → IsScriptFor source.ends script → frames ≤ script.frames →
    KeepsRun source.cost (source_run source saved script frames) (host_run m section saved script frames)
    (source_part source saved script frames) (host_part m section saved script frames)

-- The module is valid, its section has the endpoints of the source in order and its latency, and it keeps
-- the source's runs, also those that are stopped and resumed.
pub record Keeps {World : Type 0} (source : Source World) (m : Module) : Type 0 where
  pub section : CmajorSection
  pub valid : Valid m section
  pub endpoints : ends_of section ≡ source.ends
  pub delay : section.latency ≡ source.latency
  pub runs : KeepsRuns source m section
  pub stopped : KeepsStopped source m section
