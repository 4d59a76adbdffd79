-- A module of interface 1 keeps the runs of a source, where its calls keep the parts.
use Rattle.std.proofs.Common.{◌≡◌, List, ◌∙◌}
use Rattle.std.specs.List.{AllByRecursion}
use Rattle.cm_base.specs.Parts.{Inputs, Part, Init, Send, Frame}
use Rattle.cm_base.specs.Players.{Source}
use Rattle.cm_base.specs.Tasks.{AreInputs, IsPart}
use Rattle.wasm_tree.specs.declared.interface.Interface.TheVariants.{Single}
use Rattle.wasm_tree.specs.declared.module.Module.{Module}
use Rattle.wasm_tree.specs.HostRun.{Instance, first_instance, module_player}
use Rattle.wasm_tree.specs.Keeps.{KeepsRuns}
use Rattle.wasm_tree.specs.Section.{CmajorSection}
use Rattle.wasm_tree.specs.Stopped.{KeepsStopped}
use Rattle.wasm_runs.specs.Calling.{Keeping, CallsKeep, SinglesKeep, IsFree, OwesSingles, CanResume}
use Rattle.wasm_runs.specs.Follows.{KeepsPart, KeepsParts}
use Rattle.wasm_runs.proofs.Calls.{send_keeps, init_keeps, single_keeps}
use Rattle.wasm_runs.proofs.Growth.{module_grows}
use Rattle.wasm_runs.proofs.Relations.{Relation, relation_keeps}
use Rattle.wasm_runs.proofs.Stopped.{stopped_keep}

-- each part after the inits
part_keeps : {World : Type 0} (Kept : Keeping World) (m : Module) (section : CmajorSection) (source : Source World) → section.interface ≡ Single → CallsKeep Kept m section source → SinglesKeep Kept m section source →
    (part : Part) (coming : List Inputs) (world : World) (instance : Instance) → IsPart source.ends part → AllByRecursion (AreInputs source.ends) coming → IsFree Kept source.player.told world instance →
    KeepsPart source.cost (IsFree Kept source.player.told) source.player (module_player m section) part coming world instance
part_keeps Kept m section source interface calls frames Init coming world instance is fit free = absurd is
part_keeps Kept m section source interface calls frames (Send frame endpoint value inputs) coming world instance is fit free =
    send_keeps Kept m section source (IsFree Kept source.player.told) calls frame endpoint value inputs coming world instance (λ x y here. here) is.0 is.1 free
part_keeps Kept m section source interface calls frames (Frame frame inputs) coming world instance is fit free =
    single_keeps Kept m section source interface frames frame inputs coming world instance is free

-- the relation of worlds and instances, whatever comes next
parts_keep : {World : Type 0} (Kept : Keeping World) (m : Module) (section : CmajorSection) (source : Source World) → section.interface ≡ Single → CallsKeep Kept m section source → SinglesKeep Kept m section source →
    KeepsParts source.ends source.cost (λ coming. IsFree Kept source.player.told) source.player (module_player m section)
parts_keep Kept m section source interface calls frames = record {
  source_grows = calls.grows;
  target_grows = module_grows m section;
  agree = record {
    tells = λ coming world instance free. free.tells;
    sets = λ coming endpoint value world instance taken free. record {
      block = free.block;
      tells = calls.grows.sets endpoint value world ∙ free.tells;
      kept = calls.sets endpoint value world instance.current instance.globals instance.memory taken free.kept;
    };
  };
  parts = part_keeps Kept m section source interface calls frames;
}

-- what a module of interface 1 owes gives the relation
singles_relation : {World : Type 0} (Kept : Keeping World) (m : Module) (section : CmajorSection) (source : Source World) → OwesSingles Kept m section source → Relation Kept m section source
singles_relation Kept m section source owes = record {
  R = λ coming. IsFree Kept source.player.told;
  parts = parts_keep Kept m section source owes.interface owes.calls owes.frames;
  frees = λ world instance free. free;
  relates = λ coming world instance free. free;
  init = λ coming. init_keeps Kept m section source (IsFree Kept source.player.told) coming (first_instance m section) (λ x y free. free) owes.nothing_told owes.init;
  lawful = owes.lawful;
  endpoints = owes.endpoints;
}

-- the runs of a module of interface 1
pub singles_keep : {World : Type 0} (Kept : Keeping World) (m : Module) (section : CmajorSection) (source : Source World) → OwesSingles Kept m section source → KeepsRuns source m section
singles_keep Kept m section source owes = relation_keeps Kept m section source (singles_relation Kept m section source owes)

-- and those that are stopped and resumed
pub singles_stopped : {World : Type 0} (Kept : Keeping World) (m : Module) (section : CmajorSection) (source : Source World) → OwesSingles Kept m section source → CanResume Kept m section source → KeepsStopped source m section
singles_stopped Kept m section source owes can = stopped_keep Kept m section source (singles_relation Kept m section source owes) can
