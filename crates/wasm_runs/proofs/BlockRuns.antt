-- A module of interface 2 keeps the runs of a source, where its calls keep the parts.
use Rattle.std.proofs.Common.{◌≡◌, ℕ, suc, List, [], ◌∙◌, inl, inr, ℤ}
use Rattle.std.specs.List.{AllByRecursion}
use Rattle.cm_base.specs.declared.host.Kind.TheVariants as kinds
use Rattle.cm_base.specs.declared.play.Item.{Item}
use Rattle.cm_base.specs.Parts.{Inputs, Part, Init, Send, Frame}
use Rattle.cm_base.specs.Players.{Source}
use Rattle.cm_base.specs.Tasks.{AreInputs, IsTaken, IsPart, ahead}
use Rattle.wasm_tree.specs.declared.interface.Interface.TheVariants.{Blocks}
use Rattle.wasm_tree.specs.declared.module.Module.{Module}
use Rattle.wasm_tree.specs.HostRun.{Instance, first_instance, module_player}
use Rattle.wasm_tree.specs.Keeps.{KeepsRuns}
use Rattle.wasm_tree.specs.Section.{CmajorSection}
use Rattle.wasm_tree.specs.Stopped.{KeepsStopped}
use Rattle.wasm_runs.specs.Blocks.{Waiting, BlocksKeep, Related, OwesBlocks}
use Rattle.wasm_runs.specs.Calling.{Keeping, CallsKeep, IsFree, CanResume}
use Rattle.wasm_runs.specs.Follows.{KeepsPart, KeepsParts}
use Rattle.wasm_runs.proofs.Blocks.{frame_keeps}
use Rattle.wasm_runs.proofs.Calls.{send_keeps, init_keeps}
use Rattle.wasm_runs.proofs.Growth.{module_grows}
use Rattle.wasm_runs.proofs.Relations.{Relation, relation_keeps}
use Rattle.wasm_runs.proofs.Stopped.{stopped_keep}

-- what is told is the same
related_told : {World : Type 0} (Kept : Keeping World) (Waits : Waiting World) (told : World → List Item) (coming : List Inputs) (world : World) (instance : Instance) → Related Kept Waits told coming world instance → told world ≡ instance.trace
related_told Kept Waits told coming world instance (inl free) = free.tells
related_told Kept Waits told coming world instance (inr waiting) = waiting.tells

-- where no frame comes next no call waits
is_free : {World : Type 0} (Kept : Keeping World) (Waits : Waiting World) (told : World → List Item) (world : World) (instance : Instance) → Related Kept Waits told [] world instance → IsFree Kept told world instance
is_free Kept Waits told world instance (inl free) = free
is_free Kept Waits told world instance (inr waiting) = absurd (cc (waiting.comes))

-- a value is set only where no call waits, and keeps the relation
sets_related : {World : Type 0} (Kept : Keeping World) (Waits : Waiting World) (m : Module) (section : CmajorSection) (source : Source World) → CallsKeep Kept m section source →
    (coming : List Inputs) (endpoint : ℕ) (value : List ℤ) (world : World) (instance : Instance) → IsTaken kinds.Value source.ends endpoint value → Related Kept Waits source.player.told [] world instance →
    Related Kept Waits source.player.told coming (source.player.set endpoint value world) ((module_player m section).set endpoint value instance)
sets_related Kept Waits m section source calls coming endpoint value world instance taken related =
    let free = is_free Kept Waits source.player.told world instance related in
    inl (record {
      block = free.block;
      tells = calls.grows.sets endpoint value world ∙ free.tells;
      kept = calls.sets endpoint value world instance.current instance.globals instance.memory taken free.kept;
    })

-- each part after the inits
part_keeps : {World : Type 0} (Kept : Keeping World) (Waits : Waiting World) (m : Module) (section : CmajorSection) (size : ℕ) (source : Source World) → section.interface ≡ Blocks (suc size) → CallsKeep Kept m section source →
    BlocksKeep Kept Waits m section (suc size) source → (part : Part) (coming : List Inputs) (world : World) (instance : Instance) → IsPart source.ends part → AllByRecursion (AreInputs source.ends) coming →
    Related Kept Waits source.player.told (ahead part coming) world instance → KeepsPart source.cost (Related Kept Waits source.player.told coming) source.player (module_player m section) part coming world instance
part_keeps Kept Waits m section size source interface calls blocks Init coming world instance is fit related = absurd is
part_keeps Kept Waits m section size source interface calls blocks (Send frame endpoint value inputs) coming world instance is fit related =
    send_keeps Kept m section source (Related Kept Waits source.player.told coming) calls frame endpoint value inputs coming world instance (λ x y free. inl free) is.0 is.1
    (is_free Kept Waits source.player.told world instance related)
part_keeps Kept Waits m section size source interface calls blocks (Frame frame inputs) coming world instance is fit related =
    frame_keeps Kept Waits m section source size interface blocks frame inputs coming world instance is fit related

parts_keep : {World : Type 0} (Kept : Keeping World) (Waits : Waiting World) (m : Module) (section : CmajorSection) (size : ℕ) (source : Source World) → section.interface ≡ Blocks (suc size) → CallsKeep Kept m section source →
    BlocksKeep Kept Waits m section (suc size) source → KeepsParts source.ends source.cost (Related Kept Waits source.player.told) source.player (module_player m section)
parts_keep Kept Waits m section size source interface calls blocks = record {
  source_grows = calls.grows;
  target_grows = module_grows m section;
  agree = record { tells = related_told Kept Waits source.player.told; sets = sets_related Kept Waits m section source calls };
  parts = part_keeps Kept Waits m section size source interface calls blocks;
}

-- what a module of interface 2 owes gives the relation
blocks_relation : {World : Type 0} (Kept : Keeping World) (Waits : Waiting World) (m : Module) (section : CmajorSection) (size : ℕ) (source : Source World) → OwesBlocks Kept Waits m section size source → Relation Kept m section source
blocks_relation Kept Waits m section size source owes = record {
  R = Related Kept Waits source.player.told;
  parts = parts_keep Kept Waits m section size source owes.interface owes.calls owes.blocks;
  frees = is_free Kept Waits source.player.told;
  relates = λ coming world instance free. inl free;
  init = λ coming. init_keeps Kept m section source (Related Kept Waits source.player.told coming) coming (first_instance m section) (λ x y free. inl free) owes.nothing_told owes.init;
  lawful = owes.lawful;
  endpoints = owes.endpoints;
}

-- the runs of a module of interface 2
pub blocks_keep : {World : Type 0} (Kept : Keeping World) (Waits : Waiting World) (m : Module) (section : CmajorSection) (size : ℕ) (source : Source World) → OwesBlocks Kept Waits m section size source → KeepsRuns source m section
blocks_keep Kept Waits m section size source owes = relation_keeps Kept m section source (blocks_relation Kept Waits m section size source owes)

-- and those that are stopped and resumed
pub blocks_stopped : {World : Type 0} (Kept : Keeping World) (Waits : Waiting World) (m : Module) (section : CmajorSection) (size : ℕ) (source : Source World) → OwesBlocks Kept Waits m section size source → CanResume Kept m section source →
    KeepsStopped source m section
blocks_stopped Kept Waits m section size source owes can = stopped_keep Kept m section source (blocks_relation Kept Waits m section size source owes) can
