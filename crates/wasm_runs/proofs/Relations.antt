-- A relation between the worlds of a source and the instances of a module, which the parts keep, and the runs
-- that come of it.
use Rattle.std.proofs.Common.{◌≡◌, List, [], sym, subst}
use Rattle.cm_base.specs.declared.host.HostEnd.{HostEnd}
use Rattle.cm_base.specs.HostEnds.{IsLawful}
use Rattle.cm_base.specs.Parts.{Inputs, Init, following, tasks_after_init}
use Rattle.cm_base.specs.Players.{Source}
use Rattle.cm_base.proofs.TaskLemmas.{tasks_fit}
use Rattle.wasm_tree.specs.declared.module.Module.{Module}
use Rattle.wasm_tree.specs.HostRun.{Instance, first_instance, module_player}
use Rattle.wasm_tree.specs.Keeps.{KeepsRuns}
use Rattle.wasm_tree.specs.Section.{CmajorSection, ends_of}
use Rattle.wasm_runs.specs.Calling.{Keeping, IsFree}
use Rattle.wasm_runs.specs.Follows.{KeepsPart, KeepsParts}
use Rattle.wasm_runs.proofs.Runs.{runs_keep}

-- The relation while these frames come next with nothing between. It says no more than `IsFree` where none comes
-- next, and no less anywhere; the inits lead to it.
pub record Relation {World : Type 0} (Kept : Keeping World) (m : Module) (section : CmajorSection) (source : Source World) : Type 1 where
  pub R : List Inputs → World → Instance → Type 0
  pub parts : KeepsParts source.ends source.cost R source.player (module_player m section)
  pub frees : (world : World) (instance : Instance) → R [] world instance → IsFree Kept source.player.told world instance
  pub relates : (coming : List Inputs) (world : World) (instance : Instance) → IsFree Kept source.player.told world instance → R coming world instance
  pub init : (coming : List Inputs) → KeepsPart source.cost (R coming) source.player (module_player m section) Init coming source.first (first_instance m section)
  pub lawful : IsLawful source.ends
  pub endpoints : ends_of section ≡ source.ends

-- the same over the endpoints of the section
pub section_parts : {World : Type 0} (Kept : Keeping World) (m : Module) (section : CmajorSection) (source : Source World) → (relation : Relation Kept m section source) →
    KeepsParts (ends_of section) source.cost relation.R source.player (module_player m section)
section_parts Kept m section source relation =
    subst (λ (ends : List HostEnd). KeepsParts ends source.cost relation.R source.player (module_player m section)) (sym relation.endpoints) relation.parts

pub section_lawful : {World : Type 0} (Kept : Keeping World) (m : Module) (section : CmajorSection) (source : Source World) → Relation Kept m section source → IsLawful (ends_of section)
section_lawful Kept m section source relation = subst IsLawful (sym relation.endpoints) relation.lawful

section_runs : {World : Type 0} (Kept : Keeping World) (m : Module) (section : CmajorSection) (source : Source World) → Relation Kept m section source → KeepsRuns (record source { ends = ends_of section }) m section
section_runs Kept m section source relation saved script frames are is few =
    let ends = ends_of section in
    let tasks = tasks_after_init ends saved script frames in
    runs_keep ends source.cost relation.R source.player (module_player m section) (section_parts Kept m section source relation)
    tasks source.first (first_instance m section) (tasks_fit ends saved script frames (section_lawful Kept m section source relation) are is) (relation.init (following tasks))

-- the runs that come of a relation
pub relation_keeps : {World : Type 0} (Kept : Keeping World) (m : Module) (section : CmajorSection) (source : Source World) → Relation Kept m section source → KeepsRuns source m section
relation_keeps Kept m section source relation =
    subst (λ (ends : List HostEnd). KeepsRuns (record source { ends = ends }) m section) relation.endpoints (section_runs Kept m section source relation)
