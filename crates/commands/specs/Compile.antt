-- What `Ok` means for each command: docs/COMMANDS.md, "What is written".
use Rattle.std.specs.Prelude.{ℕ, ◌≡◌, List, Some, None}
use Rattle.cm_io.specs.Files.{Files, file_at}
use Rattle.cm_meaning.specs.Linked.{Linked}
use Rattle.module_build.specs.Build.{KeepsPatch, KeepsForm}
use Rattle.wasm_tree.specs.declared.module.Module.{Module}
use Rattle.wasm_tree.specs.Spelled.{Spelled}
use Rattle.commands.specs.Patch.{PatchOf}
use Rattle.commands.specs.Resuming.{IsResumed}
use Rattle.commands.specs.Words.{Command, Compile, Render, Play, Resume}

-- bytes that spell a module which keeps the patch
pub record IsModuleOf (patch : Linked) (bytes : List ℕ) : Type 0 where
  pub m : Module
  pub spelled : Spelled bytes m
  pub keeps : KeepsPatch patch m

-- the same of every patch of the form whose endpoints have these names
pub record IsFormModule (input output bytes : List ℕ) : Type 0 where
  pub m : Module
  pub spelled : Spelled bytes m
  pub keeps : KeepsForm input output m

-- the files hold a module of the patch under this name
pub record HoldsModule (files : Files) (name : List ℕ) (patch : Linked) : Type 0 where
  pub bytes : List ℕ
  pub held : file_at files name ≡ Some bytes
  pub is_module : IsModuleOf patch bytes

-- the file to write holds the module of the patch that the files held before
pub record IsCompiled (old new : Files) (manifest out : List ℕ) : Type 0 where
  pub patch : Linked
  pub is_patch : PatchOf old manifest patch
  pub written : HoldsModule new out patch

-- The command did its work. What `render`, `play` and `resume` tell is said for every answer.
abbrev pub IsDone : Command → Files → Files → Type 0
IsDone (Compile manifest out) old new = IsCompiled old new manifest out
IsDone (Render manifest input turns state) old new = Unit {0}
IsDone (Play wasm input steps) old new = Unit {0}
IsDone (Resume state input steps None) old new = Unit {0}
IsDone (Resume state input steps (Some name)) old new = IsResumed old new state input steps name
