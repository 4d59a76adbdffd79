-- What a copy of a module is.
use Rattle.std.specs.Prelude.{ℕ, ◌≤◌, List, length}
use Rattle.wasm_tree.specs.declared.module.Module.{Module}
use Rattle.wasm_tree.specs.Section.{CmajorSection}
use Rattle.wasm_tree.specs.Spelled.{Spelled}
use Rattle.wasm_tree.specs.Valid.{Valid}

-- both spell one module, and the copy has at most as many bytes
pub record IsCopy (bytes copy : List ℕ) : Type 0 where
  pub m : Module
  pub spelled : Spelled bytes m
  pub again : Spelled copy m
  pub short : length copy ≤ length bytes

-- the bytes spell a valid module
pub record SpellValid (bytes : List ℕ) : Type 0 where
  pub m : Module
  pub section : CmajorSection
  pub spelled : Spelled bytes m
  pub valid : Valid m section
