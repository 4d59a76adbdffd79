-- What is known of a module that was validated.
use Rattle.std.specs.Prelude.{ℕ}
use Rattle.wasm_tree.specs.declared.module.Module.{Module}
use Rattle.wasm_tree.specs.Section.{CmajorSection}
use Rattle.wasm_tree.specs.Valid.{Valid}
use Rattle.wasm_sound.specs.Reached.{AreBounds}

pub record Checked : Type 0 where
  pub of : Module
  pub section : CmajorSection
  pub stack : ℕ
  pub marks : ℕ

pub record IsChecked (checked : Checked) : Type 0 where
  pub valid : Valid checked.of checked.section
  pub bounds : AreBounds checked.of checked.stack checked.marks
