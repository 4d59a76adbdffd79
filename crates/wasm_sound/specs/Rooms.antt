-- How much the functions of a module hold, by number, and the rules that follow. Functions don't call themselves through
-- others (this project's own limit), so there is a number for each function with all that it calls.
use Rattle.std.specs.Prelude.{ℕ, ◌+◌, ◌<◌, ◌≤◌, Contains, List}
use Rattle.wasm_tree.specs.declared.module.ExportKind.TheVariants as exported
use Rattle.wasm_tree.specs.declared.module.Module.{Module}
use Rattle.wasm_tree.specs.Instance.{funcs_of}
use Rattle.wasm_tree.specs.Numbers.{function_types}
use Rattle.wasm_sound.specs.Sound.{Scope}
use Rattle.wasm_sound.specs.Governed.{Rules}

pub record Rooms : Type 0 where
  -- locals and operands of the function itself, and its open labels with its own
  pub cells : ℕ → ℕ
  pub labels : ℕ → ℕ
  -- the same with those of the functions that it calls, one in another
  pub all_cells : ℕ → ℕ
  pub all_labels : ℕ → ℕ

-- no function holds more, whichever it calls; and those that are called from outside hold no more than so much in all
abbrev pub within : Rooms → ℕ → ℕ → Rules
within rooms most_cells most_marks = record {
  Room = λ f cells labels. (cells ≤ rooms.cells f) × (labels ≤ rooms.labels f);
  Calls = λ f g. (rooms.cells f + rooms.all_cells g ≤ rooms.all_cells f) × (rooms.labels f + rooms.all_labels g ≤ rooms.all_labels f);
  Begins = λ f. (rooms.all_cells f ≤ most_cells) × (rooms.all_labels f ≤ most_marks);
}

-- what the functions of a module share
abbrev pub scope_of : Module → Scope
scope_of m = record { funcs = funcs_of m; types = function_types m; vars = m.globals }

-- the rooms of the functions of a module, of which those that are exported hold no more than so much in all
pub record AreRooms (m : Module) (rooms : Rooms) (most_cells most_marks : ℕ) : Type 0 where
  pub own_cells : (f : ℕ) → rooms.cells f ≤ rooms.all_cells f
  pub own_labels : (f : ℕ) → rooms.labels f ≤ rooms.all_labels f
  -- the imported function holds its argument
  pub emit_cells : 0 < rooms.cells 0
  pub emit_labels : 0 < rooms.labels 0
  pub begin : (name : List ℕ) (number : ℕ) → Contains m.exports (record { name = name; kind = exported.Function number }) →
      (rooms.all_cells number ≤ most_cells) × (rooms.all_labels number ≤ most_marks)
