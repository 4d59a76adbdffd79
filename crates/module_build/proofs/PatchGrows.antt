-- A player of a patch only adds to what it told.
use Rattle.std.proofs.Common.{ℕ, List, refl, sym}
use Rattle.cm_base.specs.declared.play.Item.{Item}
use Rattle.cm_base.specs.Players.{Left, Goes, Spent, Traps}
use Rattle.cm_meaning.specs.Linked.{Linked}
use Rattle.cm_meaning.specs.World.{World}
use Rattle.cm_meaning.specs.PatchRun.{patch_player, perform}
use Rattle.meaning_laws.specs.Laws.{Prefix, told_left}
use Rattle.meaning_laws.proofs.Runs.{perform_grows}
use Rattle.wasm_tree.specs.Keeps.{IsFront}
use Rattle.wasm_runs.specs.Follows.{told_after, Grows}

front_of_prefix : (a : List Item) (left : Left World) → Prefix a (told_left left) → IsFront a (told_after (λ (w : World). w.trace) left)
front_of_prefix a (Goes w) (c, e) = record { rest = c; joined = sym e }
front_of_prefix a (Spent w) (c, e) = record { rest = c; joined = sym e }
front_of_prefix a (Traps w) (c, e) = record { rest = c; joined = sym e }

pub patch_grows : (l : Linked) (depth : ℕ) → Grows (patch_player l depth)
patch_grows l depth = record {
  sets = λ endpoint value world. refl;
  parts = λ n part coming world. front_of_prefix world.trace (perform l depth n part world) (perform_grows l depth n part world);
}
