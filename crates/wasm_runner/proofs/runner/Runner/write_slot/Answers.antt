-- An entry of a slot lies in the memory, which keeps its size.
use Rattle.std.proofs.Common.{◌≡◌, length, sym, ◌∙◌, subst, rules, List}
use Rattle.std.specs.List.{AllByRecursion}
use Rattle.std.specs.Prelude.{slice_get}
use Rattle.std.specs.Option.{IfSome}
use Rattle.wasm_tree.specs.Section.{Slot}
use Rattle.wasm_runner.specs.Entries.{IsShaped, HasEntry, LiesIn}
use Rattle.wasm_runner.specs.Running.{Running}
use Rattle.wasm_runner.proofs.Slotted as S
use Rattle.wasm_runner.proofs.runner.Runner.write_slot.Goals as goal

pub write_at-requires-clause-shaped : goal.write_at-requires-clause-shaped
write_at-requires-clause-shaped c = subst (AllByRecursion IsShaped) (sym c.table.ensures) (S.shaped c.self.inside.valid.of c.self.inside.valid.section c.module-module.ensures.valid)

pub write_at-requires-clause-within : goal.write_at-requires-clause-within
write_at-requires-clause-within c =
    let entry : HasEntry c.self.inside.valid.section c.args.end c.args.entry = subst (λ (r : Running). HasEntry r.of.section c.args.end c.args.entry) (sym c.self.view_is) c.requires.entry in
    let size : length c.deref_mut.result.now ≡ length c.self.inside.memory.items = search rules in
    subst (λ (slots : List Slot). IfSome (slice_get slots c.args.end) (LiesIn (length c.deref_mut.result.now) c.args.entry)) (sym c.table.ensures)
    (S.lies c.self.inside.valid.of c.self.inside.valid.section c.args.end c.args.entry (length c.deref_mut.result.now) c.module-module.ensures.valid (size ∙ c.self.invariant.memory) entry)
