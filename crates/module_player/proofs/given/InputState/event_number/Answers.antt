use Rattle.std.proofs.Common.{◌≡◌, ◌<◌, length, get_or, ap, sym, ◌∙◌, subst, rules, arith, vec_len}
use Rattle.std.proofs.lemmas.Grind.{get_or_default_zero}
use Rattle.wasm_tree.specs.Slots.{event_number}
use Rattle.module_player.specs.Given.{Given}
use Rattle.module_player.proofs.Numbered.{number_is, numbers_many}
use Rattle.module_player.proofs.given.InputState.event_number.Goals as goal

pub index-requires : goal.index-requires
index-requires c =
    let l : c.args.end < length c.self.inside.slots = subst (λ (g : Given). c.args.end < length g.slots) (sym c.self.view_is) c.requires in
    let many : length c.self.inside.numbers.items ≡ length c.self.inside.slots = numbers_many c.self.inside.slots c.self.inside.numbers.items c.self.invariant.numbered in
    let size : vec_len c.self.inside.numbers ≡ length c.self.inside.numbers.items = search rules in
    omega (arith, l, many, size)

pub returns : goal.returns
returns c =
    let l : c.args.end < length c.self.inside.slots = subst (λ (g : Given). c.args.end < length g.slots) (sym c.self.view_is) c.requires in
    let many : length c.self.inside.numbers.items ≡ length c.self.inside.slots = numbers_many c.self.inside.slots c.self.inside.numbers.items c.self.invariant.numbered in
    let read : c.index.result.now ≡ get_or c.self.inside.numbers.items c.args.end c.index.result.now = search rules in
    let here = get_or_default_zero c.self.inside.numbers.items c.args.end c.index.result.now (omega (arith, l, many)) in
    read ∙ here ∙ (number_is c.self.inside.slots c.self.inside.numbers.items c.args.end c.self.invariant.numbered l ∙ ap (λ (g : Given). event_number g.slots c.args.end) c.self.view_is)
