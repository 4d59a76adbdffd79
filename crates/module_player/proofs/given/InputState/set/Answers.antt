-- The value has the endpoint's shape.
use Rattle.std.proofs.Common.{◌≡◌, ◌<◌, length, get_or, ap, sym, ◌∙◌, subst, rules, arith, vec_len}
use Rattle.std.specs.Prelude.{slice_set}
use Rattle.cm_base.specs.declared.host.Kind.TheVariants as kinds
use Rattle.cm_base.specs.Scripts.{HasShape}
use Rattle.cm_base.specs.Tasks.{IsTaken}
use Rattle.module_player.specs.Given.{Given, given_by}
use Rattle.module_player.specs.Writing.{ends_in}
use Rattle.module_player.proofs.Filling.{taken_whole}
use Rattle.module_player.proofs.States.{taken_slot}
use Rattle.module_player.proofs.Written.{value_set, values_length, taken_long}
use Rattle.module_player.proofs.given.InputState.set.Goals as goal

pub index_mut-requires : goal.index_mut-requires
index_mut-requires c =
    let t = taken_slot kinds.Value c.self.inside.slots c.args.end c.args.value.now (subst (λ (g : Given). IsTaken kinds.Value (ends_in g.slots) c.args.end c.args.value.now) (sym c.self.view_is) c.requires) in
    let many : length c.self.inside.current.items ≡ length c.self.inside.slots = values_length c.self.inside.slots c.self.inside.current.items c.self.invariant.values in
    let size : vec_len c.self.inside.current ≡ length c.self.inside.current.items = search rules in
    omega (arith, t.below, many, size)

pub invariant_of-self : goal.invariant_of-self
invariant_of-self c =
    let t = taken_slot kinds.Value c.self.inside.slots c.args.end c.args.value.now (subst (λ (g : Given). IsTaken kinds.Value (ends_in g.slots) c.args.end c.args.value.now) (sym c.self.view_is) c.requires) in
    let old : c.index_mut.result.now ≡ get_or c.self.inside.current.items c.args.end c.index_mut.result.now = search rules in
    let long = taken_long c.self.inside.slots c.self.inside.current.items c.args.end t.slot c.args.value.now c.index_mut.result.now c.self.invariant.values t.found t.shape old in
    let is : c.take_first.new.into ≡ c.args.value.now = c.take_first.ensures ∙ taken_whole c.args.value.now c.index_mut.result.now long in
    record {
      values = value_set c.self.inside.slots c.self.inside.current.items c.args.end t.slot c.take_first.new.into c.self.invariant.values t.found (subst (HasShape t.slot.end.shape) (sym is) t.shape);
      long = c.self.invariant.long;
      numbered = c.self.invariant.numbered;
    }

pub returns : goal.returns
returns c =
    let t = taken_slot kinds.Value c.self.inside.slots c.args.end c.args.value.now (subst (λ (g : Given). IsTaken kinds.Value (ends_in g.slots) c.args.end c.args.value.now) (sym c.self.view_is) c.requires) in
    let old : c.index_mut.result.now ≡ get_or c.self.inside.current.items c.args.end c.index_mut.result.now = search rules in
    let long = taken_long c.self.inside.slots c.self.inside.current.items c.args.end t.slot c.args.value.now c.index_mut.result.now c.self.invariant.values t.found t.shape old in
    let is : c.take_first.new.into ≡ c.args.value.now = c.take_first.ensures ∙ taken_whole c.args.value.now c.index_mut.result.now long in
    ap (λ v. given_by c.self.inside.slots (slice_set c.self.inside.current.items c.args.end v)) is
    ∙ ap (λ (g : Given). given_by g.slots (slice_set g.current c.args.end c.args.value.now)) c.self.view_is
