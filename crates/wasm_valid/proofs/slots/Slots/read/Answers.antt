use Rattle.std.proofs.Common.{◌≡◌, ◌<◌, ◌∙◌, List, ℕ, length, get_or, min, subst, sym, ap, rules}
use Rattle.std.specs.List.{AllByRecursion}
use Rattle.cm_base.specs.declared.host.HostEnd.{HostEnd}
use Rattle.cm_base.specs.declared.host.Scalar.{Scalar}
use Rattle.cm_base.specs.HostEnds.{IsLawfulScalar}
use Rattle.wasm_valid.proofs.ScalarLemmas.{within_host, lawful_scalars, slot_of, read_is}
use Rattle.wasm_valid.proofs.slots.Slots.read.Goals as goal

pub bounds-as_slice-at : goal.bounds-as_slice-at
bounds-as_slice-at c =
    let host : c.args.end < length c.self.inside.host = within_host c.args.self.now c.self.inside.host c.self.inside.addresses c.args.end c.self.view_is c.self.invariant.0 c.requires.0 in
    search rules

pub bounds-as_slice-at-2 : goal.bounds-as_slice-at-2
bounds-as_slice-at-2 c =
    let host : c.args.end < length c.self.inside.host = within_host c.args.self.now c.self.inside.host c.self.inside.addresses c.args.end c.self.view_is c.self.invariant.0 c.requires.0 in
    search rules

pub read_scalars-requires-clause-lawful : goal.read_scalars-requires-clause-lawful
read_scalars-requires-clause-lawful c =
    let host = within_host c.args.self.now c.self.inside.host c.self.inside.addresses c.args.end c.self.view_is c.self.invariant.0 c.requires.0 in
    let end = c.index-as_slice-at.result in
    let shape : c.as_slice-shape.result.now ≡ (get_or c.self.inside.host c.args.end end).shape =
    c.as_slice-shape.ensures ∙ ap (λ (l : List HostEnd). (get_or l c.args.end end).shape) c.as_slice.ensures in
    subst (AllByRecursion IsLawfulScalar) (sym shape) (lawful_scalars c.self.inside.host c.args.end end c.self.invariant.1 host)

pub read_scalars-requires-clause-places : goal.read_scalars-requires-clause-places
read_scalars-requires-clause-places c =
    let host = within_host c.args.self.now c.self.inside.host c.self.inside.addresses c.args.end c.self.view_is c.self.invariant.0 c.requires.0 in
    let end = c.index-as_slice-at.result in
    let shape : c.as_slice-shape.result.now ≡ (get_or c.self.inside.host c.args.end end).shape =
    c.as_slice-shape.ensures ∙ ap (λ (l : List HostEnd). (get_or l c.args.end end).shape) c.as_slice.ensures in
    let there = slot_of c.args.self.now c.self.inside.host c.self.inside.addresses c.args.end end c.self.view_is c.self.invariant.0 host in
    c.requires.1 _ there ∙ ap (λ (l : List Scalar). length l) (sym shape)

pub returns : goal.returns
returns c =
    let host = within_host c.args.self.now c.self.inside.host c.self.inside.addresses c.args.end c.self.view_is c.self.invariant.0 c.requires.0 in
    let end = c.index-as_slice-at.result in
    let shape : c.as_slice-shape.result.now ≡ (get_or c.self.inside.host c.args.end end).shape =
    c.as_slice-shape.ensures ∙ ap (λ (l : List HostEnd). (get_or l c.args.end end).shape) c.as_slice.ensures in
    read_is c.args.self.now c.self.inside.host c.self.inside.addresses c.args.end end c.as_slice-shape.result.now c.args.memory.now c.split_at.result.1.now c.min.result c.read_scalars.new.into c.self.view_is c.self.invariant.0 host shape
    (c.min.ensures ∙ ap (λ (l : List ℕ). min (get_or l c.args.end 0) (length c.args.memory.now)) c.as_slice-2.ensures) c.split_at.ensures.back c.read_scalars.ensures
