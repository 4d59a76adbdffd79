use Rattle.std.proofs.Common.{ℕ, sym, ap, subst, ◌∙◌}
use Rattle.wasm_tree.specs.Refusal.{IsSectionAt, IsCmajorAt}
use Rattle.section_reader.specs.declared.place.Wanted.{Wanted}
use Rattle.section_reader.proofs.PlaceLaws.{place_in, is_place, section_found, cmajor_found}
use Rattle.section_reader.proofs.place.offset_of.Goals as goal

pub returns-clause-section : goal.returns-clause-section
returns-clause-section c id there w o h =
    let place = is_place c.args.wanted c.args.others c.args.bytes.now c.split_at.result.1.now c.min.result c.in_ok-left.left c.saturating_sub.result c.min.ensures c.split_at.ensures.back c.in_ok-left.ensures c.saturating_sub.ensures in
    subst (λ (n : ℕ). IsSectionAt id n c.args.bytes.now) (sym (place ∙ ap (λ (n : ℕ). place_in c.args.wanted n c.args.bytes.now) o ∙ ap (λ (x : Wanted). place_in x 0 c.args.bytes.now) w)) (section_found id there c.args.bytes.now h)

pub returns-clause-cmajor : goal.returns-clause-cmajor
returns-clause-cmajor c there w h =
    let place = is_place c.args.wanted c.args.others c.args.bytes.now c.split_at.result.1.now c.min.result c.in_ok-left.left c.saturating_sub.result c.min.ensures c.split_at.ensures.back c.in_ok-left.ensures c.saturating_sub.ensures in
    subst (λ (n : ℕ). IsCmajorAt c.args.others n c.args.bytes.now) (sym (place ∙ ap (λ (x : Wanted). place_in x c.args.others c.args.bytes.now) w)) (cmajor_found c.args.others there c.args.bytes.now h)
