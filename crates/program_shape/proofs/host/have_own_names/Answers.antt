use Rattle.std.proofs.Common.{◌≡◌, ◌≢◌, ◌∙◌, ◌+◌, ◌-◌, ◌<◌, None, List, ℕ, length, drop, sym, subst, arith, rules}
use Rattle.std.specs.HashMap.{get_by}
use Rattle.std.specs.List.{AllByRecursion}
use Rattle.std.specs.Str.{bytes_eq}
use Rattle.std.proofs.lemmas.Map.Text.{hash_map_updates_str}
use Rattle.cm_base.specs.HostEnds.{AreDistinct, names_of}
use Rattle.program_shape.proofs.NamesApart.{position_drop, none_has, no_value, distinct_drop}
use Rattle.program_shape.proofs.host.have_own_names.Goals as goal

pub loop-number-preserved : goal.loop-number-preserved
loop-number-preserved c =
    let before = c.loop-number.number - 1 in
    let ends = c.args.ends.now in
    let end = c.index-ends-number.result in
    let within : before < length ends = search rules in
    let again : before + 1 ≡ c.loop-number.number = omega (arith, c.loop-number-test.true) in
    let same : c.as_str.result.now ≡ end.name = search rules in
    let empty : c.in_ok-insert.field-0 ≡ None = no_value c.in_ok-insert.field-0 (sym c.if-is_some.ensures) in
    let missing : get_by (λ key. bytes_eq c.as_str.result.now key.now) c.loop-number.numbers ≡ None = sym c.in_ok-insert.ensures.old ∙ empty in
    let apart = none_has c.as_str.result.now c.loop-number.number (drop c.loop-number.number ends) (sym (c.loop-number.invariant.0 c.as_str.result.now) ∙ missing) in
    let others = subst (λ (name : List ℕ). AllByRecursion (λ other. other ≢ name) (names_of (drop c.loop-number.number ends))) same apart in (
      (λ name.
          let put = hash_map_updates_str c.as_str.result.now c.loop-number.numbers c.insert.new.self _ c.in_ok-insert.ensures.updates name in
          let here = position_drop name ends before end within c.index-ends-number.is in
          rw (here, again, sym (c.loop-number.invariant.0 name), sym same) put),
      distinct_drop ends before end within c.index-ends-number.is
          (subst (λ (n : ℕ). AllByRecursion (λ other. other ≢ end.name) (names_of (drop n ends))) (sym again) others)
          (subst (λ (n : ℕ). AreDistinct (names_of (drop n ends))) (sym again) c.loop-number.invariant.1),
    )
