-- Entry by entry.
use Rattle.std.proofs.Common.{◌≡◌, sym, ap, ◌∙◌, true, false, to_z, of_z, rules}
use Rattle.std.specs.Int.{w64}
use Rattle.std.specs.Str.{bytes_eq}
use Rattle.module_player.proofs.Starting.{start_found, start_passed}
use Rattle.module_player.proofs.played.start_value.Goals as goal

pub returns-then-eq : goal.returns-then-eq
returns-then-eq c =
    let t : bytes_eq c.entry-item.result.name c.args.end.now.name ≡ true = ap (λ b. bytes_eq b c.args.end.now.name) (sym c.as_bytes.ensures.value) ∙ ap (λ b. bytes_eq c.as_bytes.result.now b) (sym c.as_bytes-in-loop-entry.ensures.value) ∙ sym c.eq.ensures ∙ c.if-eq.true in
    let round : to_z w64 (of_z w64 c.entry-item.result.value) ≡ c.entry-item.result.value = search rules in
    round ∙ sym (start_found c.args.end.now c.args.range c.args.saved.now c.loop-entry.entry-index c.entry-item.result c.loop-entry-test.true c.entry-item.is t) ∙ c.loop-entry.invariant

pub loop-entry-preserved : goal.loop-entry-preserved
loop-entry-preserved c =
    let t : bytes_eq c.entry-item.result.name c.args.end.now.name ≡ false = ap (λ b. bytes_eq b c.args.end.now.name) (sym c.as_bytes.ensures.value) ∙ ap (λ b. bytes_eq c.as_bytes.result.now b) (sym c.as_bytes-in-loop-entry.ensures.value) ∙ sym c.eq.ensures ∙ c.if-eq.false in
    sym (start_passed c.args.end.now c.args.range c.args.saved.now c.loop-entry.entry-index c.entry-item.result c.loop-entry-test.true c.entry-item.is t) ∙ c.loop-entry.invariant
