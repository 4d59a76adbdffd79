use Rattle.std.proofs.Common.{◌≡◌, ◌-◌, ◌∙◌, ap, Some, length, arith, rules, refl}
use Rattle.wasm_valid.specs.declared.operands.Frame.{Frame}
use Rattle.wasm_valid.proofs.FrameLemmas.{label_from}
use Rattle.wasm_valid.proofs.operands.Operands.label.Goals as goal

pub returns : goal.returns
returns c =
    let n : c.len.result ≡ length c.self.inside.outer.items = search rules in
    let m : c.len-2.result ≡ length c.self.inside.outer.items = search rules in
    rw (← c.self.view_is) (ap (λ (f : Frame). Some f.label) c.index.ensures ∙ label_from c.self.inside.ended c.self.inside.types.items c.self.inside.inner c.self.inside.outer.items c.args.number (c.len-2.result - c.args.number) c.index.result.now (search rules) (search rules) (omega arith) (rw m refl))
