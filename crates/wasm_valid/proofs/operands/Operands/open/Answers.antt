use Rattle.std.proofs.Common.{◌≡◌, length, false, refl, rules, ◌++◌, ◌∷◌, []}
use Rattle.wasm_valid.specs.declared.operands.Frame.{Frame}
use Rattle.wasm_valid.specs.Frames.{AreKept}
use Rattle.wasm_valid.proofs.FrameLemmas.{kept_open}
use Rattle.wasm_valid.proofs.operands.Operands.open.Goals as goal

pub invariant_of-self-2 : goal.invariant_of-self-2
invariant_of-self-2 c =
    let n : c.len.result ≡ length c.self.inside.types.items = search rules in
    let g : Frame = record { floor = c.len.result; label = c.args.label; result = c.args.gives; arm = c.args.arm; dead = false } in
    let h : AreKept c.self.inside.ended c.self.inside.types.items g (c.self.inside.outer.items ++ c.self.inside.inner ∷ []) =
    kept_open c.self.inside.ended c.self.inside.types.items c.self.inside.inner g c.self.inside.outer.items c.args.label c.args.gives c.args.arm (rw (← c.self.view_is) at c.requires) c.self.invariant (rw n refl) in
    rw c.in_ok-push.ensures.items h
