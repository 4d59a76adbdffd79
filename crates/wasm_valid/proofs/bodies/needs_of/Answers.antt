use Rattle.std.proofs.Common.{◌≡◌, ◌++◌, ◌∷◌, [], length, ap, subst, arith, length-append}
use Rattle.std.specs.Prelude.{IfSome}
use Rattle.wasm_valid.specs.Bodies.{IsTypedAt}
use Rattle.wasm_valid.specs.RoomsOf.{IsNeedAt}
use Rattle.wasm_valid.proofs.EachLemmas.{typed_more}
use Rattle.wasm_valid.proofs.NeedLemmas.{needs_more}
use Rattle.wasm_valid.proofs.bodies.needs_of.Goals as goal

pub loop-at-preserved : goal.loop-at-preserved
loop-at-preserved c =
    let typed : IsTypedAt c.args.«module».now c.loop-at.at = subst (λ found. IfSome found (λ need. IsTypedAt c.args.«module».now c.loop-at.at)) c.in-Some.is c.in_ok-need.ensures.typed in
    let need : IsNeedAt c.args.«module».now c.in-Some.need c.loop-at.at = subst (λ found. IfSome found (λ need. IsNeedAt c.args.«module».now need c.loop-at.at)) c.in-Some.is c.in_ok-need.ensures.bounded in
    let pushed : c.push.new.self.items ≡ c.loop-at.needs.items ++ c.in-Some.need ∷ [] = c.in_ok-push-in-Some.ensures.items in
    let before = c.loop-at.invariant.count in
    let long = length-append c.loop-at.needs.items (c.in-Some.need ∷ []) in
    let now = ap length pushed in
    record {
      typed = typed_more c.args.«module».now c.loop-at.at c.loop-at.invariant.typed typed;
      needs = needs_more c.args.«module».now c.loop-at.needs.items c.push.new.self.items c.loop-at.at c.in-Some.need c.loop-at.invariant.needs before need pushed;
      count = omega arith;
    }
