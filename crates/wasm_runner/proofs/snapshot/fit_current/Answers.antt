-- Endpoint by endpoint.
use Rattle.std.proofs.Common.{◌≡◌, ◌+◌, List, length, min, drop, ap, sym, ◌∙◌, subst, ◌↔◌, refl, rules}
use Rattle.std.specs.Prelude.{IsTrue}
use Rattle.cm_base.specs.declared.host.Scalar.{Scalar}
use Rattle.cm_base.specs.Scripts.{HasShape}
use Rattle.wasm_runner.specs.Snapshots.{kept_kinds}
use Rattle.wasm_runner.proofs.Current as C
use Rattle.wasm_runner.proofs.snapshot.fit_current.Goals as goal
use Rattle.wasm_runner.proofs.snapshot.fit_current.Goals.{then-is_value_input+else-not-has_shape, else-is_value_input}

pub returns-then-not-has_shape : goal.returns-then-not-has_shape
returns-then-not-has_shape c =
    let shape = c.as_slice-shape.ensures in
    let size : c.min.result ≡ min (length c.end-item.result.shape) (length c.loop-end.rest.now) = c.min.ensures ∙ ap (λ (kinds : List Scalar). min (length kinds) (length c.loop-end.rest.now)) shape in
    let next = C.next c.args.ends.now c.loop-end.end-index c.end-item.result c.loop-end-test.true c.end-item.is (HasShape (kept_kinds c.args.ends.now) c.args.current.now) c.loop-end.rest.now c.loop-end.invariant
    (sym c.is_value_input.ensures ∙ c.if-is_value_input.true) c.min.result size c.split_at.result.0.now c.split_at.ensures.front in
    ((λ t. absurd (search rules)), (λ h. subst IsTrue c.if-not-has_shape.true (c.has_shape.ensures.1 (subst (λ kinds. HasShape kinds c.split_at.result.0.now) (sym shape) (next h)))))

pub loop-end-preserved : goal.loop-end-preserved
loop-end-preserved c = elim c.if-is_value_input.branch [
  | then-is_value_input+else-not-has_shape w ↦
      (let shape = w.as_slice-shape.ensures in
      let size : w.min.result ≡ min (length c.end-item.result.shape) (length c.loop-end.rest.now) = w.min.ensures ∙ ap (λ (kinds : List Scalar). min (length kinds) (length c.loop-end.rest.now)) shape in
      let fits : HasShape c.end-item.result.shape w.split_at.result.0.now = subst (λ kinds. HasShape kinds w.split_at.result.0.now) shape (w.has_shape.ensures.0 (subst IsTrue (sym w.if-not-has_shape.false) refl)) in
      C.went c.args.ends.now c.loop-end.end-index c.end-item.result c.loop-end-test.true c.end-item.is (HasShape (kept_kinds c.args.ends.now) c.args.current.now) c.loop-end.rest.now c.loop-end.invariant
      (sym c.is_value_input.ensures ∙ w.if-is_value_input.true) w.min.result size w.split_at.result.0.now w.split_at.ensures.front
      c.if-is_value_input.rest.now (ap (λ r. r.now) w.rest-is ∙ w.split_at.ensures.back) fits)
  | else-is_value_input w ↦
      subst (λ rest. HasShape (kept_kinds c.args.ends.now) c.args.current.now ↔ HasShape (kept_kinds (drop (c.loop-end.end-index + 1) c.args.ends.now)) rest) (sym (ap (λ r. r.now) w.rest-is))
      (C.passed c.args.ends.now c.loop-end.end-index c.end-item.result c.loop-end-test.true c.end-item.is (HasShape (kept_kinds c.args.ends.now) c.args.current.now) c.loop-end.rest.now c.loop-end.invariant
      (sym c.is_value_input.ensures ∙ w.if-is_value_input.false))
]
