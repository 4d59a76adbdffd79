-- Global by global.
use Rattle.std.proofs.Common.{◌≡◌, ◌<◌, ◌+◌, List, length, get_or, take, sym, ap, ◌∙◌, subst, arith}
use Rattle.std.specs.Prelude.{map}
use Rattle.wasm_sound.specs.Kinds.{AreOf}
use Rattle.wasm_tree.specs.declared.module.GlobalVar.{GlobalVar}
use Rattle.wasm_runner.proofs.First as F
use Rattle.wasm_runner.proofs.instance.globals_of.Goals as goal

pub loop-global-preserved : goal.loop-global-preserved
loop-global-preserved c =
    let vars : List GlobalVar = c.args.loaded.now.globals in
    let n = ap length c.as_slice-global-items.ensures in
    let t = c.loop-global-test.true in
    let h : c.loop-global.global-index < length c.args.loaded.now.globals = omega arith in
    let e : c.global-item.result ≡ get_or c.args.loaded.now.globals c.loop-global.global-index c.global-item.result = c.global-item.is ∙ ap (λ (l : List GlobalVar). get_or l c.loop-global.global-index c.global-item.result) c.as_slice-global-items.ensures in (
      c.in_ok-push.ensures.items ∙ F.first_more c.args.loaded.now.globals c.loop-global.global-index c.global-item.result _ _ c.loop-global.invariant.0 h e c.constant.ensures.value,
      subst (λ l. AreOf (map (λ (global : GlobalVar). global.ty) (take (c.loop-global.global-index + 1) c.args.loaded.now.globals)) l) (sym c.in_ok-push.ensures.items)
          (F.typed_more c.args.loaded.now.globals c.loop-global.global-index c.global-item.result _ _ c.requires c.loop-global.invariant.1 h e c.constant.ensures.fits32 c.constant.ensures.fits64),
    )
