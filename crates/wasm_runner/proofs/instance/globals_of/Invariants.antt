use Rattle.std.proofs.Common.{◌≡◌, take}
use Rattle.std.specs.Prelude.{map}
use Rattle.wasm_tree.specs.Instance.{constant_of}
use Rattle.wasm_sound.specs.Kinds.{AreOf}
use Rattle.wasm_runner.proofs.instance.globals_of.Given as goal

abbrev pub invariant-loop-global : goal.invariant-loop-global
invariant-loop-global l =
    (l.globals.items ≡ map (λ global. constant_of global.value) (take l.global-index l.loaded.globals)) × AreOf (map (λ global. global.ty) (take l.global-index l.loaded.globals)) l.globals.items
