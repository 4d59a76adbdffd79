use Rattle.std.proofs.Common.{◌≡◌, drop, ◌++◌, option_map}
use Rattle.serde_json.specs.View.{items_view}
use Rattle.patch_manifest.specs.Manifest.{texts_of}
use Rattle.patch_manifest.proofs.properties.texts_of.Given as goal

abbrev pub invariant-loop-value : goal.invariant-loop-value
invariant-loop-value l = texts_of (items_view l.values) ≡ option_map (λ more. l.texts ++ more) (texts_of (items_view (drop l.value-index l.values)))
