use Rattle.std.proofs.Common.{◌<◌, length, sym, arith, inl, inr}
use Rattle.std.proofs.lemmas.Bool.Decides.{nat_tests}
use Rattle.patch_manifest.proofs.Texts.{few_texts_of-few, few_texts_of-out}
use Rattle.patch_manifest.proofs.properties.few_texts_of.Goals as goal
use Rattle.patch_manifest.proofs.properties.few_texts_of.Goals.{then-is_empty-via-then-is_empty, then-is_empty-via-else-is_empty+then-values-gt-MOST_SOURCES}

pub returns-then-is_empty : goal.returns-then-is_empty
returns-then-is_empty c = sym (few_texts_of-out c.args.values.now
    (elim c.then-is_empty.branch [
      | then-is_empty-via-then-is_empty w ↦ inl (grind (arith, nat_tests))
      | then-is_empty-via-else-is_empty+then-values-gt-MOST_SOURCES w ↦ inr (omega arith)
    ]))

pub returns : goal.returns
returns c =
    let some : 0 < length c.args.values.now = grind (arith, nat_tests) in
    rw (few_texts_of-few c.args.values.now some c.if-values-gt-MOST_SOURCES.false) c.texts_of.ensures
