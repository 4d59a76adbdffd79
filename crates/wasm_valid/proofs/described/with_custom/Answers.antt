use Rattle.std.proofs.Common.{◌≡◌, subst, rules}
use Rattle.wasm_tree.specs.Section.{named_cmajor}
use Rattle.wasm_valid.specs.Described.{IsNamed}
use Rattle.wasm_valid.specs.declared.described.Named.TheVariants as named
use Rattle.wasm_valid.proofs.DescribedLemmas.{further_custom}
use Rattle.wasm_valid.proofs.described.with_custom.Goals as goal

pub returns-in-More : goal.returns-in-More
returns-in-More c = λ customs h.
    let more : c.args.found ≡ named.More = search rules in
    further_custom c.args.custom.now (search rules) customs (subst (λ found. IsNamed (named_cmajor customs) found) more h)
