use Rattle.std.proofs.Common.{◌≡◌, true}
use Rattle.std.specs.Str.{bytes_eq}
use Rattle.cm_io.proofs.FileLemmas.{place_found}
use Rattle.cm_io.proofs.files.place_of.Goals as goal

pub returns-then-eq-clause-found : goal.returns-then-eq-clause-found
returns-then-eq-clause-found c =
    let same : bytes_eq c.index-files-at.result.0 c.args.name.now ≡ true = cc in
    λ bytes. place_found c.args.files.now c.args.name.now bytes c.loop-at.at c.index-files-at.result c.loop-at-test.true c.index-files-at.is same (c.loop-at.invariant bytes)
