use Rattle.std.proofs.Common.{refl}
use Rattle.patch_rows.specs.Measured.{measured}
use Rattle.patch_rows.proofs.sizes.handlers_count_for_each_chain.Goals as goal

-- the graph is too large for `search`
pub returns : goal.returns
unfolding measured
returns c = refl
