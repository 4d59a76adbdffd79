use Rattle.std.proofs.Common.{ap, refl}
use Rattle.name_scopes.specs.Apart.{shared_words}
use Rattle.name_scopes.proofs.ApartLemmas.{keeps-none}
use Rattle.name_scopes.proofs.apart.keep_shared.Goals as goal

pub returns-in-Assert : goal.returns-in-Assert
returns-in-Assert c = keeps-none c.args.names.now c.args.names.now (shared_words c.args.shared.now) (ap shared_words c.in-Assert.is) refl
