use Rattle.std.proofs.Common.{flat_map, subst}
use Rattle.name_scopes.specs.Apart.{KeepsApart, word_itself}
use Rattle.name_scopes.proofs.ExactLemmas.{exactly-repeated, itself}
use Rattle.name_scopes.proofs.apart.check_apart.Goals as goal

pub returns : goal.returns
returns c = exactly-repeated (flat_map word_itself c.args.words.now) c.args.words.now c.keep_words.result c.keep_words.new.names (itself c.args.words.now)
    (subst (λ old. KeepsApart old (flat_map word_itself c.args.words.now) c.keep_words.result c.keep_words.new.names) c.new-names.ensures c.keep_words.ensures)
