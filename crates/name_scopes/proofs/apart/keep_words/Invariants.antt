use Rattle.std.proofs.Common.{Ok, take, flat_map}
use Rattle.name_scopes.specs.Apart.{KeepsApart, word_itself}
use Rattle.name_scopes.proofs.apart.keep_words.Given as goal

abbrev pub invariant-loop-word : goal.invariant-loop-word
invariant-loop-word l = KeepsApart l.fn.names (flat_map word_itself (take l.word-index l.words)) (Ok tt) l.names
