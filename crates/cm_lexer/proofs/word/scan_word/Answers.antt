use Rattle.std.proofs.Common.{◌≡◌, ℕ, take, sym, subst}
use Rattle.cm_tree.specs.Pieces.{Passes, is_word_byte}
use Rattle.cm_lexer.proofs.Runs.{run_passes}
use Rattle.cm_lexer.proofs.word.scan_word.Goals as goal

pub name_of-requires : goal.name_of-requires
name_of-requires c = subst (λ (n : ℕ). Passes is_word_byte (take n c.args.text.now)) (sym c.word_len-len.ensures.value) (run_passes is_word_byte c.args.text.now)
