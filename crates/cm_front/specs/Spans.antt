-- How the tokens of files stand in their texts.
use Rattle.std.specs.Prelude.{◌<◌, ◌^◌, List, [], ◌∷◌, length}
use Rattle.cm_tree.specs.declared.tokens.Tokens.{Tokens}
use Rattle.cm_tree.specs.Pieces.{Text}
use Rattle.cm_tree.specs.Spans.{AreSpans}

-- the tokens of each file stand one behind another in its text
abbrev pub HaveSpans : List Text → List Tokens → Type 0
HaveSpans [] [] = Unit {0}
HaveSpans [] (tokens ∷ all) = ⊥
HaveSpans (text ∷ texts) [] = ⊥
HaveSpans (text ∷ texts) (tokens ∷ all) = AreSpans text tokens.list × HaveSpans texts all

-- each file has fewer tokens than can be parsed
abbrev pub AreFew : List Tokens → Type 0
AreFew [] = Unit {0}
AreFew (tokens ∷ all) = (length tokens.list < 2 ^ 31) × AreFew all
