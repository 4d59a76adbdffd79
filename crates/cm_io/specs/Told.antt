-- What an object tells of the bytes or items that it was given: nothing, or their whole list.
use Rattle.std.specs.Prelude.{ℕ, ◌≡◌, List, ◌++◌, take, Option, Some, None}

-- what is told after more came
abbrev pub appended : {A : Type 0} → Option (List A) → List A → Option (List A)
appended None more = None
appended (Some told) more = Some (told ++ more)

-- some of the first bytes of a piece came, none or all of them included
abbrev pub AppendsPrefix : Option (List ℕ) → Option (List ℕ) → List ℕ → Type 0
AppendsPrefix old new piece = (count : ℕ) × (new ≡ appended old (take count piece))
