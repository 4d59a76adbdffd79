-- Scopes as a table keeps them: a log of what was opened and declared, and for each name a stack of what it stood for. What
-- is found is what the scopes say, from the innermost outward: docs/LANGUAGE.md, "Names".
use Rattle.std.specs.Prelude.{◌≡◌, ℕ, ◌<◌, ◌≤◌, ◌==◌, Bool, true, false, if◌then◌else◌, List, [], ◌∷◌, ◌++◌, length, Option, Some, None, slice_index_or}
use Rattle.std.specs.Option.{option_or}
use Rattle.name_scopes.specs.declared.table.Entry.{Entry}
use Rattle.name_scopes.specs.declared.table.Step.{Step}
use Rattle.name_scopes.specs.declared.table.Step.TheVariants as step

-- names are numbers below `names`; the innermost scope comes first, and in a scope the newest declaration
pub record Visible : Type 0 where
  pub names : ℕ
  pub scopes : List (List Entry)

-- ---- look-up

unfoldable pub found_in : ℕ → List Entry → Option ℕ
found_in n [] = None
found_in n (e ∷ es) = if e.name == n then Some e.declaration else found_in n es

-- from the innermost scope outward
unfoldable pub found : ℕ → List (List Entry) → Option ℕ
found n [] = None
found n (scope ∷ outer) = option_or (found_in n scope) (found n outer)

-- ---- scopes

abbrev pub with_entry : Entry → List (List Entry) → List (List Entry)
with_entry e [] = (e ∷ []) ∷ []
with_entry e (scope ∷ outer) = (e ∷ scope) ∷ outer

abbrev pub outer_of : List (List Entry) → List (List Entry)
outer_of [] = []
outer_of (scope ∷ outer) = outer

-- what a step makes of scopes
abbrev pub after : List (List Entry) → Step → List (List Entry)
after scopes step.Entered = [] ∷ scopes
after scopes (step.Declared e) = with_entry e scopes

unfoldable pub opened_in : List (List Entry) → List Step → List (List Entry)
opened_in scopes [] = scopes
opened_in scopes (s ∷ steps) = opened_in (after scopes s) steps

-- the scopes that a log opens
abbrev pub opened : List Step → List (List Entry)
opened steps = opened_in [] steps

-- ---- stacks

abbrev pub one_if : Bool → ℕ → List ℕ
one_if true d = d ∷ []
one_if false d = []

-- what a step puts on the stack of a name
abbrev pub put_on : ℕ → Step → List ℕ
put_on n step.Entered = []
put_on n (step.Declared e) = one_if (e.name == n) e.declaration

-- what a name has stood for, the newest last
unfoldable pub stack_of : ℕ → List Step → List ℕ
stack_of n [] = []
stack_of n (s ∷ steps) = put_on n s ++ stack_of n steps

pub record IsStacked (stacks : List (List ℕ)) (steps : List Step) : Type 0 where
  pub each : (n : ℕ) → n < length stacks → slice_index_or stacks n [] ≡ stack_of n steps
  -- a name that has no stack is declared nowhere
  pub past : (n : ℕ) → length stacks ≤ n → stack_of n steps ≡ []
