-- State files of version 1: docs/COMMANDS.md, "State file". The rules are judged in the order in which they stand
-- here, and the first that fails is named.
use Rattle.std.specs.Prelude.{ℕ, ◌+◌, nat_eq, List, [], ◌∷◌, codes, Bool, if◌then◌else◌, Some, option_and_then, Result, Ok, Err}
use Rattle.std.specs.Option.{option_eq}
use Rattle.serde_json.specs.Data.{Data, Members, no_members, member}
use Rattle.serde_json.specs.Find.{get, as_number, as_object, as_u64}
use Rattle.cm_base.specs.declared.forms.FormFault.{FormFault}
use Rattle.cm_base.specs.declared.forms.FormRule.TheVariants.{Json, Shape, Version, Scalar}
use Rattle.cm_base.specs.declared.forms.FormPart.TheVariants.{Whole, Parameters}
use Rattle.cm_base.specs.declared.play.Saved.{Saved}
use Rattle.json_value.specs.Form.{fault, or_fault, after, integer_of, told}
use Rattle.json_value.specs.Value.{value_of}

-- the members of `parameters`, the first of which has this index: names and their values
abbrev pub saved_from : ℕ → Members → Result (List Saved) FormFault
saved_from index no_members = Ok []
saved_from index (member name value members) =
    after (or_fault (fault Scalar Parameters (told index)) (integer_of value)) (λ z.
    after (saved_from (index + 1) members) (λ saved. Ok (record { name = name; value = z } ∷ saved)))

-- the integer 1
abbrev pub is_one : Data → Bool
is_one value = option_eq nat_eq (option_and_then as_u64 (as_number value)) (Some 1)

-- an object with `version` and with `parameters`, which is an object; other members are not used
abbrev pub parameters_of : Data → Result (List Saved) FormFault
parameters_of value =
    after (or_fault (fault Shape Whole 0) (get (codes "parameters") value)) (λ parameters.
    after (or_fault (fault Shape Parameters 0) (as_object parameters)) (saved_from 0))

abbrev pub saved_of : Data → Result (List Saved) FormFault
saved_of value =
    after (or_fault (fault Shape Whole 0) (as_object value)) (λ members.
    after (or_fault (fault Shape Whole 0) (get (codes "version") value)) (λ version.
    if is_one version then parameters_of value else Err (fault Version Whole 0)))

-- the saved parameters of the file, or the rule that fails
abbrev pub version_1 : List ℕ → Result (List Saved) FormFault
version_1 bytes = after (or_fault (fault Json Whole 0) (value_of bytes)) saved_of
