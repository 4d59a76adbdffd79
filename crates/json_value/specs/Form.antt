-- How forms of JSON files are defined: the rules are judged one after another, and the first that fails is named.
use Rattle.std.specs.Prelude.{ℕ, ◌≡◌, ◌-◌, ◌^◌, min, List, ◌∷◌, ◌++◌, Option, Some, None, option_and_then, Result, Ok, Err, ℤ}
use Rattle.serde_json.specs.Data.{Data}
use Rattle.serde_json.specs.Find.{as_number, as_i64}
use Rattle.cm_base.specs.declared.forms.FormFault.{FormFault}
use Rattle.cm_base.specs.declared.forms.FormRule.{FormRule}
use Rattle.cm_base.specs.declared.forms.FormPart.{FormPart}
use Rattle.cm_base.specs.declared.forms.FormFail.{FormFail}
use Rattle.cm_base.specs.declared.forms.FormFail.TheVariants as fail

abbrev pub fault : FormRule → FormPart → ℕ → FormFault
fault rule part index = record { rule = rule; part = part; index = index }

-- what is there, or else this fault
abbrev pub or_fault : {X : Type 0} → FormFault → Option X → Result X FormFault
or_fault fault None = Err fault
or_fault fault (Some x) = Ok x

-- goes on with what was read, unless a rule failed
abbrev pub after : {X Y : Type 0} → Result X FormFault → (X → Result Y FormFault) → Result Y FormFault
after (Ok x) go = go x
after (Err fault) go = Err fault

-- one after what comes first
abbrev pub followed : {X : Type 0} → Result X FormFault → Result (List X) FormFault → Result (List X) FormFault
followed first others = after first (λ x. after others (λ xs. Ok (x ∷ xs)))

abbrev pub joined : {X : Type 0} → Result (List X) FormFault → Result (List X) FormFault → Result (List X) FormFault
joined first others = after first (λ xs. after others (λ ys. Ok (xs ++ ys)))

-- what was read before, and what is still read
abbrev pub with_front : {X : Type 0} → List X → Result (List X) FormFault → Result (List X) FormFault
with_front front read = after read (λ more. Ok (front ++ more))

-- an integer of 64 bits signed
abbrev pub integer_of : Data → Option ℤ
integer_of value = option_and_then as_i64 (as_number value)

-- an index that is told stands still at the end of its 32 bits
abbrev pub told : ℕ → ℕ
told index = min index (2 ^ 32 - 1)

-- what code answers for what is read, unless memory runs out
abbrev pub Answers : {X : Type 0} → Result X FormFail → Result X FormFault → Type 0
Answers (Ok x) read = read ≡ Ok x
Answers (Err (fail.Refused fault)) read = read ≡ Err fault
Answers (Err fail.NoMemory) read = Unit {0}
