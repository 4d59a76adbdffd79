-- The value of bytes that are UTF-8, and of others.
use lib.Utf8.{encode}
use Rattle.std.proofs.Common.{◌≡◌, ℕ, ◌<◌, List, [], ◌∷◌, length, Bool, true, false, Option, Some, None, option_map, Result, Ok, Err, IfOk, IfSome, if◌then◌else◌, refl, sym, ◌∙◌, arith}
use Rattle.std.proofs.lemmas.Str.{is_utf8-from_IsUtf8, IsUtf8-from_is_utf8}
use Rattle.std.specs.Str.{IsUtf8, is_utf8, chars}
use Rattle.serde_json.specs.Data.{Data}
use Rattle.serde_json.specs.Read.{read}
use Rattle.serde_json.specs.View.{view}
use Rattle.serde_json.specs.declared.value.Value.{Value}
use Rattle.serde_json.proofs.OnLiterals.{serde_json_on_literals}
use Rattle.cm_base.specs.declared.failure.NoMemory.{NoMemory}
use Rattle.json_value.specs.Value.{value_of, IsSomeText}

pub value_of-text : (bytes : List ℕ) → IsUtf8 bytes → value_of bytes ≡ read bytes
unfolding value_of
value_of-text bytes text = rw (is_utf8-from_IsUtf8 bytes text)

without : (truth : Bool) (value : Option Data) → (truth ≡ true → ⊥) → (if truth then value else None) ≡ None
without true value absent = absurd (absent refl)
without false value absent = refl

pub value_of-no_text : (bytes : List ℕ) → ¬ IsUtf8 bytes → value_of bytes ≡ None
unfolding value_of
value_of-no_text bytes other = without (is_utf8 bytes) (read bytes) (λ text. other (IsUtf8-from_is_utf8 bytes text))

within : (truth : Bool) (value : Option Data) (found : Data) → (if truth then value else None) ≡ Some found → truth ≡ true
within true value found is = refl
within false value found is = absurd (cc)

empty : value_of [] ≡ None
unfolding value_of is_utf8 chars encode serde_json_on_literals
empty = refl

some : (bytes : List ℕ) (value : Data) → value_of bytes ≡ Some value → 0 < length bytes
some [] value is = let clash : Some value ≡ None = sym is ∙ empty in absurd (cc)
some (byte ∷ bytes) value is = omega arith

-- only a text that isn't empty has a value
pub IsSomeText-value_of : (bytes : List ℕ) (value : Data) → value_of bytes ≡ Some value → IsSomeText bytes
unfolding value_of
IsSomeText-value_of bytes value is = (IsUtf8-from_is_utf8 bytes (within (is_utf8 bytes) (read bytes) value is), some bytes value is)

-- so where a value was found
pub text_found : (bytes : List ℕ) (answer : Result (Option Value) NoMemory) → IfOk answer (λ found. option_map view found ≡ value_of bytes) → IfOk answer (λ found. IfSome found (λ _. IsSomeText bytes))
text_found bytes (Ok None) is = tt
text_found bytes (Ok (Some value)) is = IsSomeText-value_of bytes (view value) (sym is)
text_found bytes (Err fail) is = tt
