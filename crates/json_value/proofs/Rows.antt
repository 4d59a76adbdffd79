-- Worked rows of the definition.
use lib.Utf8.{encode}
use Rattle.std.proofs.Common.{◌≡◌, [], ◌∷◌, codes, None, refl}
use Rattle.std.specs.Str.{is_utf8, chars}
use Rattle.serde_json.proofs.OnLiterals.{serde_json_on_literals}
use Rattle.json_value.specs.Value.{value_of}

cut_short : value_of (codes "{\"CmajorVersion\":1,") ≡ None
unfolding value_of is_utf8 chars serde_json_on_literals
cut_short = refl

not_utf8 : value_of (34 ∷ 255 ∷ 34 ∷ []) ≡ None
unfolding value_of is_utf8 chars encode
not_utf8 = refl
