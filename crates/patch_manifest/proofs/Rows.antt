-- Worked rows of the definitions.
use Rattle.std.proofs.Common.{◌≡◌, [], ◌∷◌, codes, true, false, Some, None, option_map, option_and_then, refl}
use lib.Utf8.{encode}
use Rattle.std.specs.Str.{is_utf8, chars}
use Rattle.serde_json.specs.Data.{number, unsigned}
use Rattle.serde_json.specs.Find.{get}
use Rattle.serde_json.proofs.OnLiterals.{serde_json_on_literals}
use Rattle.json_value.specs.Value.{value_of}
use Rattle.patch_manifest.specs.Manifest.{id_of, sources_of, has_texts, is_wrong_path}
use Rattle.patch_manifest.specs.SourceName.{folder_of, file_name}

one : option_and_then (get (codes "CmajorVersion")) (value_of (codes "{\"CmajorVersion\":1}")) ≡ Some (number (unsigned 1))
unfolding value_of is_utf8 chars encode serde_json_on_literals
one = refl

-- of two members of one name the last counts
last_member : option_and_then id_of (value_of (codes "{\"ID\":\"x\",\"ID\":\"y\"}")) ≡ Some (codes "y")
unfolding value_of is_utf8 chars serde_json_on_literals
last_member = refl

two_sources : option_and_then sources_of (value_of (codes "{\"source\":[\"a\",\"b\"]}")) ≡ Some (codes "a" ∷ codes "b" ∷ [])
unfolding value_of is_utf8 chars serde_json_on_literals
two_sources = refl

no_sources : option_and_then sources_of (value_of (codes "{\"source\":[]}")) ≡ None
unfolding value_of is_utf8 chars serde_json_on_literals
no_sources = refl

no_text : option_map has_texts (value_of (codes "{\"name\":1}")) ≡ Some false
unfolding value_of is_utf8 chars serde_json_on_literals
no_text = refl

rooted : is_wrong_path (codes "/a") ≡ true
rooted = refl

below : is_wrong_path (codes "a/b") ≡ false
below = refl

in_folder : file_name (codes "a/b/p.cmajorpatch") (codes "../c") ≡ codes "a/b/../c"
unfolding folder_of
in_folder = refl

in_no_folder : file_name (codes "p.cmajorpatch") (codes "c") ≡ codes "c"
unfolding folder_of
in_no_folder = refl
