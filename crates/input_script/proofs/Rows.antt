-- Worked rows of the definition.
use Rattle.std.proofs.Common.{◌≡◌, ℕ, List, [], ◌∷◌, codes, true, Some, None, Ok, Err, refl, pos, negsuc}
use Rattle.serde_json.specs.Data.{Data, unsigned, boolean, number, string, array, object, no_items, item, no_members, member}
use Rattle.cm_base.specs.declared.forms.FormRule.TheVariants as rule
use Rattle.cm_base.specs.declared.forms.FormPart.TheVariants as part
use Rattle.cm_base.specs.declared.host.Scalar.TheVariants.{Int32, Bool as Truth, Wrap}
use Rattle.cm_base.specs.declared.host.Flow.TheVariants.{Input}
use Rattle.cm_base.specs.declared.host.Kind.TheVariants as kinds
use Rattle.cm_base.specs.declared.host.HostEnd.{HostEnd}
use Rattle.cm_number.specs.Conversion.{nearest, to_signed, to_wrap, to_bool, floor_modulus}
use Rattle.json_value.specs.Form.{fault}
use Rattle.input_script.specs.Script.{script_of}

stream : HostEnd
stream = record { flow = Input; kind = kinds.Stream; name = codes "in"; shape = Int32 ∷ []; parameter = None }

gain : HostEnd
gain = record { flow = Input; kind = kinds.Value; name = codes "gain"; shape = Int32 ∷ []; parameter = Some (record { min = negsuc 9; max = pos 10; init = pos 1 }) }

notes : HostEnd
notes = record { flow = Input; kind = kinds.Event; name = codes "notes"; shape = Wrap 5 ∷ Truth ∷ []; parameter = None }

abbrev count : ℕ → Data
count n = number (unsigned n)

-- an array of a frame, a name and a value
abbrev entry : ℕ → List ℕ → Data → Data
entry frame name value = array (item (count frame) (item (string name) (item value no_items)))

two_frames : script_of (stream ∷ []) (object (member (codes "frames") (count 2) (member (codes "streams") (object (member (codes "in") (array (item (count 1) (item (count 4294967295) no_items))) no_members)) no_members)))
    ≡ Ok (record { frames = 2; streams = (pos 1 ∷ negsuc 0 ∷ []) ∷ []; values = []; events = [] })
unfolding stream to_signed floor_modulus
two_frames = refl

held_in_range : script_of (stream ∷ gain ∷ []) (object (member (codes "frames") (count 1) (member (codes "values") (array (item (entry 0 (codes "gain") (count 99)) no_items)) no_members)))
    ≡ Ok (record { frames = 1; streams = [] ∷ [] ∷ []; values = record { frame = 0; endpoint = 1; value = pos 10 ∷ [] } ∷ []; events = [] })
unfolding stream gain nearest to_signed floor_modulus
held_in_range = refl

an_event : script_of (notes ∷ []) (object (member (codes "events") (array (item (entry 0 (codes "notes") (array (item (count 7) (item (boolean true) no_items)))) no_items)) (member (codes "frames") (count 1) no_members)))
    ≡ Ok (record { frames = 1; streams = [] ∷ []; values = []; events = record { frame = 0; endpoint = 0; value = pos 2 ∷ pos 1 ∷ [] } ∷ [] })
unfolding notes to_wrap to_bool floor_modulus
an_event = refl

falling : script_of (gain ∷ []) (object (member (codes "frames") (count 2) (member (codes "values") (array (item (entry 1 (codes "gain") (count 0)) (item (entry 0 (codes "gain") (count 0)) no_items))) no_members)))
    ≡ Err (fault rule.Frame part.Values 1)
unfolding gain nearest to_signed floor_modulus
falling = refl
