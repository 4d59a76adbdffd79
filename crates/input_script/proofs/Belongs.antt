-- A script that is read belongs to the endpoints of the host.
use Rattle.std.proofs.Common.{◌≡◌, ℕ, ◌≤◌, nat_le, List, codes, Bool, true, false, if◌then◌else◌, Option, Some, None, option_and_then, Result, Ok, Err, IfOk, refl, subst, arith}
use Rattle.std.specs.List.{AllByRecursion}
use Rattle.std.proofs.lemmas.Bool.Decides.{nat_tests}
use Rattle.serde_json.specs.Data.{Data}
use Rattle.serde_json.specs.Find.{get, as_number, as_u64}
use Rattle.cm_base.specs.declared.forms.FormFail.{FormFail}
use Rattle.cm_base.specs.declared.forms.FormRule.TheVariants as rule
use Rattle.cm_base.specs.declared.forms.FormPart.TheVariants as part
use Rattle.cm_base.specs.declared.host.Kind.TheVariants as kinds
use Rattle.cm_base.specs.declared.host.HostEnd.{HostEnd}
use Rattle.cm_base.specs.declared.play.Script.{Script}
use Rattle.cm_base.specs.HostEnds.{IsLawfulEnd}
use Rattle.cm_base.specs.Scripts.{IsScript}
use Rattle.json_value.specs.Form.{after, or_fault, fault, Answers}
use Rattle.json_value.specs.Value.{value_of}
use Rattle.input_script.specs.Script.{streams_of, settings_of, few_frames, count_of, has_members, script_over, counted, script_of, script_in}
use Rattle.input_script.proofs.Found.{went, there, passed, ok_is}
use Rattle.input_script.proofs.OfStreams.{streams_are}
use Rattle.input_script.proofs.OfSettings.{settings_are, events_few}

few_is : (count frames : ℕ) (test : Bool) → nat_le count 1048576 ≡ test → (if test then Some count else None) ≡ Some frames → frames ≤ 1048576
few_is count frames true is h = let same : count ≡ frames = cc in subst (λ n. n ≤ 1048576) same (grind (arith, nat_tests, is))
few_is count frames false is h = absurd (cc)

count_is : (frames : ℕ) (number : Option ℕ) → option_and_then few_frames number ≡ Some frames → frames ≤ 1048576
count_is frames None h = absurd (cc)
count_is frames (Some count) h = few_is count frames (nat_le count 1048576) refl h

over_belongs : (ends : List HostEnd) (value : Data) (frames : ℕ) (script : Script) → AllByRecursion IsLawfulEnd ends → frames ≤ 1048576 → script_over ends value frames ≡ Ok script → IsScript ends script
over_belongs ends value frames script lawful few h =
    let streams = went (streams_of ends frames (get (codes "streams") value)) (λ streams. after (settings_of kinds.Value ends frames (get (codes "values") value)) (λ values. after (settings_of kinds.Event ends frames (get (codes "events") value)) (λ events. Ok (let one : Script = record { frames = frames; streams = streams; values = values; events = events } in one)))) script h in
    let values = went (settings_of kinds.Value ends frames (get (codes "values") value)) (λ values. after (settings_of kinds.Event ends frames (get (codes "events") value)) (λ events. Ok (let one : Script = record { frames = frames; streams = streams.x; values = values; events = events } in one))) script streams.gives in
    let events = went (settings_of kinds.Event ends frames (get (codes "events") value)) (λ events. Ok (let one : Script = record { frames = frames; streams = streams.x; values = values.x; events = events } in one)) script values.gives in
    let set = settings_are kinds.Value ends frames (get (codes "values") value) values.x lawful values.first in
    let sent = settings_are kinds.Event ends frames (get (codes "events") value) events.x lawful events.first in
    let one : Script = record { frames = frames; streams = streams.x; values = values.x; events = events.x } in
    subst (IsScript ends) (ok_is one script events.gives)
    (record {
      belongs = record {
        streams = streams_are ends frames (get (codes "streams") value) streams.x lawful streams.first;
        values = set.0;
        values_rise = set.1;
        events = sent.0;
        events_rise = sent.1;
      };
      limits = record { frames = few; events = events_few ends frames (get (codes "events") value) events.x lawful events.first };
    })

of_belongs : (ends : List HostEnd) (value : Data) (script : Script) → AllByRecursion IsLawfulEnd ends → script_of ends value ≡ Ok script → IsScript ends script
of_belongs ends value script lawful h =
    let object = passed (has_members value) (counted ends value) (fault rule.Shape part.Whole 0) script h in
    let count = went (or_fault (fault rule.Shape part.Whole 0) (get (codes "frames") value)) (λ count. after (or_fault (fault rule.Frames part.Frames 0) (count_of count)) (script_over ends value)) script object.gives in
    let frames = went (or_fault (fault rule.Frames part.Frames 0) (count_of count.x)) (script_over ends value) script count.gives in
    let few = count_is frames.x (option_and_then as_u64 (as_number count.x)) (there (fault rule.Frames part.Frames 0) (count_of count.x) frames.x frames.first) in
    over_belongs ends value frames.x script lawful few frames.gives

pub script_belongs : (ends : List HostEnd) (bytes : List ℕ) (script : Script) → AllByRecursion IsLawfulEnd ends → script_in ends bytes ≡ Ok script → IsScript ends script
script_belongs ends bytes script lawful h =
    let value = went (or_fault (fault rule.Json part.Whole 0) (value_of bytes)) (script_of ends) script h in
    of_belongs ends value.x script lawful value.gives

-- what code answers, where it is the script
pub answer_belongs : (ends : List HostEnd) (bytes : List ℕ) (answer : Result Script FormFail) → AllByRecursion IsLawfulEnd ends → Answers answer (script_in ends bytes) → IfOk answer (IsScript ends)
answer_belongs ends bytes (Ok script) lawful h = script_belongs ends bytes script lawful h
answer_belongs ends bytes (Err fail) lawful h = tt
