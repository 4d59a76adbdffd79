-- The streams that are read belong to the endpoints.
use Rattle.std.proofs.Common.{◌≡◌, ℕ, zero, suc, ◌+◌, nat_le, List, [], ◌∷◌, ◌++◌, Bool, true, false, if◌then◌else◌, Option, Some, None, option_and_then, Ok, Err, refl, sym, ap, subst, ◌∙◌, ℤ, arith}
use Rattle.std.specs.Prelude.{slice_get, slice_set}
use Rattle.std.specs.Bool.{OnTrue, OnFalse}
use Rattle.std.specs.List.{AllByRecursion}
use Rattle.std.proofs.lemmas.Bool.Decides.{nat_tests}
use Rattle.serde_json.specs.Data.{Data, Items, no_items, item, Members, no_members, member}
use Rattle.serde_json.specs.Events.{items_len}
use Rattle.serde_json.specs.Find.{as_array, as_object}
use Rattle.cm_base.specs.declared.forms.FormRule.TheVariants as rule
use Rattle.cm_base.specs.declared.forms.FormPart.TheVariants as part
use Rattle.cm_base.specs.declared.host.Kind.{Kind}
use Rattle.cm_base.specs.declared.host.Kind.TheVariants as kinds
use Rattle.cm_base.specs.declared.host.HostEnd.{HostEnd}
use Rattle.cm_base.specs.HostEnds.{IsLawfulEnd}
use Rattle.cm_base.specs.Parts.{is_stream_input}
use Rattle.cm_base.specs.Scripts.{AreShaped, IsGiven, AreStreams}
use Rattle.json_value.specs.Form.{after, or_fault, fault}
use Rattle.input_script.specs.declared.at.At.{At}
use Rattle.input_script.specs.declared.streams.Given.{Given}
use Rattle.input_script.specs.Script.{fails, at_entry, value_for, frames_of, stream_of, given_by, given_from, placed, placed_in, no_streams, streams_of, is_input_of, Numbered, number_named, input_at, input_named}
use Rattle.input_script.proofs.Ends.{lawful_at}
use Rattle.input_script.proofs.Found.{went, there, passed, both, pieces, ok_is}
use Rattle.input_script.proofs.OfKinds.{value_fits}

-- ---- inputs by name

pub record IsNumbered (kind : Kind) (ends : List HostEnd) (found : Numbered) : Type 0 where
  pub entry : slice_get ends found.number ≡ Some found.end
  pub input : is_input_of kind found.end ≡ true

numbered_is : (kind : Kind) (ends : List HostEnd) (number : ℕ) (end : HostEnd) (found : Numbered) (test : Bool) → slice_get ends number ≡ Some end → is_input_of kind end ≡ test
    → (if test then Some (let one : Numbered = record { number = number; end = end } in one) else None) ≡ Some found → IsNumbered kind ends found
numbered_is kind ends number end found true entry input h =
    let one : Numbered = record { number = number; end = end } in
    let same : one ≡ found = cc in
    subst (IsNumbered kind ends) same (record { entry = entry; input = input })
numbered_is kind ends number end found false entry input h = absurd (cc)

input_at_is : (kind : Kind) (ends : List HostEnd) (number : ℕ) (found : Numbered) (end : Option HostEnd) → slice_get ends number ≡ end
    → option_and_then (λ e. if is_input_of kind e then Some (let one : Numbered = record { number = number; end = e } in one) else None) end ≡ Some found → IsNumbered kind ends found
input_at_is kind ends number found None is h = absurd (cc)
input_at_is kind ends number found (Some end) is h = numbered_is kind ends number end found (is_input_of kind end) is refl h

named_is : (kind : Kind) (ends : List HostEnd) (found : Numbered) (number : Option ℕ) → option_and_then (input_at kind ends) number ≡ Some found → IsNumbered kind ends found
named_is kind ends found None h = absurd (cc)
named_is kind ends found (Some number) h = input_at_is kind ends number found (slice_get ends number) refl h

pub input_is : (kind : Kind) (ends : List HostEnd) (name : List ℕ) (found : Numbered) → input_named kind ends name ≡ Some found → IsNumbered kind ends found
input_is kind ends name found h = named_is kind ends found (number_named ends name) h

-- ---- one stream

abbrev none_read : List ℤ
none_read = []

abbrev none_given : List Given
none_given = []

frames_shaped : (at : At) (end : HostEnd) (items : Items) (zs : List ℤ) → IsLawfulEnd end → frames_of at end items ≡ Ok zs → AreShaped end.shape (items_len items) zs
frames_shaped at end no_items zs lawful h = record { values = []; many = refl; whole = sym (ok_is none_read zs h); each = tt }
frames_shaped at end (item value items) zs lawful h =
    let parts = pieces (value_for at end value) (frames_of at end items) zs h in
    let one = value_fits at end value parts.front lawful parts.one in
    let rest = frames_shaped at end items parts.back lawful parts.rest in
    record {
      values = parts.front ∷ rest.values;
      many = ap suc rest.many;
      whole = parts.whole ∙ ap (λ back. parts.front ++ back) rest.whole;
      each = (one.0, rest.each);
    }

stream_given : (at : At) (frames : ℕ) (end : HostEnd) (value : Data) (zs : List ℤ) → IsLawfulEnd end → stream_of at frames end value ≡ Ok zs → IsGiven frames end zs
stream_given at frames end value zs lawful h =
    let step = went (or_fault (fails at rule.Shape) (as_array value)) (λ items. if nat_le (items_len items) frames then frames_of at end items else Err (fails at rule.Count)) zs h in
    let few = passed (nat_le (items_len step.x) frames) (frames_of at end step.x) (fails at rule.Count) zs step.gives in
    record { given = items_len step.x; few = grind (arith, nat_tests, few.is); shaped = frames_shaped at end step.x zs lawful few.gives }

-- ---- all streams

pub record IsPlaced (frames : ℕ) (ends : List HostEnd) (given : Given) : Type 0 where
  pub end : HostEnd
  pub entry : slice_get ends given.number ≡ Some end
  pub input : is_stream_input end ≡ true
  pub is : IsGiven frames end given.scalars

given_is : (ends : List HostEnd) (frames index : ℕ) (name : List ℕ) (value : Data) (given : Given) → AllByRecursion IsLawfulEnd ends → given_by ends frames index name value ≡ Ok given → IsPlaced frames ends given
given_is ends frames index name value given lawful h =
    let at = at_entry part.Streams index in
    let found = went (or_fault (fails at rule.Endpoint) (input_named kinds.Stream ends name)) (λ found. after (stream_of at frames found.end value) (λ scalars. Ok (let one : Given = record { number = found.number; scalars = scalars } in one))) given h in
    let is = input_is kinds.Stream ends name found.x (there (fails at rule.Endpoint) (input_named kinds.Stream ends name) found.x found.first) in
    let step = went (stream_of at frames found.x.end value) (λ scalars. Ok (let one : Given = record { number = found.x.number; scalars = scalars } in one)) given found.gives in
    let one : Given = record { number = found.x.number; scalars = step.x } in
    subst (IsPlaced frames ends) (ok_is one given step.gives)
    (record { end = found.x.end; entry = is.entry; input = is.input; is = stream_given at frames found.x.end value step.x (lawful_at ends found.x.number found.x.end is.entry lawful) step.first })

given_all : (ends : List HostEnd) (frames index : ℕ) (members : Members) (given : List Given) → AllByRecursion IsLawfulEnd ends → given_from ends frames index members ≡ Ok given → AllByRecursion (IsPlaced frames ends) given
given_all ends frames index no_members given lawful h = subst (AllByRecursion (IsPlaced frames ends)) (ok_is none_given given h) tt
given_all ends frames index (member name value members) given lawful h =
    let parts = both (given_by ends frames index name value) (given_from ends frames (index + 1) members) given h in
    subst (AllByRecursion (IsPlaced frames ends)) (sym parts.whole) (given_is ends frames index name value parts.head lawful parts.one, given_all ends frames (index + 1) members parts.tail lawful parts.rest)

on_true : (test : Bool) (P : Type 0) → P → OnTrue test P
on_true true P p = p
on_true false P p = tt

on_false : (test : Bool) (P : Type 0) → test ≡ true → OnFalse test P
on_false true P is = tt
on_false false P is = absurd (cc)

same_end : (one other : HostEnd) → Some one ≡ Some other → one ≡ other
same_end one other h = cc

set_one : (frames : ℕ) (ends : List HostEnd) (streams : List (List ℤ)) (number : ℕ) (end : HostEnd) (scalars : List ℤ) → slice_get ends number ≡ Some end → is_stream_input end ≡ true → IsGiven frames end scalars
    → AreStreams frames ends streams → AreStreams frames ends (slice_set streams number scalars)
set_one frames [] streams number end scalars entry input is are = absurd (cc)
set_one frames (first ∷ ends) [] number end scalars entry input is are = absurd are
set_one frames (first ∷ ends) (stream ∷ streams) zero end scalars entry input is are =
    let same = same_end first end entry in (
      on_true (is_stream_input first) (IsGiven frames first scalars) (subst (λ e. IsGiven frames e scalars) (sym same) is),
      on_false (is_stream_input first) (scalars ≡ []) (ap is_stream_input same ∙ input),
      are.2,
    )
set_one frames (first ∷ ends) (stream ∷ streams) (suc number) end scalars entry input is are =
    (are.0, are.1, set_one frames ends streams number end scalars entry input is are.2)

set_all : (frames : ℕ) (ends : List HostEnd) (streams : List (List ℤ)) (given : List Given) → AllByRecursion (IsPlaced frames ends) given → AreStreams frames ends streams → AreStreams frames ends (placed streams given)
set_all frames ends streams [] all are = are
set_all frames ends streams (one ∷ given) all are =
    set_all frames ends (slice_set streams one.number one.scalars) given all.1 (set_one frames ends streams one.number all.0.end one.scalars all.0.entry all.0.input all.0.is are)

given_none : (frames : ℕ) (end : HostEnd) → IsGiven frames end []
given_none frames end = record { given = 0; few = omega arith; shaped = record { values = []; many = refl; whole = refl; each = tt } }

are_none : (test : Bool) → OnFalse test (none_read ≡ [])
are_none true = tt
are_none false = refl

none_are : (frames : ℕ) (ends : List HostEnd) → AreStreams frames ends (no_streams ends)
none_are frames [] = refl
none_are frames (end ∷ ends) = (on_true (is_stream_input end) (IsGiven frames end []) (given_none frames end), are_none (is_stream_input end), none_are frames ends)

pub streams_are : (ends : List HostEnd) (frames : ℕ) (value : Option Data) (streams : List (List ℤ)) → AllByRecursion IsLawfulEnd ends → streams_of ends frames value ≡ Ok streams → AreStreams frames ends streams
streams_are ends frames None streams lawful h = subst (AreStreams frames ends) (ok_is (no_streams ends) streams h) (none_are frames ends)
streams_are ends frames (Some value) streams lawful h =
    let members = went (or_fault (fault rule.Shape part.Streams 0) (as_object value)) (λ members. placed_in (no_streams ends) (given_from ends frames 0 members)) streams h in
    let given = went (given_from ends frames 0 members.x) (λ given. Ok (placed (no_streams ends) given)) streams members.gives in
    subst (AreStreams frames ends) (ok_is (placed (no_streams ends) given.x) streams given.gives)
    (set_all frames ends (no_streams ends) given.x (given_all ends frames 0 members.x given.x lawful given.first) (none_are frames ends))
