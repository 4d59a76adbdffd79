use Rattle.std.proofs.Common.{rules, ◌≡◌, [], ◌∷◌, ◌++◌, length, sym, subst, ◌∙◌, string_bytes}
use Rattle.serde_json.specs.View.{view, members_view}
use Rattle.json_value.specs.Form.{with_front}
use Rattle.saved_state.specs.Version1.{saved_from}
use Rattle.saved_state.proofs.Saved.{saved-goes_on}
use Rattle.saved_state.proofs.version_1.saved_from.Goals as goal

pub loop-name-preserved : goal.loop-name-preserved
loop-name-preserved c =
    let total = saved_from 0 (members_view c.args.members.now.entries) in
    let so_far = subst (λ left. with_front c.loop-name.saved (saved_from (length c.loop-name.saved) (members_view left)) ≡ total) c.in-Some.ensures.steps c.loop-name.invariant.2 in
    let going = saved-goes_on c.loop-name.saved (string_bytes c.in-Some.name.now) (view c.in-Some.value.now) c.in-Some-as_i64.value (members_view c.next.new.self) total (sym c.as_i64.ensures ∙ c.in-Some-as_i64.is) so_far in
    let same : c.push.new.self ≡ c.loop-name.saved ++ record { name = string_bytes c.in-Some.name.now; value = c.in-Some-as_i64.value } ∷ [] = search rules in
    (tt, tt, rw same going)
