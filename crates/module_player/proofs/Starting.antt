-- The starting values of parameters.
use Rattle.std.proofs.Common.{◌≡◌, ◌≢◌, ◌<◌, ◌≤◌, ◌+◌, ◌++◌, ℕ, zero, suc, List, [], ◌∷◌, length, get_or, drop, refl, sym, ap, ◌∙◌, subst, arith, append_assoc, ℤ, pos, negsuc}
use Rattle.std.specs.Prelude.{Bool, true, false, Option, Some, None, unwrap_or, ◌==◌, if◌then◌else◌, ◌&&◌, slice_get, slice_set, FitsSigned, ◌≤ℤ◌}
use Rattle.std.specs.Option.{IfSome}
use Rattle.std.specs.Int.{w32}
use Rattle.std.specs.List.{AllByRecursion}
use Rattle.std.specs.Str.{bytes_eq}
use Rattle.std.proofs.lemmas.Int.{ints}
use Rattle.std.proofs.lemmas.List.{drop_more, drop_all}
use Rattle.std.proofs.lemmas.Option.{slice_get_read}
use Rattle.cm_base.specs.declared.host.HostEnd.{HostEnd}
use Rattle.cm_base.specs.declared.host.Kind.{Kind}
use Rattle.cm_base.specs.declared.host.Kind.TheVariants as kinds
use Rattle.cm_base.specs.declared.host.Range.{Range}
use Rattle.cm_base.specs.declared.play.Item.{Item}
use Rattle.cm_base.specs.declared.play.Saved.{Saved}
use Rattle.cm_base.specs.HostEnds.{IsLawful, IsLawfulEnd, IsLawfulRange, IsParameter, CarriesParameter}
use Rattle.cm_base.specs.Parts.{Inputs, Task, Set, Begin, Send, is_event, is_name, inputs_at, saved_value, start_of, start_task, start_tasks_of, start_tasks}
use Rattle.cm_base.specs.Scripts.{HasShape, IsInRange, IsSavedIn, AreSaved}
use Rattle.cm_base.specs.Tasks.{IsTaken}
use Rattle.module_player.specs.declared.came.Came.{Came}
use Rattle.module_player.specs.declared.came.Came.TheVariants as came
use Rattle.module_player.specs.Playing.{Playing, IsSame, ComesTo, ComesOf}
use Rattle.module_player.proofs.Chains.{comes_none, comes_both, comes_early, comes_from, comes_set, same_none, same_both}
use Rattle.module_player.proofs.Written.{left_of, of_some}

same_name : (a b : List ℕ) → is_name a b ≡ bytes_eq a b
same_name [] [] = refl
same_name [] (y ∷ ys) = refl
same_name (x ∷ xs) [] = refl
same_name (x ∷ xs) (y ∷ ys) = by (x == y) (same_name xs ys)
  where
    by : (t : Bool) → is_name xs ys ≡ bytes_eq xs ys → (if t then is_name xs ys else false) ≡ (t && bytes_eq xs ys)
    by true e = e
    by false e = refl

here : (saved : List Saved) (i : ℕ) (entry : Saved) → i < length saved → entry ≡ get_or saved i entry → drop i saved ≡ entry ∷ drop (i + 1) saved
here saved i entry l e = drop_more saved i entry l ∙ ap (λ x. x ∷ drop (i + 1) saved) (sym e)

start_by : (end : HostEnd) (range : Range) (saved : List Saved) (i : ℕ) (entry : Saved) (b : Bool) → i < length saved → entry ≡ get_or saved i entry → bytes_eq entry.name end.name ≡ b →
    start_of end range (drop i saved) ≡ unwrap_or (if b then Some entry.value else saved_value end.name (drop (i + 1) saved)) range.init
start_by end range saved i entry b l e t =
    ap (start_of end range) (here saved i entry l e) ∙ ap (λ c. unwrap_or (if c then Some entry.value else saved_value end.name (drop (i + 1) saved)) range.init) (same_name entry.name end.name ∙ t)

pub start_found : (end : HostEnd) (range : Range) (saved : List Saved) (i : ℕ) (entry : Saved) → i < length saved → entry ≡ get_or saved i entry → bytes_eq entry.name end.name ≡ true → start_of end range (drop i saved) ≡ entry.value
start_found end range saved i entry l e t = start_by end range saved i entry true l e t

pub start_passed : (end : HostEnd) (range : Range) (saved : List Saved) (i : ℕ) (entry : Saved) → i < length saved → entry ≡ get_or saved i entry → bytes_eq entry.name end.name ≡ false →
    start_of end range (drop i saved) ≡ start_of end range (drop (i + 1) saved)
start_passed end range saved i entry l e t = start_by end range saved i entry false l e t

-- ---- what a parameter takes

between_fits : (low value high : ℤ) → low ≤ℤ value → value ≤ℤ high → FitsSigned w32 low → FitsSigned w32 high → FitsSigned w32 value
between_fits low (pos n) (pos high) above below first last = record { sfits = omega (arith, ints, below, last.sfits) }
between_fits low (pos n) (negsuc high) above below first last = absurd (omega (arith, ints, below))
between_fits (pos low) (negsuc n) high above below first last = absurd (omega (arith, ints, above))
between_fits (negsuc low) (negsuc n) high above below first last = record { sfits = omega (arith, ints, above, first.sfits) }

-- a parameter among the endpoints
pub record IsStart (ends : List HostEnd) (number : ℕ) (end : HostEnd) (range : Range) (saved : List Saved) : Type 0 where
  pub found : slice_get ends number ≡ Some end
  pub parameter : end.parameter ≡ Some range
  pub lawful : IsParameter end range
  pub low : range.min ≤ℤ start_of end range saved
  pub high : start_of end range saved ≤ℤ range.max

each_at : {X : Type 0} (P : X → Type 0) (xs : List X) (at : ℕ) (x : X) → slice_get xs at ≡ Some x → AllByRecursion P xs → P x
each_at P [] zero x e all = absurd (cc (e))
each_at P [] (suc at) x e all = absurd (cc (e))
each_at P (y ∷ xs) zero x e all = let same : y ≡ x = cc (e) in subst P same all.0
each_at P (y ∷ xs) (suc at) x e all = each_at P xs at x e all.1

pub start_is : (ends : List HostEnd) (number : ℕ) (end : HostEnd) (range : Range) (saved : List Saved) → IsLawful ends → AreSaved ends saved → number < length ends → end ≡ get_or ends number end → end.parameter ≡ Some range → IsStart ends number end range saved
start_is ends number end range saved lawful are l e p =
    let found : slice_get ends number ≡ Some end = slice_get_read ends (length ends) number end refl l e in
    let one : IsLawfulRange end (Some range) = subst (λ q. IsLawfulRange end q) p (each_at IsLawfulEnd ends number end found lawful.each).parameter in
    let within : IsSavedIn end (Some range) saved = subst (λ q. IsSavedIn end q saved) p (each_at (λ x. IsSavedIn x x.parameter saved) ends number end found are) in
    record { found = found; parameter = p; lawful = one; low = within.0; high = within.1 }

pub start_taken : (ends : List HostEnd) (number : ℕ) (end : HostEnd) (range : Range) (saved : List Saved) (kind : Kind) (value : ℤ) → IsStart ends number end range saved → end.kind ≡ kind → value ≡ start_of end range saved → IsTaken kind ends number (value ∷ [])
start_taken ends number end range saved kind value is k v =
    let z = start_of end range saved in
    subst (λ x. IsTaken kind ends number (x ∷ [])) (sym v)
    (record {
      end = end;
      found = is.found;
      takes = record {
        flow = is.lawful.flow;
        right_kind = k;
        shape = subst (λ shape. HasShape shape (z ∷ [])) (sym is.lawful.shape) (between_fits range.min z range.max is.low is.high is.lawful.min_fits is.lawful.max_fits, tt);
        range = subst (λ q. IsInRange q (z ∷ [])) (sym is.parameter) ((is.low, is.high), tt);
      };
    })

pub kind_event : (kind : Kind) → is_event kind ≡ true → kind ≡ kinds.Event
kind_event kinds.Stream e = absurd (cc (e))
kind_event kinds.Value e = absurd (cc (e))
kind_event kinds.Event e = refl

pub kind_value : (kind : Kind) → is_event kind ≡ false → CarriesParameter kind → kind ≡ kinds.Value
kind_value kinds.Stream e c = absurd c
kind_value kinds.Value e c = refl
kind_value kinds.Event e c = absurd (cc (e))

-- ---- one starting value

abbrev zero_inputs : List HostEnd → Inputs
zero_inputs ends = inputs_at ends [] 0

-- how the starting value of the endpoint of this number comes out
abbrev pub StartsOne : {T : Type 0} → (tells : T → Item → Bool → T → Type 0) → List HostEnd → ℕ → List Saved → Playing → T → Came → Playing → T → Type 0
StartsOne tells ends number saved p before came q after = IfSome (slice_get ends number) (λ end. ComesOf tells p (start_tasks_of end number end.parameter saved (zero_inputs ends)) before came q after)

pub starts_none : {T : Type 0} (tells : T → Item → Bool → T → Type 0) (ends : List HostEnd) (number : ℕ) (saved : List Saved) (p : Playing) (before : T) (end : HostEnd) → number < length ends → end ≡ get_or ends number end → end.parameter ≡ None →
    StartsOne tells ends number saved p before came.Ended p before
starts_none tells ends number saved p before end l e none =
    let found : slice_get ends number ≡ Some end = slice_get_read ends (length ends) number end refl l e in
    subst (λ (o : Option HostEnd). IfSome o (λ x. ComesOf tells p (start_tasks_of x number x.parameter saved (zero_inputs ends)) before came.Ended p before)) (sym found)
    (subst (λ (q : Option Range). ComesOf tells p (start_tasks_of end number q saved (zero_inputs ends)) before came.Ended p before) (sym none) (λ left. comes_none tells p left before))

starts_by : {T : Type 0} (tells : T → Item → Bool → T → Type 0) (ends : List HostEnd) (number : ℕ) (saved : List Saved) (p q : Playing) (before after : T) (c : Came) (end : HostEnd) (range : Range) (task : Task) → IsStart ends number end range saved →
    start_task end number (start_of end range saved) (zero_inputs ends) ≡ task → ComesOf tells p (task ∷ []) before c q after → StartsOne tells ends number saved p before c q after
starts_by tells ends number saved p q before after c end range task is t comes =
    subst (λ (o : Option HostEnd). IfSome o (λ x. ComesOf tells p (start_tasks_of x number x.parameter saved (zero_inputs ends)) before c q after)) (sym is.found)
    (subst (λ (r : Option Range). ComesOf tells p (start_tasks_of end number r saved (zero_inputs ends)) before c q after) (sym is.parameter)
    (subst (λ (x : Task). ComesOf tells p (x ∷ []) before c q after) (sym t) comes))

pub starts_sent : {T : Type 0} (tells : T → Item → Bool → T → Type 0) (ends : List HostEnd) (number : ℕ) (saved : List Saved) (p q : Playing) (before after : T) (c : Came) (end : HostEnd) (range : Range) (value : ℤ) → IsStart ends number end range saved →
    is_event end.kind ≡ true → value ≡ start_of end range saved → ComesOf tells p (Begin (Send 0 number (value ∷ []) (zero_inputs ends)) ∷ []) before c q after → StartsOne tells ends number saved p before c q after
starts_sent tells ends number saved p q before after c end range value is k v comes =
    starts_by tells ends number saved p q before after c end range (Begin (Send 0 number (value ∷ []) (zero_inputs ends))) is
    (ap (λ b. if b then Begin (Send 0 number (start_of end range saved ∷ []) (zero_inputs ends)) else Set number (start_of end range saved ∷ [])) k ∙ ap (λ z. Begin (Send 0 number (z ∷ []) (zero_inputs ends))) (sym v)) comes

pub starts_set : {T : Type 0} (tells : T → Item → Bool → T → Type 0) (ends : List HostEnd) (number : ℕ) (saved : List Saved) (p q : Playing) (before : T) (end : HostEnd) (range : Range) (value : ℤ) → IsStart ends number end range saved →
    is_event end.kind ≡ false → value ≡ start_of end range saved → q ≡ record p { current = slice_set p.current number (value ∷ []) } → StartsOne tells ends number saved p before came.Ended q before
starts_set tells ends number saved p q before end range value is k v set =
    subst (λ (x : Playing). StartsOne tells ends number saved p before came.Ended x before) (sym set)
    (starts_by tells ends number saved p (record p { current = slice_set p.current number (value ∷ []) }) before before came.Ended end range (Set number (value ∷ [])) is
    (ap (λ b. if b then Begin (Send 0 number (start_of end range saved ∷ []) (zero_inputs ends)) else Set number (start_of end range saved ∷ [])) k ∙ ap (λ z. Set number (z ∷ [])) (sym v))
    (λ left. comes_set tells p number (value ∷ []) left before))

-- ---- all of them

-- as far as the loop has come
pub record AreStarted {T : Type 0} (tells : T → Item → Bool → T → Type 0) (ends : List HostEnd) (saved : List Saved) (at : ℕ) (first now : Playing) (before after : T) : Type 0 where
  pub come : (left : List Task) → ComesTo tells first (start_tasks ends 0 saved (zero_inputs ends) ++ left) (start_tasks (drop at ends) at saved (zero_inputs ends) ++ left) before came.Ended now after
  pub same : IsSame first now
  pub live : now.live ≡ true

pub started_first : {T : Type 0} (tells : T → Item → Bool → T → Type 0) (ends : List HostEnd) (saved : List Saved) (p : Playing) (before : T) → p.live ≡ true → AreStarted tells ends saved 0 p p before before
started_first tells ends saved p before live = record { come = λ left. comes_none tells p (start_tasks ends 0 saved (zero_inputs ends) ++ left) before; same = same_none p; live = live }

started_one : {T : Type 0} (tells : T → Item → Bool → T → Type 0) (ends : List HostEnd) (saved : List Saved) (at : ℕ) (first now next : Playing) (before between after : T) (c : Came) → at < length ends → AreStarted tells ends saved at first now before between →
    StartsOne tells ends at saved now between c next after → (left : List Task) → ComesTo tells first (start_tasks ends 0 saved (zero_inputs ends) ++ left) (start_tasks (drop (at + 1) ends) (at + 1) saved (zero_inputs ends) ++ left) before c next after
started_one tells ends saved at first now next before between after c l are comes left =
    let there = end_there ends at l in
    let end = there.0 in
    let one = of_some (slice_get ends at) (λ x. ComesOf tells now (start_tasks_of x at x.parameter saved (zero_inputs ends)) between c next after) end there.1 comes in
    let these = start_tasks_of end at end.parameter saved (zero_inputs ends) in
    let rest = start_tasks (drop (at + 1) ends) (at + 1) saved (zero_inputs ends) in
    let here : these ++ (rest ++ left) ≡ start_tasks (drop at ends) at saved (zero_inputs ends) ++ left =
    sym (append_assoc these rest left) ∙ ap (λ (xs : List HostEnd). start_tasks xs at saved (zero_inputs ends) ++ left) (sym (left_of ends at end there.1)) in
    comes_both tells first now next (start_tasks ends 0 saved (zero_inputs ends) ++ left) (start_tasks (drop at ends) at saved (zero_inputs ends) ++ left) (rest ++ left) before between after came.Ended c are.same refl (are.come left)
    (comes_from tells now next (these ++ (rest ++ left)) (start_tasks (drop at ends) at saved (zero_inputs ends) ++ left) (rest ++ left) between after c here (one (rest ++ left)))
  where
    end_there : (ends : List HostEnd) (at : ℕ) → at < length ends → (end : HostEnd) × (slice_get ends at ≡ Some end)
    end_there [] at l = absurd (omega (arith, l))
    end_there (end ∷ ends) zero l = (end, refl)
    end_there (end ∷ ends) (suc at) l = end_there ends at (omega (arith, l))

pub started_next : {T : Type 0} (tells : T → Item → Bool → T → Type 0) (ends : List HostEnd) (saved : List Saved) (at : ℕ) (first now next : Playing) (before between after : T) (c : Came) → at < length ends → AreStarted tells ends saved at first now before between →
    StartsOne tells ends at saved now between c next after → IsSame now next → c ≡ came.Ended → next.live ≡ true → AreStarted tells ends saved (at + 1) first next before after
started_next tells ends saved at first now next before between after c l are comes same ended live = record {
  come = λ left. subst (λ (x : Came). ComesTo tells first (start_tasks ends 0 saved (zero_inputs ends) ++ left) (start_tasks (drop (at + 1) ends) (at + 1) saved (zero_inputs ends) ++ left) before x next after) ended
      (started_one tells ends saved at first now next before between after c l are comes left);
  same = same_both first now next are.same same;
  live = live;
}

pub started_early : {T : Type 0} (tells : T → Item → Bool → T → Type 0) (ends : List HostEnd) (saved : List Saved) (at : ℕ) (first now next : Playing) (before between after : T) (c : Came) → at < length ends → AreStarted tells ends saved at first now before between →
    StartsOne tells ends at saved now between c next after → c ≢ came.Ended → ComesOf tells first (start_tasks ends 0 saved (zero_inputs ends)) before c next after
started_early tells ends saved at first now next before between after c l are comes not left =
    comes_early tells first next (start_tasks ends 0 saved (zero_inputs ends) ++ left) (start_tasks (drop (at + 1) ends) (at + 1) saved (zero_inputs ends) ++ left) left before after c not (started_one tells ends saved at first now next before between after c l are comes left)

pub started_all : {T : Type 0} (tells : T → Item → Bool → T → Type 0) (ends : List HostEnd) (saved : List Saved) (at : ℕ) (first now : Playing) (before after : T) → length ends ≤ at → AreStarted tells ends saved at first now before after →
    ComesOf tells first (start_tasks ends 0 saved (zero_inputs ends)) before came.Ended now after
started_all tells ends saved at first now before after l are left =
    subst (λ (xs : List HostEnd). ComesTo tells first (start_tasks ends 0 saved (zero_inputs ends) ++ left) (start_tasks xs at saved (zero_inputs ends) ++ left) before came.Ended now after) (drop_all at ends l) (are.come left)
