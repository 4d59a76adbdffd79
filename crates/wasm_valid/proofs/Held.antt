-- What the pass over code accepts is what the typing relation allows.
use Rattle.std.proofs.Common.{◌≡◌, List, [], ◌∷◌, ◌++◌, length, Option, Some, None, Bool, true, false, refl, sym, ap, ◌∙◌, subst, cond}
use Rattle.std.specs.Prelude.{map, reverse, nat_le, not, ◌&&◌, ◌||◌}
use Rattle.std.specs.Option.{option_and_then, option_map}
use Rattle.wasm_tree.specs.declared.module.ValType.{ValType}
use Rattle.wasm_tree.specs.declared.module.ValType.TheVariants.{I32}
use Rattle.wasm_tree.specs.declared.instr.Instr.{Instr}
use Rattle.wasm_tree.specs.declared.instr.Instr.TheVariants as instr
use Rattle.wasm_tree.specs.Control.{most_open, opened as opened_arm, second_arm, after_code}
use Rattle.wasm_tree.specs.Reduce.{Seq, Plain, InBlock, InLoop, InIf, Piece, pieces, onto, closing, closing_if}
use Rattle.wasm_tree.specs.Typed.{Context, Typed, result_types}
use Rattle.wasm_valid.specs.Checking.{Known, Sequence, nothing, with_known, some_if, take_all, put_all, takes, acted, action, opened, is_taken, is_finished, gives, gives_nothing, second, labels_of, inside, after_all}
use Rattle.wasm_valid.proofs.OperandTypes.{Fits, some_is, some_if_is, then_some, map_some, all_taken, all_takes, all_put, was_put, acted_from, acted_to}
use Rattle.wasm_valid.proofs.Actions.{types_of, applies_from, applies_to}

pub both_true : (a b : Bool) → (a && b) ≡ true → (a ≡ true) × (b ≡ true)
both_true true b e = (refl, e)
both_true false b e = absurd cc

append_nil : (t : Option ValType) → result_types t ++ [] ≡ result_types t
append_nil None = refl
append_nil (Some t) = refl

-- just the result stands there
pub finished_fits : (s : Sequence) → is_finished s ≡ true → Fits s.known (result_types s.result)
finished_fits s e = subst (Fits s.known) (append_nil s.result) (at (take_all (result_types s.result) s.known) refl e)
  where
    last : (known : Known) → is_taken (Some known) ≡ true → Fits known []
    last known e = ends known.dead known.types e
      where
        ends : (dead : Bool) (ks : List (Option ValType)) → is_taken (Some (record { dead = dead; types = ks })) ≡ true → Fits (record { dead = dead; types = ks }) []
        ends true [] e = tt
        ends false [] e = refl
        ends dead (k ∷ ks) e = absurd cc

    at : (o : Option Known) → take_all (result_types s.result) s.known ≡ o → is_taken o ≡ true → Fits s.known (result_types s.result ++ [])
    at None is e = absurd cc
    at (Some known) is e = all_taken (result_types s.result) s.known known [] is (last known e)

module _ (c : Context) (result : Option ValType) (results_are : reverse c.results ≡ result_types result) where
  abbrev pub labels : List Sequence → List (List ValType)
  labels ss = types_of (labels_of ss)

  -- the rest of a sequence takes what is known of its operands to its result
  abbrev pub IsRest : Sequence → List Sequence → Seq → Type 0
  IsRest s ss rest = (before : List ValType) × Fits s.known before × Typed c (labels (s ∷ ss)) rest before (result_types s.result)

  -- the rests of the open sequences, innermost first
  abbrev pub Held : List Piece → List Sequence → Type 0
  Held [] [] = Unit {0}
  Held [] (s ∷ ss) = ⊥
  Held (p ∷ ps) [] = ⊥
  Held (p ∷ ps) (s ∷ ss) =
      IsRest s ss p.rest × elim p.arm [
        | true ↦ (s.arm ≡ true) × Held ps (second s ∷ ss)
        | false ↦ (s.arm ≡ true → s.result ≡ None) × Held ps (gives s.result ss)
      ]

  none_off : (s : Sequence) (t : Option ValType) → s.result ≡ t → t ≡ None → result_types s.result ≡ []
  none_off s t e n = ap result_types (e ∙ n)

  gives_nothing_is : (t : Option ValType) → gives_nothing t ≡ true → t ≡ None
  gives_nothing_is None e = refl
  gives_nothing_is (Some t) e = absurd cc

  nothing_fits : (before : List ValType) → Fits nothing before → before ≡ []
  nothing_fits [] f = refl
  nothing_fits (t ∷ before) f = absurd cc

  fits_finished : (s : Sequence) → Fits s.known (result_types s.result) → is_finished s ≡ true
  fits_finished s f =
      let t = all_takes (result_types s.result) s.known [] (subst (Fits s.known) (sym (append_nil s.result)) f) in
      ap is_taken t.1 ∙ last t.0.dead t.0.types t.2
    where
      last : (dead : Bool) (ks : List (Option ValType)) → Fits (record { dead = dead; types = ks }) [] → is_taken (Some (record { dead = dead; types = ks })) ≡ true
      last true [] f = refl
      last false [] f = refl
      last dead (k ∷ ks) f = absurd f

  -- ---- what is accepted is typed

  takes_i32 : (known k : Known) (below : List ValType) → takes (I32 ∷ []) [] known ≡ Some k → Fits k below → Fits known (I32 ∷ below)
  takes_i32 known k below e f =
      let t = map_some (take_all (I32 ∷ []) known) (put_all []) k e in
      all_taken (I32 ∷ []) known t.0 below t.1 (subst (λ x. Fits x below) (sym t.2) f)

  i32_takes : (known : Known) (below : List ValType) → Fits known (I32 ∷ below) → (k : Known) × (takes (I32 ∷ []) [] known ≡ Some k) × Fits k below
  i32_takes known below f =
      let t = all_takes (I32 ∷ []) known below f in
      (t.0, ap (option_map (put_all [])) t.1, t.2)

  -- A structured instruction with its last sequence: from the rest of this sequence and of the one around it to the
  -- rest of the one around with the instruction in front
  closed_held : (f : Seq → Seq → Seq) (t label : Option ValType) (k : Known) (s : Sequence) (ss : List Sequence)
      → ((body rest : Seq) (below : List ValType) → Typed c (result_types label ∷ labels (s ∷ ss)) body [] (result_types t) → Fits k below → Typed c (labels (s ∷ ss)) rest (result_types t ++ below) (result_types s.result) → IsRest s ss (f body rest))
      → (arm : Bool) (body : Seq) (ps : List Piece) → Held (record { arm = arm; rest = body } ∷ ps) (opened label t false (with_known k s ∷ ss)) → Held (closing f (record { arm = arm; rest = body } ∷ ps)) (s ∷ ss)
  closed_held f t label k s ss make true body ps h = absurd (cc h.1.0)
  closed_held f t label k s ss make false body [] h = absurd h.1.1
  closed_held f t label k s ss make false body (p ∷ ps) h =
      let w = was_put (result_types t) k h.1.1.0.0 h.1.1.0.1 in
      let inner : Typed c (result_types label ∷ labels (s ∷ ss)) body [] (result_types t) =
      subst (λ l. Typed c (result_types label ∷ labels (s ∷ ss)) body l (result_types t)) (nothing_fits h.0.0 h.0.1) h.0.2 in
      let outer : Typed c (labels (s ∷ ss)) p.rest (result_types t ++ w.0) (result_types s.result) =
      subst (λ l. Typed c (labels (s ∷ ss)) p.rest l (result_types s.result)) w.1 h.1.1.0.2 in
      (make body p.rest w.0 inner w.2 outer, h.1.1.1)

  held_whole : (f : Seq → Seq → Seq) (t label : Option ValType) (k : Known) (s : Sequence) (ss : List Sequence)
      → ((body rest : Seq) (below : List ValType) → Typed c (result_types label ∷ labels (s ∷ ss)) body [] (result_types t) → Fits k below → Typed c (labels (s ∷ ss)) rest (result_types t ++ below) (result_types s.result) → IsRest s ss (f body rest))
      → (ps : List Piece) → Held ps (opened label t false (with_known k s ∷ ss)) → Held (closing f ps) (s ∷ ss)
  held_whole f t label k s ss make [] h = absurd h
  held_whole f t label k s ss make (p ∷ ps) h = closed_held f t label k s ss make p.arm p.rest ps h

  if_held : (t : Option ValType) (k : Known) (s : Sequence) (ss : List Sequence) → ((below : List ValType) → Fits k below → Fits s.known (I32 ∷ below))
      → (arm : Bool) (first : Seq) (ps : List Piece) → Held (record { arm = arm; rest = first } ∷ ps) (opened t t true (with_known k s ∷ ss)) → Held (closing_if (InIf t) (record { arm = arm; rest = first } ∷ ps)) (s ∷ ss)
  if_held t k s ss take true first ps h =
      held_whole (InIf t first) t t k s ss
      (λ body rest below inner f outer. (I32 ∷ below, take below f, (below, refl, subst (λ l. Typed c (result_types t ∷ labels (s ∷ ss)) first l (result_types t)) (nothing_fits h.0.0 h.0.1) h.0.2, inner, outer)))
      ps h.1.1
  if_held t k s ss take false first [] h = absurd h.1.1
  if_held t k s ss take false first (p ∷ ps) h =
      let none : t ≡ None = h.1.0 refl in
      let w = was_put (result_types t) k h.1.1.0.0 h.1.1.0.1 in
      let inner : Typed c (result_types t ∷ labels (s ∷ ss)) first [] (result_types t) =
      subst (λ l. Typed c (result_types t ∷ labels (s ∷ ss)) first l (result_types t)) (nothing_fits h.0.0 h.0.1) h.0.2 in
      let outer : Typed c (labels (s ∷ ss)) p.rest (result_types t ++ w.0) (result_types s.result) =
      subst (λ l. Typed c (labels (s ∷ ss)) p.rest l (result_types s.result)) w.1 h.1.1.0.2 in
      ((I32 ∷ w.0, take w.0 w.2, (w.0, refl, inner, sym (ap result_types none), outer)), h.1.1.1)

  if_whole : (t : Option ValType) (k : Known) (s : Sequence) (ss : List Sequence) → ((below : List ValType) → Fits k below → Fits s.known (I32 ∷ below))
      → (ps : List Piece) → Held ps (opened t t true (with_known k s ∷ ss)) → Held (closing_if (InIf t) ps) (s ∷ ss)
  if_whole t k s ss take [] h = absurd h
  if_whole t k s ss take (p ∷ ps) h = if_held t k s ss take p.arm p.rest ps h

  plain_held : (i : Instr) (s : Sequence) (ss : List Sequence) (k : Known) (ps : List Piece) → acted (action c result (labels_of (s ∷ ss)) i) s.known ≡ Some k → Held ps (with_known k s ∷ ss) → Held (onto (Plain i) ps) (s ∷ ss)
  plain_held i s ss k [] e h = absurd h
  plain_held i s ss k (p ∷ ps) e h =
      let a = acted_from (action c result (labels_of (s ∷ ss)) i) s.known k h.0.0 e h.0.1 in
      ((a.0, a.1, (h.0.0, applies_from c result (labels_of (s ∷ ss)) results_are i a.0 h.0.0 a.2, h.0.2)), h.1)

  plain_step : (i : Instr) (s : Sequence) (ss : List Sequence) (code : List Instr)
      → ((ss : List Sequence) → after_all c result ss code ≡ Some [] → Held (pieces code) ss)
      → option_and_then (λ next. after_all c result next code) (option_map (λ known. with_known known s ∷ ss) (acted (action c result (labels_of (s ∷ ss)) i) s.known)) ≡ Some []
      → Held (onto (Plain i) (pieces code)) (s ∷ ss)
  plain_step i s ss code again e =
      let n = then_some (option_map (λ known. with_known known s ∷ ss) (acted (action c result (labels_of (s ∷ ss)) i) s.known)) (λ next. after_all c result next code) [] e in
      let k = map_some (acted (action c result (labels_of (s ∷ ss)) i) s.known) (λ known. with_known known s ∷ ss) n.0 n.1 in
      plain_held i s ss k.0 (pieces code) k.1 (again (with_known k.0 s ∷ ss) (ap (λ next. after_all c result next code) k.2 ∙ n.2))

  pub sound : (code : List Instr) (ss : List Sequence) → after_all c result ss code ≡ Some [] → Held (pieces code) ss
  unfolding after_all inside pieces
  sound [] ss e = subst (λ l. Held [] l) (sym (some_is ss [] e)) tt
  sound (i ∷ code) [] e = absurd cc
  sound (instr.Block t ∷ code) (s ∷ ss) e =
      held_whole (InBlock t) t t s.known s ss (λ body rest below inner f outer. (below, f, (inner, outer))) (pieces code) (sound code (opened t t false (s ∷ ss)) e)
  sound (instr.Loop t ∷ code) (s ∷ ss) e =
      held_whole (InLoop t) t None s.known s ss (λ body rest below inner f outer. (below, f, (inner, outer))) (pieces code) (sound code (opened None t false (s ∷ ss)) e)
  sound (instr.If t ∷ code) (s ∷ ss) e =
      let n = then_some (option_map (λ known. opened t t true (with_known known s ∷ ss)) (takes (I32 ∷ []) [] s.known)) (λ next. after_all c result next code) [] e in
      let k = map_some (takes (I32 ∷ []) [] s.known) (λ known. opened t t true (with_known known s ∷ ss)) n.0 n.1 in
      if_whole t k.0 s ss (λ below f. takes_i32 s.known k.0 below k.1 f) (pieces code) (sound code (opened t t true (with_known k.0 s ∷ ss)) (ap (λ next. after_all c result next code) k.2 ∙ n.2))
  sound (instr.Else ∷ code) (s ∷ ss) e =
      let n = then_some (some_if (s.arm && is_finished s) (second s ∷ ss)) (λ next. after_all c result next code) [] e in
      let t = some_if_is (s.arm && is_finished s) (second s ∷ ss) n.0 n.1 in
      let b = both_true s.arm (is_finished s) t.0 in
      ((result_types s.result, finished_fits s b.1, refl), (b.0, sound code (second s ∷ ss) (ap (λ next. after_all c result next code) t.1 ∙ n.2)))
  sound (instr.End ∷ code) (s ∷ ss) e =
      let n = then_some (some_if (is_finished s && (not s.arm || gives_nothing s.result)) (gives s.result ss)) (λ next. after_all c result next code) [] e in
      let t = some_if_is (is_finished s && (not s.arm || gives_nothing s.result)) (gives s.result ss) n.0 n.1 in
      let b = both_true (is_finished s) (not s.arm || gives_nothing s.result) t.0 in
      ((result_types s.result, finished_fits s b.0, refl), (only s.arm b.1, sound code (gives s.result ss) (ap (λ next. after_all c result next code) t.1 ∙ n.2)))
    where
      only : (arm : Bool) → (not arm || gives_nothing s.result) ≡ true → arm ≡ true → s.result ≡ None
      only true e is = gives_nothing_is s.result e
      only false e is = absurd cc
  sound (_ ∷ code) (s ∷ ss) e = plain_step _ s ss code (sound code) e

  -- ---- what is typed is accepted

  closed_to : (f : Seq → Seq → Seq) (t label : Option ValType) (k : Known) (s : Sequence) (ss : List Sequence)
      → ((body rest : Seq) → IsRest s ss (f body rest) → (below : List ValType) × Typed c (result_types label ∷ labels (s ∷ ss)) body [] (result_types t) × Fits k below × Typed c (labels (s ∷ ss)) rest (result_types t ++ below) (result_types s.result))
      → (arm : Bool) (body : Seq) (ps : List Piece) → Held (closing f (record { arm = arm; rest = body } ∷ ps)) (s ∷ ss) → Held (record { arm = arm; rest = body } ∷ ps) (opened label t false (with_known k s ∷ ss))
  closed_to f t label k s ss split true body ps h = absurd h
  closed_to f t label k s ss split false body [] h = absurd h
  closed_to f t label k s ss split false body (p ∷ ps) h =
      let m = split body p.rest h.0 in
      (([], refl, m.1), ((λ e. absurd (cc e)), ((result_types t ++ m.0, all_put (result_types t) k m.0 m.2, m.3), h.1)))

  whole_to : (f : Seq → Seq → Seq) (t label : Option ValType) (k : Known) (s : Sequence) (ss : List Sequence)
      → ((body rest : Seq) → IsRest s ss (f body rest) → (below : List ValType) × Typed c (result_types label ∷ labels (s ∷ ss)) body [] (result_types t) × Fits k below × Typed c (labels (s ∷ ss)) rest (result_types t ++ below) (result_types s.result))
      → (ps : List Piece) → Held (closing f ps) (s ∷ ss) → Held ps (opened label t false (with_known k s ∷ ss))
  whole_to f t label k s ss split [] h = absurd h
  whole_to f t label k s ss split (p ∷ ps) h = closed_to f t label k s ss split p.arm p.rest ps h

  abbrev IfTo : Option ValType → Sequence → List Sequence → List Piece → Type 0
  IfTo t s ss ps = (k : Known) × (takes (I32 ∷ []) [] s.known ≡ Some k) × Held ps (opened t t true (with_known k s ∷ ss))

  second_to : (t : Option ValType) (s : Sequence) (ss : List Sequence) (first : Seq) (arm : Bool) (other : Seq) (ps : List Piece) → Held (closing (InIf t first) (record { arm = arm; rest = other } ∷ ps)) (s ∷ ss) → IfTo t s ss (record { arm = true; rest = first } ∷ record { arm = arm; rest = other } ∷ ps)
  second_to t s ss first true other ps h = absurd h
  second_to t s ss first false other [] h = absurd h
  second_to t s ss first false other (p ∷ ps) h =
      let d = h.0.2 in
      let i = i32_takes s.known d.0 (subst (Fits s.known) d.1 h.0.1) in
      (i.0, i.1, (([], refl, d.2), (refl, (([], refl, d.3), ((λ e. absurd (cc e)), ((result_types t ++ d.0, all_put (result_types t) i.0 d.0 i.2, d.4), h.1))))))

  only_none : (t : Option ValType) → [] ≡ result_types t → t ≡ None
  only_none None e = refl
  only_none (Some t) e = absurd cc

  if_to : (t : Option ValType) (s : Sequence) (ss : List Sequence) (arm : Bool) (first : Seq) (ps : List Piece) → Held (closing_if (InIf t) (record { arm = arm; rest = first } ∷ ps)) (s ∷ ss) → IfTo t s ss (record { arm = arm; rest = first } ∷ ps)
  if_to t s ss true first [] h = absurd h
  if_to t s ss true first (q ∷ ps) h = second_to t s ss first q.arm q.rest ps h
  if_to t s ss false first [] h = absurd h
  if_to t s ss false first (p ∷ ps) h =
      let d = h.0.2 in
      let i = i32_takes s.known d.0 (subst (Fits s.known) d.1 h.0.1) in
      (i.0, i.1, (([], refl, d.2), ((λ e. only_none t d.3), ((result_types t ++ d.0, all_put (result_types t) i.0 d.0 i.2, d.4), h.1))))

  if_whole_to : (t : Option ValType) (s : Sequence) (ss : List Sequence) (ps : List Piece) → Held (closing_if (InIf t) ps) (s ∷ ss) → IfTo t s ss ps
  if_whole_to t s ss [] h = absurd h
  if_whole_to t s ss (p ∷ ps) h = if_to t s ss p.arm p.rest ps h

  plain_to : (i : Instr) (s : Sequence) (ss : List Sequence) (ps : List Piece) → Held (onto (Plain i) ps) (s ∷ ss) → (k : Known) × (acted (action c result (labels_of (s ∷ ss)) i) s.known ≡ Some k) × Held ps (with_known k s ∷ ss)
  plain_to i s ss [] h = absurd h
  plain_to i s ss (p ∷ ps) h =
      let d = h.0.2 in
      let a = acted_to (action c result (labels_of (s ∷ ss)) i) s.known h.0.0 d.0 h.0.1 (applies_to c result (labels_of (s ∷ ss)) results_are i h.0.0 d.0 d.1) in
      (a.0, a.1, ((d.0, a.2, d.2), h.1))

  abbrev arms_of : List Sequence → List Bool
  arms_of ss = map (λ s. s.arm) ss

  room_left : (arm : Bool) (arms next : List Bool) → opened_arm arm arms ≡ Some next → next ≡ arm ∷ arms
  room_left arm arms next e = at (nat_le (length arms) most_open) e
    where
      at : (b : Bool) → cond b (Some (arm ∷ arms)) None ≡ Some next → next ≡ arm ∷ arms
      at true e = sym (some_is _ _ e)
      at false e = absurd cc

  both_are : (a b : Bool) → a ≡ true → b ≡ true → (a && b) ≡ true
  both_are a b e f = rw (e, f) refl

  plain_back : (i : Instr) (s : Sequence) (ss : List Sequence) (code : List Instr)
      → after_code (arms_of (s ∷ ss)) code ≡ Some []
      → ((ss : List Sequence) → after_code (arms_of ss) code ≡ Some [] → Held (pieces code) ss → after_all c result ss code ≡ Some [])
      → Held (onto (Plain i) (pieces code)) (s ∷ ss)
      → option_and_then (λ next. after_all c result next code) (option_map (λ known. with_known known s ∷ ss) (acted (action c result (labels_of (s ∷ ss)) i) s.known)) ≡ Some []
  plain_back i s ss code arms again h =
      let k = plain_to i s ss (pieces code) h in
      ap (λ o. option_and_then (λ next. after_all c result next code) (option_map (λ known. with_known known s ∷ ss) o)) k.1 ∙ again (with_known k.0 s ∷ ss) arms k.2

  pub complete : (code : List Instr) (ss : List Sequence) → after_code (arms_of ss) code ≡ Some [] → Held (pieces code) ss → after_all c result ss code ≡ Some []
  unfolding after_all inside pieces
  complete [] [] arms h = refl
  complete [] (s ∷ ss) arms h = absurd h
  complete (i ∷ code) [] arms h = absurd cc
  complete (instr.Block t ∷ code) (s ∷ ss) arms h =
      let n = then_some (opened_arm false (arms_of (s ∷ ss))) (λ next. after_code next code) [] arms in
      let next : n.0 ≡ false ∷ arms_of (s ∷ ss) = room_left false (arms_of (s ∷ ss)) n.0 n.1 in
      complete code (opened t t false (s ∷ ss)) (sym (ap (λ (l : List Bool). after_code l code) next) ∙ n.2)
      (whole_to (InBlock t) t t s.known s ss (λ body rest r. (r.0, r.2.0, r.1, r.2.1)) (pieces code) h)
  complete (instr.Loop t ∷ code) (s ∷ ss) arms h =
      let n = then_some (opened_arm false (arms_of (s ∷ ss))) (λ next. after_code next code) [] arms in
      let next : n.0 ≡ false ∷ arms_of (s ∷ ss) = room_left false (arms_of (s ∷ ss)) n.0 n.1 in
      complete code (opened None t false (s ∷ ss)) (sym (ap (λ (l : List Bool). after_code l code) next) ∙ n.2)
      (whole_to (InLoop t) t None s.known s ss (λ body rest r. (r.0, r.2.0, r.1, r.2.1)) (pieces code) h)
  complete (instr.If t ∷ code) (s ∷ ss) arms h =
      let n = then_some (opened_arm true (arms_of (s ∷ ss))) (λ next. after_code next code) [] arms in
      let next : n.0 ≡ true ∷ arms_of (s ∷ ss) = room_left true (arms_of (s ∷ ss)) n.0 n.1 in
      let k = if_whole_to t s ss (pieces code) h in
      ap (λ o. option_and_then (λ next. after_all c result next code) (option_map (λ known. opened t t true (with_known known s ∷ ss)) o)) k.1
      ∙ complete code (opened t t true (with_known k.0 s ∷ ss)) (sym (ap (λ (l : List Bool). after_code l code) next) ∙ n.2) k.2
  complete (instr.Else ∷ code) (s ∷ ss) arms h =
      let fits = fits_finished s (subst (Fits s.known) h.0.2 h.0.1) in
      let on = both_are s.arm (is_finished s) h.1.0 fits in
      ap (λ b. option_and_then (λ next. after_all c result next code) (some_if b (second s ∷ ss))) on
      ∙ complete code (second s ∷ ss) (sym (ap (λ (b : Bool). option_and_then (λ next. after_code next code) (second_arm b (arms_of ss))) h.1.0) ∙ arms) h.1.1
  complete (instr.End ∷ code) (s ∷ ss) arms h =
      let fits = fits_finished s (subst (Fits s.known) h.0.2 h.0.1) in
      let on = both_are (is_finished s) (not s.arm || gives_nothing s.result) fits (only s.arm h.1.0) in
      ap (λ b. option_and_then (λ next. after_all c result next code) (some_if b (gives s.result ss))) on
      ∙ complete code (gives s.result ss) (ap (λ (l : List Bool). after_code l code) (arms_stay ss) ∙ arms) h.1.1
    where
      only : (arm : Bool) → (arm ≡ true → s.result ≡ None) → (not arm || gives_nothing s.result) ≡ true
      only true e = ap gives_nothing (e refl)
      only false e = refl

      arms_stay : (ss : List Sequence) → arms_of (gives s.result ss) ≡ arms_of ss
      arms_stay [] = refl
      arms_stay (s ∷ ss) = refl
  complete (_ ∷ code) (s ∷ ss) arms h = plain_back _ s ss code arms (complete code) h
