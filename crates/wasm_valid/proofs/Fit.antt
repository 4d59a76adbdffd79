-- Typing with room: where code is reached, what stands there is within bounds.
use Rattle.std.proofs.Common.{◌≡◌, ◌≤◌, ◌+◌, ℕ, List, [], ◌∷◌, ◌++◌, length, Option, Some, None, Bool, true, false, refl, sym, ap, ◌∙◌, subst, ◌⊎◌, inl, inr, arith}
use Rattle.std.specs.Prelude.{map, not, ◌&&◌, ◌||◌, IfSome}
use Rattle.std.specs.Option.{option_and_then, option_map}
use Rattle.std.specs.List.{AllByRecursion}
use Rattle.std.proofs.lemmas.List.{length-map}
use Rattle.std.proofs.lemmas.List.Sums.{sum_by-cons}
use Rattle.wasm_tree.specs.declared.module.ValType.{ValType}
use Rattle.wasm_tree.specs.declared.module.ValType.TheVariants.{I32}
use Rattle.wasm_tree.specs.declared.instr.Instr.{Instr}
use Rattle.wasm_tree.specs.declared.instr.Instr.TheVariants as instr
use Rattle.wasm_tree.specs.Reduce.{Seq, Nil, Plain, InBlock, InLoop, InIf, Piece, pieces, onto, closing, closing_if}
use Rattle.wasm_tree.specs.Typed.{Context, Has, result_types}
use Rattle.wasm_valid.specs.Checking.{Known, Sequence, nothing, unreached, with_known, may_be, some_if, take_one, take_all, put_one, put_all, take_any, takes, joined, Action, Wrong, Takes, Ends, Drops, Selects, acted, action, opened, is_finished, gives, gives_nothing, second, labels_of, inside, after_all, height, IsRoomy, Stays}
use Rattle.wasm_valid.proofs.OperandTypes.{Fits, Acts, some_is, some_if_is, then_some, map_some, same_is, same_self, acted_from}
use Rattle.wasm_valid.proofs.Held.{both_true, finished_fits}

-- ---- operands that are all known

abbrev pub all_known : List ValType → List (Option ValType)
all_known types = map (λ t. Some t) types

-- where instructions are reached, the types of all operands are known
abbrev pub IsKnown : Known → Type 0
IsKnown known = known.dead ≡ false → (types : List ValType) × (known.types ≡ all_known types)

abbrev known_with : Bool → List (Option ValType) → Known
known_with dead types = record { dead = dead; types = types }

pub exact : (ks types : List ValType) → Fits (record { dead = false; types = all_known ks }) types → types ≡ ks
exact [] types f = f
exact (k ∷ ks) [] f = absurd f
exact (k ∷ ks) (type ∷ types) f = ap (λ (t : ValType). t ∷ types) (sym (same_is k type f.0)) ∙ ap (λ (l : List ValType). k ∷ l) (exact ks types f.1)

pub fits_itself : (ks : List ValType) → Fits (record { dead = false; types = all_known ks }) ks
fits_itself [] = refl
fits_itself (k ∷ ks) = (same_self k, fits_itself ks)

pub known_is : (known : Known) (ks types : List ValType) → known.dead ≡ false → known.types ≡ all_known ks → Fits known types → types ≡ ks
known_is known ks types d e f = exact ks types (subst (λ k. Fits k types) (same known.dead known.types d e) f)
  where
    same : (dead : Bool) (ts : List (Option ValType)) → dead ≡ false → ts ≡ all_known ks → known_with dead ts ≡ known_with false (all_known ks)
    same dead ts d e = ap (λ (b : Bool). known_with b ts) d ∙ ap (λ l. known_with false l) e

pub fits_known : (known : Known) (ks : List ValType) → known.dead ≡ false → known.types ≡ all_known ks → Fits known ks
fits_known known ks d e = subst (λ k. Fits k ks) (sym (same known.dead known.types d e)) (fits_itself ks)
  where
    same : (dead : Bool) (ts : List (Option ValType)) → dead ≡ false → ts ≡ all_known ks → known_with dead ts ≡ known_with false (all_known ks)
    same dead ts d e = ap (λ (b : Bool). known_with b ts) d ∙ ap (λ l. known_with false l) e

known_append : (xs ys : List ValType) → all_known (xs ++ ys) ≡ all_known xs ++ all_known ys
known_append [] ys = refl
known_append (x ∷ xs) ys = ap (λ l. Some x ∷ l) (known_append xs ys)

same_known : (xs ys : List ValType) → all_known xs ≡ all_known ys → xs ≡ ys
same_known [] [] e = refl
same_known [] (y ∷ ys) e = absurd cc
same_known (x ∷ xs) [] e = absurd cc
same_known (x ∷ xs) (y ∷ ys) e =
    let head : x ≡ y = cc e in
    let tail : all_known xs ≡ all_known ys = cc e in
    ap (λ (t : ValType). t ∷ xs) head ∙ ap (λ (l : List ValType). y ∷ l) (same_known xs ys tail)

-- taking keeps whether instructions are reached, and what is known
one_stays : (type : ValType) (dead : Bool) (ks : List (Option ValType)) (next : Known) → take_one type (record { dead = dead; types = ks }) ≡ Some next → (next.dead ≡ dead) × (IsKnown (record { dead = dead; types = ks }) → IsKnown next)
unfolding take_one
one_stays type true [] next e = subst (λ n. (n.dead ≡ true) × (IsKnown (record { dead = true; types = [] }) → IsKnown n)) (some_is _ next e) (refl, λ h. h)
one_stays type false [] next e = absurd cc
one_stays type dead (k ∷ ks) next e =
    subst (λ n. (n.dead ≡ dead) × (IsKnown (record { dead = dead; types = k ∷ ks }) → IsKnown n)) (some_if_is (may_be k type) _ next e).1 (refl, λ h d. tail (h d).0 (h d).1)
  where
    tail : (types : List ValType) → k ∷ ks ≡ all_known types → (types : List ValType) × (ks ≡ all_known types)
    tail [] e = absurd cc
    tail (t ∷ types) e = (types, cc e)

all_stays : (ins : List ValType) (known next : Known) → take_all ins known ≡ Some next → (next.dead ≡ known.dead) × (IsKnown known → IsKnown next)
unfolding take_all
all_stays [] known next e = subst (λ n. (n.dead ≡ known.dead) × (IsKnown known → IsKnown n)) (some_is known next e) (refl, λ h. h)
all_stays (type ∷ ins) known next e =
    let s = then_some (take_one type known) (take_all ins) next e in
    let a = one_stays type known.dead known.types s.0 s.1 in
    let b = all_stays ins s.0 next s.2 in
    (b.0 ∙ a.0, λ h. b.1 (a.1 h))

any_stays : (dead : Bool) (ks : List (Option ValType)) (taken : Option ValType × Known) → take_any (record { dead = dead; types = ks }) ≡ Some taken → (taken.1.dead ≡ dead) × (IsKnown (record { dead = dead; types = ks }) → IsKnown taken.1 × (dead ≡ false → (t : ValType) × (taken.0 ≡ Some t)))
unfolding take_any
any_stays true [] taken e =
    subst (λ (q : Option ValType × Known). (q.1.dead ≡ true) × (IsKnown (record { dead = true; types = [] }) → IsKnown q.1 × (true ≡ false → (t : ValType) × (q.0 ≡ Some t)))) (some_is _ taken e) (refl, λ h. (h, λ d. absurd (cc d)))
any_stays false [] taken e = absurd cc
any_stays dead (k ∷ ks) taken e =
    subst (λ (q : Option ValType × Known). (q.1.dead ≡ dead) × (IsKnown (record { dead = dead; types = k ∷ ks }) → IsKnown q.1 × (dead ≡ false → (t : ValType) × (q.0 ≡ Some t)))) (some_is _ taken e)
    (refl, λ h. ((λ d. tail (h d).0 (h d).1), λ d. head (h d).0 (h d).1))
  where
    tail : (types : List ValType) → k ∷ ks ≡ all_known types → (types : List ValType) × (ks ≡ all_known types)
    tail [] e = absurd cc
    tail (t ∷ types) e = (types, cc e)

    head : (types : List ValType) → k ∷ ks ≡ all_known types → (t : ValType) × (k ≡ Some t)
    head [] e = absurd cc
    head (t ∷ types) e = (t, cc e)

put_stays : (outs : List ValType) (known : Known) → IsKnown known → IsKnown (put_all outs known)
put_stays outs known h d = (outs ++ (h d).0, ap (λ l. all_known outs ++ l) (h d).1 ∙ sym (known_append outs (h d).0))

joined_known : (a b t : Option ValType) (x y : ValType) → a ≡ Some x → b ≡ Some y → joined a b ≡ Some t → t ≡ Some x
joined_known a b t x y ea eb e =
    let j : joined (Some x) (Some y) ≡ Some t = sym (ap (λ o. joined o (Some y)) ea) ∙ (sym (ap (λ o. joined a o) eb) ∙ e) in
    sym (some_if_is _ (Some x) t j).1

-- an action that doesn't end keeps whether instructions are reached
abbrev pub IsEnding : Action → Type 0
IsEnding (Ends ins) = Unit {0}
IsEnding a = ⊥

pub acted_stays : (a : Action) (known next : Known) → acted a known ≡ Some next → ((next.dead ≡ known.dead) ⊎ (IsEnding a × (next.dead ≡ true))) × (IsKnown known → IsKnown next)
unfolding acted
acted_stays Wrong known next e = absurd cc
acted_stays (Takes ins outs) known next e =
    let s = map_some (take_all ins known) (put_all outs) next e in
    let a = all_stays ins known s.0 s.1 in
    subst (λ n. ((n.dead ≡ known.dead) ⊎ (⊥ × (n.dead ≡ true))) × (IsKnown known → IsKnown n)) s.2 (inl a.0, λ h. put_stays outs s.0 (a.1 h))
acted_stays (Ends ins) known next e =
    let s = map_some (take_all ins known) (λ k. unreached) next e in
    subst (λ n. ((n.dead ≡ known.dead) ⊎ (Unit {0} × (n.dead ≡ true))) × (IsKnown known → IsKnown n)) s.2 (inr (tt, refl), λ h d. absurd (cc d))
acted_stays Drops known next e =
    let s = map_some (take_any known) (λ (taken : Option ValType × Known). taken.1) next e in
    let a = any_stays known.dead known.types s.0 s.1 in
    subst (λ n. ((n.dead ≡ known.dead) ⊎ (⊥ × (n.dead ≡ true))) × (IsKnown known → IsKnown n)) s.2 (inl a.0, λ h. (a.1 h).0)
acted_stays Selects known next e =
    let i = then_some (take_one I32 known) _ next e in
    let b = then_some (take_any i.0) _ next i.2 in
    let a = then_some (take_any b.0.1) _ next b.2 in
    let t = map_some (joined a.0.0 b.0.0) (λ t. put_one t a.0.1) next a.2 in
    selected known next i.0 b.0 a.0 t.0 i.1 b.1 a.1 t.1 t.2
  where
    selected : (known next k : Known) (b a : Option ValType × Known) (t : Option ValType) → take_one I32 known ≡ Some k → take_any k ≡ Some b → take_any b.1 ≡ Some a → joined a.0 b.0 ≡ Some t → put_one t a.1 ≡ next
        → ((next.dead ≡ known.dead) ⊎ (⊥ × (next.dead ≡ true))) × (IsKnown known → IsKnown next)
    selected known next k b a t ei eb ea et en =
        let si = one_stays I32 known.dead known.types k ei in
        let sb = any_stays k.dead k.types b eb in
        let sa = any_stays b.1.dead b.1.types a ea in
        let put : IsKnown known → IsKnown (put_one t a.1) = λ h d.
        let live_b : b.1.dead ≡ false = sym sa.0 ∙ d in
        let live_k : k.dead ≡ false = sym sb.0 ∙ live_b in
        let kb = sb.1 (si.1 h) in
        let ka = sa.1 kb.0 in
        let x = ka.1 live_b in
        let y = kb.1 live_k in
        let types = ka.0 d in
        (x.0 ∷ types.0, ap (λ o. o ∷ a.1.types) (joined_known a.0 b.0 t x.0 y.0 x.1 y.1 et) ∙ ap (λ l. Some x.0 ∷ l) types.1) in
        subst (λ n. ((n.dead ≡ known.dead) ⊎ (⊥ × (n.dead ≡ true))) × (IsKnown known → IsKnown n)) en (inl (sa.0 ∙ (sb.0 ∙ si.0)), put)

-- ---- the relation

module _ (c : Context) (result : Option ValType) (May : Instr → Type 0) (cells marks : ℕ) where
  abbrev pub HasRoom : List (Option ValType) → ℕ → List ValType → Type 0
  HasRoom labels low before = (low + length before ≤ cells) × (length labels ≤ marks)

  abbrev pub FitAct : Action → List ValType → (List ValType → Type 0) → Type 0
  FitAct Wrong before next = ⊥
  FitAct (Takes ins outs) before next = (between : List ValType) × Acts (Takes ins outs) before between × next between
  FitAct (Ends ins) before next = Has ins before
  FitAct Drops before next = (between : List ValType) × Acts Drops before between × next between
  FitAct Selects before next = (between : List ValType) × Acts Selects before between × next between

  -- a sequence takes operands of these types to those, above so many others, with these labels
  abbrev pub Fit : List (Option ValType) → ℕ → Seq → List ValType → List ValType → Type 0
  Fit labels low Nil before after = HasRoom labels low before × (before ≡ after)
  Fit labels low (Plain i s) before after =
      HasRoom labels low before × May i × FitAct (action c result labels i) before (λ between. Fit labels low s between after)
  Fit labels low (InBlock t b s) before after =
      HasRoom labels low before × Fit (t ∷ labels) (low + length before) b [] (result_types t) × Fit labels low s (result_types t ++ before) after
  Fit labels low (InLoop t b s) before after =
      HasRoom labels low before × Fit (None ∷ labels) (low + length before) b [] (result_types t) × Fit labels low s (result_types t ++ before) after
  Fit labels low (InIf t y z s) before after =
      HasRoom labels low before × ((below : List ValType) × (before ≡ I32 ∷ below) × Fit (t ∷ labels) (low + length below) y [] (result_types t) × Fit (t ∷ labels) (low + length below) z [] (result_types t) × Fit labels low s (result_types t ++ below) after)

  pub room_of : (labels : List (Option ValType)) (low : ℕ) (s : Seq) (before after : List ValType) → Fit labels low s before after → HasRoom labels low before
  room_of labels low Nil before after f = f.0
  room_of labels low (Plain i s) before after f = f.0
  room_of labels low (InBlock t b s) before after f = f.0
  room_of labels low (InLoop t b s) before after f = f.0
  room_of labels low (InIf t y z s) before after f = f.0

  -- ---- what is accepted fits

  abbrev pub FitRest : Sequence → List Sequence → Seq → Type 0
  FitRest s ss rest = s.known.dead ≡ false → (before : List ValType) × (s.known.types ≡ all_known before) × Fit (labels_of (s ∷ ss)) (height ss) rest before (result_types s.result)

  abbrev pub HeldFit : List Piece → List Sequence → Type 0
  HeldFit [] [] = Unit {0}
  HeldFit [] (s ∷ ss) = ⊥
  HeldFit (p ∷ ps) [] = ⊥
  HeldFit (p ∷ ps) (s ∷ ss) =
      FitRest s ss p.rest × elim p.arm [
        | true ↦ (s.arm ≡ true) × HeldFit ps (second s ∷ ss)
        | false ↦ (s.arm ≡ true → s.result ≡ None) × HeldFit ps (gives s.result ss)
      ]

  abbrev pub AreKnown : List Sequence → Type 0
  AreKnown ss = AllByRecursion (λ s. IsKnown s.known) ss

  length_known : (types : List ValType) → length (all_known types) ≡ length types
  length_known types = length-map types (λ (t : ValType). Some t)

  length_labels : (ss : List Sequence) → length (labels_of ss) ≡ length ss
  length_labels ss = length-map ss (λ (s : Sequence). s.label)

  height_more : (s : Sequence) (ss : List Sequence) → height (s ∷ ss) ≡ length s.known.types + height ss
  height_more s ss = sum_by-cons (λ (s : Sequence). length s.known.types) s ss

  -- the room where a sequence goes on
  has_room : (s : Sequence) (ss : List Sequence) (before : List ValType) → s.known.types ≡ all_known before → IsRoomy cells marks (s ∷ ss) → HasRoom (labels_of (s ∷ ss)) (height ss) before
  has_room s ss before e r =
      let n : length s.known.types ≡ length before = ap (λ l. length l) e ∙ length_known before in
      (omega (arith, r.0, height_more s ss), omega (arith, r.1, length_labels (s ∷ ss)))

  -- the operands below a sequence that is opened
  low_is : (s : Sequence) (ss : List Sequence) (before : List ValType) → s.known.types ≡ all_known before → height (s ∷ ss) ≡ height ss + length before
  low_is s ss before e =
      let n : length s.known.types ≡ length before = ap (λ l. length l) e ∙ length_known before in
      omega (arith, height_more s ss)

  nothing_known : (before : List ValType) → [] ≡ all_known before → before ≡ []
  nothing_known [] e = refl
  nothing_known (t ∷ before) e = absurd cc

  put_known : (t : Option ValType) (ks : List (Option ValType)) (below before : List ValType) → ks ≡ all_known below → all_known (result_types t) ++ ks ≡ all_known before → before ≡ result_types t ++ below
  put_known t ks below before e f =
      same_known before (result_types t ++ below) (sym f ∙ (ap (λ l. all_known (result_types t) ++ l) e ∙ sym (known_append (result_types t) below)))

  closed_fit : (f : Seq → Seq → Seq) (t label : Option ValType) (k : Known) (s : Sequence) (ss : List Sequence) → IsKnown k → k.dead ≡ s.known.dead
      → ((body rest : Seq) (below : List ValType) → k.types ≡ all_known below → s.known.dead ≡ false → Fit (label ∷ labels_of (s ∷ ss)) (height ss + length below) body [] (result_types t) → Fit (labels_of (s ∷ ss)) (height ss) rest (result_types t ++ below) (result_types s.result)
      → (before : List ValType) × (s.known.types ≡ all_known before) × Fit (labels_of (s ∷ ss)) (height ss) (f body rest) before (result_types s.result))
      → (arm : Bool) (body : Seq) (ps : List Piece) → HeldFit (record { arm = arm; rest = body } ∷ ps) (opened label t false (with_known k s ∷ ss)) → HeldFit (closing f (record { arm = arm; rest = body } ∷ ps)) (s ∷ ss)
  closed_fit f t label k s ss known same make true body ps h = absurd (cc h.1.0)
  closed_fit f t label k s ss known same make false body [] h = absurd h.1.1
  closed_fit f t label k s ss known same make false body (p ∷ ps) h = (
    λ d.
        let live : k.dead ≡ false = same ∙ d in
        let below = (known live).0 in
        let is : k.types ≡ all_known below = (known live).1 in
        let b = h.0 refl in
        let inner : Fit (label ∷ labels_of (s ∷ ss)) (height ss + length below) body [] (result_types t) =
        subst (λ (n : ℕ). Fit (label ∷ labels_of (s ∷ ss)) n body [] (result_types t)) (low_is (with_known k s) ss below is)
        (subst (λ l. Fit (label ∷ labels_of (s ∷ ss)) (height (with_known k s ∷ ss)) body l (result_types t)) (nothing_known b.0 b.1) b.2) in
        let r = h.1.1.0 live in
        let outer : Fit (labels_of (s ∷ ss)) (height ss) p.rest (result_types t ++ below) (result_types s.result) =
        subst (λ l. Fit (labels_of (s ∷ ss)) (height ss) p.rest l (result_types s.result)) (put_known t k.types below r.0 is r.1) r.2 in
        make body p.rest below is d inner outer,
    h.1.1.1,
  )

  whole_fit : (f : Seq → Seq → Seq) (t label : Option ValType) (k : Known) (s : Sequence) (ss : List Sequence) → IsKnown k → k.dead ≡ s.known.dead
      → ((body rest : Seq) (below : List ValType) → k.types ≡ all_known below → s.known.dead ≡ false → Fit (label ∷ labels_of (s ∷ ss)) (height ss + length below) body [] (result_types t) → Fit (labels_of (s ∷ ss)) (height ss) rest (result_types t ++ below) (result_types s.result)
      → (before : List ValType) × (s.known.types ≡ all_known before) × Fit (labels_of (s ∷ ss)) (height ss) (f body rest) before (result_types s.result))
      → (ps : List Piece) → HeldFit ps (opened label t false (with_known k s ∷ ss)) → HeldFit (closing f ps) (s ∷ ss)
  whole_fit f t label k s ss known same make [] h = absurd h
  whole_fit f t label k s ss known same make (p ∷ ps) h = closed_fit f t label k s ss known same make p.arm p.rest ps h

  i32_below : (known k : Known) (below : List ValType) → takes (I32 ∷ []) [] known ≡ Some k → known.dead ≡ false → IsKnown known → k.types ≡ all_known below → known.types ≡ all_known (I32 ∷ below)
  unfolding acted
  i32_below known k below e d h is =
      let s = acted_stays (Takes (I32 ∷ []) []) known k e in
      let live : k.dead ≡ false = elim s.0 [ inl q ↦ q ∙ d | inr q ↦ absurd q.0 ] in
      let a = acted_from (Takes (I32 ∷ []) []) known k below e (fits_known k below live is) in
      let ks = h d in
      let before : a.0 ≡ ks.0 = known_is known ks.0 a.0 d ks.1 a.1 in
      let whole : a.0 ≡ I32 ∷ below = a.2.had ∙ ap (λ (l : List ValType). I32 ∷ l) (sym a.2.has) in
      ks.1 ∙ ap all_known (sym before ∙ whole)

  i32_dead : (known k : Known) → takes (I32 ∷ []) [] known ≡ Some k → k.dead ≡ known.dead
  unfolding acted
  i32_dead known k e = elim (acted_stays (Takes (I32 ∷ []) []) known k e).0 [ inl q ↦ q | inr q ↦ absurd q.0 ]

  i32_known : (known k : Known) → takes (I32 ∷ []) [] known ≡ Some k → IsKnown known → IsKnown k
  unfolding acted
  i32_known known k e h = (acted_stays (Takes (I32 ∷ []) []) known k e).1 h

  if_fit : (t : Option ValType) (k : Known) (s : Sequence) (ss : List Sequence) → takes (I32 ∷ []) [] s.known ≡ Some k → IsKnown s.known → IsRoomy cells marks (s ∷ ss) → IsRoomy cells marks (opened t t true (with_known k s ∷ ss))
      → (arm : Bool) (first : Seq) (ps : List Piece) → HeldFit (record { arm = arm; rest = first } ∷ ps) (opened t t true (with_known k s ∷ ss)) → HeldFit (closing_if (InIf t) (record { arm = arm; rest = first } ∷ ps)) (s ∷ ss)
  if_fit t k s ss e known room inside true first ps h =
      whole_fit (InIf t first) t t k s ss (i32_known s.known k e known) (i32_dead s.known k e)
      (λ body rest below is d inner outer.
      let types = i32_below s.known k below e d known is in
      let b = h.0 refl in
      let arm : Fit (t ∷ labels_of (s ∷ ss)) (height ss + length below) first [] (result_types t) =
      subst (λ (n : ℕ). Fit (t ∷ labels_of (s ∷ ss)) n first [] (result_types t)) (low_is (with_known k s) ss below is)
      (subst (λ l. Fit (t ∷ labels_of (s ∷ ss)) (height (with_known k s ∷ ss)) first l (result_types t)) (nothing_known b.0 b.1) b.2) in
      (I32 ∷ below, types, (has_room s ss (I32 ∷ below) types room, (below, refl, arm, inner, outer))))
      ps h.1.1
  if_fit t k s ss e known room inside false first [] h = absurd h.1.1
  if_fit t k s ss e known room inside false first (p ∷ ps) h = (
    λ d.
        let live : k.dead ≡ false = i32_dead s.known k e ∙ d in
        let below = (i32_known s.known k e known live).0 in
        let is : k.types ≡ all_known below = (i32_known s.known k e known live).1 in
        let types = i32_below s.known k below e d known is in
        let b = h.0 refl in
        let low : height (with_known k s ∷ ss) ≡ height ss + length below = low_is (with_known k s) ss below is in
        let arm : Fit (t ∷ labels_of (s ∷ ss)) (height ss + length below) first [] (result_types t) =
        subst (λ (n : ℕ). Fit (t ∷ labels_of (s ∷ ss)) n first [] (result_types t)) low
        (subst (λ l. Fit (t ∷ labels_of (s ∷ ss)) (height (with_known k s ∷ ss)) first l (result_types t)) (nothing_known b.0 b.1) b.2) in
        let none : [] ≡ result_types t = sym (ap result_types (h.1.0 refl)) in
        let deep : length (labels_of (s ∷ ss)) + 1 ≤ marks = omega (arith, inside.1, length_labels (s ∷ ss)) in
        let other : Fit (t ∷ labels_of (s ∷ ss)) (height ss + length below) Nil [] (result_types t) = ((omega (arith, inside.0, low), omega arith), none) in
        let r = h.1.1.0 live in
        let outer : Fit (labels_of (s ∷ ss)) (height ss) p.rest (result_types t ++ below) (result_types s.result) =
        subst (λ l. Fit (labels_of (s ∷ ss)) (height ss) p.rest l (result_types s.result)) (put_known t k.types below r.0 is r.1) r.2 in
        (I32 ∷ below, types, (has_room s ss (I32 ∷ below) types room, (below, refl, arm, other, outer))),
    h.1.1.1,
  )

  if_whole : (t : Option ValType) (k : Known) (s : Sequence) (ss : List Sequence) → takes (I32 ∷ []) [] s.known ≡ Some k → IsKnown s.known → IsRoomy cells marks (s ∷ ss) → IsRoomy cells marks (opened t t true (with_known k s ∷ ss))
      → (ps : List Piece) → HeldFit ps (opened t t true (with_known k s ∷ ss)) → HeldFit (closing_if (InIf t) ps) (s ∷ ss)
  if_whole t k s ss e known room inside [] h = absurd h
  if_whole t k s ss e known room inside (p ∷ ps) h = if_fit t k s ss e known room inside p.arm p.rest ps h

  act_fit : (a : Action) (known k : Known) (before between : List ValType) (next : List ValType → Type 0) → (IsEnding a → ⊥) → Acts a before between → next between → FitAct a before next
  act_fit Wrong known k before between next e h n = absurd h
  act_fit (Takes ins outs) known k before between next e h n = (between, h, n)
  act_fit (Ends ins) known k before between next e h n = absurd (e tt)
  act_fit Drops known k before between next e h n = (between, h, n)
  act_fit Selects known k before between next e h n = (between, h, n)

  end_fit : (a : Action) (before between : List ValType) (next : List ValType → Type 0) → IsEnding a → Acts a before between → FitAct a before next
  end_fit Wrong before between next e h = absurd e
  end_fit (Takes ins outs) before between next e h = absurd e
  end_fit (Ends ins) before between next e h = h
  end_fit Drops before between next e h = absurd e
  end_fit Selects before between next e h = absurd e

  not_ending : (a : Action) (known next : Known) → acted a known ≡ Some next → next.dead ≡ false → IsEnding a → ⊥
  unfolding acted
  not_ending Wrong known next e d h = h
  not_ending (Takes ins outs) known next e d h = h
  not_ending (Ends ins) known next e d h = let s = map_some (take_all ins known) (λ k. unreached) next e in let q : unreached.dead ≡ false = ap (λ (k : Known). k.dead) s.2 ∙ d in absurd (cc q)
  not_ending Drops known next e d h = h
  not_ending Selects known next e d h = h

  -- operands that fit what is left of an ended sequence
  plain_fit : (i : Instr) (s : Sequence) (ss : List Sequence) (k : Known) → acted (action c result (labels_of (s ∷ ss)) i) s.known ≡ Some k → IsKnown s.known → IsRoomy cells marks (s ∷ ss) → May i
      → (ps : List Piece) → HeldFit ps (with_known k s ∷ ss) → HeldFit (onto (Plain i) ps) (s ∷ ss)
  plain_fit i s ss k e known room may [] h = absurd h
  plain_fit i s ss k e known room may (p ∷ ps) h = (
    λ d.
        let a = action c result (labels_of (s ∷ ss)) i in
        let ks = known d in
        let there = has_room s ss ks.0 ks.1 room in
        elim (acted_stays a s.known k e).0 [
          | inl q ↦
              let live : k.dead ≡ false = q ∙ d in
              let r = h.0 live in
              let f = acted_from a s.known k r.0 e (fits_known k r.0 live r.1) in
              let before : f.0 ≡ ks.0 = known_is s.known ks.0 f.0 d ks.1 f.1 in
              let acts : Acts a ks.0 r.0 = subst (λ l. Acts a l r.0) before f.2 in
              (ks.0, ks.1, (there, may, act_fit a s.known k ks.0 r.0 (λ between. Fit (labels_of (s ∷ ss)) (height ss) p.rest between (result_types s.result)) (not_ending a s.known k e live) acts r.2))
          | inr q ↦
              let some = unreached_fits k q.1 in
              let f = acted_from a s.known k some.0 e some.1 in
              let before : f.0 ≡ ks.0 = known_is s.known ks.0 f.0 d ks.1 f.1 in
              let acts : Acts a ks.0 some.0 = subst (λ l. Acts a l some.0) before f.2 in
              (ks.0, ks.1, (there, may, end_fit a ks.0 some.0 (λ between. Fit (labels_of (s ∷ ss)) (height ss) p.rest between (result_types s.result)) q.0 acts))
        ],
    h.1,
  )
    where
      some_types : (ks : List (Option ValType)) → (below : List ValType) × Fits (known_with true ks) below
      some_types [] = ([], tt)
      some_types (None ∷ ks) = let s = some_types ks in (I32 ∷ s.0, (refl, s.1))
      some_types (Some t ∷ ks) = let s = some_types ks in (t ∷ s.0, (same_self t, s.1))

      unreached_fits : (k : Known) → k.dead ≡ true → (below : List ValType) × Fits k below
      unreached_fits k d = let s = some_types k.types in (s.0, subst (λ (b : Bool). Fits (known_with b k.types) s.0) (sym d) s.1)

  stays_next : (code : List Instr) (o : Option (List Sequence)) (n : List Sequence) → o ≡ Some n → IfSome o (λ next. Stays c result cells marks next code) → Stays c result cells marks n code
  stays_next code o n e h = let P : Option (List Sequence) → Type 0 = λ o. IfSome o (λ next. Stays c result cells marks next code) in subst P e h

  room_first : (code : List Instr) (ss : List Sequence) → Stays c result cells marks ss code → IsRoomy cells marks ss
  room_first [] ss h = h
  room_first (i ∷ code) ss h = h.0

  fresh_known : IsKnown nothing
  fresh_known d = ([], refl)

  gives_known : (t : Option ValType) (ss : List Sequence) → AreKnown ss → AreKnown (gives t ss)
  gives_known t [] h = tt
  gives_known t (s ∷ ss) h = (put_stays (result_types t) s.known h.0, h.1)

  -- the end of a sequence
  ended : (s : Sequence) (ss : List Sequence) → IsKnown s.known → IsRoomy cells marks (s ∷ ss) → is_finished s ≡ true → FitRest s ss Nil
  ended s ss known room e d =
      let ks = known d in
      let f = finished_fits s e in
      (ks.0, ks.1, (has_room s ss ks.0 ks.1 room, sym (known_is s.known ks.0 (result_types s.result) d ks.1 f)))

  only_none : (s : Sequence) → (not s.arm || gives_nothing s.result) ≡ true → s.arm ≡ true → s.result ≡ None
  only_none s e is = at s.arm s.result e is
    where
      at : (arm : Bool) (t : Option ValType) → (not arm || gives_nothing t) ≡ true → arm ≡ true → t ≡ None
      at true None e is = refl
      at true (Some t) e is = absurd cc
      at false t e is = absurd cc

  abbrev FitLater : List Instr → Type 0
  FitLater code = (ss : List Sequence) → after_all c result ss code ≡ Some [] → Stays c result cells marks ss code → AreKnown ss → HeldFit (pieces code) ss

  plain_later : (i : Instr) (s : Sequence) (ss : List Sequence) (code : List Instr) → FitLater code
      → option_and_then (λ next. after_all c result next code) (option_map (λ known. with_known known s ∷ ss) (acted (action c result (labels_of (s ∷ ss)) i) s.known)) ≡ Some []
      → IsRoomy cells marks (s ∷ ss) → IfSome (option_map (λ known. with_known known s ∷ ss) (acted (action c result (labels_of (s ∷ ss)) i) s.known)) (λ next. Stays c result cells marks next code)
      → AreKnown (s ∷ ss) → May i → HeldFit (onto (Plain i) (pieces code)) (s ∷ ss)
  plain_later i s ss code again e room stays known may =
      let n = then_some (option_map (λ known. with_known known s ∷ ss) (acted (action c result (labels_of (s ∷ ss)) i) s.known)) (λ next. after_all c result next code) [] e in
      let k = map_some (acted (action c result (labels_of (s ∷ ss)) i) s.known) (λ known. with_known known s ∷ ss) n.0 n.1 in
      let a = acted_stays (action c result (labels_of (s ∷ ss)) i) s.known k.0 k.1 in
      plain_fit i s ss k.0 k.1 known.0 room may (pieces code)
      (again (with_known k.0 s ∷ ss) (ap (λ next. after_all c result next code) k.2 ∙ n.2) (subst (λ next. Stays c result cells marks next code) (sym k.2) (stays_next code _ n.0 n.1 stays)) (a.1 known.0, known.1))

  pub fits : (code : List Instr) → AllByRecursion May code → FitLater code
  unfolding after_all inside pieces
  fits [] may ss e stays known = subst (λ l. HeldFit [] l) (sym (some_is ss [] e)) tt
  fits (i ∷ code) may [] e stays known = absurd cc
  fits (instr.Block t ∷ code) may (s ∷ ss) e stays known =
      whole_fit (InBlock t) t t s.known s ss known.0 refl
      (λ body rest below is d inner outer. (below, is, (has_room s ss below is stays.0, inner, outer)))
      (pieces code) (fits code may.1 (opened t t false (s ∷ ss)) e stays.1 (fresh_known, known))
  fits (instr.Loop t ∷ code) may (s ∷ ss) e stays known =
      whole_fit (InLoop t) t None s.known s ss known.0 refl
      (λ body rest below is d inner outer. (below, is, (has_room s ss below is stays.0, inner, outer)))
      (pieces code) (fits code may.1 (opened None t false (s ∷ ss)) e stays.1 (fresh_known, known))
  fits (instr.If t ∷ code) may (s ∷ ss) e stays known =
      let n = then_some (option_map (λ known. opened t t true (with_known known s ∷ ss)) (takes (I32 ∷ []) [] s.known)) (λ next. after_all c result next code) [] e in
      let k = map_some (takes (I32 ∷ []) [] s.known) (λ known. opened t t true (with_known known s ∷ ss)) n.0 n.1 in
      let later = subst (λ next. Stays c result cells marks next code) (sym k.2) (stays_next code _ n.0 n.1 stays.1) in
      if_whole t k.0 s ss k.1 known.0 stays.0 (room_first code (opened t t true (with_known k.0 s ∷ ss)) later) (pieces code)
      (fits code may.1 (opened t t true (with_known k.0 s ∷ ss)) (ap (λ next. after_all c result next code) k.2 ∙ n.2) later (fresh_known, (i32_known s.known k.0 k.1 known.0, known.1)))
  fits (instr.Else ∷ code) may (s ∷ ss) e stays known =
      let n = then_some (some_if (s.arm && is_finished s) (second s ∷ ss)) (λ next. after_all c result next code) [] e in
      let t = some_if_is (s.arm && is_finished s) (second s ∷ ss) n.0 n.1 in
      let b = both_true s.arm (is_finished s) t.0 in
      let later = subst (λ next. Stays c result cells marks next code) (sym t.1) (stays_next code _ n.0 n.1 stays.1) in
      (ended s ss known.0 stays.0 b.1, (b.0, fits code may.1 (second s ∷ ss) (ap (λ next. after_all c result next code) t.1 ∙ n.2) later (fresh_known, known.1)))
  fits (instr.End ∷ code) may (s ∷ ss) e stays known =
      let n = then_some (some_if (is_finished s && (not s.arm || gives_nothing s.result)) (gives s.result ss)) (λ next. after_all c result next code) [] e in
      let t = some_if_is (is_finished s && (not s.arm || gives_nothing s.result)) (gives s.result ss) n.0 n.1 in
      let b = both_true (is_finished s) (not s.arm || gives_nothing s.result) t.0 in
      let later = subst (λ next. Stays c result cells marks next code) (sym t.1) (stays_next code _ n.0 n.1 stays.1) in
      (ended s ss known.0 stays.0 b.0, (only_none s b.1, fits code may.1 (gives s.result ss) (ap (λ next. after_all c result next code) t.1 ∙ n.2) later (gives_known s.result ss known.1)))
  fits (_ ∷ code) may (s ∷ ss) e stays known = plain_later _ s ss code (fits code may.1) e stays.0 stays.1 known may.0
