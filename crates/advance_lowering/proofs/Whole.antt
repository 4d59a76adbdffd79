-- The blocks of a main stand for its rests.
use Rattle.std.proofs.Common.{◌≡◌, ℕ, zero, suc, ◌+◌, List, [], ◌∷◌, ◌++◌, true, false, Some, None, length, refl, sym, ap, ◌∙◌, subst, arith, append_assoc, length-append}
use Rattle.std.specs.Prelude.{slice_get, map}
use Rattle.std.proofs.Math.Seq.{get_or-append_seam}
use Rattle.std.proofs.lemmas.List.{length-map}
use Rattle.cm_core.specs.Code.{Stmt}
use Rattle.cm_core.specs.World.{Do}
use Rattle.cm_core.specs.Eval.{Hooks}
use Rattle.cm_core.specs.Resume.{On, resume}
use Rattle.cm_core.specs.Calls.{hooks}
use Rattle.cm_core.specs.Measures.{any_advances, main_splits}
use Rattle.cm_core.proofs.Steady.{Calm}
use Rattle.cm_core.proofs.Runs.{calm_hooks}
use Rattle.advance_lowering.specs.Blocks.{Finish, B, Rests, rest_at, run_block, Falls, Stands, is_orderly}
use Rattle.advance_lowering.specs.Lowered.{Marked, Part, at_end, closed, bare, whole, whole_blocks}
use Rattle.advance_lowering.proofs.Meaning.{HasAt, has_back, has_front, EachStands, each_append, Good, lower_good}
use Rattle.advance_lowering.proofs.Falling.{Falling, falling_append, closed_falls, Fine, lower_fine}
use Rattle.advance_lowering.proofs.Plain.{Plain, plain_append, Bare, main_bare}

abbrev rests_of : List Marked → Rests
rests_of xs = map (λ x. x.0) xs

has_all : (xs : List Marked) (pre : Rests) → HasAt (pre ++ rests_of xs) (length pre) xs
has_all [] pre = tt
has_all (x ∷ xs) pre =
    let n : length (pre ++ x.0 ∷ []) ≡ length pre + 1 = omega (arith, length-append pre (x.0 ∷ [])) in
    let rest = has_all xs (pre ++ x.0 ∷ []) in
    let rest' = subst (λ l. HasAt l (length (pre ++ x.0 ∷ [])) xs) (append_assoc pre (x.0 ∷ []) (rests_of xs)) rest in
    (get_or-append_seam pre x.0 (rests_of xs) [], subst (λ m. HasAt (pre ++ x.0 ∷ rests_of xs) m xs) n rest')

at_each : (h : Hooks) (calm : Calm h) (rs : Rests) (xs : List Marked) (base b : ℕ) (block : B) → HasAt rs base xs → EachStands h calm rs xs →
    slice_get (bare xs) b ≡ Some block → run_block rs block h ≡ resume (rest_at rs (base + b)) h On
at_each h calm rs [] base b block k e g = let f : None ≡ Some block = g in cc
at_each h calm rs (x ∷ xs) base zero block k e g =
    let same : Some x.1 ≡ Some block = g in
    let eq : x.1 ≡ block = cc in
    let z : base ≡ base + 0 = omega arith in
    ap (λ y. run_block rs y h) (sym eq) ∙ e.0 ∙ ap (λ y. resume y h On) (sym k.0) ∙ ap (λ y. resume (rest_at rs y) h On) z
at_each h calm rs (x ∷ xs) base (suc b) block k e g =
    let z : base + 1 + b ≡ base + suc b = omega arith in
    at_each h calm rs xs (base + 1) b block k.1 e.1 g ∙ ap (λ y. resume (rest_at rs y) h On) z

at_falls : (count : ℕ) (xs : List Marked) (base b : ℕ) (block : B) → Falling count base xs → slice_get (bare xs) b ≡ Some block → Falls count (base + b) block
at_falls count [] base b block h g = let f : None ≡ Some block = g in cc
at_falls count (x ∷ xs) base zero block h g =
    let same : Some x.1 ≡ Some block = g in
    let eq : x.1 ≡ block = cc in
    let z : base ≡ base + 0 = omega arith in
    subst (λ y. Falls count (base + 0) y) eq (subst (λ y. Falls count y x.1) z h.0)
at_falls count (x ∷ xs) base (suc b) block h g =
    let z : base + 1 + b ≡ base + suc b = omega arith in
    subst (λ y. Falls count y block) z (at_falls count xs (base + 1) b block h.1 g)

at_plain : (xs : List Marked) (b : ℕ) (block : B) → Plain xs → slice_get (bare xs) b ≡ Some block → any_advances block.body ≡ false
at_plain [] b block h g = let f : None ≡ Some block = g in cc
at_plain (x ∷ xs) zero block h g =
    let same : Some x.1 ≡ Some block = g in
    let eq : x.1 ≡ block = cc in
    ap (λ y. any_advances y.body) (sym eq) ∙ h.0
at_plain (x ∷ xs) (suc b) block h g = at_plain xs b block h.1 g

pub whole_stands : (s : Stmt) → is_orderly s ≡ true → Stands s (length (whole s).blocks) (bare (whole_blocks s))
whole_stands s q = record {
  rests = rs;
  size = length-map (whole_blocks s) (λ x. x.0) ∙ sym (length-map (whole_blocks s) (λ x. x.1));
  starts = omega (arith, len, many);
  entry = (let z : length p.blocks ≡ 0 + length p.blocks = omega arith in ap (rest_at rs) z ∙ (has_back rs 0 p.blocks (last ∷ []) has).0);
  each = λ b block g l depth i.
      at_each (hooks l depth i) (calm_hooks l depth i) rs (whole_blocks s) 0 b block has (each (hooks l depth i) (calm_hooks l depth i)) g
      ∙ (let z : 0 + b ≡ b = omega arith in ap (λ y. resume (rest_at rs y) (hooks l depth i) On) z);
  falls = λ b block g. (let z : 0 + b ≡ b = omega arith in subst (λ y. Falls count y block) z (at_falls count (whole_blocks s) 0 b block falls g));
  plain = λ b block g. at_plain (whole_blocks s) b block (plain_append p.blocks _ free.each (free.top, tt)) g;
  few = let z = free.few in omega (arith, z, len, many);
}
  where
    rs : Rests
    rs = rests_of (whole_blocks s)

    p : Part
    p = whole s

    last : Marked
    last = (Do s ∷ [], closed None p.top)

    count : ℕ
    count = length (bare (whole_blocks s))

    many : length (bare (whole_blocks s)) ≡ length (whole_blocks s)
    many = length-map (whole_blocks s) (λ x. x.1)

    len : length (whole_blocks s) ≡ length (whole s).blocks + 1
    len = length-append (whole s).blocks ((Do s ∷ [], closed None (whole s).top) ∷ [])

    has : HasAt rs 0 (whole_blocks s)
    has = has_all (whole_blocks s) []

    good : (h : Hooks) (calm : Calm h) → Good h calm rs None p (Do s ∷ [])
    good h calm =
        lower_good h calm rs s 0 None (at_end Finish) [] q (record { on_break = refl; on_continue = refl }) (record { by = refl }) (has_front rs 0 p.blocks _ has)

    each : (h : Hooks) (calm : Calm h) → EachStands h calm rs (whole_blocks s)
    each h calm = let g = good h calm in each_append h calm rs p.blocks _ g.each (g.top.by, tt)

    free : Bare (main_splits s) p
    free = main_bare s 0 None (at_end Finish) [] q refl

    fine : Fine count 0 p
    fine = lower_fine count s 0 None (at_end Finish) [] tt tt (omega (arith, len, many))

    falls : Falling count 0 (whole_blocks s)
    falls = falling_append count 0 p.blocks (last ∷ []) fine.each (closed_falls count (0 + length p.blocks) None p.top tt fine.top, tt)
