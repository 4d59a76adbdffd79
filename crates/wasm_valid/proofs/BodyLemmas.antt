-- One instruction of a body.
use Rattle.std.proofs.Common.{◌≡◌, ◌<◌, List, [], ◌∷◌, length, Option, Some, None, Bool, true, false, refl, ap, arith}
use Rattle.std.specs.Option.{option_map}
use Rattle.wasm_tree.specs.declared.module.ValType.{ValType}
use Rattle.wasm_tree.specs.declared.module.ValType.TheVariants.{I32}
use Rattle.wasm_tree.specs.declared.instr.Instr.{Instr}
use Rattle.wasm_tree.specs.declared.instr.Instr.TheVariants as instr
use Rattle.wasm_tree.specs.Typed.{Context, result_types}
use Rattle.wasm_valid.specs.Checking.{Known, Sequence, with_known, takes, acted, action, opened, labels_of, inside, after_one}
use Rattle.wasm_valid.specs.Frames.{changed, Tells, second_step, close_step}
use Rattle.wasm_valid.specs.Bodies.{if_step, IsPlain}

pub if_opens : (ss after : List Sequence) (t : Option ValType) → changed (takes (I32 ∷ []) (result_types None)) ss ≡ Some after → if_step t ss ≡ Some (opened t t true after)
if_opens [] after t e = absurd cc
if_opens (s ∷ ss) after t e = at (takes (I32 ∷ []) [] s.known) e
  where
    at : (o : Option Known) → option_map (λ known. with_known known s ∷ ss) o ≡ Some after → option_map (λ known. opened t t true (with_known known s ∷ ss)) o ≡ Some (opened t t true after)
    at None e = absurd cc
    at (Some k) e = let is : with_known k s ∷ ss ≡ after = cc e in ap (λ l. Some (opened t t true l)) is

pub if_lacks : (ss : List Sequence) (t : Option ValType) → changed (takes (I32 ∷ []) (result_types None)) ss ≡ None → if_step t ss ≡ None
if_lacks [] t e = refl
if_lacks (s ∷ ss) t e = at (takes (I32 ∷ []) [] s.known) e
  where
    at : (o : Option Known) → option_map (λ known. with_known known s ∷ ss) o ≡ None → option_map (λ known. opened t t true (with_known known s ∷ ss)) o ≡ None
    at None e = refl
    at (Some k) e = absurd cc

pub block_opens : (c : Context) (r : Option ValType) (ss : List Sequence) (t : Option ValType) → 0 < length ss → after_one c r ss (instr.Block t) ≡ Some (opened t t false ss)
unfolding inside
block_opens c r [] t some = absurd (omega (arith, some))
block_opens c r (s ∷ ss) t some = refl

pub loop_opens : (c : Context) (r : Option ValType) (ss : List Sequence) (t : Option ValType) → 0 < length ss → after_one c r ss (instr.Loop t) ≡ Some (opened None t false ss)
unfolding inside
loop_opens c r [] t some = absurd (omega (arith, some))
loop_opens c r (s ∷ ss) t some = refl

pub if_as : (c : Context) (r : Option ValType) (ss after : List Sequence) (t : Option ValType) (b : Bool) → Tells b (if_step t ss) after → Tells b (after_one c r ss (instr.If t)) after
unfolding inside
if_as c r [] after t b h = h
if_as c r (s ∷ ss) after t b h = h

pub second_as : (c : Context) (r : Option ValType) (ss after : List Sequence) (b : Bool) → Tells b (second_step ss) after → Tells b (after_one c r ss instr.Else) after
unfolding inside
second_as c r [] after b h = h
second_as c r (s ∷ ss) after b h = h

pub close_as : (c : Context) (r : Option ValType) (ss after : List Sequence) (b : Bool) → Tells b (close_step ss) after → Tells b (after_one c r ss instr.End) after
unfolding inside
close_as c r [] after b h = h
close_as c r (s ∷ ss) after b h = h

pub plain_as : (c : Context) (r : Option ValType) (ss after : List Sequence) (i : Instr) (b : Bool) → IsPlain i → 0 < length ss → Tells b (changed (acted (action c r (labels_of ss) i)) ss) after → Tells b (after_one c r ss i) after
unfolding inside
plain_as c r [] after i b p some h = absurd (omega (arith, some))
plain_as c r (s ∷ ss) after (instr.Block t) b p some h = absurd p
plain_as c r (s ∷ ss) after (instr.Loop t) b p some h = absurd p
plain_as c r (s ∷ ss) after (instr.If t) b p some h = absurd p
plain_as c r (s ∷ ss) after instr.Else b p some h = absurd p
plain_as c r (s ∷ ss) after instr.End b p some h = absurd p
plain_as c r (s ∷ ss) after _ b p some h = h
