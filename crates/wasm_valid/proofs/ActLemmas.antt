-- What an instruction does, once what it names is found.
use Rattle.std.proofs.Common.{◌≡◌, List, [], ◌∷◌, Option, Some, None, Bool, true, false, cond, refl, sym, subst}
use Rattle.wasm_tree.specs.declared.module.ValType.{ValType}
use Rattle.wasm_valid.specs.Checking.{Sequence, takes, ends, drops, selects, Action, Wrong, Takes, Ends, Drops, Selects, acted, if_given}
use Rattle.wasm_valid.specs.Frames.{changed, Tells}

pub wrong : (ss after : List Sequence) → Tells false (changed (acted Wrong) ss) after
unfolding acted
wrong [] after = refl
wrong (s ∷ ss) after = refl

pub takes_as : (b : Bool) (ss after : List Sequence) (ins outs : List ValType) → Tells b (changed (takes ins outs) ss) after → Tells b (changed (acted (Takes ins outs)) ss) after
unfolding acted
takes_as b [] after ins outs h = h
takes_as b (s ∷ ss) after ins outs h = h

pub ends_as : (b : Bool) (ss after : List Sequence) (ins : List ValType) → Tells b (changed (ends ins) ss) after → Tells b (changed (acted (Ends ins)) ss) after
unfolding acted
ends_as b [] after ins h = h
ends_as b (s ∷ ss) after ins h = h

pub drops_as : (b : Bool) (ss after : List Sequence) → Tells b (changed drops ss) after → Tells b (changed (acted Drops) ss) after
unfolding acted
drops_as b [] after h = h
drops_as b (s ∷ ss) after h = h

pub selects_as : (b : Bool) (ss after : List Sequence) → Tells b (changed selects ss) after → Tells b (changed (acted Selects) ss) after
unfolding acted
selects_as b [] after h = h
selects_as b (s ∷ ss) after h = h

pub lacking : {A : Type 0} (o : Option A) (f : A → Action) (ss after : List Sequence) → o ≡ None → Tells false (changed (acted (if_given o f)) ss) after
lacking o f ss after e = subst (λ o. Tells false (changed (acted (if_given o f)) ss) after) (sym e) (wrong ss after)

pub given : {A : Type 0} (o : Option A) (x : A) (f : A → Action) (b : Bool) (ss after : List Sequence) → o ≡ Some x → Tells b (changed (acted (f x)) ss) after → Tells b (changed (acted (if_given o f)) ss) after
given o x f b ss after e h = subst (λ o. Tells b (changed (acted (if_given o f)) ss) after) (sym e) h

pub untested : (t : Bool) (a : Action) (ss after : List Sequence) → t ≡ false → Tells false (changed (acted (cond t a Wrong)) ss) after
untested t a ss after e = subst (λ t. Tells false (changed (acted (cond t a Wrong)) ss) after) (sym e) (wrong ss after)

pub tested : (t : Bool) (a : Action) (b : Bool) (ss after : List Sequence) → t ≡ true → Tells b (changed (acted a) ss) after → Tells b (changed (acted (cond t a Wrong)) ss) after
tested t a b ss after e h = subst (λ t. Tells b (changed (acted (cond t a Wrong)) ss) after) (sym e) h

pub told : (b : Bool) (step : Option (List Sequence)) (after : List Sequence) → b ≡ true → Tells b step after → step ≡ Some after
told b step after e h = subst (λ b. Tells b step after) e h
