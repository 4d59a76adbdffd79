-- Traces that begin others.
use Rattle.std.proofs.Common.{◌≡◌, List, [], ◌++◌, refl, sym, ap, ◌∙◌, append_assoc, append-nil}
use Rattle.cm_base.specs.declared.play.Item.{Item}
use Rattle.wasm_tree.specs.Keeps.{IsFront}

pub front_same : (a : List Item) → IsFront a a
front_same a = record { rest = []; joined = sym (append-nil a) }

pub front_of : {a b : List Item} → a ≡ b → IsFront a b
front_of {a} {b} e = record { rest = []; joined = sym e ∙ sym (append-nil a) }

pub front_add : (a b : List Item) → IsFront a (a ++ b)
front_add a b = record { rest = b; joined = refl }

pub front_then : {a b c : List Item} → IsFront a b → IsFront b c → IsFront a c
front_then {a} {b} {c} first second =
    record { rest = first.rest ++ second.rest; joined = second.joined ∙ ap (λ l. l ++ second.rest) first.joined ∙ append_assoc a first.rest second.rest }
