-- A refusal by the part that breaks a rule.
use Rattle.std.proofs.Common.{◌≡◌, ℕ, List, Result, sym, subst}
use Rattle.std.specs.Prelude.{IfOk}
use Rattle.cm_base.specs.declared.failure.NoMemory.{NoMemory}
use Rattle.wasm_tree.specs.declared.failure.ModuleRule.{ModuleRule}
use Rattle.wasm_tree.specs.declared.module.Module.{Module}
use Rattle.wasm_tree.specs.Spelled.{Spelled}
use Rattle.wasm_tree.specs.Refusal.{BreaksAt, IsOffset, IsRefusal}
use Rattle.wasm_valid.specs.declared.broken.Part.{Part}
use Rattle.wasm_valid.specs.IsBroken.{holder_of}
use Rattle.wasm_valid.proofs.PartOffsets.{part_offset}

pub refusal_is : (bytes : List ℕ) (m : Module) (rule : ModuleRule) (part : Part) (offset : ℕ) → Spelled bytes m → BreaksAt m rule (holder_of part) →
    ((there : ℕ) → IsOffset (holder_of part) there bytes → IsOffset (holder_of part) offset bytes) → IsRefusal (record { offset = offset; rule = rule }) m bytes
refusal_is bytes m rule part offset s breaks place =
    let there = part_offset bytes m rule (holder_of part) s breaks in
    record { holder = holder_of part; breaks = breaks; place = place there.0 there.1 }

abbrev pub Places : List ℕ → Part → ℕ → Type 0
Places bytes part offset = (there : ℕ) → IsOffset (holder_of part) there bytes → IsOffset (holder_of part) offset bytes

pub for_part : (bytes : List ℕ) (result : Result ℕ NoMemory) (part known : Part) → part ≡ known → IfOk result (Places bytes known) → IfOk result (Places bytes part)
for_part bytes result part known is h = subst (λ p. IfOk result (Places bytes p)) (sym is) h
