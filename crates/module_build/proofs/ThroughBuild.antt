-- The module that passes its input through keeps its patch, and can be written.
use Rattle.std.proofs.Common.{◌≡◌, ◌≢◌, ℕ, ◌+◌, ◌<◌, ◌^◌, List, [], ◌∷◌, length, refl, sym, subst, arith, lit≤, lit<}
use Rattle.std.specs.Prelude.{Result, Ok, Err, IfOk, Some}
use Rattle.cm_meaning.specs.Linked.{Linked}
use Rattle.wasm_tree.specs.declared.module.Custom.{Custom}
use Rattle.wasm_tree.specs.declared.module.GlobalVar.{GlobalVar}
use Rattle.wasm_tree.specs.Section.{Spelled_section}
use Rattle.wasm_tree.specs.Spelled.{IsConstant}
use Rattle.wasm_tree.specs.Valid.{IsBodyWithinLimits}
use Rattle.wasm_writer.specs.Spelling.{IsWritable, unsigned_bytes, unsigned_within, signed_bytes, signed_within, custom_contents}
use Rattle.std.proofs.lemmas.List.Elements.{All-from_recursion}
use Rattle.through_meaning.proofs.Formed.{Worked, worked}
use Rattle.through_meaning.proofs.Sized.{bytes_are}
use Rattle.module_build.specs.Build.{HasPages, KeepsForm, HasFormPages}
use Rattle.module_build.specs.Through.{through_module, through_section, cmajor_custom}
use Rattle.module_build.proofs.ThroughKeeps.{through_keeps}
use Rattle.module_build.proofs.ThroughValid.{through_valid}

pub keeps_form : (described input output : List ℕ) → input ≢ output → Spelled_section (through_section input output) described → KeepsForm input output (through_module described)
keeps_form described input output ne spelled patch is =
    let valid = through_valid described input output ne spelled in
    let keeping = through_keeps described input output patch (worked is) valid.cmajor.described.lawful in
    record {
      section = through_section input output;
      valid = valid;
      endpoints = keeping.endpoints;
      delay = keeping.delay;
      runs = keeping.runs;
      stopped = keeping.stopped;
    }

custom_short : (described : List ℕ) → length described < 2 ^ 31 + 2 ^ 30 → length (custom_contents (cmajor_custom described)) < 2 ^ 32
unfolding unsigned_bytes unsigned_within
custom_short described short = omega arith

pub writable : (described : List ℕ) → length described < 2 ^ 31 + 2 ^ 30 → IsWritable (through_module described)
unfolding unsigned_bytes unsigned_within signed_bytes signed_within
writable described short = record {
  lists = record { types = lit< tt; imports = lit< tt; functions = lit< tt; memory = lit< tt; globals = lit< tt; exports = lit< tt; codes = lit< tt; segments = lit< tt };
  customs = All-from_recursion (λ (custom : Custom). length (custom_contents custom) < 2 ^ 32) (cmajor_custom described ∷ []) (custom_short described short, tt);
  constant = All-from_recursion (λ (global : GlobalVar). IsConstant global.value) [] tt;
  formed = All-from_recursion IsBodyWithinLimits (through_module described).codes (record { locals = lit≤ tt; nesting = refl }, (record { locals = lit≤ tt; nesting = refl }, tt));
  sorted = refl;
  bodies = refl;
}

-- a fact of a value is one of an `Ok` that has it
pub if_ok_along : (X E : Type 0) (P : X → Type 0) (r : Result X E) (y : X) → IfOk r (λ x. x ≡ y) → P y → IfOk r P
if_ok_along X E P (Ok x) y e p = subst P (sym e) p
if_ok_along X E P (Err x) y e p = tt

pages_of : (described input output : List ℕ) (patch : Linked) → Worked input output patch → HasPages patch (through_module described)
pages_of described input output patch w =
    subst (λ (l : Linked). HasPages l (through_module described)) (sym w.is)
    (subst (λ (n : ℕ). (through_module described).memory ≡ record { min = n; max = Some n } ∷ []) (sym (bytes_are w.files w.parts input output w.known w.names w.places)) refl)

pub pages : (described input output : List ℕ) → HasFormPages input output (through_module described)
pages described input output patch is = pages_of described input output patch (worked is)
