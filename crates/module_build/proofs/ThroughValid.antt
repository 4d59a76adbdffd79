-- The module that passes its input through is valid.
use Rattle.std.proofs.Common.{◌≡◌, ℕ, zero, suc, List, [], ◌∷◌, length, subst, refl, sym, arith, lit≤, lit<}
use Rattle.std.specs.Prelude.{Contains, Some, slice_get, codes, pos}
use Rattle.std.specs.List.{AllByRecursion}
use Rattle.std.proofs.lemmas.Option.{slice_get_within, get_or_from_slice_get}
use Rattle.std.proofs.lemmas.List.Elements.{All-from_recursion}
use Rattle.cm_base.specs.HostEnds.{IsLawful, AreDistinct}
use Rattle.wasm_tree.specs.declared.module.ValType.TheVariants.{I32}
use Rattle.wasm_tree.specs.declared.instr.Instr.{Instr}
use Rattle.wasm_tree.specs.declared.instr.Instr.TheVariants as instr
use Rattle.wasm_tree.specs.declared.op.LoadOp.TheVariants as load
use Rattle.wasm_tree.specs.declared.op.StoreOp.TheVariants as store
use Rattle.wasm_tree.specs.Reduce.{Seq, Nil, Plain, pieces}
use Rattle.wasm_tree.specs.Section.{Spelled_section, IsSection, ends_of}
use Rattle.wasm_tree.specs.Host.{HasImport, HasExports, IsExported}
use Rattle.wasm_tree.specs.Valid.{Valid, Index, IsIndexed, IsThere, counts, IsBody, Calls, CallCycle, HasMemory, no_type}
use Rattle.module_build.specs.Through.{through_module, through_section, frame_code, init_code, body_of, word_at, one_page, emit_import, cmajor_custom}

-- ---- bodies

init_body : (described : List ℕ) → IsBody (through_module described) no_type (body_of init_code)
unfolding pieces
init_body described = record { tree = Nil; spells = refl; typed = refl; closed = refl }

frame_tree : Seq
frame_tree =
    Plain (instr.I32Const (pos 0)) (Plain (instr.I32Const (pos 0)) (Plain (instr.Load load.I32 (word_at 0)) (Plain (instr.Store store.I32 (word_at 4)) Nil)))

frame_body : (described : List ℕ) → IsBody (through_module described) no_type (body_of frame_code)
unfolding pieces frame_tree
frame_body described = record {
  tree = frame_tree;
  spells = refl;
  typed = (
    I32 ∷ [],
    record { below = []; had = refl; has = refl },
    (
      I32 ∷ I32 ∷ [],
      record { below = I32 ∷ []; had = refl; has = refl },
      (
        I32 ∷ I32 ∷ [],
        (lit≤ tt, record { below = I32 ∷ []; had = refl; has = refl }),
        ([], (lit≤ tt, record { below = []; had = refl; has = refl }), refl),
      ),
    ),
  );
  closed = refl;
}

-- ---- numbers

-- what holds of each instruction holds of the one at a place
instruction_at : (P : Instr → Type 0) (code : List Instr) (place : ℕ) (i : Instr) → AllByRecursion P code → slice_get code place ≡ Some i → P i
instruction_at P code place i all e = subst P (get_or_from_slice_get code place i i e) (All-from_recursion P code all place i (slice_get_within code place i e))

init_there : (described : List ℕ) → IsIndexed (through_module described) no_type (body_of init_code)
init_there described place i arms e opens =
    instruction_at (λ i. (n : ℕ) → IsThere (counts (through_module described) no_type (body_of init_code) n) i) init_code place i ((λ n. tt), tt) e (length arms)

frame_there : (described : List ℕ) → IsIndexed (through_module described) no_type (body_of frame_code)
frame_there described place i arms e opens =
    instruction_at (λ i. (n : ℕ) → IsThere (counts (through_module described) no_type (body_of frame_code) n) i) frame_code place i
    ((λ n. tt), ((λ n. tt), ((λ n. lit< tt), ((λ n. lit< tt), ((λ n. tt), tt))))) e (length arms)

has_numbers : (described : List ℕ) → Index (through_module described)
has_numbers described = record {
  imports = (lit< tt, tt);
  functions = (lit< tt, (lit< tt, tt));
  exports = (lit< tt, (lit< tt, (lit< tt, tt)));
  bodies = (init_there described, (frame_there described, refl));
  segments = tt;
}

-- ---- no calls

not_in_init : (g : ℕ) → Contains init_code (instr.Call g) → ⊥
not_in_init g (zero, below, is) = cc
not_in_init g (suc k, below, is) = omega arith

not_in_frame : (g : ℕ) → Contains frame_code (instr.Call g) → ⊥
not_in_frame g (zero, below, is) = cc
not_in_frame g (suc zero, below, is) = cc
not_in_frame g (suc (suc zero), below, is) = cc
not_in_frame g (suc (suc (suc zero)), below, is) = cc
not_in_frame g (suc (suc (suc (suc zero))), below, is) = cc
not_in_frame g (suc (suc (suc (suc (suc k)))), below, is) = omega arith

no_calls : (described : List ℕ) (f g : ℕ) → Calls (through_module described) f g → ⊥
no_calls described zero g c = omega (arith, c.1)
no_calls described (suc zero) g c = not_in_init g c
no_calls described (suc (suc zero)) g c = not_in_frame g c
no_calls described (suc (suc (suc n))) g c = omega (arith, c.1)

no_cycle : (described : List ℕ) → CallCycle (through_module described)
no_cycle described f [] c = no_calls described f f c
no_cycle described f (h ∷ hs) c = no_calls described f h c.0

-- ---- the interface

has_import : (described : List ℕ) → HasImport (through_module described)
has_import described = record { import = emit_import; only = refl; from = refl; name = refl; type = 0; function = refl; takes = refl }

has_memory : (described : List ℕ) → HasMemory (through_module described).memory
has_memory described = record { limits = one_page; only = refl; lawful = record { few = lit≤ tt; most = (lit≤ tt, lit≤ tt) } }

exports_init : (described : List ℕ) → IsExported (through_module described) (codes "init", no_type)
exports_init described = record { number = 1; entry = (1, lit< tt, refl); typed = refl }

exports_frame : (described : List ℕ) → IsExported (through_module described) (codes "frame", no_type)
exports_frame described = record { number = 2; entry = (2, lit< tt, refl); typed = refl }

-- the names of the exports differ in length
distinct_exports : AreDistinct (codes "memory" ∷ codes "init" ∷ codes "frame" ∷ [])
distinct_exports = (((λ e. cc), ((λ e. cc), tt)), (((λ e. cc), tt), (tt, tt)))

has_exports : (described input output : List ℕ) → HasExports (through_module described) (through_section input output)
has_exports described input output =
    record { memory = (0, lit< tt, refl); functions = (exports_init described, (exports_frame described, tt)); distinct = distinct_exports; count = refl }

-- ---- the section

lawful_ends : (input output : List ℕ) → (input ≡ output → ⊥) → IsLawful (ends_of (through_section input output))
lawful_ends input output ne = record {
  each = (record { scalars = (tt, tt); parameter = tt }, (record { scalars = (tt, tt); parameter = tt }, tt));
  names = (((λ e. ne (sym e)), tt), (tt, tt));
  count = lit< tt;
}

is_section : (described input output : List ℕ) → (input ≡ output → ⊥) → Spelled_section (through_section input output) described →
    IsSection (through_module described) (through_section input output)
is_section described input output ne spelled =
    record { custom = cmajor_custom described; only = refl; spelled = spelled; block = (lit≤ tt, lit≤ tt); lawful = lawful_ends input output ne; few = lit≤ tt }

-- ---- the module

pub through_valid : (described input output : List ℕ) → (input ≡ output → ⊥) → Spelled_section (through_section input output) described →
    Valid (through_module described) (through_section input output)
through_valid described input output ne spelled = record {
  index = has_numbers described;
  limit = record {
    memory = has_memory described;
    bodies = (record { locals = lit≤ tt; nesting = refl }, (record { locals = lit≤ tt; nesting = refl }, tt));
  };
  typing = record { types = (lit≤ tt, (lit≤ tt, tt)); globals = tt; bodies = (init_body described, (frame_body described, refl)) };
  call_cycle = no_cycle described;
  segment = tt;
  interface = record { imports = has_import described; exports = has_exports described input output };
  cmajor = record { described = is_section described input output ne spelled; slots = ((λ some. lit≤ tt), ((λ some. lit≤ tt), tt)) };
}
