-- The module that adds an event's number to a sum is valid.
use Rattle.std.proofs.Common.{◌≡◌, ℕ, zero, suc, ◌≤◌, List, [], ◌∷◌, length, get_or, ap, subst, refl, arith, lit≤, lit<}
use Rattle.std.specs.Prelude.{Contains, Some, slice_get, codes, pos}
use Rattle.std.specs.List.{AllByRecursion}
use Rattle.std.proofs.lemmas.Option.{slice_get_within, get_or_from_slice_get}
use Rattle.std.proofs.lemmas.List.Elements.{All-from_recursion}
use Rattle.std.specs.Fmt.{digits}
use Rattle.cm_base.specs.HostEnds.{IsLawful, AreDistinct}
use Rattle.cm_base.specs.declared.host.Flow.TheVariants.{Input, Output}
use Rattle.cm_base.specs.declared.host.Kind.TheVariants.{Stream, Event}
use Rattle.cm_base.specs.declared.host.Scalar.TheVariants.{Int32}
use Rattle.wasm_tree.specs.declared.module.ValType.TheVariants.{I32}
use Rattle.wasm_tree.specs.declared.module.FuncType.{FuncType}
use Rattle.wasm_tree.specs.declared.module.FuncBody.{FuncBody}
use Rattle.wasm_tree.specs.declared.module.Module.{Module}
use Rattle.wasm_tree.specs.declared.instr.Instr.{Instr}
use Rattle.wasm_tree.specs.declared.instr.Instr.TheVariants as instr
use Rattle.wasm_tree.specs.declared.op.BinaryOp.TheVariants as binary
use Rattle.wasm_tree.specs.declared.op.LoadOp.TheVariants as load
use Rattle.wasm_tree.specs.declared.op.StoreOp.TheVariants as store
use Rattle.wasm_tree.specs.Reduce.{Seq, Nil, Plain, pieces}
use Rattle.wasm_tree.specs.Section.{Spelled_section, Spelled_slot, Runs, IsSection, ends_of}
use Rattle.wasm_tree.specs.Control.{IsClosed}
use Rattle.wasm_tree.specs.Host.{HasImport, HasExports, IsExported}
use Rattle.wasm_tree.specs.Valid.{Valid, Index, IsIndexed, IsThere, counts, IsBodyWithinLimits, IsBody, Calls, CallCycle, HasMemory, no_type}
use Rattle.wasm_examples.specs.Hosts.{event_module, pageless_module, add_event, body_of, slot_of, three_slots, three_slots_bytes, word_at, one_page, emit_import}
use Rattle.wasm_examples.proofs.Instructions.{joined, begins}

-- ---- bodies

empty_body : IsBody (event_module add_event) no_type (body_of (instr.End ∷ []))
unfolding pieces
empty_body = record { tree = Nil; spells = refl; typed = refl; closed = refl }

add_tree : Seq
add_tree =
    Plain (instr.I32Const (pos 0)) (Plain (instr.I32Const (pos 0)) (Plain (instr.Load load.I32 (word_at 4)) (Plain (instr.I32Const (pos 0))
    (Plain (instr.Load load.I32 (word_at 0)) (Plain (instr.Binary I32 binary.Add) (Plain (instr.Store store.I32 (word_at 4)) Nil))))))

add_body : IsBody (event_module add_event) no_type (body_of add_event)
unfolding pieces add_tree
add_body = record {
  tree = add_tree;
  spells = refl;
  typed = (
    I32 ∷ [],
    record { below = []; had = refl; has = refl },
    (
      I32 ∷ I32 ∷ [],
      record { below = I32 ∷ []; had = refl; has = refl },
      (
        I32 ∷ I32 ∷ [],
        (lit≤ tt, record { below = I32 ∷ []; had = refl; has = refl }),
        (
          I32 ∷ I32 ∷ I32 ∷ [],
          record { below = I32 ∷ I32 ∷ []; had = refl; has = refl },
          (
            I32 ∷ I32 ∷ I32 ∷ [],
            (lit≤ tt, record { below = I32 ∷ I32 ∷ []; had = refl; has = refl }),
            (
              I32 ∷ I32 ∷ [],
              record { below = I32 ∷ []; had = refl; has = refl },
              ([], (lit≤ tt, record { below = []; had = refl; has = refl }), refl),
            ),
          ),
        ),
      ),
    ),
  );
  closed = refl;
}

-- what holds of each instruction holds of the one at a place
pub instruction_at : (P : Instr → Type 0) (code : List Instr) (place : ℕ) (i : Instr) → AllByRecursion P code → slice_get code place ≡ Some i → P i
instruction_at P code place i all e = subst P (get_or_from_slice_get code place i i e) (All-from_recursion P code all place i (slice_get_within code place i e))

-- code that names what is there wherever it stands
pub all_there : (m : Module) (type : FuncType) (body : FuncBody) → AllByRecursion (λ i. (labels : ℕ) → IsThere (counts m type body labels) i) body.code → IsIndexed m type body
all_there m type body all place i arms e opens = instruction_at (λ i. (labels : ℕ) → IsThere (counts m type body labels) i) body.code place i all e (length arms)

empty_there : IsIndexed (event_module add_event) no_type (body_of (instr.End ∷ []))
empty_there = all_there (event_module add_event) no_type (body_of (instr.End ∷ [])) ((λ labels. tt), tt)

add_there : IsIndexed (event_module add_event) no_type (body_of add_event)
add_there =
    all_there (event_module add_event) no_type (body_of add_event)
    ((λ n. tt), ((λ n. tt), ((λ n. lit< tt), ((λ n. tt), ((λ n. lit< tt), ((λ n. tt), ((λ n. lit< tt), ((λ n. tt), tt))))))))

-- ---- no calls

not_in_end : (g : ℕ) → Contains (instr.End ∷ []) (instr.Call g) → ⊥
not_in_end g (zero, below, is) = cc
not_in_end g (suc k, below, is) = omega arith

not_in_add : (g : ℕ) → Contains add_event (instr.Call g) → ⊥
not_in_add g (zero, below, is) = cc
not_in_add g (suc zero, below, is) = cc
not_in_add g (suc (suc zero), below, is) = cc
not_in_add g (suc (suc (suc zero)), below, is) = cc
not_in_add g (suc (suc (suc (suc zero))), below, is) = cc
not_in_add g (suc (suc (suc (suc (suc zero)))), below, is) = cc
not_in_add g (suc (suc (suc (suc (suc (suc zero))))), below, is) = cc
not_in_add g (suc (suc (suc (suc (suc (suc (suc zero)))))), below, is) = cc
not_in_add g (suc (suc (suc (suc (suc (suc (suc (suc k))))))), below, is) = omega arith

no_calls : (f g : ℕ) → Calls (event_module add_event) f g → ⊥
no_calls zero g c = omega (arith, c.1)
no_calls (suc zero) g c = not_in_end g c
no_calls (suc (suc zero)) g c = not_in_end g c
no_calls (suc (suc (suc zero))) g c = not_in_add g c
no_calls (suc (suc (suc (suc n)))) g c = omega (arith, c.1)

no_cycle : CallCycle (event_module add_event)
no_cycle f [] c = no_calls f f c
no_cycle f (h ∷ hs) c = no_calls f h c.0

-- ---- the interface

has_import : HasImport (event_module add_event)
has_import = record { import = emit_import; only = refl; from = refl; name = refl; type = 0; function = refl; takes = refl }

has_memory : HasMemory (event_module add_event).memory
has_memory = record { limits = one_page; only = refl; lawful = record { few = lit≤ tt; most = (lit≤ tt, lit≤ tt) } }

exports_init : IsExported (event_module add_event) (codes "init", no_type)
exports_init = record { number = 1; entry = (1, lit< tt, refl); typed = refl }

exports_frame : IsExported (event_module add_event) (codes "frame", no_type)
exports_frame = record { number = 2; entry = (2, lit< tt, refl); typed = refl }

exports_event : IsExported (event_module add_event) (codes "e0", no_type)
exports_event = record { number = 3; entry = (3, lit< tt, refl); typed = refl }

-- the names of the exports differ in length
distinct_exports : AreDistinct (codes "memory" ∷ codes "init" ∷ codes "frame" ∷ codes "e0" ∷ [])
distinct_exports = (((λ e. cc), ((λ e. cc), ((λ e. cc), tt))), (((λ e. cc), ((λ e. cc), tt)), (((λ e. cc), tt), (tt, tt))))

has_exports : HasExports (event_module add_event) three_slots
unfolding digits
has_exports =
    record { memory = (0, lit< tt, refl); functions = (exports_init, (exports_frame, (exports_event, tt))); distinct = distinct_exports; count = refl }

-- ---- the section

one_int32 : Runs (Int32 ∷ []) (1 ∷ 1 ∷ 0 ∷ [])
one_int32 = record {
  runs = record { count = 1; kind = Int32; some = lit≤ tt } ∷ [];
  spelled = joined (1 ∷ []) (1 ∷ 0 ∷ []) (lit< tt, lit< tt, refl) (joined (1 ∷ 0 ∷ []) [] (joined (1 ∷ []) (0 ∷ []) (lit< tt, lit< tt, refl) refl) refl);
  whole = refl;
}

add_slot : Spelled_slot (slot_of Input Event (codes "add") 0) (0 ∷ 2 ∷ 3 ∷ 0x61 ∷ 0x64 ∷ 0x64 ∷ 0 ∷ 1 ∷ 1 ∷ 0 ∷ 0 ∷ [])
unfolding lib.Utf8.encode
add_slot =
    begins 0 _ (begins 2 _
    (joined (3 ∷ 0x61 ∷ 0x64 ∷ 0x64 ∷ []) (0 ∷ 1 ∷ 1 ∷ 0 ∷ 0 ∷ [])
    (record { spelled = joined (3 ∷ []) (0x61 ∷ 0x64 ∷ 0x64 ∷ []) (lit< tt, lit< tt, refl) refl; utf8 = (codes "add", (refl, refl)) })
    (joined (0 ∷ []) (1 ∷ 1 ∷ 0 ∷ 0 ∷ []) (lit< tt, lit< tt, refl) (joined (1 ∷ 1 ∷ 0 ∷ []) (0 ∷ []) one_int32 refl))))

sum_slot : Spelled_slot (slot_of Output Stream (codes "sum") 4) (1 ∷ 0 ∷ 3 ∷ 0x73 ∷ 0x75 ∷ 0x6D ∷ 4 ∷ 1 ∷ 1 ∷ 0 ∷ 0 ∷ [])
unfolding lib.Utf8.encode
sum_slot =
    begins 1 _ (begins 0 _
    (joined (3 ∷ 0x73 ∷ 0x75 ∷ 0x6D ∷ []) (4 ∷ 1 ∷ 1 ∷ 0 ∷ 0 ∷ [])
    (record { spelled = joined (3 ∷ []) (0x73 ∷ 0x75 ∷ 0x6D ∷ []) (lit< tt, lit< tt, refl) refl; utf8 = (codes "sum", (refl, refl)) })
    (joined (4 ∷ []) (1 ∷ 1 ∷ 0 ∷ 0 ∷ []) (lit< tt, lit< tt, refl) (joined (1 ∷ 1 ∷ 0 ∷ []) (0 ∷ []) one_int32 refl))))

added_slot : Spelled_slot (slot_of Output Event (codes "added") 8) (1 ∷ 2 ∷ 5 ∷ 0x61 ∷ 0x64 ∷ 0x64 ∷ 0x65 ∷ 0x64 ∷ 8 ∷ 1 ∷ 1 ∷ 0 ∷ 0 ∷ [])
unfolding lib.Utf8.encode
added_slot =
    begins 1 _ (begins 2 _
    (joined (5 ∷ 0x61 ∷ 0x64 ∷ 0x64 ∷ 0x65 ∷ 0x64 ∷ []) (8 ∷ 1 ∷ 1 ∷ 0 ∷ 0 ∷ [])
    (record { spelled = joined (5 ∷ []) (0x61 ∷ 0x64 ∷ 0x64 ∷ 0x65 ∷ 0x64 ∷ []) (lit< tt, lit< tt, refl) refl; utf8 = (codes "added", (refl, refl)) })
    (joined (8 ∷ []) (1 ∷ 1 ∷ 0 ∷ 0 ∷ []) (lit< tt, lit< tt, refl) (joined (1 ∷ 1 ∷ 0 ∷ []) (0 ∷ []) one_int32 refl))))

-- the interface, and the endpoints one after another
pub section_spelled : Spelled_section three_slots three_slots_bytes
section_spelled =
    joined (1 ∷ 0 ∷ []) _ (begins 1 (0 ∷ []) (lit< tt, lit< tt, refl))
    (joined (3 ∷ []) _ (lit< tt, lit< tt, refl)
    (joined (0 ∷ 2 ∷ 3 ∷ 0x61 ∷ 0x64 ∷ 0x64 ∷ 0 ∷ 1 ∷ 1 ∷ 0 ∷ 0 ∷ []) _ add_slot
    (joined (1 ∷ 0 ∷ 3 ∷ 0x73 ∷ 0x75 ∷ 0x6D ∷ 4 ∷ 1 ∷ 1 ∷ 0 ∷ 0 ∷ []) _ sum_slot
    (joined (1 ∷ 2 ∷ 5 ∷ 0x61 ∷ 0x64 ∷ 0x64 ∷ 0x65 ∷ 0x64 ∷ 8 ∷ 1 ∷ 1 ∷ 0 ∷ 0 ∷ []) [] added_slot refl))))

sum_apart : codes "sum" ≡ codes "add" → ⊥
sum_apart e = let first : 115 ≡ 97 = ap (λ (name : List ℕ). get_or name 0 0) e in omega (arith, first)

lawful_ends : IsLawful (ends_of three_slots)
lawful_ends = record {
  each = (
    record { scalars = (tt, tt); parameter = tt },
    (record { scalars = (tt, tt); parameter = tt }, (record { scalars = (tt, tt); parameter = tt }, tt)),
  );
  names = ((sum_apart, ((λ e. cc), tt)), (((λ e. cc), tt), (tt, tt)));
  count = lit< tt;
}

is_section : IsSection (event_module add_event) three_slots
is_section = record {
  custom = record { name = codes "cmajor"; bytes = three_slots_bytes };
  only = refl;
  spelled = section_spelled;
  block = (lit≤ tt, lit≤ tt);
  lawful = lawful_ends;
  few = lit≤ tt;
}

-- ---- the module

add_index : Index (event_module add_event)
add_index = record {
  imports = (lit< tt, tt);
  functions = (lit< tt, (lit< tt, (lit< tt, tt)));
  exports = (lit< tt, (lit< tt, (lit< tt, (lit< tt, tt))));
  bodies = (empty_there, (empty_there, (add_there, refl)));
  segments = tt;
}

few_locals : (code : List Instr) → IsClosed code → IsBodyWithinLimits (body_of code)
few_locals code closed = record { locals = lit≤ tt; nesting = closed }

-- each rule is kept
pub add_valid : Valid (event_module add_event) three_slots
add_valid = record {
  index = add_index;
  limit = record { memory = has_memory; bodies = (few_locals _ refl, (few_locals _ refl, (few_locals _ refl, tt))) };
  typing = record { types = (lit≤ tt, (lit≤ tt, tt)); globals = tt; bodies = (empty_body, (empty_body, (add_body, refl))) };
  call_cycle = no_cycle;
  segment = tt;
  interface = record { imports = has_import; exports = has_exports };
  cmajor = record { described = is_section; slots = ((λ some. lit≤ tt), ((λ some. lit≤ tt), ((λ some. lit≤ tt), tt))) };
}

-- the slots do not fit a memory of no page
pub no_room : Valid pageless_module three_slots → ⊥
no_room v = let first : 4 ≤ 0 = v.cmajor.slots.0 (lit< tt) in omega (arith, first)
