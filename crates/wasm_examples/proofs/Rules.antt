-- The smallest valid module, and which rule each change of it breaks.
use Rattle.std.proofs.Common.{◌≡◌, ℕ, zero, suc, ◌<◌, ◌≤◌, List, [], ◌∷◌, ◌++◌, false, None, ap, subst, sym, refl, inl, inr, arith, lit≤, lit<}
use Rattle.std.specs.Prelude.{Contains, codes, pos}
use Rattle.cm_base.specs.HostEnds.{AreDistinct}
use Rattle.wasm_tree.specs.declared.failure.ModuleRule.TheVariants as rule
use Rattle.wasm_tree.specs.declared.module.Module.{Module}
use Rattle.wasm_tree.specs.declared.module.ValType.{ValType}
use Rattle.wasm_tree.specs.declared.module.Limits.{Limits}
use Rattle.wasm_tree.specs.declared.module.Custom.{Custom}
use Rattle.wasm_tree.specs.declared.interface.Interface.{Interface}
use Rattle.wasm_tree.specs.declared.interface.Interface.TheVariants.{Single, Blocks}
use Rattle.wasm_tree.specs.declared.instr.Instr.TheVariants as instr
use Rattle.wasm_tree.specs.Reduce.{Seq, Nil, Plain, pieces, whole_piece}
use Rattle.wasm_tree.specs.Spelled.{header, cmajor}
use Rattle.wasm_tree.specs.Section.{Spelled_interface, Spelled_section, IsSection, AreWithin, named_cmajor}
use Rattle.wasm_tree.specs.Typed.{Context, Typed}
use Rattle.wasm_tree.specs.Host.{HasImport, HasExports, IsExported}
use Rattle.wasm_tree.specs.Valid.{Valid, CallCycle, IsBody, Calls, HasMemory, function_types, no_type}
use Rattle.wasm_tree.specs.Refusal.{InTypes, InFunctions, InMemories, InExports, InCodes, InSegments, InCmajor, InSecondCmajor, Missing, BreaksAt, IsRefusal}
use Rattle.wasm_examples.specs.Bytes.{empty_module}
use Rattle.wasm_examples.specs.Hosts.{emit_import, body_of}
use Rattle.wasm_examples.specs.Rules.{quiet_section, quiet_custom, quiet_module, no_such_type, no_such_label, many_pages, number_left, calls_itself, byte_past_end, no_import, no_frame, other_export, two_sections, empty_section, two_results, two_results_bytes, bare_slot}
use Rattle.wasm_examples.proofs.Instructions.{joined, begins}
use Rattle.wasm_examples.proofs.Modules.{all_there}

-- ---- the valid module

quiet_spelled : Spelled_section quiet_section (1 ∷ 0 ∷ 0 ∷ [])
quiet_spelled =
    joined (1 ∷ 0 ∷ []) (0 ∷ []) (begins 1 (0 ∷ []) (lit< tt, lit< tt, refl)) (joined (0 ∷ []) [] (lit< tt, lit< tt, refl) refl)

-- a module whose one section `cmajor` is the quiet one
described : (m : Module) → named_cmajor m.customs ≡ quiet_custom ∷ [] → IsSection m quiet_section
described m e =
    record { custom = quiet_custom; only = e; spelled = quiet_spelled; block = (lit≤ tt, lit≤ tt); lawful = record { each = tt; names = tt; count = lit< tt }; few = lit≤ tt }

quiet_body : IsBody quiet_module no_type (body_of (instr.End ∷ []))
unfolding pieces
quiet_body = record { tree = Nil; spells = refl; typed = refl; closed = refl }

quiet_calls : (f g : ℕ) → Calls quiet_module f g → ⊥
quiet_calls zero g c = omega (arith, c.1)
quiet_calls (suc zero) g (zero, below, is) = cc
quiet_calls (suc zero) g (suc k, below, is) = omega arith
quiet_calls (suc (suc n)) g c = omega (arith, c.1)

quiet_cycle : CallCycle quiet_module
quiet_cycle f [] c = quiet_calls f f c
quiet_cycle f (h ∷ hs) c = quiet_calls f h c.0

quiet_import : HasImport quiet_module
quiet_import = record { import = emit_import; only = refl; from = refl; name = refl; type = 0; function = refl; takes = refl }

exports_init : IsExported quiet_module (codes "init", no_type)
exports_init = record { number = 1; entry = (1, lit< tt, refl); typed = refl }

exports_frame : IsExported quiet_module (codes "frame", no_type)
exports_frame = record { number = 1; entry = (2, lit< tt, refl); typed = refl }

distinct_exports : AreDistinct (codes "memory" ∷ codes "init" ∷ codes "frame" ∷ [])
distinct_exports = (((λ e. cc), ((λ e. cc), tt)), (((λ e. cc), tt), (tt, tt)))

quiet_exports : HasExports quiet_module quiet_section
quiet_exports = record { memory = (0, lit< tt, refl); functions = (exports_init, (exports_frame, tt)); distinct = distinct_exports; count = refl }

pub quiet_valid : Valid quiet_module quiet_section
quiet_valid = record {
  index = record {
    imports = (lit< tt, tt);
    functions = (lit< tt, tt);
    exports = (lit< tt, (lit< tt, (lit< tt, tt)));
    bodies = (all_there quiet_module no_type (body_of (instr.End ∷ [])) ((λ n. tt), tt), refl);
    segments = tt;
  };
  limit = record {
    memory = record { limits = record { min = 0; max = None }; only = refl; lawful = record { few = lit≤ tt; most = tt } };
    bodies = (record { locals = lit≤ tt; nesting = refl }, tt);
  };
  typing = record { types = (lit≤ tt, (lit≤ tt, tt)); globals = tt; bodies = (quiet_body, refl) };
  call_cycle = quiet_cycle;
  segment = tt;
  interface = record { imports = quiet_import; exports = quiet_exports };
  cmajor = record { described = described quiet_module refl; slots = tt };
}

-- a number is left, and no operand is asked for
left_over : (c : Context) (labels : List (List ValType)) → Typed c labels (Plain (instr.I32Const (pos 0)) Nil) [] [] → ⊥
left_over c labels (between, takes, ends) = let has = takes.has in cc

-- ---- modules that break a rule

pub type_missing : BreaksAt no_such_type rule.Index InFunctions
type_missing h = let first : 2 < 2 = h.0 in omega (arith, first)

pub label_missing : BreaksAt no_such_label rule.Index InCodes
label_missing h = let first : 1 < 1 = h.0 0 (instr.Br 1) (false ∷ []) refl refl in omega (arith, first)

too_many_pages : HasMemory many_pages.memory → ⊥
too_many_pages h =
    let is : record { min = 257; max = None } ≡ h.limits = cc (h.only) in
    let few : 257 ≤ 256 = subst (λ (limits : Limits). limits.min ≤ 256) (sym is) h.lawful.few in
    omega (arith, few)

pub pages_past_limit : BreaksAt many_pages rule.Limit InMemories
pages_past_limit = ((λ e. cc), too_many_pages)

code_context : Context
code_context = record { functions = function_types number_left; locals = []; globals = []; results = [] }

-- the operand that is left is none of the results
pub number_untyped : BreaksAt number_left rule.Typing InCodes
unfolding pieces code_context
number_untyped h =
    let is : Plain (instr.I32Const (pos 0)) Nil ≡ h.0.tree = ap whole_piece h.0.spells in
    left_over code_context ([] ∷ []) (subst (λ (tree : Seq). Typed code_context ([] ∷ []) tree [] []) (sym is) h.0.typed)

pub cycle_of_one : BreaksAt calls_itself rule.CallCycle InCodes
cycle_of_one h = h 1 [] (0, lit< tt, refl)

pub byte_outside : BreaksAt byte_past_end rule.Segment InSegments
byte_outside h = let first : 1 ≤ 0 = h.0 in omega (arith, first)

pub import_missing : BreaksAt no_import rule.Interface Missing
import_missing = inl refl

not_frame : Contains (codes "memory" ∷ codes "init" ∷ []) (codes "frame") → ⊥
not_frame (zero, below, is) = cc
not_frame (suc zero, below, is) = cc
not_frame (suc (suc k), below, is) = omega arith

pub frame_missing : BreaksAt no_frame rule.Interface Missing
frame_missing = inr (record { section = quiet_section; described = described no_frame refl; name = codes "frame"; wanted = (2, lit< tt, refl); lacks = not_frame })

pub export_added : BreaksAt other_export rule.Interface InExports
export_added = record {
  section = quiet_section;
  described = described other_export refl;
  complete = ((0, lit< tt, refl), ((1, lit< tt, refl), ((2, lit< tt, refl), tt)));
  others = λ h. let same : 4 ≡ 3 = h.count in omega (arith, same);
}

pub section_twice : BreaksAt two_sections rule.Cmajor InSecondCmajor
section_twice = record { first = quiet_custom; second = quiet_custom; others = []; more = refl }

no_interface : (interface : Interface) (latency : ℕ) (front back : List ℕ) → Spelled_interface interface latency front → [] ≡ front ++ back → ⊥
no_interface Single latency front back s e = let w = s.whole in let is = s.first in cc (rw w at e)
no_interface (Blocks block) latency front back s e = let w = s.whole in let is = s.first in cc (rw w at e)

pub section_empty : BreaksAt empty_section rule.Cmajor InCmajor
section_empty = record {
  custom = record { name = cmajor; bytes = [] };
  only = refl;
  misdescribes = λ section h.
      let same : record { name = cmajor; bytes = [] } ≡ h.described.custom = cc (h.described.only) in
      let spelled : Spelled_section section [] = subst (λ (custom : Custom). Spelled_section section custom.bytes) (sym same) h.described.spelled in
      no_interface section.interface section.latency spelled.front spelled.back spelled.first spelled.whole;
}

-- ---- at which byte

-- the section of types begins behind the header
pub refused_at_types : IsRefusal (record { offset = 8; rule = rule.Typing }) two_results two_results_bytes
refused_at_types = record {
  holder = InTypes;
  breaks = λ h. let first : 2 ≤ 1 = h.0 in omega (arith, first);
  place = record {
    before = [];
    raw = record { id = 1; contents = 0x01 ∷ 0x60 ∷ 0x00 ∷ 0x02 ∷ 0x7F ∷ 0x7F ∷ [] };
    stands = record {
      after = [];
      front = header;
      back = 0x01 ∷ 0x06 ∷ 0x01 ∷ 0x60 ∷ 0x00 ∷ 0x02 ∷ 0x7F ∷ 0x7F ∷ [];
      whole = refl;
      behind = joined header [] refl refl;
      begins =
          joined (0x01 ∷ 0x06 ∷ 0x01 ∷ 0x60 ∷ 0x00 ∷ 0x02 ∷ 0x7F ∷ 0x7F ∷ []) []
          (begins 0x01 _ (joined (0x06 ∷ []) (0x01 ∷ 0x60 ∷ 0x00 ∷ 0x02 ∷ 0x7F ∷ 0x7F ∷ []) (lit< tt, lit< tt, refl) refl)) refl;
      at = refl;
    };
    has = refl;
  };
}

-- what is missing has the file's length
pub refused_at_end : IsRefusal (record { offset = 8; rule = rule.Limit }) empty_module header
refused_at_end = record { holder = Missing; breaks = refl; place = refl }

-- ---- slots

-- no byte is enough where there is no scalar
pub bare_within : AreWithin 0 (bare_slot 4)
bare_within = ((λ some. absurd (omega (arith, some))), tt)
