-- What is known of a module whose checks all hold.
use Rattle.std.proofs.Common.{◌≡◌, ℕ, List, [], ◌∷◌, length, Option, Some, None, refl, sym, subst}
use Rattle.std.specs.Prelude.{MatchOption}
use Rattle.std.specs.List.{AllByRecursion}
use Rattle.wasm_tree.specs.declared.module.FuncBody.{FuncBody}
use Rattle.wasm_tree.specs.declared.module.Module.{Module}
use Rattle.wasm_tree.specs.declared.failure.ModuleFail.{ModuleFail}
use Rattle.wasm_tree.specs.declared.failure.ModuleFail.TheVariants as fail
use Rattle.wasm_tree.proofs.Refusals.{breaks_invalid}
use Rattle.cm_base.specs.HostEnds.{IsLawful}
use Rattle.wasm_tree.specs.Section.{CmajorSection, slots_of}
use Rattle.wasm_tree.specs.Host.{HasExports}
use Rattle.wasm_valid.specs.Checked.{IsChecked}
use Rattle.wasm_valid.specs.Views.{checked_of}
use Rattle.wasm_valid.proofs.SlotLemmas.{ends_are}
use Rattle.wasm_tree.specs.Spelled.{Spelled, Each, Vector, Body, contents_of}
use Rattle.wasm_tree.specs.Valid.{Valid, AreBodiesWithinLimits, IsBodyWithinLimits}
use Rattle.section_reader.specs.Raw.{said}
use Rattle.wasm_valid.specs.declared.accept.Accepted.{Accepted}
use Rattle.wasm_valid.specs.Described.{IsDescribed}
use Rattle.wasm_valid.specs.Rules.{HasParts, HasCode, IsAccepted, IsFailure}

pub accepted_is : (m : Module) (a : Accepted) → AreBodiesWithinLimits m → HasParts m → IsDescribed m a.section → HasExports m (said a.section) → HasCode m a.bounds → IsAccepted m a
accepted_is m a limits parts described exports code =
    record {
      valid = record {
        index = record { imports = parts.imports; functions = parts.functions; exports = parts.exports; bodies = code.indexed; segments = parts.segments };
        limit = record { memory = parts.memory; bodies = limits };
        typing = record { types = parts.types; globals = parts.globals; bodies = code.typed };
        call_cycle = code.call_cycle;
        segment = parts.data_fits;
        interface = record { imports = parts.import; exports = exports };
        cmajor = described.cmajor;
      };
      paired = described.paired;
      bounds = code.holds_no_more;
    }

-- ---- what the bytes of a module give

each_within : (bodies : List FuncBody) (bytes : List ℕ) → Each Body bodies bytes → AllByRecursion IsBodyWithinLimits bodies
each_within [] bytes e = tt
each_within (body ∷ bodies) bytes e =
    let parts = e.first.2 in
    (record { locals = parts.first.few; nesting = parts.second.closed }, each_within bodies e.back e.second)

listed_within : (bodies : List FuncBody) (contents : Option (List ℕ)) → MatchOption contents (bodies ≡ []) (Vector Body bodies) → AllByRecursion IsBodyWithinLimits bodies
listed_within bodies None e = subst (AllByRecursion IsBodyWithinLimits) (sym e) tt
listed_within bodies (Some contents) v = each_within bodies v.back v.second

pub spelled_within : (bytes : List ℕ) (m : Module) → Spelled bytes m → AreBodiesWithinLimits m
spelled_within bytes m s = listed_within m.codes (contents_of 10 s.raws) s.codes

pub spelled_counts : (bytes : List ℕ) (m : Module) → Spelled bytes m → length m.functions ≡ length m.codes
spelled_counts bytes m s = s.bodies

-- ---- a module that was accepted

pub accepted_lawful : (m : Module) (a : Accepted) → IsAccepted m a → IsLawful a.section.host
accepted_lawful m a h = subst IsLawful (ends_are a.section.host a.section.addresses h.paired) h.valid.cmajor.described.lawful

pub accepted_checked : (m : Module) (a : Accepted) → IsAccepted m a →
    IsChecked (checked_of m a.section.interface a.section.latency (slots_of a.section.host a.section.addresses) a.bounds.cells a.bounds.marks)
accepted_checked m a h = record { valid = h.valid; bounds = h.bounds }

-- a failure is no refusal where the module is valid
pub failure_complete : (bytes : List ℕ) (m : Module) (section : CmajorSection) (failure : ModuleFail) → IsFailure m bytes failure → Valid m section → failure ≡ fail.NoMemory
failure_complete bytes m section (fail.Refused refused) h valid = absurd (breaks_invalid refused.rule m section (h.holder, h.breaks) valid)
failure_complete bytes m section fail.NoMemory h valid = refl
