-- What is told of the section `cmajor` of a module.
use Rattle.std.specs.Prelude.{ℕ, ◌≡◌, ◌+◌, ◌*◌, ◌<◌, ◌≤◌, List, [], ◌∷◌, length, if◌then◌else◌}
use Rattle.cm_base.specs.HostEnds.{IsLawful}
use Rattle.cm_base.specs.Parts.{is_stream}
use Rattle.cm_base.specs.declared.host.HostEnd.{HostEnd}
use Rattle.wasm_tree.specs.declared.module.Custom.{Custom}
use Rattle.wasm_tree.specs.declared.module.Limits.{Limits}
use Rattle.wasm_tree.specs.declared.module.Module.{Module}
use Rattle.wasm_tree.specs.Section.{CmajorSection, shape_size, block_length, ends_of, IsBlockLength, AreWithin}
use Rattle.wasm_tree.specs.Valid.{Cmajor, memory_size}
use Rattle.section_reader.specs.declared.section.Section.{Section}
use Rattle.section_reader.specs.Raw.{said}
use Rattle.wasm_valid.specs.declared.described.Named.{Named}
use Rattle.wasm_valid.specs.declared.described.Named.TheVariants as named

-- whether there is none of these sections, one, or more
abbrev pub IsNamed : List Custom → Named → Type 0
IsNamed customs named.None = customs ≡ []
IsNamed customs (named.One custom) = customs ≡ custom.now ∷ []
IsNamed customs named.More = (first : Custom) × (second : Custom) × (others : List Custom) × (customs ≡ first ∷ second ∷ others)

-- the bytes of a slot, where a call takes so many frames at most
abbrev pub slot_bytes : ℕ → HostEnd → ℕ
slot_bytes block end = (if is_stream end.kind then block else 1) * shape_size end.shape

-- a slot lies in so many bytes; one without scalars has nothing that must
abbrev pub LiesWithin : ℕ → ℕ → HostEnd → ℕ → Type 0
LiesWithin bytes block end address = 0 < slot_bytes block end → address + slot_bytes block end ≤ bytes

-- a section that was read is as it must be in a module with this memory
pub record IsRight (memory : List Limits) (section : CmajorSection) : Type 0 where
  pub block : IsBlockLength (block_length section.interface)
  pub lawful : IsLawful (ends_of section)
  pub slots : AreWithin (memory_size memory) section

-- the module has this section `cmajor`, with an address for each endpoint
pub record IsDescribed (m : Module) (s : Section) : Type 0 where
  pub cmajor : Cmajor m (said s)
  pub paired : length s.host ≡ length s.addresses
