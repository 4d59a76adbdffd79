-- Where a section stands among the sections of a module: docs/MODULE.md, "What is refused".
use Rattle.std.specs.Prelude.{ℕ, zero, suc, ◌-◌, ◌==◌, ◌&&◌, List, length, Result, Ok, Err, Bool, false, if◌then◌else◌}
use Rattle.wasm_tree.specs.Spelled.{Raw, is_cmajor}
use Rattle.wasm_reader.specs.declared.fault.Fault.{Fault}
use Rattle.wasm_reader.specs.Reading.{◌>>=◌, Reader, byte_at, text_at}
use Rattle.section_reader.specs.declared.place.Wanted.{Wanted}
use Rattle.section_reader.specs.declared.place.Wanted.TheVariants as wanted

-- a section, whatever its contents are
unfoldable pub raw_at : Reader Raw
raw_at bytes = do
  id ← byte_at bytes
  contents ← text_at id.1
  Ok (record { id = id.0; contents = contents.0 }, contents.1)

-- a text that was read is `cmajor`
abbrev pub is_name : Result (List ℕ × List ℕ) Fault → Bool
is_name (Ok name) = is_cmajor name.0
is_name (Err fault) = false

-- a section with this id, or a custom one whose contents begin with the name `cmajor`
abbrev pub is_wanted : Wanted → Raw → Bool
is_wanted (wanted.Section id) raw = raw.id == id
is_wanted wanted.Cmajor raw = (raw.id == 0) && is_name (text_at raw.contents)

-- what follows a section that was read, and what a fault gives
abbrev pub either : {A B : Type 0} → Result A Fault → B → (A → B) → B
either (Err fault) none some = none
either (Ok x) none some = some x

-- how many bytes are left where a wanted section begins, behind so many others that are wanted and at most so many sections
-- in all; 0 where there is none
unfoldable pub left_at : Wanted → ℕ → ℕ → List ℕ → ℕ
left_at wanted others zero bytes = 0
left_at wanted others (suc n) bytes = either (raw_at bytes) 0
    (λ r. if is_wanted wanted r.0 then (if others == 0 then length bytes else left_at wanted (others - 1) n r.1) else left_at wanted others n r.1)
