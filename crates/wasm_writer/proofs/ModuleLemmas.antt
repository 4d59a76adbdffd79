-- The shortest spelling of a module spells it.
use Rattle.std.proofs.Common.{◌≡◌, ℕ, ◌+◌, ◌<◌, ◌^◌, List, [], ◌∷◌, ◌++◌, length, All, refl, ap, ◌∙◌, append_assoc, arith, lit<}
use Rattle.std.specs.List.{flat_map, AllByRecursion}
use Rattle.std.proofs.lemmas.List.{length-append}
use Rattle.std.proofs.lemmas.List.Elements.{recursion_from_All}
use Rattle.wasm_tree.specs.declared.module.Custom.{Custom}
use Rattle.wasm_tree.specs.declared.module.Module.{Module}
use Rattle.wasm_tree.specs.Spelled.{Is, Each, Index, Vector, RawSection, contents_of, Lists, Custom_contents, header, Type_of_function, Imported, Memory, Global, Exported, Body, Data, Spelled}
use Rattle.wasm_writer.specs.Spelling.{unsigned_bytes, vector_bytes, function_type_bytes, import_bytes, memory_bytes, global_bytes, export_bytes, body_bytes, segment_bytes, section_bytes, custom_contents, custom_bytes, spelling, IsWritable}
use Rattle.wasm_writer.proofs.Nonempty.{index_nonempty, function_type_nonempty, import_nonempty, memory_nonempty, global_nonempty, export_nonempty, body_nonempty, segment_nonempty}
use Rattle.wasm_writer.proofs.Parts.{joined, vector_count}
use Rattle.wasm_writer.proofs.SectionLemmas.{listed, OptionalSection, raws_of, bytes_of, custom_raws, section_is, IsShort, listed_short, raws_spelled, custom_raws_spelled, IsRising, raws_in_order, found, contents_found, lists_listed, raws_customs}

-- the sections of a module other than custom ones
unfoldable pub sections_of : Module → List OptionalSection
sections_of m =
    (1, listed function_type_bytes m.types)
    ∷ (2, listed import_bytes m.imports)
    ∷ (3, listed unsigned_bytes m.functions)
    ∷ (5, listed memory_bytes m.memory)
    ∷ (6, listed global_bytes m.globals)
    ∷ (7, listed export_bytes m.exports)
    ∷ (10, listed body_bytes m.codes)
    ∷ (11, listed segment_bytes m.segments)
    ∷ []

pub is_rising : (m : Module) → IsRising 0 (sections_of m)
unfolding sections_of
is_rising m = (lit< tt, (0, lit< tt, refl), (lit< tt, (1, lit< tt, refl), (lit< tt, (2, lit< tt, refl), (lit< tt, (3, lit< tt, refl), (lit< tt, (4, lit< tt, refl), (lit< tt, (5, lit< tt, refl), (lit< tt, (6, lit< tt, refl), (lit< tt, (7, lit< tt, refl), tt))))))))

regroup : (a b c d e f g h i j : List ℕ) → a ++ b ++ c ++ d ++ e ++ f ++ g ++ h ++ i ++ j ≡ a ++ (b ++ (c ++ (d ++ (e ++ (f ++ (g ++ (h ++ (i ++ j))))))))
regroup a b c d e f g h i j = simp append_assoc

both : {a b c d : List ℕ} → a ≡ b → c ≡ d → a ++ c ≡ b ++ d
both p q = cc

-- the spelling, as its header and its sections
pub spelling_parts : (m : Module) → spelling m ≡ header ++ bytes_of (sections_of m) (flat_map custom_bytes m.customs)
unfolding spelling sections_of
spelling_parts m =
    regroup header (section_bytes 1 function_type_bytes m.types) (section_bytes 2 import_bytes m.imports) (section_bytes 3 unsigned_bytes m.functions) (section_bytes 5 memory_bytes m.memory) (section_bytes 6 global_bytes m.globals) (section_bytes 7 export_bytes m.exports) (section_bytes 10 body_bytes m.codes) (section_bytes 11 segment_bytes m.segments) (flat_map custom_bytes m.customs)
    ∙ ap (λ (bytes : List ℕ). header ++ bytes) (both (section_is 1 function_type_bytes m.types) (both (section_is 2 import_bytes m.imports) (both (section_is 3 unsigned_bytes m.functions) (both (section_is 5 memory_bytes m.memory) (both (section_is 6 global_bytes m.globals) (both (section_is 7 export_bytes m.exports) (both (section_is 10 body_bytes m.codes) (both (section_is 11 segment_bytes m.segments) (refl)))))))))

pub length-spelling : (m : Module) → length (spelling m) ≡ 8 + length (section_bytes 1 function_type_bytes m.types) + length (section_bytes 2 import_bytes m.imports) + length (section_bytes 3 unsigned_bytes m.functions) + length (section_bytes 5 memory_bytes m.memory) + length (section_bytes 6 global_bytes m.globals) + length (section_bytes 7 export_bytes m.exports) + length (section_bytes 10 body_bytes m.codes) + length (section_bytes 11 segment_bytes m.segments) + length (flat_map custom_bytes m.customs)
unfolding spelling
length-spelling m = simp length-append (omega arith)

are_short : (m : Module) → IsWritable m → AllByRecursion (λ section. IsShort section.1) (sections_of m)
unfolding sections_of
are_short m h = (listed_short function_type_bytes m.types h.lists.types, (listed_short import_bytes m.imports h.lists.imports, (listed_short unsigned_bytes m.functions h.lists.functions, (listed_short memory_bytes m.memory h.lists.memory, (listed_short global_bytes m.globals h.lists.globals, (listed_short export_bytes m.exports h.lists.exports, (listed_short body_bytes m.codes h.lists.codes, (listed_short segment_bytes m.segments h.lists.segments, tt))))))))

lists : {A : Type 0} (P : A → List ℕ → Type 0) (part : A → List ℕ) (m : Module) (id : ℕ) (xs : List A) → 0 < id → found id (sections_of m) ≡ listed part xs → Vector P xs (vector_bytes part xs) → Lists P id (raws_of (sections_of m) (custom_raws m.customs)) xs
lists P part m id xs lt is h =
    let at = contents_found (sections_of m) m.customs 0 id lt (is_rising m) in
    rw (at, is) (lists_listed P part xs h)

-- each list of the module is spelled by the shortest bytes
pub record AreSpelled (m : Module) : Type 0 where
  pub types : Vector Type_of_function m.types (vector_bytes function_type_bytes m.types)
  pub imports : Vector Imported m.imports (vector_bytes import_bytes m.imports)
  pub functions : Vector Index m.functions (vector_bytes unsigned_bytes m.functions)
  pub memory : Vector Memory m.memory (vector_bytes memory_bytes m.memory)
  pub globals : Vector Global m.globals (vector_bytes global_bytes m.globals)
  pub exports : Vector Exported m.exports (vector_bytes export_bytes m.exports)
  pub codes : Vector Body m.codes (vector_bytes body_bytes m.codes)
  pub segments : Vector Data m.segments (vector_bytes segment_bytes m.segments)
  pub customs : All (λ custom. Custom_contents custom (custom_contents custom)) m.customs

pub module_spelled : (m : Module) → IsWritable m → AreSpelled m → Spelled (spelling m) m
module_spelled m h s =
    let raws = raws_of (sections_of m) (custom_raws m.customs) in
    let after = flat_map custom_bytes m.customs in
    let customs_short = recursion_from_All (λ custom. length (custom_contents custom) < 2 ^ 32) m.customs h.customs in
    let customs_spelled = recursion_from_All (λ custom. Custom_contents custom (custom_contents custom)) m.customs s.customs in
    let each = raws_spelled (sections_of m) (custom_raws m.customs) after (are_short m h) (custom_raws_spelled m.customs customs_short) in
    let at : (id : ℕ) → 0 < id → contents_of id raws ≡ found id (sections_of m) = λ id lt. contents_found (sections_of m) m.customs 0 id lt (is_rising m) in
    record {
      raws = raws;
      found = m.customs;
      whole = rw (spelling_parts m) (joined (Is header) (Each RawSection raws) header (bytes_of (sections_of m) after) refl each);
      order = raws_in_order (sections_of m) m.customs 0 0 (omega arith) (is_rising m);
      types = lists Type_of_function function_type_bytes m 1 m.types (omega arith) (unfold sections_of in refl) s.types;
      imports = lists Imported import_bytes m 2 m.imports (omega arith) (unfold sections_of in refl) s.imports;
      functions = lists Index unsigned_bytes m 3 m.functions (omega arith) (unfold sections_of in refl) s.functions;
      memory = lists Memory memory_bytes m 5 m.memory (omega arith) (unfold sections_of in refl) s.memory;
      globals = lists Global global_bytes m 6 m.globals (omega arith) (unfold sections_of in refl) s.globals;
      exports = lists Exported export_bytes m 7 m.exports (omega arith) (unfold sections_of in refl) s.exports;
      codes = lists Body body_bytes m 10 m.codes (omega arith) (unfold sections_of in refl) s.codes;
      segments = lists Data segment_bytes m 11 m.segments (omega arith) (unfold sections_of in refl) s.segments;
      customs = raws_customs (sections_of m) m.customs 0 (is_rising m) customs_spelled;
      sorted = h.sorted;
      bodies = h.bodies;
    }

-- the counts of the lists are within their bytes
pub record Counts (m : Module) : Type 0 where
  pub types : length m.types < 2 ^ 32
  pub imports : length m.imports < 2 ^ 32
  pub functions : length m.functions < 2 ^ 32
  pub memory : length m.memory < 2 ^ 32
  pub globals : length m.globals < 2 ^ 32
  pub exports : length m.exports < 2 ^ 32
  pub codes : length m.codes < 2 ^ 32
  pub segments : length m.segments < 2 ^ 32

pub counts : (m : Module) → IsWritable m → Counts m
counts m h = record {
  types = vector_count function_type_bytes m.types function_type_nonempty h.lists.types;
  imports = vector_count import_bytes m.imports import_nonempty h.lists.imports;
  functions = vector_count unsigned_bytes m.functions index_nonempty h.lists.functions;
  memory = vector_count memory_bytes m.memory memory_nonempty h.lists.memory;
  globals = vector_count global_bytes m.globals global_nonempty h.lists.globals;
  exports = vector_count export_bytes m.exports export_nonempty h.lists.exports;
  codes = vector_count body_bytes m.codes body_nonempty h.lists.codes;
  segments = vector_count segment_bytes m.segments segment_nonempty h.lists.segments;
}

-- one more section after what is written
pub section_at : {A : Type 0} (id : ℕ) (part : A → List ℕ) (xs : List A) (old new front : List ℕ) → new ≡ old ++ section_bytes id part xs → old ≡ front → new ≡ front ++ section_bytes id part xs
section_at id part xs old new front appended before = appended ∙ ap (λ bytes. bytes ++ section_bytes id part xs) before

-- the custom sections end what is written
pub whole_at : (m : Module) (customs : List Custom) (old new : List ℕ) → customs ≡ m.customs → new ≡ old ++ flat_map custom_bytes customs
    → old ≡ header ++ section_bytes 1 function_type_bytes m.types ++ section_bytes 2 import_bytes m.imports ++ section_bytes 3 unsigned_bytes m.functions ++ section_bytes 5 memory_bytes m.memory ++ section_bytes 6 global_bytes m.globals ++ section_bytes 7 export_bytes m.exports ++ section_bytes 10 body_bytes m.codes ++ section_bytes 11 segment_bytes m.segments
    → new ≡ spelling m
unfolding spelling
whole_at m customs old new e appended before = appended ∙ both before (ap (flat_map custom_bytes) e)
