-- The bytes of the example spell its module.
use Rattle.std.proofs.Common.{◌≡◌, ℕ, ◌<◌, List, [], ◌∷◌, ◌++◌, length, pos, refl, inl, inr, arith, lit<, lit≤}
use Rattle.std.specs.Prelude.{codes}
use Rattle.std.specs.Str.{IsUtf8}
use Rattle.cm_base.specs.declared.host.Flow.TheVariants.{Input, Output}
use Rattle.cm_base.specs.declared.host.Scalar.TheVariants.{Int32}
use Rattle.through_meaning.specs.Parts.{host_stream}
use Rattle.wasm_tree.specs.Section.{Runs, Spelled_slot, Spelled_section}
use Rattle.wasm_tree.specs.Spelled.{Joined, Is, Begins, Each, Index, Signed, Vector, Text, Utf8Text, Type_of_function, Imported, Memory, Exported, Body, LocalRuns, Expression, Custom_contents, CustomsAre, Raw, RawSection, InOrder, header, Spelled}
use Rattle.wasm_tree.specs.Valid.{emit_type, no_type}
use Rattle.wasm_writer.specs.Spelling.{spelling, unsigned_bytes, unsigned_within, signed_bytes, signed_within}
use Rattle.module_build.specs.Example.{example_section, example_bytes}
use Rattle.module_build.specs.Through.{through_module, through_section, body_of, init_code, frame_code, one_page, emit_import, memory_export, function_export, cmajor_custom}

-- ---- parts

joined : {P Q : List ℕ → Type 0} (front back : List ℕ) → P front → Q back → Joined P Q (front ++ back)
joined front back p q = record { front = front; back = back; whole = refl; first = p; second = q }

begins : {Q : List ℕ → Type 0} (byte : ℕ) (rest : List ℕ) → Q rest → Begins byte Q (byte ∷ rest)
begins byte rest q = joined (byte ∷ []) rest refl q

-- numbers, texts and names of fewer than 128
index : (n : ℕ) → n < 128 → Index n (n ∷ [])
index n few = (few, omega arith, refl)

text : (s : List ℕ) → length s < 128 → Text s (length s ∷ s)
text s few = joined (length s ∷ []) s (index (length s) few) refl

name : (s : List ℕ) → length s < 128 → IsUtf8 s → Utf8Text s (length s ∷ s)
name s few utf8 = record { spelled = text s few; utf8 = utf8 }

section : (id : ℕ) (contents : List ℕ) → length contents < 128 → RawSection (record { id = id; contents = contents }) (id ∷ length contents ∷ contents)
section id contents few = begins id (length contents ∷ contents) (text contents few)

zero_bits : Signed 32 (pos 0) (0x00 ∷ [])
zero_bits = inl (lit< tt, lit< tt, refl)

-- ---- contents

types_contents : List ℕ
types_contents = 0x02 ∷ 0x60 ∷ 0x01 ∷ 0x7F ∷ 0x00 ∷ 0x60 ∷ 0x00 ∷ 0x00 ∷ []

types_spelled : Vector Type_of_function (emit_type ∷ no_type ∷ []) types_contents
unfolding types_contents
types_spelled =
    joined (0x02 ∷ []) (0x60 ∷ 0x01 ∷ 0x7F ∷ 0x00 ∷ 0x60 ∷ 0x00 ∷ 0x00 ∷ []) (index 2 (lit< tt))
    (joined (0x60 ∷ 0x01 ∷ 0x7F ∷ 0x00 ∷ []) (0x60 ∷ 0x00 ∷ 0x00 ∷ [])
    (begins 0x60 (0x01 ∷ 0x7F ∷ 0x00 ∷ [])
    (joined (0x01 ∷ 0x7F ∷ []) (0x00 ∷ [])
    (joined (0x01 ∷ []) (0x7F ∷ []) (index 1 (lit< tt)) (joined (0x7F ∷ []) [] refl refl))
    (joined (0x00 ∷ []) [] (index 0 (lit< tt)) refl)))
    (joined (0x60 ∷ 0x00 ∷ 0x00 ∷ []) []
    (begins 0x60 (0x00 ∷ 0x00 ∷ [])
    (joined (0x00 ∷ []) (0x00 ∷ []) (joined (0x00 ∷ []) [] (index 0 (lit< tt)) refl) (joined (0x00 ∷ []) [] (index 0 (lit< tt)) refl)))
    refl))

imports_contents : List ℕ
imports_contents = 0x01 ∷ 0x04 ∷ 0x68 ∷ 0x6F ∷ 0x73 ∷ 0x74 ∷ 0x04 ∷ 0x65 ∷ 0x6D ∷ 0x69 ∷ 0x74 ∷ 0x00 ∷ 0x00 ∷ []

imports_spelled : Vector Imported (emit_import ∷ []) imports_contents
unfolding imports_contents lib.Utf8.encode
imports_spelled =
    joined (0x01 ∷ []) (4 ∷ (codes "host" ++ 4 ∷ (codes "emit" ++ 0x00 ∷ 0x00 ∷ []))) (index 1 (lit< tt))
    (joined (4 ∷ (codes "host" ++ 4 ∷ (codes "emit" ++ 0x00 ∷ 0x00 ∷ []))) []
    (joined (4 ∷ codes "host") (4 ∷ (codes "emit" ++ 0x00 ∷ 0x00 ∷ [])) (name (codes "host") (lit< tt) (codes "host", (refl, refl)))
    (joined (4 ∷ codes "emit") (0x00 ∷ 0x00 ∷ []) (name (codes "emit") (lit< tt) (codes "emit", (refl, refl))) (begins 0x00 (0x00 ∷ []) (index 0 (lit< tt)))))
    refl)

functions_contents : List ℕ
functions_contents = 0x02 ∷ 0x01 ∷ 0x01 ∷ []

functions_spelled : Vector Index (1 ∷ 1 ∷ []) functions_contents
unfolding functions_contents
functions_spelled =
    joined (0x02 ∷ []) (0x01 ∷ 0x01 ∷ []) (index 2 (lit< tt))
    (joined (0x01 ∷ []) (0x01 ∷ []) (index 1 (lit< tt)) (joined (0x01 ∷ []) [] (index 1 (lit< tt)) refl))

memory_contents : List ℕ
memory_contents = 0x01 ∷ 0x01 ∷ 0x01 ∷ 0x01 ∷ []

memory_spelled : Vector Memory (one_page ∷ []) memory_contents
unfolding memory_contents
memory_spelled =
    joined (0x01 ∷ []) (0x01 ∷ 0x01 ∷ 0x01 ∷ []) (index 1 (lit< tt))
    (joined (0x01 ∷ 0x01 ∷ 0x01 ∷ []) []
    (begins 0x01 (0x01 ∷ 0x01 ∷ []) (joined (0x01 ∷ []) (0x01 ∷ []) (index 1 (lit< tt)) (index 1 (lit< tt))))
    refl)

exports_contents : List ℕ
exports_contents =
    0x03 ∷ 0x06 ∷ 0x6D ∷ 0x65 ∷ 0x6D ∷ 0x6F ∷ 0x72 ∷ 0x79 ∷ 0x02 ∷ 0x00 ∷ 0x04 ∷ 0x69 ∷ 0x6E ∷ 0x69 ∷ 0x74 ∷ 0x00 ∷ 0x01 ∷ 0x05 ∷ 0x66 ∷ 0x72 ∷ 0x61 ∷ 0x6D ∷ 0x65 ∷ 0x00 ∷ 0x02 ∷ []

exports_spelled : Vector Exported (memory_export ∷ function_export (codes "init") 1 ∷ function_export (codes "frame") 2 ∷ []) exports_contents
unfolding exports_contents lib.Utf8.encode
exports_spelled =
    joined (0x03 ∷ []) (6 ∷ (codes "memory" ++ 0x02 ∷ 0x00 ∷ 4 ∷ (codes "init" ++ 0x00 ∷ 0x01 ∷ 5 ∷ (codes "frame" ++ 0x00 ∷ 0x02 ∷ [])))) (index 3 (lit< tt))
    (joined (6 ∷ (codes "memory" ++ 0x02 ∷ 0x00 ∷ [])) (4 ∷ (codes "init" ++ 0x00 ∷ 0x01 ∷ 5 ∷ (codes "frame" ++ 0x00 ∷ 0x02 ∷ [])))
    (joined (6 ∷ codes "memory") (0x02 ∷ 0x00 ∷ []) (name (codes "memory") (lit< tt) (codes "memory", (refl, refl))) (begins 0x02 (0x00 ∷ []) (index 0 (lit< tt))))
    (joined (4 ∷ (codes "init" ++ 0x00 ∷ 0x01 ∷ [])) (5 ∷ (codes "frame" ++ 0x00 ∷ 0x02 ∷ []))
    (joined (4 ∷ codes "init") (0x00 ∷ 0x01 ∷ []) (name (codes "init") (lit< tt) (codes "init", (refl, refl))) (begins 0x00 (0x01 ∷ []) (index 1 (lit< tt))))
    (joined (5 ∷ (codes "frame" ++ 0x00 ∷ 0x02 ∷ [])) []
    (joined (5 ∷ codes "frame") (0x00 ∷ 0x02 ∷ []) (name (codes "frame") (lit< tt) (codes "frame", (refl, refl))) (begins 0x00 (0x02 ∷ []) (index 2 (lit< tt))))
    refl)))

no_locals : LocalRuns [] (0x00 ∷ [])
no_locals = record { spelled = joined (0x00 ∷ []) [] (index 0 (lit< tt)) refl; few = lit≤ tt }

init_spelled : Body (body_of init_code) (0x02 ∷ 0x00 ∷ 0x0B ∷ [])
init_spelled = (
  0x00 ∷ 0x0B ∷ [],
  text (0x00 ∷ 0x0B ∷ []) (lit< tt),
  joined (0x00 ∷ []) (0x0B ∷ []) no_locals (record { spelled = joined (0x0B ∷ []) [] (begins 0x0B [] refl) refl; closed = refl }),
)

frame_contents : List ℕ
frame_contents = 0x41 ∷ 0x00 ∷ 0x41 ∷ 0x00 ∷ 0x28 ∷ 0x02 ∷ 0x00 ∷ 0x36 ∷ 0x02 ∷ 0x04 ∷ 0x0B ∷ []

frame_expression : Expression frame_code frame_contents
unfolding frame_contents
frame_expression = record {
  spelled =
      joined (0x41 ∷ 0x00 ∷ []) (0x41 ∷ 0x00 ∷ 0x28 ∷ 0x02 ∷ 0x00 ∷ 0x36 ∷ 0x02 ∷ 0x04 ∷ 0x0B ∷ []) (begins 0x41 (0x00 ∷ []) zero_bits)
      (joined (0x41 ∷ 0x00 ∷ []) (0x28 ∷ 0x02 ∷ 0x00 ∷ 0x36 ∷ 0x02 ∷ 0x04 ∷ 0x0B ∷ []) (begins 0x41 (0x00 ∷ []) zero_bits)
      (joined (0x28 ∷ 0x02 ∷ 0x00 ∷ []) (0x36 ∷ 0x02 ∷ 0x04 ∷ 0x0B ∷ [])
      (begins 0x28 (0x02 ∷ 0x00 ∷ []) (joined (0x02 ∷ []) (0x00 ∷ []) (index 2 (lit< tt)) (index 0 (lit< tt))))
      (joined (0x36 ∷ 0x02 ∷ 0x04 ∷ []) (0x0B ∷ [])
      (begins 0x36 (0x02 ∷ 0x04 ∷ []) (joined (0x02 ∷ []) (0x04 ∷ []) (index 2 (lit< tt)) (index 4 (lit< tt))))
      (joined (0x0B ∷ []) [] (begins 0x0B [] refl) refl))));
  closed = refl;
}

frame_spelled : Body (body_of frame_code) (0x0C ∷ 0x00 ∷ frame_contents)
unfolding frame_contents
frame_spelled = (
  0x00 ∷ frame_contents,
  text (0x00 ∷ frame_contents) (lit< tt),
  joined (0x00 ∷ []) frame_contents no_locals frame_expression,
)

codes_contents : List ℕ
codes_contents = 0x02 ∷ 0x02 ∷ 0x00 ∷ 0x0B ∷ 0x0C ∷ 0x00 ∷ frame_contents

codes_spelled : Vector Body (body_of init_code ∷ body_of frame_code ∷ []) codes_contents
unfolding codes_contents frame_contents
codes_spelled =
    joined (0x02 ∷ []) (0x02 ∷ 0x00 ∷ 0x0B ∷ 0x0C ∷ 0x00 ∷ frame_contents) (index 2 (lit< tt))
    (joined (0x02 ∷ 0x00 ∷ 0x0B ∷ []) (0x0C ∷ 0x00 ∷ frame_contents) init_spelled (joined (0x0C ∷ 0x00 ∷ frame_contents) [] frame_spelled refl))

custom_contents : List ℕ
custom_contents = 6 ∷ (codes "cmajor" ++ example_section)

custom_spelled : Custom_contents (cmajor_custom example_section) custom_contents
unfolding custom_contents lib.Utf8.encode
custom_spelled = joined (6 ∷ codes "cmajor") example_section (name (codes "cmajor") (lit< tt) (codes "cmajor", (refl, refl))) refl

-- ---- the section `cmajor`

one_int32 : Runs (Int32 ∷ []) (0x01 ∷ 0x01 ∷ 0x00 ∷ [])
one_int32 = record {
  runs = record { count = 1; kind = Int32; some = lit≤ tt } ∷ [];
  spelled =
      joined (0x01 ∷ []) (0x01 ∷ 0x00 ∷ []) (index 1 (lit< tt))
      (joined (0x01 ∷ 0x00 ∷ []) [] (joined (0x01 ∷ []) (0x00 ∷ []) (index 1 (lit< tt)) refl) refl);
  whole = refl;
}

in_slot : Spelled_slot (record { end = host_stream Input (codes "in"); address = 0 }) (0x00 ∷ 0x00 ∷ 2 ∷ (codes "in" ++ 0x00 ∷ 0x01 ∷ 0x01 ∷ 0x00 ∷ 0x00 ∷ []))
unfolding lib.Utf8.encode
in_slot =
    begins 0x00 _ (begins 0x00 _
    (joined (2 ∷ codes "in") (0x00 ∷ 0x01 ∷ 0x01 ∷ 0x00 ∷ 0x00 ∷ []) (name (codes "in") (lit< tt) (codes "in", (refl, refl)))
    (joined (0x00 ∷ []) (0x01 ∷ 0x01 ∷ 0x00 ∷ 0x00 ∷ []) (index 0 (lit< tt)) (joined (0x01 ∷ 0x01 ∷ 0x00 ∷ []) (0x00 ∷ []) one_int32 refl))))

out_slot : Spelled_slot (record { end = host_stream Output (codes "out"); address = 4 }) (0x01 ∷ 0x00 ∷ 3 ∷ (codes "out" ++ 0x04 ∷ 0x01 ∷ 0x01 ∷ 0x00 ∷ 0x00 ∷ []))
unfolding lib.Utf8.encode
out_slot =
    begins 0x01 _ (begins 0x00 _
    (joined (3 ∷ codes "out") (0x04 ∷ 0x01 ∷ 0x01 ∷ 0x00 ∷ 0x00 ∷ []) (name (codes "out") (lit< tt) (codes "out", (refl, refl)))
    (joined (0x04 ∷ []) (0x01 ∷ 0x01 ∷ 0x00 ∷ 0x00 ∷ []) (index 4 (lit< tt)) (joined (0x01 ∷ 0x01 ∷ 0x00 ∷ []) (0x00 ∷ []) one_int32 refl))))

pub section_spelled : Spelled_section (through_section (codes "in") (codes "out")) example_section
section_spelled =
    joined (0x01 ∷ 0x00 ∷ []) (0x02 ∷ 0x00 ∷ 0x00 ∷ 2 ∷ (codes "in" ++ 0x00 ∷ 0x01 ∷ 0x01 ∷ 0x00 ∷ 0x00 ∷ 0x01 ∷ 0x00 ∷ 3 ∷ (codes "out" ++ 0x04 ∷ 0x01 ∷ 0x01 ∷ 0x00 ∷ 0x00 ∷ [])))
    (begins 0x01 (0x00 ∷ []) (index 0 (lit< tt)))
    (joined (0x02 ∷ []) (0x00 ∷ 0x00 ∷ 2 ∷ (codes "in" ++ 0x00 ∷ 0x01 ∷ 0x01 ∷ 0x00 ∷ 0x00 ∷ 0x01 ∷ 0x00 ∷ 3 ∷ (codes "out" ++ 0x04 ∷ 0x01 ∷ 0x01 ∷ 0x00 ∷ 0x00 ∷ []))) (index 2 (lit< tt))
    (joined (0x00 ∷ 0x00 ∷ 2 ∷ (codes "in" ++ 0x00 ∷ 0x01 ∷ 0x01 ∷ 0x00 ∷ 0x00 ∷ [])) (0x01 ∷ 0x00 ∷ 3 ∷ (codes "out" ++ 0x04 ∷ 0x01 ∷ 0x01 ∷ 0x00 ∷ 0x00 ∷ [])) in_slot
    (joined (0x01 ∷ 0x00 ∷ 3 ∷ (codes "out" ++ 0x04 ∷ 0x01 ∷ 0x01 ∷ 0x00 ∷ 0x00 ∷ [])) [] out_slot refl)))

-- ---- the module

raw : ℕ → List ℕ → Raw
raw id contents = record { id = id; contents = contents }

example_raws : List Raw
example_raws =
    raw 1 types_contents ∷ raw 2 imports_contents ∷ raw 3 functions_contents ∷ raw 5 memory_contents ∷ raw 7 exports_contents ∷ raw 10 codes_contents
    ∷ raw 0 custom_contents ∷ []

bytes_of : List Raw → List ℕ
bytes_of [] = []
bytes_of (raw ∷ raws) = (raw.id ∷ length raw.contents ∷ raw.contents) ++ bytes_of raws

AreShort : List Raw → Type 0
AreShort [] = Unit {0}
AreShort (raw ∷ raws) = (length raw.contents < 128) × AreShort raws

sections : (raws : List Raw) → AreShort raws → Each RawSection raws (bytes_of raws)
unfolding bytes_of AreShort
sections [] few = refl
sections (raw ∷ raws) few = joined (raw.id ∷ length raw.contents ∷ raw.contents) (bytes_of raws) (section raw.id raw.contents few.0) (sections raws few.1)

sections_spelled : Joined (Is header) (Each RawSection example_raws) example_bytes
unfolding example_raws raw bytes_of AreShort types_contents imports_contents functions_contents memory_contents exports_contents codes_contents frame_contents custom_contents
sections_spelled =
    joined header (bytes_of example_raws) refl
    (sections example_raws (lit< tt, (lit< tt, (lit< tt, (lit< tt, (lit< tt, (lit< tt, (lit< tt, tt))))))))

in_order : InOrder 0 example_raws
unfolding example_raws raw
in_order =
    inr (
      lit< tt,
      (0, lit< tt, refl),
      inr (
        lit< tt,
        (1, lit< tt, refl),
        inr (
          lit< tt,
          (2, lit< tt, refl),
          inr (
            lit< tt,
            (3, lit< tt, refl),
            inr (lit< tt, (5, lit< tt, refl), inr (lit< tt, (6, lit< tt, refl), inl (refl, tt))),
          ),
        ),
      ),
    )

customs_are : CustomsAre example_raws (cmajor_custom example_section ∷ [])
unfolding example_raws raw
customs_are = inr (lit< tt, inr (lit< tt, inr (lit< tt, inr (lit< tt, inr (lit< tt, inr (lit< tt, inl (refl, custom_spelled, refl)))))))

pub bytes_spelled : Spelled example_bytes (through_module example_section)
unfolding example_raws raw
bytes_spelled = record {
  raws = example_raws;
  found = cmajor_custom example_section ∷ [];
  whole = sections_spelled;
  order = in_order;
  types = types_spelled;
  imports = imports_spelled;
  functions = functions_spelled;
  memory = memory_spelled;
  globals = refl;
  exports = exports_spelled;
  codes = codes_spelled;
  segments = refl;
  customs = customs_are;
  sorted = refl;
  bodies = refl;
}

pub written : spelling (through_module example_section) ≡ example_bytes
unfolding spelling unsigned_bytes unsigned_within signed_bytes signed_within
written = refl
