-- Scalars that are written one after another.
use Rattle.std.proofs.Common.{◌≡◌, ◌<◌, ◌≤◌, ◌+◌, ℕ, suc, List, [], ◌∷◌, length, get_or, take, drop, refl, sym, ap, ◌∙◌, subst, arith}
use Rattle.std.specs.Prelude.{ℤ, ◌++◌}
use Rattle.std.specs.List.{AllByRecursion}
use Rattle.std.proofs.lemmas.List.{append_assoc, length-append, length-take-le, length-drop, drop_all, drop_more, drop-drop, take-append-drop}
use Rattle.std.proofs.Math.Seq.{take-append_seam, drop-append-add}
use Rattle.cm_base.specs.declared.host.Scalar.{Scalar}
use Rattle.cm_base.specs.HostEnds.{IsLawfulScalar}
use Rattle.cm_base.specs.Scripts.{IsOfKind, HasShape}
use Rattle.wasm_tree.specs.Reduce.{write_bytes}
use Rattle.wasm_tree.specs.Section.{scalar_size, shape_size}
use Rattle.wasm_tree.specs.Slots.{scalar_bytes, scalars_bytes}
use Rattle.slot_codec.proofs.Sizes as Z

pub nothing_written : (memory : List ℕ) (at : ℕ) → write_bytes memory at [] ≡ memory
nothing_written memory at = ap (λ n. take at memory ++ drop n memory) (omega arith) ∙ take-append-drop at memory

pub as_long_after : (memory : List ℕ) (at : ℕ) (bytes : List ℕ) → at + length bytes ≤ length memory → length (write_bytes memory at bytes) ≡ length memory
as_long_after memory at bytes l =
    let rest : List ℕ = drop (at + length bytes) memory in
    omega (arith, l, length-append (take at memory) (bytes ++ rest), length-append bytes rest, length-take-le at memory (omega (arith, l)), length-drop (at + length bytes) memory)

module _ (memory : List ℕ) (at : ℕ) (first : List ℕ) (l : at + length first ≤ length memory) where
  abbrev start : List ℕ
  start = take at memory ++ first

  abbrev rest : List ℕ
  rest = drop (at + length first) memory

  long : length start ≡ at + length first
  long = length-append (take at memory) first ∙ ap (λ n. n + length first) (length-take-le at memory (omega (arith, l)))

  whole : write_bytes memory at first ≡ start ++ rest
  whole = sym (append_assoc (take at memory) first rest)

  before : take (at + length first) (start ++ rest) ≡ start
  before = ap (λ n. take n (start ++ rest)) (sym long) ∙ take-append_seam start rest

  after : (n : ℕ) → drop (at + length first + n) (start ++ rest) ≡ drop (at + (length first + n)) memory
  after n = ap (λ k. drop (k + n) (start ++ rest)) (sym long) ∙ drop-append-add start rest n ∙ drop-drop n (at + length first) memory ∙ ap (λ k. drop k memory) (omega arith)

  -- one after the other is both at once
  pub both_written : (second : List ℕ) → write_bytes (write_bytes memory at first) (at + length first) second ≡ write_bytes memory at (first ++ second)
  both_written second =
      ap (λ m. write_bytes m (at + length first) second) whole
      ∙ ap (λ t. t ++ (second ++ drop (at + length first + length second) (start ++ rest))) before
      ∙ ap (λ t. start ++ (second ++ t)) (after (length second))
      ∙ append_assoc (take at memory) first (second ++ drop (at + (length first + length second)) memory)
      ∙ ap (λ t. take at memory ++ t) (sym (append_assoc first second (drop (at + (length first + length second)) memory)))
      ∙ ap (λ n. take at memory ++ ((first ++ second) ++ drop (at + n) memory)) (sym (length-append first second))

-- the first i scalars are written, and the others are still to be, from this address on
pub record AreWritten (shape : List Scalar) (values : List ℤ) (address : ℕ) (before : List ℕ) (i at : ℕ) (memory : List ℕ) : Type 0 where
  pub long : length memory ≡ length before
  pub lawful : AllByRecursion IsLawfulScalar (drop i shape)
  pub shaped : HasShape (drop i shape) (drop i values)
  pub within : 0 < shape_size (drop i shape) → at + shape_size (drop i shape) ≤ length memory
  pub written : write_bytes memory at (scalars_bytes (drop i shape) (drop i values)) ≡ write_bytes before address (scalars_bytes shape values)

pub none_written : (shape : List Scalar) (values : List ℤ) (address : ℕ) (memory : List ℕ) → AllByRecursion IsLawfulScalar shape → HasShape shape values → (0 < shape_size shape → address + shape_size shape ≤ length memory) →
    AreWritten shape values address memory 0 address memory
none_written shape values address memory a h w = record { long = refl; lawful = a; shaped = h; within = w; written = refl }

here : {X : Type 0} → (xs : List X) (i : ℕ) (x d : X) → i < length xs → x ≡ get_or xs i d → drop i xs ≡ x ∷ drop (i + 1) xs
here {X} xs i x d l e = drop_more xs i d l ∙ ap (λ (y : X). y ∷ drop (i + 1) xs) (sym e)

pub as_many : (shape : List Scalar) (values : List ℤ) → HasShape shape values → length shape ≡ length values
as_many [] [] h = refl
as_many [] (z ∷ zs) h = absurd h
as_many (kind ∷ kinds) [] h = absurd h
as_many (kind ∷ kinds) (z ∷ zs) h = ap suc (as_many kinds zs h.1)

module _ (shape : List Scalar) (values : List ℤ) (address : ℕ) (before : List ℕ) (i at : ℕ) (memory : List ℕ) (a : AreWritten shape values address before i at memory)
    (kind none : Scalar) (value zero : ℤ) (l : i < length shape) (m : i < length values) (e : kind ≡ get_or shape i none) (v : value ≡ get_or values i zero) where
  kinds_here : drop i shape ≡ kind ∷ drop (i + 1) shape
  kinds_here = here shape i kind none l e

  values_here : drop i values ≡ value ∷ drop (i + 1) values
  values_here = here values i value zero m v

  all_lawful : AllByRecursion IsLawfulScalar (kind ∷ drop (i + 1) shape)
  all_lawful = subst (AllByRecursion IsLawfulScalar) kinds_here a.lawful

  all_shaped : HasShape (kind ∷ drop (i + 1) shape) (value ∷ drop (i + 1) values)
  all_shaped = subst (λ zs. HasShape (kind ∷ drop (i + 1) shape) zs) values_here (subst (λ kinds. HasShape kinds (drop i values)) kinds_here a.shaped)

  size : shape_size (drop i shape) ≡ scalar_size kind + shape_size (drop (i + 1) shape)
  size = ap shape_size kinds_here ∙ Z.size_more kind (drop (i + 1) shape)

  pub lawful_here : IsLawfulScalar kind
  lawful_here = all_lawful.0

  pub of_kind : IsOfKind kind value
  of_kind = all_shaped.0

  pub fits_all : at + shape_size (drop i shape) ≤ length memory
  fits_all = a.within (omega (arith, size, Z.some_bytes kind))

  pub fits : at + scalar_size kind ≤ length memory
  fits = omega (arith, size, fits_all)

  pub one_written : (memory' : List ℕ) → memory' ≡ write_bytes memory at (scalar_bytes kind value) → AreWritten shape values address before (i + 1) (at + scalar_size kind) memory'
  one_written memory' w =
      let bytes : length (scalar_bytes kind value) ≡ scalar_size kind = Z.as_long kind value in
      let inside : at + length (scalar_bytes kind value) ≤ length memory = omega (arith, bytes, fits) in
      let same : length memory' ≡ length memory = ap length w ∙ as_long_after memory at (scalar_bytes kind value) inside in
      let others : List ℕ = scalars_bytes (drop (i + 1) shape) (drop (i + 1) values) in
      record {
        long = same ∙ a.long;
        lawful = all_lawful.1;
        shaped = all_shaped.1;
        within = λ some. omega (arith, size, fits_all, same);
        written = ap (λ m. write_bytes m (at + scalar_size kind) others) w
            ∙ ap (λ n. write_bytes (write_bytes memory at (scalar_bytes kind value)) (at + n) others) (sym bytes)
            ∙ both_written memory at (scalar_bytes kind value) inside others
            ∙ sym (ap (λ kinds. write_bytes memory at (scalars_bytes kinds (drop i values))) kinds_here ∙ ap (λ zs. write_bytes memory at (scalars_bytes (kind ∷ drop (i + 1) shape) zs)) values_here)
            ∙ a.written;
      }

pub all_written : (shape : List Scalar) (values : List ℤ) (address : ℕ) (before : List ℕ) (i at : ℕ) (memory : List ℕ) → AreWritten shape values address before i at memory → length shape ≤ i →
    memory ≡ write_bytes before address (scalars_bytes shape values)
all_written shape values address memory₀ i at memory a l =
    sym (nothing_written memory at) ∙ ap (λ kinds. write_bytes memory at (scalars_bytes kinds (drop i values))) (sym (drop_all i shape l)) ∙ a.written
