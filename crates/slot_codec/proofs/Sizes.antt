-- How many bytes scalars take.
use Rattle.std.proofs.Common.{◌≡◌, ◌<◌, ◌≤◌, ◌+◌, List, [], ◌∷◌, length, refl, sym, ap, ◌∙◌, arith}
use Rattle.std.specs.Prelude.{ℤ}
use Rattle.cm_base.specs.declared.host.Scalar.{Scalar}
use Rattle.cm_base.specs.declared.host.Scalar.TheVariants.{Int32, Int64, Bool as Truth, Wrap, Clamp}
use Rattle.cm_base.specs.Scripts.{HasShape}
use Rattle.std.proofs.lemmas.List.{length-append}
use Rattle.std.proofs.lemmas.List.Sums.{sum_by-drop_more}
use Rattle.wasm_tree.specs.Section.{scalar_size, shape_size}
use Rattle.wasm_tree.specs.Slots.{scalar_bytes, scalars_bytes}

pub at_most_8 : (kind : Scalar) → scalar_size kind ≤ 8
at_most_8 Int32 = omega arith
at_most_8 Int64 = omega arith
at_most_8 Truth = omega arith
at_most_8 (Wrap n) = omega arith
at_most_8 (Clamp n) = omega arith

pub some_bytes : (kind : Scalar) → 0 < scalar_size kind
some_bytes Int32 = omega arith
some_bytes Int64 = omega arith
some_bytes Truth = omega arith
some_bytes (Wrap n) = omega arith
some_bytes (Clamp n) = omega arith

pub as_long : (kind : Scalar) (z : ℤ) → length (scalar_bytes kind z) ≡ scalar_size kind
as_long Int32 z = refl
as_long Int64 z = refl
as_long Truth z = refl
as_long (Wrap n) z = refl
as_long (Clamp n) z = refl

pub size_more : (kind : Scalar) (kinds : List Scalar) → shape_size (kind ∷ kinds) ≡ scalar_size kind + shape_size kinds
size_more kind kinds = sum_by-drop_more scalar_size (kind ∷ kinds) 0 kind (omega arith)

pub all_as_long : (shape : List Scalar) (values : List ℤ) → HasShape shape values → length (scalars_bytes shape values) ≡ shape_size shape
all_as_long [] values h = refl
all_as_long (kind ∷ kinds) [] h = absurd h
all_as_long (kind ∷ kinds) (z ∷ zs) h =
    length-append (scalar_bytes kind z) (scalars_bytes kinds zs) ∙ ap (λ n. n + length (scalars_bytes kinds zs)) (as_long kind z) ∙ ap (λ n. scalar_size kind + n) (all_as_long kinds zs h.1) ∙ sym (size_more kind kinds)
