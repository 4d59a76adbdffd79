-- The unit of a leaf, measured with what is counted for its writes.
use Rattle.std.specs.Prelude.{◌≡◌, refl, ℕ, zero, suc, ◌<◌, ◌^◌, List, [], ◌∷◌, length, map, All, Option, Some, None, slice_get, slice_index_or}
use Rattle.std.proofs.Common.{ap, sym, ◌∙◌, subst, arith}
use Rattle.std.proofs.lemmas.List.Elements.{All-head, All-tail}
use Rattle.cm_base.specs.declared.place.EndId.{EndId}
use Rattle.cm_base.specs.declared.place.LeafId.{LeafId}
use Rattle.cm_core.specs.declared.flat.Leaf.{Leaf}
use Rattle.cm_core.specs.declared.unit.Unit.{Unit as CoreUnit}
use Rattle.cm_core.specs.declared.unit.Handler.{Handler}
use Rattle.cm_core.specs.Code.{stmt_of}
use Rattle.cm_core.specs.Linked.{Linked, no_unit, unit_numbered, unit_at, leaf_ends, leaf_point, no_end_id}
use Rattle.cm_core.specs.Measures.{measured, chains_size, unit_size}
use Rattle.cm_core.specs.Sizes.{stmt_size}
use Rattle.memory_layout.specs.Held.{held}
use Rattle.memory_layout.specs.Scales.{counts_or}
use Rattle.memory_layout.proofs.Among.{counts_are}
use Rattle.memory_layout.proofs.Whole.{whole_alike, all_alike}

few_among : (units : List CoreUnit) (k : ℕ) → All (λ (u : CoreUnit). length u.functions < 2 ^ 31) units → length (slice_index_or units k no_unit).functions < 2 ^ 31
few_among [] k few = omega arith
few_among (u ∷ us) zero few = All-head (λ (u : CoreUnit). length u.functions < 2 ^ 31) u us few
few_among (u ∷ us) (suc k) few = few_among us k (All-tail (λ (u : CoreUnit). length u.functions < 2 ^ 31) u us few)

few_numbered : (l : Linked) (leaf : Option Leaf) → All (λ (u : CoreUnit). length u.functions < 2 ^ 31) l.program.units → length (unit_numbered l leaf).functions < 2 ^ 31
few_numbered l None few = omega arith
few_numbered l (Some leaf) few = few_among l.program.units leaf.unit few

-- the unit of a leaf has few functions
pub few_at : (l : Linked) (i : ℕ) (unit : CoreUnit) → unit ≡ unit_at l i → All (λ (u : CoreUnit). length u.functions < 2 ^ 31) l.program.units → length unit.functions < 2 ^ 31
few_at l i unit same few = subst (λ (u : CoreUnit). length u.functions < 2 ^ 31) (sym same) (few_numbered l (slice_get l.flat.leaves i) few)

module _ (l : Linked) (f : ℕ → ℕ → ℕ) (leaf : LeafId) (writes : List ℕ) (beyond : ℕ)
    (all : writes ≡ map (λ (e : EndId). held (chains_size l f (record { leaf = Some leaf; end = e }))) (leaf_ends l leaf.0))
    (other : beyond ≡ held (chains_size l f (record { leaf = Some leaf; end = no_end_id }))) where
  counted : (e : ℕ) → held (counts_or writes beyond e) ≡ held (chains_size l f (leaf_point l leaf.0 e))
  counted e =
      ap (λ (w : List ℕ). held (counts_or w beyond e)) all
      ∙ ap (λ (b : ℕ). held (counts_or (map (λ (e : EndId). held (chains_size l f (record { leaf = Some leaf; end = e }))) (leaf_ends l leaf.0)) b e)) other
      ∙ counts_are (λ (e : EndId). chains_size l f (record { leaf = Some leaf; end = e })) (leaf_ends l leaf.0) e

  pub leaf_at : (unit : CoreUnit) (size : ℕ) → unit ≡ unit_at l leaf.0 → size ≡ held (unit_size (measured l.program.structs unit (counts_or writes beyond))) →
      size ≡ held (unit_size (measured l.program.structs (unit_at l leaf.0) (λ e. chains_size l f (leaf_point l leaf.0 e))))
  leaf_at unit size same sized =
      sized ∙ ap (λ (u : CoreUnit). held (unit_size (measured l.program.structs u (counts_or writes beyond)))) same
      ∙ whole_alike l.program.structs (unit_at l leaf.0) (counts_or writes beyond) (λ e. chains_size l f (leaf_point l leaf.0 e)) counted

  pub handlers_at : (unit : CoreUnit) (sizes : List ℕ) → unit ≡ unit_at l leaf.0 →
      sizes ≡ map (λ (h : Handler). held (stmt_size (measured l.program.structs unit (counts_or writes beyond)) (stmt_of h.body))) unit.handlers →
      sizes ≡ map (λ (h : Handler). held (stmt_size (measured l.program.structs (unit_at l leaf.0) (λ e. chains_size l f (leaf_point l leaf.0 e))) (stmt_of h.body))) (unit_at l leaf.0).handlers
  handlers_at unit sizes same sized =
      sized ∙ ap (λ (u : CoreUnit). map (λ (h : Handler). held (stmt_size (measured l.program.structs u (counts_or writes beyond)) (stmt_of h.body))) u.handlers) same
      ∙ all_alike l.program.structs (unit_at l leaf.0) (counts_or writes beyond) (λ e. chains_size l f (leaf_point l leaf.0 e)) counted (unit_at l leaf.0).handlers

-- a leaf without a unit
pub no_leaf : (l : Linked) (i : ℕ) (chains : ℕ → ℕ) → no_unit ≡ unit_at l i → 1 ≡ held (unit_size (measured l.program.structs (unit_at l i) chains))
no_leaf l i chains same = subst (λ (u : CoreUnit). 1 ≡ held (unit_size (measured l.program.structs u chains))) same refl

pub no_handlers_at : (l : Linked) (i : ℕ) (chains : ℕ → ℕ) → no_unit ≡ unit_at l i →
    [] ≡ map (λ (h : Handler). held (stmt_size (measured l.program.structs (unit_at l i) chains) (stmt_of h.body))) (unit_at l i).handlers
no_handlers_at l i chains same = subst (λ (u : CoreUnit). [] ≡ map (λ (h : Handler). held (stmt_size (measured l.program.structs u chains) (stmt_of h.body))) u.handlers) same refl
