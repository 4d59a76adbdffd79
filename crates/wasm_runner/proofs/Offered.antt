-- What a valid module exports is found under its name.
use Rattle.std.proofs.Common.{◌≡◌, ◌≢◌, ◌<◌, ◌+◌, ◌^◌, ℕ, zero, suc, List, [], ◌∷◌, length, get_or, refl, sym, ap, ◌∙◌, subst, arith, rules}
use Rattle.std.specs.Prelude.{Bool, true, false, map, ◌==◌, ◌++◌, if◌then◌else◌, Contains, codes}
use Rattle.std.specs.List.{AllByRecursion}
use Rattle.std.specs.Fmt.{decimal}
use Rattle.std.proofs.lemmas.Bool.{eq-eqb, false_from_ne_true}
use Rattle.cm_base.specs.HostEnds.{AreDistinct}
use Rattle.cm_base.specs.Parts.{is_name}
use Rattle.wasm_tree.specs.declared.interface.Interface.{Interface}
use Rattle.wasm_tree.specs.declared.interface.Interface.TheVariants.{Single, Blocks}
use Rattle.wasm_tree.specs.declared.module.ExportEntry.{ExportEntry}
use Rattle.wasm_tree.specs.declared.module.ExportKind.TheVariants as exported
use Rattle.wasm_tree.specs.declared.module.FuncType.{FuncType}
use Rattle.wasm_tree.specs.declared.module.Module.{Module}
use Rattle.wasm_tree.specs.Host.{IsExported, event_inputs, event_exports, frame_export, exported_functions}
use Rattle.wasm_tree.specs.Instance.{exported_as, number_of}
use Rattle.wasm_tree.specs.Numbers.{no_type, emit_type}
use Rattle.wasm_tree.specs.Section.{CmajorSection, ends_of, block_length, IsBlockLength}
use Rattle.wasm_tree.specs.Valid.{Valid}
use Rattle.wasm_sound.specs.Kinds.{AreOf}
use Rattle.wasm_runner.specs.declared.export.Export.{Export}
use Rattle.wasm_runner.specs.declared.export.Export.TheVariants as entry
use Rattle.wasm_runner.specs.Exporting.{name_of, given_to, Offers, TakesFrames}
use Rattle.wasm_runner.specs.Running.{Takes}

same_name : (a : List ℕ) → is_name a a ≡ true
same_name [] = refl
same_name (x ∷ xs) = ap (λ b. if b then is_name xs xs else false) (eq-eqb x x refl) ∙ same_name xs

name_same : (a b : List ℕ) → is_name a b ≡ true → a ≡ b
name_same [] [] t = refl
name_same [] (y ∷ ys) t = absurd (search rules)
name_same (x ∷ xs) [] t = absurd (search rules)
name_same (x ∷ xs) (y ∷ ys) t = by (x == y) refl t (name_same xs ys)
  where
    by : (b : Bool) → (x == y) ≡ b → (if b then is_name xs ys else false) ≡ true → (is_name xs ys ≡ true → xs ≡ ys) → x ∷ xs ≡ y ∷ ys
    by true e t' more =
        let tail = more t' in
        let head : x ≡ y = search rules in
        cc
    by false e t' more = absurd (search rules)

at_name : (names : List ExportEntry) (P : List ℕ → Type 0) (k : ℕ) (x : ExportEntry) → AllByRecursion P (map (λ e. e.name) names) → k < length names → P (get_or names k x).name
at_name [] P k x a l = absurd (omega (arith, l))
at_name (e ∷ es) P zero x a l = a.0
at_name (e ∷ es) P (suc k) x a l = at_name es P k x a.1 (omega (arith, l))

-- under distinct names an entry is the one that is found
found : (entries : List ExportEntry) (entry : ExportEntry) → AreDistinct (map (λ e. e.name) entries) → Contains entries entry → exported_as entry.name entries ≡ number_of entry.kind
found [] entry d (k, l, e) = absurd (omega (arith, l))
found (x ∷ xs) entry d (zero, l, e) =
    let t : is_name x.name entry.name ≡ true = ap (λ (n : List ℕ). is_name x.name n) (sym (ap (λ (y : ExportEntry). y.name) e)) ∙ same_name x.name in
    ap (λ b. if b then number_of x.kind else exported_as entry.name xs) t ∙ ap (λ (y : ExportEntry). number_of y.kind) e
found (x ∷ xs) entry d (suc k, l, e) =
    let within : k < length xs = omega (arith, l) in
    let other : entry.name ≢ x.name = subst (λ (y : ExportEntry). y.name ≢ x.name) e (at_name xs (λ n. n ≢ x.name) k entry d.0 within) in
    let t : is_name x.name entry.name ≡ false = false_from_ne_true (is_name x.name entry.name) (λ h. other (sym (name_same x.name entry.name h))) in
    ap (λ b. if b then number_of x.kind else exported_as entry.name xs) t ∙ found xs entry d.1 (k, within, e)

event_there : (P : List ℕ × FuncType → Type 0) (first count number : ℕ) → number < count → AllByRecursion P (event_exports first count) → P (codes "e" ++ decimal (first + number), no_type)
event_there P first zero number l a = absurd (omega (arith, l))
event_there P first (suc count) zero l a = subst (λ n. P (codes "e" ++ decimal n, no_type)) (omega arith) a.0
event_there P first (suc count) (suc number) l a =
    subst (λ n. P (codes "e" ++ decimal n, no_type)) (omega arith) (event_there P (first + 1) count number (omega (arith, l)) a.1)

module _ (m : Module) (section : CmajorSection) (valid : Valid m section) where
  taken : (name : List ℕ) (type : FuncType) (arguments : List ℕ) → IsExported m (name, type) → AreOf type.params arguments → Takes m (exported_as name m.exports) arguments
  taken name type arguments is given =
      let e : exported_as name m.exports ≡ is.number = found m.exports (record { name = name; kind = exported.Function is.number }) valid.interface.exports.distinct is.entry in
      subst (λ n. Takes m n arguments) (sym e) (record { name = name; exported = is.entry; type = type; has = is.typed; given = given })

  there : AllByRecursion (IsExported m) (exported_functions section)
  there = valid.interface.exports.functions

  of_frame : (interface : Interface) → section.interface ≡ interface → IsExported m (frame_export interface)
  of_frame interface e = subst (λ i. IsExported m (frame_export i)) e there.1.0

  frames_taken : (interface : Interface) (count : ℕ) → section.interface ≡ interface → TakesFrames interface count → Takes m (exported_as (codes "frames") m.exports) (count ∷ [])
  frames_taken Single count e h = absurd h
  frames_taken (Blocks block) count e h =
      let few = subst (λ i. IsBlockLength (block_length i)) e valid.cmajor.described.block in
      let below : count < 2 ^ 32 = omega (arith, few, h) in
      taken (codes "frames") emit_type (count ∷ []) (of_frame (Blocks block) e) (below, tt)

  pub offered : (export : Export) → Offers section export → Takes m (exported_as (name_of export) m.exports) (given_to export)
  offered entry.Init o = taken (codes "init") no_type [] there.0 tt
  offered entry.Frame o = taken (codes "frame") no_type [] (of_frame Single o) tt
  offered (entry.Event number) o =
      taken (codes "e" ++ decimal number) no_type []
      (subst (λ n. IsExported m (codes "e" ++ decimal n, no_type)) (omega arith) (event_there (IsExported m) 0 (event_inputs (ends_of section)) number o there.1.1))
      tt
  offered (entry.Frames count) o = frames_taken section.interface count refl o
