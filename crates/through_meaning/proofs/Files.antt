-- The declarations of a patch of the form, and its main declaration.
use Rattle.std.proofs.Common.{◌≡◌, ◌≢◌, ℕ, List, [], ◌∷◌, ◌++◌, Bool, true, false, Some, refl, sym, ◌∙◌, ap}
use Rattle.std.specs.Prelude.{bytes_eq, flat_map}
use Rattle.std.proofs.lemmas.Grind.{flat_map-append}
use Rattle.std.proofs.lemmas.Slice.Eq.{bytes_eq-Decides}
use Rattle.std.proofs.lemmas.Bool.{eq-eqb}
use Rattle.cm_base.specs.declared.place.Place.{Place}
use Rattle.cm_tree.specs.declared.decl.Decl.{Decl}
use Rattle.cm_tree.specs.declared.decl.Decl.TheVariants as d
use Rattle.cm_tree.specs.declared.decl.UnitDecl.{UnitDecl}
use Rattle.cm_tree.specs.declared.decl.Decl.TheBlock.{hidden-the_row-Decl-0}
use Rattle.cm_tree.specs.declared.file.File.{File}
use Rattle.cm_tree.specs.Pieces.{Text}
use denote.Hole.Carrier.{hidden}
use Rattle.cm_meaning.specs.Declared.{Declared, Processor}
use Rattle.cm_meaning.specs.Scopes.{in_space, declared, patch_names, decl_names, decl_names_row, opened, within}
use Rattle.cm_meaning.specs.Mains.{DeclaredUnit, main_of}
use Rattle.cm_meaning.specs.Types.{is_place}
use Rattle.cm_front.specs.Form.{decls_of}
use Rattle.through_meaning.specs.Parts.{Parts, unit_at}

-- ---- texts and places

pub false_by : (b : Bool) → (b ≡ true → ⊥) → b ≡ false
false_by true h = absurd (h refl)
false_by false h = refl

pub same_text : (a : List ℕ) → bytes_eq a a ≡ true
same_text a = (bytes_eq-Decides a a).1 refl

pub other_text : (a c : List ℕ) → a ≢ c → bytes_eq a c ≡ false
other_text a c ne = false_by (bytes_eq a c) (λ e. ne ((bytes_eq-Decides a c).0 e))

pub same_place : (p : Place) → is_place p p ≡ true
same_place p = rw (eq-eqb p.file p.file refl, eq-eqb p.line p.line refl, eq-eqb p.column p.column refl) refl

-- ---- declarations

pub flat_flat : {X : Type 0} (f : Decl → List X) (files : List File) → flat_map (λ (g : File). flat_map f g.decls) files ≡ flat_map f (decls_of files)
flat_flat f [] = refl
flat_flat f (g ∷ files) = ap (λ xs. flat_map f g.decls ++ xs) (flat_flat f files) ∙ sym (flat_map-append f g.decls (decls_of files))

pub main_decl : UnitDecl → Declared
main_decl u = declared (in_space []) u.name (Processor u)

abbrev pub the_unit : UnitDecl → DeclaredUnit
the_unit u = record { declared = declared (in_space []) u.name (Processor u); unit = u }

pub names_are : (files : List File) (u : UnitDecl) → decls_of files ≡ d.Processor u ∷ [] → patch_names files ≡ declared (in_space []) u.name (Processor u) ∷ []
unfolding patch_names decl_names decl_names_row opened within hidden-the_row-Decl-0 hidden
names_are files u is = flat_flat (decl_names []) files ∙ ap (flat_map (decl_names [])) is

-- it is the one that is marked
pub main_is : (files : List File) (parts : Parts) (input output : Text) → decls_of files ≡ d.Processor (unit_at parts input output) ∷ [] →
    main_of files ≡ Some (the_unit (unit_at parts input output))
unfolding main_of
main_is files parts input output is = rw (names_are files (unit_at parts input output) is) refl
