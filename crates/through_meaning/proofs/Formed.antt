-- What patches of the form mean.
use Rattle.std.proofs.Common.{◌≡◌, ◌≢◌, ℕ, ◌+◌, List, [], ◌∷◌, false, true, ◌&&◌, Bool, refl, ◌∙◌, ap}
use Rattle.std.proofs.lemmas.Bool.Decides.{Decides-eqb}
use Rattle.cm_base.specs.declared.place.Place.{Place}
use Rattle.cm_tree.specs.declared.decl.Decl.TheVariants as d
use Rattle.cm_tree.specs.declared.file.File.{File}
use Rattle.cm_tree.specs.declared.tokens.Tokens.{Tokens}
use Rattle.cm_tree.specs.Pieces.{Text}
use Rattle.cm_meaning.specs.Linked.{Linked, linked}
use Rattle.cm_meaning.specs.Types.{is_place}
use Rattle.cm_meaning.specs.TypeOf.{Knowledge}
use Rattle.cm_meaning.specs.Nodes.{IsTree, root}
use Rattle.cm_front.specs.Phases.{AreTokensFrom, AreFiles, AreTrees}
use Rattle.cm_front.specs.Form.{decls_of, HaveForm}
use Rattle.through_meaning.specs.Parts.{Parts, unit_at}
use Rattle.through_meaning.specs.Patches.{AreRead, IsThroughPatch}
use Rattle.through_meaning.proofs.Files.{false_by}
use Rattle.through_meaning.proofs.Grown.{tree_is}
use Rattle.through_meaning.proofs.Known.{the_tree, is_tree}
use Rattle.through_meaning.proofs.Shape.{parts_of, unit_is}
use Rattle.through_meaning.proofs.Steps.{linked_of}
use Rattle.through_meaning.proofs.Words.{files_apart}

pub decls_are : {files : List File} {processor input output : Text} (f : HaveForm files processor input output) → decls_of files ≡ d.Processor (unit_at (parts_of f.through) input output) ∷ []
decls_are f = f.is ∙ ap (λ u. d.Processor u ∷ []) (unit_is f.through)

-- each has a meaning
pub has_tree : {files : List File} {processor input output : Text} (f : HaveForm files processor input output) → IsTree files (the_tree (parts_of f.through) input output)
has_tree {files} {processor} {input} {output} f = is_tree files (parts_of f.through) input output (decls_are f)

both_true : (a c : Bool) → (a && c) ≡ true → (a ≡ true) × (c ≡ true)
both_true true true e = (refl, refl)
both_true true false e = absurd (cc (e))
both_true false c e = absurd (cc (e))

place_same : (p q : Place) → is_place p q ≡ true → p ≡ q
place_same p q e =
    let one = both_true _ _ e in
    let two = both_true _ _ one.1 in
    let file : p.file ≡ q.file = (Decides-eqb p.file q.file).0 one.0 in
    let line : p.line ≡ q.line = (Decides-eqb p.line q.line).0 two.0 in
    let column : p.column ≡ q.column = (Decides-eqb p.column q.column).0 two.1 in
    ap (λ n. record p { file = n }) file ∙ ap (λ n. record { file = q.file; line = n; column = p.column }) line ∙ ap (λ n. record { file = q.file; line = q.line; column = n }) column

-- files that are trees of texts are spelled by their tokens
read_from : (number : ℕ) (texts : List Text) (all : List Tokens) (files : List File) → AreTokensFrom number texts all → AreFiles all files → AreRead files
read_from number [] [] [] tokens trees = tt
read_from number [] [] (f ∷ files) tokens trees = absurd trees
read_from number [] (t ∷ all) files tokens trees = absurd tokens
read_from number (text ∷ texts) [] files tokens trees = absurd tokens
read_from number (text ∷ texts) (t ∷ all) [] tokens trees = absurd trees
read_from number (text ∷ texts) (t ∷ all) (f ∷ files) tokens trees =
    (record { number = number; text = text; tokens = t; is_tokens = tokens.0; spelled = trees.0.spelled }, read_from (number + 1) texts all files tokens.1 trees.1)

pub are_read : (texts : List Text) (files : List File) → AreTrees texts files → AreRead files
are_read texts files trees = read_from 1 texts trees.all files trees.tokens trees.trees

-- its parts, and that what it means is worked out by them
pub record Worked (input output : Text) (patch : Linked) : Type 0 where
  pub files : List File
  pub parts : Parts
  pub known : Knowledge
  pub is : patch ≡ linked_of files parts input output known
  pub names : input ≢ output
  pub places : is_place parts.input.name parts.output.name ≡ false

pub worked : {input output : Text} {patch : Linked} → IsThroughPatch input output patch → Worked input output patch
worked {input} {output} {patch} p =
    let parts = parts_of p.form.through in
    let decls = decls_are p.form in
    record {
      files = p.files;
      parts = parts;
      known = (root p.tree).known;
      is = p.is ∙ ap (linked p.files) (tree_is p.files parts input output p.tree decls p.is_tree);
      names = p.form.names.input_output;
      places = false_by _ (λ e. files_apart p.files p.read parts input output decls (place_same parts.input.name parts.output.name e));
    }
