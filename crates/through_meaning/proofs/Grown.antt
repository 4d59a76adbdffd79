-- The tree of a patch of the form: its main instance alone.
use Rattle.std.proofs.Common.{◌≡◌, ℕ, List, [], ◌∷◌, Some, refl, sym, ◌∙◌, ap}
use Rattle.cm_tree.specs.declared.decl.Decl.TheVariants as d
use Rattle.cm_tree.specs.declared.member.Node.{Node}
use Rattle.cm_tree.specs.declared.file.File.{File}
use Rattle.cm_tree.specs.Pieces.{Text}
use Rattle.cm_meaning.specs.Mains.{DeclaredUnit}
use Rattle.cm_meaning.specs.TypeOf.{Knowledge}
use Rattle.cm_meaning.specs.Instances.{Instance, nodes_of}
use Rattle.cm_meaning.specs.Nodes.{Tree, Grown, Groups, NoGroups, IsGrown, AreGroups, grown, none, more, IsTree, root}
use Rattle.cm_front.specs.Form.{decls_of}
use Rattle.through_meaning.specs.Parts.{Parts, unit_at}
use Rattle.through_meaning.proofs.Files.{the_unit, main_is}

-- nothing is below an instance without nodes
nothing_below : {files : List File} {i : Instance} {nodes : List Node} {below : Groups} → AreGroups files i nodes below → nodes ≡ [] → below ≡ NoGroups
nothing_below (none i) is = refl
nothing_below (more i a nodes count e others counted are rest) is = absurd (cc (is))

groups_of : {files : List File} {i : Instance} {factor : ℕ} {below : Groups} → IsGrown files (Grown i factor below) → AreGroups files i (nodes_of i.unit.unit) below
groups_of (grown i factor below groups) = groups

-- what is known is all that is left open
abbrev pub instance_of : Parts → (input output : Text) → Knowledge → Instance
instance_of parts input output k = record { unit = the_unit (unit_at parts input output); args = []; known = k }

some_same : {A : Type 0} {a c : A} → Some a ≡ Some c → a ≡ c
some_same e = cc (e)

pub tree_is : (files : List File) (parts : Parts) (input output : Text) (tree : Tree) → decls_of files ≡ d.Processor (unit_at parts input output) ∷ [] →
    IsTree files tree → tree ≡ Grown (instance_of parts input output (root tree).known) 1 NoGroups
tree_is files parts input output (Grown i factor below) is t =
    let unit : i.unit ≡ the_unit (unit_at parts input output) = sym (some_same (sym (main_is files parts input output is) ∙ t.main)) in
    let empty : nodes_of i.unit.unit ≡ [] = ap (λ (u : DeclaredUnit). nodes_of u.unit) unit in
    ap (λ (u : DeclaredUnit). Grown (record i { unit = u }) factor below) unit
    ∙ ap (λ args. Grown (record { unit = the_unit (unit_at parts input output); args = args; known = i.known }) factor below) t.args
    ∙ ap (λ (n : ℕ). Grown (instance_of parts input output i.known) n below) t.factor
    ∙ ap (λ g. Grown (instance_of parts input output i.known) 1 g) (nothing_below (groups_of t.grown) empty)
