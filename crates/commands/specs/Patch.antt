-- Which patch files hold, and what is due where they hold none: docs/COMMANDS.md, "Manifest" and "Sources".
use Rattle.std.specs.Prelude.{ℕ, ◌≡◌, ◌≢◌, ◌<◌, ◌+◌, ◌-◌, ◌^◌, ◌⊎◌, List, [], ◌∷◌, length, map}
use Rattle.cm_base.specs.declared.cause.Cause.{Cause}
use Rattle.cm_base.specs.declared.failure.Refused.{Refused}
use Rattle.cm_front.specs.Answer.{IsRefusal}
use Rattle.cm_front.specs.Phases.{IsForm}
use Rattle.cm_io.specs.Files.{Files}
use Rattle.cm_meaning.specs.Linked.{Linked, linked}
use Rattle.cm_meaning.specs.Nodes.{Tree, IsTree}
use Rattle.patch_manifest.specs.Manifest.{IsManifest, HasFault}
use Rattle.patch_manifest.specs.SourceName.{file_name}
use Rattle.commands.specs.declared.status.FileRef.TheVariants as file
use Rattle.commands.specs.declared.status.Status.{Status}
use Rattle.commands.specs.declared.status.Status.TheVariants as status
use Rattle.commands.specs.Files.{FileWith, HasFile, Unread, AfterFile, least_limit}

-- ---- which patch

-- a manifest's bytes name the sources, whose files have these names
pub record NamesSources (manifest bytes : List ℕ) (names : List (List ℕ)) : Type 0 where
  pub id : List ℕ
  pub paths : List (List ℕ)
  pub is_manifest : IsManifest bytes id paths
  pub are_names : names ≡ map (file_name manifest) paths

-- the texts of the sources are those of a patch of the form that is compiled, whose endpoints have these names
pub record NamePatch (texts : List (List ℕ)) (input output : List ℕ) : Type 0 where
  pub processor : List ℕ
  pub form : IsForm texts processor input output

-- so named are the endpoints of some patch of the form
pub record NameSome (input output : List ℕ) : Type 0 where
  pub texts : List (List ℕ)
  pub named : NamePatch texts input output

-- the patch is what the trees of the texts mean
pub record MeanPatch (texts : List (List ℕ)) (patch : Linked) : Type 0 where
  pub input : List ℕ
  pub output : List ℕ
  pub named : NamePatch texts input output
  pub tree : Tree
  pub is_tree : IsTree named.form.files tree
  pub is_patch : patch ≡ linked named.form.files tree

-- the files hold a manifest that names these sources
abbrev pub SourcesOf : Files → List ℕ → List (List ℕ) → Type 0
SourcesOf files manifest names = FileWith files manifest (least_limit file.Manifest) (λ bytes. NamesSources manifest bytes names)

-- how many bytes all sources may have together
abbrev pub all_sources : ℕ
all_sources = 1048576

-- the files of these names hold these texts, and each has no more bytes than those before it have left
abbrev pub HaveTexts : Files → ℕ → List (List ℕ) → List (List ℕ) → Type 0
HaveTexts files left [] [] = Unit {0}
HaveTexts files left [] (text ∷ texts) = ⊥
HaveTexts files left (name ∷ names) [] = ⊥
HaveTexts files left (name ∷ names) (text ∷ texts) = HasFile files name left text × HaveTexts files (left - length text) names texts

-- the files hold this patch under the manifest's name
pub record PatchOf (files : Files) (manifest : List ℕ) (patch : Linked) : Type 0 where
  pub names : List (List ℕ)
  pub texts : List (List ℕ)
  pub named : SourcesOf files manifest names
  pub have : HaveTexts files all_sources names texts
  pub mean : MeanPatch texts patch

-- the files hold a patch under the manifest's name whose endpoints have these names
pub record NamedPatchOf (files : Files) (manifest input output : List ℕ) : Type 0 where
  pub names : List (List ℕ)
  pub texts : List (List ℕ)
  pub named : SourcesOf files manifest names
  pub have : HaveTexts files all_sources names texts
  pub mean : NamePatch texts input output

-- the names of its endpoints are distinct and short enough to be written in a module
pub record AreNames (input output : List ℕ) : Type 0 where
  pub distinct : input ≢ output
  pub input_short : length input < 2 ^ 30
  pub output_short : length output < 2 ^ 30

-- ---- what is due where there is none

-- a refusal at this place
abbrev pub refused_at : Cause → (number line column : ℕ) → Refused
refused_at cause number line column = record { cause = cause; place = record { file = number; line = line; column = column }; cycle = [] }

-- a manifest is refused for a fault that it has
pub data RefusesManifest (bytes : List ℕ) : Status → Type 0 where
  Fault : (cause : Cause) → HasFault bytes cause → RefusesManifest bytes (status.Refused (refused_at cause 0 0 0))

-- what is due where the files hold no manifest that names sources
abbrev pub NoSources : Files → List ℕ → Status → Type 0
NoSources files manifest due = AfterFile files file.Manifest manifest (least_limit file.Manifest) RefusesManifest due

-- what is due where the files of these names don't all have texts: the first one without decides
abbrev pub LackTexts : Files → (number left : ℕ) → List (List ℕ) → Status → Type 0
LackTexts files number left [] due = ⊥
LackTexts files number left (name ∷ names) due =
    Unread files (file.Source number) name left due ⊎ FileWith files name left (λ text. LackTexts files (number + 1) (left - length text) names due)

-- texts are refused in the first phase that has a fault
pub data RefusesTexts (texts : List (List ℕ)) : Status → Type 0 where
  Phase : (refused : Refused) → IsRefusal texts refused → RefusesTexts texts (status.Refused refused)

-- what is due where the files of these names hold texts that mean no patch
pub record NoMeaning (files : Files) (names : List (List ℕ)) (due : Status) : Type 0 where
  pub texts : List (List ℕ)
  pub have : HaveTexts files all_sources names texts
  pub refuses : RefusesTexts texts due

-- what is due where the sources of these names are no patch
abbrev pub NoPatchIn : Files → List (List ℕ) → Status → Type 0
NoPatchIn files names due = LackTexts files 1 all_sources names due ⊎ NoMeaning files names due

-- what is due where the files hold no patch under the manifest's name
abbrev pub NoPatch : Files → List ℕ → Status → Type 0
NoPatch files manifest due = NoSources files manifest due ⊎ ((names : List (List ℕ)) × SourcesOf files manifest names × NoPatchIn files names due)
