-- The paths of a patch that was read stand at rising places.
use Rattle.std.proofs.Common.{◌≡◌, ℕ, ◌+◌, List, [], ◌∷◌, ◌++◌, Some, None, true, map, sym, ◌∙◌, ap, subst}
use Rattle.std.specs.Prelude.{Option, flat_map, slice_get, option_map}
use Rattle.std.proofs.lemmas.Option.{slice_get-map}
use Rattle.std.proofs.lemmas.Simd.{map-map}
use Rattle.cm_base.specs.declared.place.Place.{Place}
use Rattle.cm_tree.specs.declared.path.Path.{Path}
use Rattle.cm_tree.specs.declared.token.Token.{Token}
use Rattle.cm_tree.specs.declared.file.File.{File}
use Rattle.cm_meaning.specs.Declared.{Declared}
use Rattle.cm_meaning.specs.Scopes.{patch_names}
use Rattle.cm_meaning.specs.Sites.{Site, looked_up}
use Rattle.cm_meaning.specs.PatchSites.{file_sites, patch_sites}
use Rattle.path_names.specs.Found.{Found, found_of, found_at}
use Rattle.path_names.specs.declared.id.Use.{Use}
use Rattle.path_names.specs.Ids.{placed, use_as}
use Rattle.path_names.specs.Rising.{comes_before}
use Rattle.path_places.specs.Rising.{AreRead, AreReadFrom, PathsRise, UsesRise, path_places}
use Rattle.path_places.proofs.Follow.{Follow, none, past, plain, here, both}
use Rattle.path_places.proofs.Decls.{at_file}
use Rattle.path_places.proofs.Places.{Behind, Rise, rise_at}
use Rattle.path_places.proofs.Files.{places_of, all_tokens, all_rise}

-- ---- the places of what is looked up at some sites

abbrev pub places_at : List Site → List Place
places_at sites = map (λ (f : Found). f.0.place) (found_at sites)

places-plain : (s : Site) (sites : List Site) → looked_up s.part ≡ None → places_at (s ∷ sites) ≡ places_at sites
unfolding found_at
places-plain s sites is = ap (λ (o : Option Path). map (λ (f : Found). f.0.place) (found_of s.around o ++ found_at sites)) is

places-here : (s : Site) (q : Path) (sites : List Site) → looked_up s.part ≡ Some q → places_at (s ∷ sites) ≡ q.place ∷ places_at sites
unfolding found_at
places-here s q sites is = ap (λ (o : Option Path). map (λ (f : Found). f.0.place) (found_of s.around o ++ found_at sites)) is

-- ---- in a patch

follow_behind : (p : Place) {sites : List Site} {tokens : List Token} → Follow sites tokens → Behind p (places_of tokens) → Behind p (places_at sites)
unfolding found_at
follow_behind p none all = tt
follow_behind p (past h) all = follow_behind p h all.1
follow_behind p (plain {s} {sites} is h) all = subst (Behind p) (sym (places-plain s sites is)) (follow_behind p h all)
follow_behind p (here {s} {q} {sites} {t} is at h) all =
    subst (Behind p) (sym (places-here s q sites is)) (subst (λ z. comes_before p z ≡ true) (sym at) all.0, follow_behind p h all.1)

follow_rise : {sites : List Site} {tokens : List Token} → Follow sites tokens → Rise (places_of tokens) → Rise (places_at sites)
unfolding found_at
follow_rise none all = tt
follow_rise (past h) all = follow_rise h all.1
follow_rise (plain {s} {sites} is h) all = subst Rise (sym (places-plain s sites is)) (follow_rise h all)
follow_rise (here {s} {q} {sites} {t} {tokens} is at h) all =
    subst Rise (sym (places-here s q sites is)) (follow_behind q.place h (subst (λ z. Behind z (places_of tokens)) (sym at) all.0), follow_rise h all.1)

follow_files : (names : List Declared) (number : ℕ) (files : List File) (read : AreReadFrom number files) → Follow (flat_map (file_sites names) files) (all_tokens number files read)
unfolding all_tokens
follow_files names number [] read = none
follow_files names number (f ∷ files) read = both (at_file names read.0.spelled) (follow_files names (number + 1) files read.1)

patch_rises : (files : List File) → AreRead files → Rise (path_places files)
unfolding patch_sites
patch_rises files read = follow_rise (follow_files (patch_names files) 1 files read) (all_rise 1 files read).0

pub paths_rise : PathsRise
paths_rise files read = record { each = rise_at (path_places files) (patch_rises files read) }

-- ---- uses

used-places : (members locals : List Declared) (uses : List Use) (found : List Found) → map (use_as members locals) uses ≡ map placed found
    → map (λ (u : Use). u.place) uses ≡ map (λ (f : Found). f.0.place) found
used-places members locals uses found same =
    sym (map-map (λ (x : Place × Option (Option Declared)). x.0) (use_as members locals) uses) ∙ ap (map (λ (x : Place × Option (Option Declared)). x.0)) same
    ∙ map-map (λ (x : Place × Option (Option Declared)). x.0) placed found

place_of : (uses : List Use) (i : ℕ) (a : Use) → slice_get uses i ≡ Some a → slice_get (map (λ (u : Use). u.place) uses) i ≡ Some a.place
place_of uses i a at = slice_get-map (λ (u : Use). u.place) uses i ∙ ap (option_map (λ (u : Use). u.place)) at

pub uses_rise : UsesRise
uses_rise files members locals uses read same = record {
  each = λ i j a b below first second. rise_at (map (λ (u : Use). u.place) uses)
      (subst Rise (sym (used-places members locals uses (found_at (patch_sites files)) same)) (patch_rises files read)) i j a.place b.place below (place_of uses i a first) (place_of uses j b second);
}
