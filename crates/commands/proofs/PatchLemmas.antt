-- How the steps that read a patch make the patch, or what is due.
use Rattle.std.proofs.Common.{◌≡◌, ℕ, zero, suc, ◌+◌, ◌-◌, ◌<◌, ◌≤◌, ◌==◌, false, List, [], ◌∷◌, ◌++◌, length, drop, get_or, Option, Some, None, sym, ◌∙◌, ap, subst, append_assoc, add-one, arith, inl, inr}
use Rattle.std.specs.Prelude.{IfSome, IfErr, MatchResult, Result, Ok, Err, ◌⊎◌}
use Rattle.std.proofs.lemmas.Bool.Decides.{eqb_tells}
use Rattle.std.proofs.lemmas.List.{append-nil, drop_all}
use Rattle.std.proofs.lemmas.List.Sums.{sum_by_push}
use Rattle.std.proofs.Math.Seq.{drop-cons}
use Rattle.cm_base.specs.declared.failure.Fail.{Fail}
use Rattle.cm_base.specs.declared.failure.Fail.TheVariants as fail
use Rattle.cm_front.specs.declared.names.Through.{Through}
use Rattle.cm_base.specs.Answers.{IfRefused}
use Rattle.cm_front.specs.Answer.{IsRefusal}
use Rattle.cm_front.specs.Phases.{bytes_in}
use Rattle.cm_io.specs.Files.{Files}
use Rattle.cm_io.specs.Seen.{Seen, OnlyRead}
use Rattle.commands.specs.declared.status.FileRef.{FileRef}
use Rattle.commands.specs.declared.status.FileRef.TheVariants as file
use Rattle.commands.specs.declared.status.Status.{Status}
use Rattle.commands.specs.declared.status.Status.TheVariants as status
use Rattle.commands.specs.declared.stop.Stop.{Stop}
use Rattle.commands.specs.Files.{HasFile, IsPatchFile, Unread, least_limit}
use Rattle.commands.specs.Patch.{SourcesOf, HaveTexts, NamePatch, NamedPatchOf, RefusesTexts, Phase, NoSources, LackTexts, NoPatch, all_sources}
use Rattle.commands.specs.Statuses.{status_of}
use Rattle.commands.specs.Steps.{Stopped, PatchRefused, OutOfMemory, Refuses, Refusal, LacksMemory}
use Rattle.commands.proofs.StepLemmas.{told, told_both, told_all, stop_of, stop_later, about_err}

-- ---- the sources

-- Sources were read up to some: with what follows for the rest there is what follows for all.
pub record ReadTo (held : Option Files) (names rest : List (List ℕ)) (number left : ℕ) (texts : List (List ℕ)) : Type 0 where
  pub whole : IfSome held (λ files. (more : List (List ℕ)) → HaveTexts files left rest more → HaveTexts files all_sources names (texts ++ more))
  pub lack : IfSome held (λ files. (due : Status) → LackTexts files number left rest due → LackTexts files 1 all_sources names due)

told_always : (held : Option Files) (P : Files → Type 0) → ((files : Files) → P files) → IfSome held P
told_always None P all = tt
told_always (Some files) P all = all files

pub read_none : (held : Option Files) (names : List (List ℕ)) → ReadTo held names names 1 all_sources []
read_none held names = record {
  whole = told_always held _ (λ files more h. h);
  lack = told_always held _ (λ files due h. h);
}

read_more : (held : Option Files) (names rest : List (List ℕ)) (number left : ℕ) (texts : List (List ℕ)) (name text : List ℕ) → IfSome held (λ files. HasFile files name left text)
    → ReadTo held names (name ∷ rest) number left texts → ReadTo held names rest (number + 1) (left - length text) (texts ++ text ∷ [])
read_more held names rest number left texts name text has to = record {
  whole = told_both held _ _ _
      (λ files file goes more h. subst (λ (z : List (List ℕ)). HaveTexts files all_sources names z) (sym (append_assoc texts (text ∷ []) more)) (goes (text ∷ more) (file, h)))
      has to.whole;
  lack = told_both held _ _ _ (λ files file goes due h. goes due (inr (record { bytes = text; file = file; holds = h }))) has to.lack;
}

from_item : (xs : List (List ℕ)) (i : ℕ) (x : List ℕ) → i < length xs → x ≡ get_or xs i x → drop i xs ≡ x ∷ drop (i + 1) xs
from_item xs i x within is =
    subst (λ (n : ℕ). drop i xs ≡ x ∷ drop n xs) (sym (add-one i)) (subst (λ (z : List ℕ). drop i xs ≡ z ∷ drop (suc i) xs) (sym is) (drop-cons xs i x within))

at_name : (held : Option Files) (names : List (List ℕ)) (i left : ℕ) (texts : List (List ℕ)) (name : List ℕ) → i < length names → name ≡ get_or names i name
    → ReadTo held names (drop i names) (i + 1) left texts → ReadTo held names (name ∷ drop (i + 1) names) (i + 1) left texts
at_name held names i left texts name within is to = subst (λ (z : List (List ℕ)). ReadTo held names z (i + 1) left texts) (from_item names i name within is) to

pub read_next : (before mid : Seen) (names : List (List ℕ)) (i left : ℕ) (texts new : List (List ℕ)) (name item text : List ℕ) → i < length names → item ≡ get_or names i item → name ≡ item → OnlyRead before mid
    → IfSome mid.holds (λ files. HasFile files name left text) → new ≡ texts ++ text ∷ [] → ReadTo before.holds names (drop i names) (i + 1) left texts
    → ReadTo before.holds names (drop (i + 1) names) (i + 1 + 1) (left - length text) new
read_next before mid names i left texts new name item text within is same read has pushed to =
    let here : IfSome before.holds (λ files. HasFile files item left text) =
    subst (λ (n : List ℕ). IfSome before.holds (λ files. HasFile files n left text)) same (subst (λ (h : Option Files). IfSome h (λ files. HasFile files name left text)) read.files has) in
    subst (λ (z : List (List ℕ)). ReadTo before.holds names (drop (i + 1) names) (i + 1 + 1) (left - length text) z) (sym pushed)
    (read_more before.holds names (drop (i + 1) names) (i + 1) left texts item text here (at_name before.holds names i left texts item within is to))

-- all were read
pub read_all : (held : Option Files) (names : List (List ℕ)) (i left : ℕ) (texts : List (List ℕ)) → length names ≤ i → ReadTo held names (drop i names) (i + 1) left texts
    → IfSome held (λ files. HaveTexts files all_sources names texts)
read_all held names i left texts past to =
    told held _ _ (λ files goes. subst (λ (z : List (List ℕ)). HaveTexts files all_sources names z) (append-nil texts) (goes [] tt))
    (subst (λ (z : List (List ℕ)). ReadTo held names z (i + 1) left texts) (drop_all i names past) to).whole

-- one was not read
pub read_stop : (before mid after : Seen) (names : List (List ℕ)) (i left : ℕ) (texts : List (List ℕ)) (name item : List ℕ) (s : Status) → i < length names → length names ≤ 64 → item ≡ get_or names i item → name ≡ item
    → OnlyRead before mid → OnlyRead mid after → ReadTo before.holds names (drop i names) (i + 1) left texts
    → Stopped mid after (λ f. f ≡ file.Source (i + 1)) (λ files. Unread files (file.Source (i + 1)) name left) s → Stopped before after IsPatchFile (λ files. LackTexts files 1 all_sources names) s
read_stop before mid after names i left texts name item s within few is same first second to stop =
    stop_of before after _ IsPatchFile _ _ _ s (λ f e. subst IsPatchFile (sym e) (omega arith, omega arith)) (at_name before.holds names i left texts item within is to).lack
    (λ files t goes u. goes t (inl (subst (λ (n : List ℕ). Unread files (file.Source (i + 1)) n left t) same u)))
    (stop_later before mid after _ _ s first second.counts stop)

-- a later number isn't the first
later : (i : ℕ) → (suc i + 1 == 1) ≡ false
later i = elim (eqb_tells (suc i + 1) 1) [ inl first ↦ absurd (omega (arith, first.1)) | inr other ↦ other.0 ]

-- the first source may have the whole limit, and a later one what is left
pub least_left : (i left : ℕ) (texts : List (List ℕ)) → length texts ≡ i → left + bytes_in texts ≡ all_sources → least_limit (file.Source (i + 1)) ≤ left
least_left zero left [] len sum = omega arith
least_left zero left (text ∷ texts) len sum = absurd (omega arith)
least_left (suc i) left texts len sum = rw (later i) (omega arith)

pub left_next : (left new_left : ℕ) (texts new : List (List ℕ)) (text : List ℕ) → left + bytes_in texts ≡ all_sources → length text ≤ left → new_left ≡ left - length text → new ≡ texts ++ text ∷ [] → new_left + bytes_in new ≡ all_sources
left_next left new_left texts new text sum within is pushed =
    let more : bytes_in new ≡ bytes_in texts + length text = ap bytes_in pushed ∙ sum_by_push (λ (z : List ℕ). length z) texts text in
    omega arith

-- ---- the texts

-- texts that are refused
pub texts_refused : (texts : List (List ℕ)) (failure : Fail) → IfRefused {X = Through} (Err failure) (IsRefusal texts) → Refuses (RefusesTexts texts) (status_of failure)
texts_refused texts (fail.Refused refused) is = Refusal refused (Phase refused is)
texts_refused texts fail.NoMemory is = LacksMemory

-- a refusal that is given a name
pub named_refusal : (texts : List (List ℕ)) (failure : Fail) (given : Status) (step : Result Through Status) (r : Result Through Stop) → given ≡ status_of failure → step ≡ Err given
    → MatchResult r (λ value. step ≡ Ok value) (λ stop. (step ≡ Err stop.status) ⊎ (stop.status ≡ status.NoMemory))
    → IfRefused {X = Through} (Err failure) (IsRefusal texts) → IfErr r (λ stop. Refuses (RefusesTexts texts) stop.status)
named_refusal texts failure given step (Ok found) is gives named refused = tt
named_refusal texts failure given step (Err stop) is gives (inl e) refused =
    let same : given ≡ stop.status = cc in
    subst (Refuses (RefusesTexts texts)) (sym is ∙ same) (texts_refused texts failure refused)
named_refusal texts failure given step (Err stop) is gives (inr e) refused = subst (Refuses (RefusesTexts texts)) (sym e) LacksMemory

-- ---- the patch

pub patch_found : (before mid : Seen) (manifest : List ℕ) (names texts : List (List ℕ)) (input output : List ℕ) → OnlyRead before mid → IfSome before.holds (λ files. SourcesOf files manifest names)
    → IfSome mid.holds (λ files. HaveTexts files all_sources names texts) → NamePatch texts input output → IfSome before.holds (λ files. NamedPatchOf files manifest input output)
patch_found before mid manifest names texts input output read named have mean =
    told_both before.holds _ _ _ (λ files n h. record { names = names; texts = texts; named = n; have = h; mean = mean }) named
    (subst (λ (h : Option Files). IfSome h (λ files. HaveTexts files all_sources names texts)) read.files have)

-- no sources, so no patch
pub names_stop : (X : Type 0) (step : Result X Status) (stop : Stop) (before after : Seen) (manifest : List ℕ) → ((step ≡ Err stop.status) ⊎ (stop.status ≡ status.NoMemory))
    → IfErr step (Stopped before after IsPatchFile (λ files. NoSources files manifest)) → Stopped before after IsPatchFile (λ files. NoPatch files manifest) stop.status
names_stop X step stop before after manifest is p =
    stop_of before after IsPatchFile IsPatchFile (λ files. Unit {0}) _ _ stop.status (λ f r. r) (told_all before.holds) (λ files t u d. inl d) (about_err X step stop before after IsPatchFile _ is p)

-- a source that isn't there or is too long, so no patch
pub sources_stop : (before mid after : Seen) (manifest : List ℕ) (names : List (List ℕ)) (s : Status) → OnlyRead before mid → OnlyRead mid after → IfSome before.holds (λ files. SourcesOf files manifest names)
    → Stopped mid after IsPatchFile (λ files. LackTexts files 1 all_sources names) s → Stopped before after IsPatchFile (λ files. NoPatch files manifest) s
sources_stop before mid after manifest names s first second named stop =
    stop_of before after IsPatchFile IsPatchFile (λ files. SourcesOf files manifest names) _ _ s (λ f r. r) named (λ files t n d. inr (names, n, inl d)) (stop_later before mid after IsPatchFile _ s first second.counts stop)

-- texts that mean no patch
pub meaning_stop : (before mid after : Seen) (manifest : List ℕ) (names texts : List (List ℕ)) (s : Status) → OnlyRead before mid → OnlyRead mid after → IfSome before.holds (λ files. SourcesOf files manifest names)
    → IfSome mid.holds (λ files. HaveTexts files all_sources names texts) → Refuses (RefusesTexts texts) s → Stopped before after IsPatchFile (λ files. NoPatch files manifest) s
meaning_stop before mid after manifest names texts s first second named have (Refusal refused d) =
    PatchRefused refused tt
    (told_both before.holds _ _ _ (λ files n h. inr (names, n, inr (record { texts = texts; have = h; refuses = d }))) named
    (subst (λ (h : Option Files). IfSome h (λ files. HaveTexts files all_sources names texts)) first.files have))
meaning_stop before mid after manifest names texts s first second named have LacksMemory = OutOfMemory

-- ---- answers of steps

-- memory ran out
pub memory_stop : (before after : Seen) (reads : FileRef → Type 0) (due : Files → Status → Type 0) (s : Status) → s ≡ status.NoMemory → Stopped before after reads due s
memory_stop before after reads due s is = subst (Stopped before after reads due) (sym is) OutOfMemory

-- the texts mean no patch
pub no_meaning_stop : (r : Result Through Stop) (before mid after : Seen) (manifest : List ℕ) (names texts : List (List ℕ)) → OnlyRead before mid → OnlyRead mid after → IfSome before.holds (λ files. SourcesOf files manifest names)
    → IfSome mid.holds (λ files. HaveTexts files all_sources names texts) → IfErr r (λ stop. Refuses (RefusesTexts texts) stop.status) → IfErr r (λ stop. Stopped before after IsPatchFile (λ files. NoPatch files manifest) stop.status)
no_meaning_stop (Ok found) before mid after manifest names texts first second named have refuses = tt
no_meaning_stop (Err stop) before mid after manifest names texts first second named have refuses = meaning_stop before mid after manifest names texts stop.status first second named have refuses
