-- How the ends of steps compose.
use Rattle.std.proofs.Common.{◌≡◌, ℕ, ◌≤◌, List, Option, Some, None, sym, ◌∙◌, subst, arith, inl, inr}
use Rattle.std.proofs.lemmas.Bool.{cases_lt}
use Rattle.std.specs.Prelude.{IfSome, IfOk, IfErr, MatchResult, Result, Ok, Err, ◌⊎◌}
use Rattle.cm_io.specs.Count.{Rose}
use Rattle.cm_io.specs.Files.{Files}
use Rattle.cm_io.specs.Seen.{Seen, CountsStay, OnlyRead}
use Rattle.commands.specs.declared.status.FileRef.{FileRef}
use Rattle.commands.specs.declared.status.FileRef.TheVariants as file
use Rattle.commands.specs.declared.status.Status.{Status}
use Rattle.commands.specs.declared.status.Status.TheVariants as status
use Rattle.commands.specs.declared.stop.Stop.{Stop}
use Rattle.commands.specs.Files.{AfterFile, HasFile, IsPatchFile, Unread}
use Rattle.commands.specs.Steps.{Stopped, FileAbsent, ReadFailed, FileTooBig, PatchRefused, ModuleIsRefused, StateIsRefused, ScriptRefused, OutOfMemory, Refuses, Refusal, LacksMemory}

-- ---- what is told

-- a fact of the files follows from another
pub told : (held : Option Files) (P Q : Files → Type 0) → ((files : Files) → P files → Q files) → IfSome held P → IfSome held Q
told None P Q goes p = tt
told (Some files) P Q goes p = goes files p

-- or from two
pub told_both : (held : Option Files) (P Q R : Files → Type 0) → ((files : Files) → P files → Q files → R files) → IfSome held P → IfSome held Q → IfSome held R
told_both None P Q R goes p q = tt
told_both (Some files) P Q R goes p q = goes files p q

-- ---- counts

-- a count that rose after it stayed or rose, rose
pub rose_later : (a b c : ℕ) → a ≤ b → b ≤ c → Rose b c → Rose a c
rose_later a b c h k (inl r) = inl (omega arith)
rose_later a b c h k (inr r) = elim (cases_lt a c) [ inl lt ↦ inl lt | inr ge ↦ inr (omega arith) ]

pub counts_on : (before mid after : Seen) → CountsStay before mid → CountsStay mid after → CountsStay before after
counts_on before mid after first second = record { faults = omega (arith, first.faults, second.faults); absences = omega (arith, first.absences, second.absences) }

pub read_on : (before mid after : Seen) → OnlyRead before mid → OnlyRead mid after → OnlyRead before after
read_on before mid after first second = record { files = second.files ∙ first.files; counts = counts_on before mid after first.counts second.counts }

-- ---- stops

-- a step that stops ends what it is a part of, where more may be read and what is due follows from what is told
pub stop_of : (before after : Seen) (reads reads' : FileRef → Type 0) (P : Files → Type 0) (due due' : Files → Status → Type 0) (s : Status) → ((f : FileRef) → reads f → reads' f) →
    IfSome before.holds P → ((files : Files) → (t : Status) → P files → due files t → due' files t) → Stopped before after reads due s → Stopped before after reads' due' s
stop_of before after reads reads' P due due' s more is goes (FileAbsent f r rose d) = FileAbsent f (more f r) rose (told_both before.holds P _ _ (λ files. goes files (status.Absent f)) is d)
stop_of before after reads reads' P due due' s more is goes (ReadFailed f r rose) = ReadFailed f (more f r) rose
stop_of before after reads reads' P due due' s more is goes (FileTooBig f n r past d) = FileTooBig f n (more f r) past (told_both before.holds P _ _ (λ files. goes files (status.TooBig f n)) is d)
stop_of before after reads reads' P due due' s more is goes (PatchRefused r m d) = PatchRefused r (more file.Manifest m) (told_both before.holds P _ _ (λ files. goes files (status.Refused r)) is d)
stop_of before after reads reads' P due due' s more is goes (ModuleIsRefused r m d) = ModuleIsRefused r (more file.Module m) (told_both before.holds P _ _ (λ files. goes files (status.ModuleRefused r)) is d)
stop_of before after reads reads' P due due' s more is goes (StateIsRefused f m d) = StateIsRefused f (more file.State m) (told_both before.holds P _ _ (λ files. goes files (status.StateRefused f)) is d)
stop_of before after reads reads' P due due' s more is goes (ScriptRefused f m d) = ScriptRefused f (more file.Input m) (told_both before.holds P _ _ (λ files. goes files (status.InputRefused f)) is d)
stop_of before after reads reads' P due due' s more is goes OutOfMemory = OutOfMemory

-- a step stops that comes after others which only read
pub stop_later : (before mid after : Seen) (reads : FileRef → Type 0) (due : Files → Status → Type 0) (s : Status) → OnlyRead before mid → CountsStay mid after →
    Stopped mid after reads due s → Stopped before after reads due s
stop_later before mid after reads due s read stay (FileAbsent f r rose d) = FileAbsent f r (rose_later _ _ _ read.counts.absences stay.absences rose) (subst (λ (h : Option Files). IfSome h (λ files. due files (status.Absent f))) read.files d)
stop_later before mid after reads due s read stay (ReadFailed f r rose) = ReadFailed f r (rose_later _ _ _ read.counts.faults stay.faults rose)
stop_later before mid after reads due s read stay (FileTooBig f n r past d) = FileTooBig f n r past (subst (λ (h : Option Files). IfSome h (λ files. due files (status.TooBig f n))) read.files d)
stop_later before mid after reads due s read stay (PatchRefused r m d) = PatchRefused r m (subst (λ (h : Option Files). IfSome h (λ files. due files (status.Refused r))) read.files d)
stop_later before mid after reads due s read stay (ModuleIsRefused r m d) = ModuleIsRefused r m (subst (λ (h : Option Files). IfSome h (λ files. due files (status.ModuleRefused r))) read.files d)
stop_later before mid after reads due s read stay (StateIsRefused f m d) = StateIsRefused f m (subst (λ (h : Option Files). IfSome h (λ files. due files (status.StateRefused f))) read.files d)
stop_later before mid after reads due s read stay (ScriptRefused f m d) = ScriptRefused f m (subst (λ (h : Option Files). IfSome h (λ files. due files (status.InputRefused f))) read.files d)
stop_later before mid after reads due s read stay OutOfMemory = OutOfMemory

pub told_all : (held : Option Files) → IfSome held (λ files. Unit {0})
told_all None = tt
told_all (Some files) = tt

-- a file of the patch that has no bytes to work on
pub unread_stop : (before after : Seen) (f : FileRef) (name : List ℕ) (limit : ℕ) (decide : List ℕ → Status → Type 0) (s : Status) → IsPatchFile f →
    Stopped before after (λ g. g ≡ f) (λ files. Unread files f name limit) s → Stopped before after IsPatchFile (λ files. AfterFile files f name limit decide) s
unread_stop before after f name limit decide s is stop =
    stop_of before after _ IsPatchFile (λ files. Unit {0}) _ _ s (λ g e. subst IsPatchFile (sym e) is) (told_all before.holds) (λ files t u d. inl d) stop

-- a file whose bytes are refused
pub refused_stop : (before after : Seen) (f : FileRef) (name bytes : List ℕ) (limit : ℕ) (decide : List ℕ → Status → Type 0) (s : Status) →
    IfSome before.holds (λ files. HasFile files name limit bytes) → Refuses (decide bytes) s → Stopped before after IsPatchFile (λ files. AfterFile files f name limit decide) s
refused_stop before after f name bytes limit decide s has (Refusal r d) = PatchRefused r tt (told before.holds _ _ (λ files h. inr (record { bytes = bytes; file = h; holds = d })) has)
refused_stop before after f name bytes limit decide s has LacksMemory = OutOfMemory

-- ---- results

pub if_err : (X E : Type 0) (r : Result X E) (P Q : E → Type 0) → ((e : E) → P e → Q e) → IfErr r P → IfErr r Q
if_err X E (Ok x) P Q goes p = tt
if_err X E (Err e) P Q goes p = goes e p

-- what a step found is found where its stop is given a name
pub about_ok : (X : Type 0) (step : Result X Status) (r : Result X Stop) (P : X → Type 0) →
    MatchResult r (λ value. step ≡ Ok value) (λ stop. (step ≡ Err stop.status) ⊎ (stop.status ≡ status.NoMemory)) → IfOk step P → IfOk r P
about_ok X step (Ok x) P is p = subst (λ (q : Result X Status). IfOk q P) is p
about_ok X step (Err e) P is p = tt

-- and it stops with the status that it had, or for want of memory
pub about_err : (X : Type 0) (step : Result X Status) (stop : Stop) (before after : Seen) (reads : FileRef → Type 0) (due : Files → Status → Type 0) →
    ((step ≡ Err stop.status) ⊎ (stop.status ≡ status.NoMemory)) → IfErr step (Stopped before after reads due) → Stopped before after reads due stop.status
about_err X step stop before after reads due (inl e) p = subst (λ (q : Result X Status). IfErr q (Stopped before after reads due)) e p
about_err X step stop before after reads due (inr e) p = subst (Stopped before after reads due) (sym e) OutOfMemory

-- a read that is given a name
pub named_stop : (X : Type 0) (step : Result X Status) (r : Result X Stop) (before after : Seen) (reads : FileRef → Type 0) (due : Files → Status → Type 0)
    → MatchResult r (λ value. step ≡ Ok value) (λ stop. (step ≡ Err stop.status) ⊎ (stop.status ≡ status.NoMemory)) → IfErr step (Stopped before after reads due) → IfErr r (λ stop. Stopped before after reads due stop.status)
named_stop X step (Ok value) before after reads due named p = tt
named_stop X step (Err stop) before after reads due named p = about_err X step stop before after reads due named p
