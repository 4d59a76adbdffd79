-- How a command ends with the end of a step, and words with the end of a command.
use Rattle.std.proofs.Common.{◌≡◌, ℕ, List, Option, Some, None, refl, sym, ◌∙◌, subst, inr}
use Rattle.std.specs.Prelude.{IfSome, MatchOption, IfErr, OnOk, Result, Ok, Err}
use Rattle.cm_io.specs.Files.{Files, file_at, KeepsOthers}
use Rattle.cm_io.specs.Seen.{Seen, CountsStay, OnlyRead}
use Rattle.cm_meaning.specs.Linked.{Linked, linked}
use Rattle.through_meaning.specs.Patches.{IsThroughPatch}
use Rattle.through_meaning.proofs.Formed.{has_tree, are_read}
use Rattle.through_meaning.proofs.Known.{the_tree}
use Rattle.through_meaning.proofs.Shape.{parts_of}
use Rattle.commands.specs.declared.status.FileRef.TheVariants as file
use Rattle.commands.specs.declared.status.Status.{Status}
use Rattle.commands.specs.declared.status.Status.TheVariants as status
use Rattle.commands.specs.declared.stop.Stop.{Stop}
use Rattle.commands.specs.Compile.{IsFormModule, IsCompiled}
use Rattle.commands.specs.Due.{IsDue, IsDueFor}
use Rattle.commands.specs.Files.{KeepsUnwritten}
use Rattle.commands.specs.Patch.{MeanPatch, NamePatch, PatchOf, NamedPatchOf}
use Rattle.commands.specs.Statuses.{Reads, RunsModule, MayAnswer, HasCause, OnExplained, OnUnwritten}
use Rattle.commands.specs.Steps.{Stopped, FileAbsent, ReadFailed, FileTooBig, PatchRefused, ModuleIsRefused, StateIsRefused, ScriptRefused, OutOfMemory, Unwritten, WriteFailed, WriteLacksMemory, Ends, EndsWords, ended}
use Rattle.commands.specs.Words.{Command, Compile, Render, Play, Resume, command_of, file_written}
use Rattle.commands.proofs.StepLemmas.{told, rose_later}

-- ---- nothing is written

others_kept : (held held' : Option Files) (name : List ℕ) → held' ≡ held → KeepsOthers held held' name
others_kept held held' name e = subst (λ (h : Option Files). KeepsOthers held h name) (sym e) (same held)
  where
    same : (held : Option Files) → KeepsOthers held held name
    same None = tt
    same (Some files) = λ other ne. refl

pub kept : (command : Command) (before after : Seen) → after.holds ≡ before.holds → KeepsUnwritten (file_written (Some command)) before after
kept (Compile manifest out) before after e = others_kept before.holds after.holds out e
kept (Render manifest input turns state) before after e = e
kept (Play wasm input steps) before after e = e
kept (Resume state input steps None) before after e = e
kept (Resume state input steps (Some name)) before after e = others_kept before.holds after.holds name e

-- a command that reads a module's file runs the module
runs_module : (command : Command) → Reads command file.Module → RunsModule command
runs_module (Compile manifest out) reads = reads
runs_module (Render manifest input turns state) reads = reads
runs_module (Play wasm input steps) reads = reads
runs_module (Resume state input steps new) reads = absurd reads

-- a step that stops before anything is written ends the command
pub stop_ends : (command : Command) (before after : Seen) (due : Files → Status → Type 0) (s : Status) → after.holds ≡ before.holds →
    ((files : Files) → (t : Status) → due files t → IsDueFor command files t) → Stopped before after (Reads command) due s → Ends command before after s
stop_ends command before after due s same goes (FileAbsent f r rose d) =
    record { may = r; explained = told before.holds _ _ (λ files. goes files (status.Absent f)) d; caused = rose; done = λ e. cc; others = kept command before after same; unwritten = same }
stop_ends command before after due s same goes (ReadFailed f r rose) =
    record { may = r; explained = tt; caused = rose; done = λ e. cc; others = kept command before after same; unwritten = same }
stop_ends command before after due s same goes (FileTooBig f n r past d) =
    record { may = r; explained = told before.holds _ _ (λ files. goes files (status.TooBig f n)) d; caused = past; done = λ e. cc; others = kept command before after same; unwritten = same }
stop_ends command before after due s same goes (PatchRefused r m d) =
    record { may = m; explained = told before.holds _ _ (λ files. goes files (status.Refused r)) d; caused = tt; done = λ e. cc; others = kept command before after same; unwritten = same }
stop_ends command before after due s same goes (ModuleIsRefused r m d) =
    record { may = runs_module command m; explained = told before.holds _ _ (λ files. goes files (status.ModuleRefused r)) d; caused = tt; done = λ e. cc; others = kept command before after same; unwritten = same }
stop_ends command before after due s same goes (StateIsRefused f m d) =
    record { may = m; explained = told before.holds _ _ (λ files. goes files (status.StateRefused f)) d; caused = tt; done = λ e. cc; others = kept command before after same; unwritten = same }
stop_ends command before after due s same goes (ScriptRefused f m d) =
    record { may = m; explained = told before.holds _ _ (λ files. goes files (status.InputRefused f)) d; caused = tt; done = λ e. cc; others = kept command before after same; unwritten = same }
stop_ends command before after due s same goes OutOfMemory =
    record { may = tt; explained = tt; caused = tt; done = λ e. cc; others = kept command before after same; unwritten = same }

-- ---- the module is written

-- what texts mean
pub meant : (texts : List (List ℕ)) (input output : List ℕ) → NamePatch texts input output → (patch : Linked) × IsThroughPatch input output patch × MeanPatch texts patch
meant texts input output n =
    let form = n.form in
    let tree = the_tree (parts_of form.form.through) input output in
    let patch = linked form.files tree in
    let is_tree = has_tree form.form in (
      patch,
      record { files = form.files; read = are_read texts form.files form.trees; processor = n.processor; form = form.form; tree = tree; is_tree = is_tree; is = refl },
      record { input = input; output = output; named = n; tree = tree; is_tree = is_tree; is_patch = refl },
    )

-- what the files mean
pub patch_of : (files : Files) (manifest input output : List ℕ) → NamedPatchOf files manifest input output → (patch : Linked) × IsThroughPatch input output patch × PatchOf files manifest patch
patch_of files manifest input output p =
    let m = meant p.texts input output p.mean in
    (m.0, m.1, record { names = p.names; texts = p.texts; named = p.named; have = p.have; mean = m.2 })

compiled : (held held' : Option Files) (manifest out bytes input output : List ℕ) → IfSome held (λ files. NamedPatchOf files manifest input output) → IsFormModule input output bytes →
    IfSome held' (λ files. file_at files out ≡ Some bytes) → IfSome held (λ old. IfSome held' (λ new. IsCompiled old new manifest out))
compiled None held' manifest out bytes input output is m w = tt
compiled (Some old) None manifest out bytes input output is m w = tt
compiled (Some old) (Some new) manifest out bytes input output is m w =
    let p = patch_of old manifest input output is in
    record { patch = p.0; is_patch = p.2; written = record { bytes = bytes; held = w; is_module = record { m = m.m; spelled = m.spelled; keeps = m.keeps p.0 p.1 } } }

due_ok : (files : Files) (manifest out input output : List ℕ) → NamedPatchOf files manifest input output → IsDueFor (Compile manifest out) files status.Ok
due_ok files manifest out input output is = let p = patch_of files manifest input output is in inr (p.0, p.2, refl)

-- `compile` ends with the write of its file
pub write_ends : (X : Type 0) (r : Result X Stop) (before mid after : Seen) (manifest out bytes input output : List ℕ) → OnlyRead before mid → CountsStay mid after → KeepsOthers mid.holds after.holds out →
    IfSome before.holds (λ files. NamedPatchOf files manifest input output) → IsFormModule input output bytes → OnOk r (IfSome after.holds (λ files. file_at files out ≡ Some bytes)) → IfErr r (λ stop. Unwritten mid after stop.status) →
    Ends (Compile manifest out) before after (ended r)
write_ends X (Ok x) before mid after manifest out bytes input output read stay others is m w u = record {
  may = tt;
  explained = told before.holds _ _ (λ files p. due_ok files manifest out input output p) is;
  caused = tt;
  done = λ e. compiled before.holds after.holds manifest out bytes input output is m w;
  others = subst (λ (h : Option Files). KeepsOthers h after.holds out) read.files others;
  unwritten = tt;
}
write_ends X (Err stop) before mid after manifest out bytes input output read stay others is m w u = failed stop.status u
  where
    failed : (s : Status) → Unwritten mid after s → Ends (Compile manifest out) before after s
    failed s (WriteFailed rose) = record {
      may = refl;
      explained = tt;
      caused = rose_later _ _ _ read.counts.faults stay.faults rose;
      done = λ e. cc;
      others = subst (λ (h : Option Files). KeepsOthers h after.holds out) read.files others;
      unwritten = tt;
    }
    failed s (WriteLacksMemory same) = record {
      may = tt;
      explained = tt;
      caused = tt;
      done = λ e. cc;
      others = subst (λ (h : Option Files). KeepsOthers h after.holds out) read.files others;
      unwritten = same ∙ read.files;
    }

-- ---- words

-- what stands with the answer to words, command or not
pub words_may : (command : Option Command) (before after : Seen) (s : Status) → EndsWords command before after s → IfSome command (λ c. MayAnswer c s)
words_may None before after s e = tt
words_may (Some c) before after s e = e.may

usage_explained : (s : Status) (held : Option Files) → s ≡ status.Usage → OnExplained s (IfSome held (λ files. s ≡ status.Usage))
usage_explained s None is = subst (λ (t : Status). OnExplained t (Unit {0})) (sym is) tt
usage_explained s (Some files) is = subst (λ (t : Status). OnExplained t (t ≡ status.Usage)) (sym is) refl

explained_for : (command : Option Command) (before after : Seen) (s : Status) → EndsWords command before after s → OnExplained s (IfSome before.holds (λ files. MatchOption command (s ≡ status.Usage) (λ c. IsDueFor c files s)))
explained_for None before after s e = usage_explained s before.holds e.0
explained_for (Some c) before after s e = e.explained

pub words_explained : (words : List (List ℕ)) (before after : Seen) (s : Status) → EndsWords (command_of words) before after s → OnExplained s (IfSome before.holds (λ files. IsDue files words s))
words_explained words before after s e = explained_for (command_of words) before after s e

pub words_caused : (command : Option Command) (before after : Seen) (s : Status) → EndsWords command before after s → HasCause before after s
words_caused None before after s e = subst (λ (t : Status). HasCause before after t) (sym e.0) tt
words_caused (Some c) before after s e = e.caused

pub words_others : (command : Option Command) (before after : Seen) (s : Status) → EndsWords command before after s → KeepsUnwritten (file_written command) before after
words_others None before after s e = e.1
words_others (Some c) before after s e = e.others

pub words_unwritten : (command : Option Command) (before after : Seen) (s : Status) → EndsWords command before after s → OnUnwritten s (after.holds ≡ before.holds)
words_unwritten None before after s e = subst (λ (t : Status). OnUnwritten t (after.holds ≡ before.holds)) (sym e.0) e.1
words_unwritten (Some c) before after s e = e.unwritten
