use Rattle.std.proofs.Common.{◌≡◌, ◌+◌, take, arith, Some, None, lit<, ◌∙◌, sym}
use Rattle.std.specs.List.{slice_range}
use Rattle.std.proofs.lemmas.Str.Pattern.{rfind_char}
use Rattle.patch_manifest.proofs.Folders.{folder_of-none, folder_of-last}
use Rattle.patch_manifest.proofs.naming.folder.Goals as goal

pub returns-in-Some : goal.returns-in-Some
returns-in-Some c =
    let found = rfind_char 47 c.args.name.now (Some c.in-Some.last) c.in-Some.ensures.cases (lit< tt) in
    let front : slice_range c.args.name.now 0 (c.in-Some.last + 1) ≡ take (c.in-Some.last + 1) c.args.name.now = grind arith in
    c.range.ensures.value ∙ front ∙ sym (folder_of-last c.args.name.now c.in-Some.last found.0 found.1 found.2)

pub returns-in-None : goal.returns-in-None
returns-in-None c = sym (folder_of-none c.args.name.now (rfind_char 47 c.args.name.now None c.in-None.ensures.cases (lit< tt)))
