use Rattle.std.proofs.Common.{◌≡◌, ◌+◌, length, drop}
use Rattle.cm_front.specs.Phases.{bytes_in}
use Rattle.cm_io.specs.Seen.{OnlyRead}
use Rattle.commands.specs.Patch.{all_sources}
use Rattle.commands.proofs.PatchLemmas.{ReadTo}
use Rattle.commands.proofs.patch.read_sources.Given as goal

abbrev pub invariant-loop-index : goal.invariant-loop-index
invariant-loop-index g l = record {
  only_read : OnlyRead (g.F.Folder.seen l.fn.folder) (g.F.Folder.seen l.folder);
  to : ReadTo (g.F.Folder.seen l.fn.folder).holds l.names (drop l.index l.names) (l.index + 1) l.left l.texts;
  sum : l.left + bytes_in l.texts ≡ all_sources;
  count : length l.texts ≡ l.index;
}
