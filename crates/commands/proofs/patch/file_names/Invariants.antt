use Rattle.std.proofs.Common.{◌≡◌, map, take}
use Rattle.patch_manifest.specs.SourceName.{file_name}
use Rattle.commands.proofs.patch.file_names.Given as goal

abbrev pub invariant-loop-path : goal.invariant-loop-path
invariant-loop-path l = l.names ≡ map (file_name l.manifest) (take l.path-index l.paths)
