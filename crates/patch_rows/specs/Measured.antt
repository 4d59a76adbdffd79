-- The sizes of a patch that is given as the text of its one file.
use Rattle.std.specs.Prelude.{ℕ, List, length, Option, Some, None}
use Rattle.cm_tree.specs.declared.decl.Decl.{Decl}
use Rattle.cm_tree.specs.declared.file.File.{File}
use Rattle.cm_tree.specs.Pieces.{Text}
use Rattle.cm_meaning.specs.Demands.{steps_of}
use Rattle.cm_meaning.specs.Nodes.{Tree}
use Rattle.cm_meaning.specs.Growth.{tree_of}
use Rattle.cm_meaning.specs.Linked.{Linked, linked}
use Rattle.cm_meaning.specs.TypeOf.{is_constant, are_constant}
use Rattle.patch_sizes.specs.Sizes.{bytes_in, bytes_in_fields, is_place, moves, expr_size, row_size}
use Rattle.patch_sizes.specs.StmtSizes.{stmt_size, stmts_size}
use Rattle.patch_sizes.specs.Splits.{advances, any_advances, splits_in, splits_among}
use Rattle.patch_sizes.specs.PatchSizes.{expanded_size, split_points, memory_bytes}
use Rattle.patch_rows.specs.Faultless.{faults_of, where_right}
use Rattle.patch_rows.specs.Source.{decls_in}
use Rattle.patch_rows.specs.Told.{told_from, files_of}

-- the numbers of leaves and chains, the expanded size, the split points, the bytes of memory, and the latency
pub record Measure : Type 0 where
  pub leaves : ℕ
  pub chains : ℕ
  pub size : ℕ
  pub splits : ℕ
  pub bytes : ℕ
  pub latency : ℕ

abbrev pub measure_of : Linked → Measure
measure_of l =
    record { leaves = length l.leaves; chains = length l.chains; size = expanded_size l; splits = split_points l; bytes = memory_bytes l; latency = l.latency }

abbrev pub measure_by : List File → Option Tree → Option Measure
measure_by files None = None
measure_by files (Some tree) = where_right (faults_of files tree) (measure_of (linked files tree))

abbrev pub measure_in : Option (List Decl) → Option Measure
measure_in None = None
measure_in (Some decls) = measure_by (files_of decls) (tree_of (files_of decls) 4)

-- nothing where the text is no file, or where something is wrong with names or types
unfoldable pub measured : Text → Option Measure
unfolding told_from steps_of is_constant are_constant bytes_in bytes_in_fields is_place moves expr_size row_size stmt_size stmts_size advances any_advances splits_in splits_among
measured text = measure_in (decls_in text)

abbrev pub measures : (leaves chains size splits bytes latency : ℕ) → Option Measure
measures leaves chains size splits bytes latency =
    Some (record { leaves = leaves; chains = chains; size = size; splits = splits; bytes = bytes; latency = latency })
