-- What a patch does that is given as the text of its one file, and short words for scripts and for what is told.
use Rattle.std.specs.Prelude.{ℕ, ◌+◌, List, [], ◌∷◌, ◌++◌, length, Option, Some, None, ℤ, codes}
use Rattle.cm_base.specs.declared.play.Item.{Item}
use Rattle.cm_base.specs.declared.play.Item.TheVariants as item
use Rattle.cm_base.specs.declared.play.Saved.{Saved}
use Rattle.cm_base.specs.declared.play.Setting.{Setting}
use Rattle.cm_base.specs.declared.play.Script.{Script}
use Rattle.cm_base.specs.Parts.{Part}
use Rattle.cm_base.specs.Players.{Outcome, Ended, Out, source_run, stops}
use Rattle.cm_number.specs.Conversion.{floor_modulus, to_signed, to_unsigned, to_wrap, to_clamp, to_bool, nearest}
use Rattle.cm_number.specs.Bitwise.{bitwise_and, bitwise_or, bitwise_xor, bitwise_not}
use Rattle.cm_number.specs.Division.{truncated_quotient, quotient, remainder}
use Rattle.cm_number.specs.Shift.{floor_quotient, left_shift, right_shift, zero_filled_shift}
use Rattle.cm_tree.specs.declared.expr.Base.TheBlock.{hidden-the_row-Expr-0, hidden-the_row-Expr-1}
use Rattle.cm_tree.specs.declared.stmt.Stmt.TheBlock.{hidden-the_row-Stmt-0, hidden-the_row-Stmt-1}
use Rattle.cm_tree.specs.declared.decl.Decl.TheBlock.{hidden-the_row-Decl-0}
use denote.Hole.Carrier.{hidden}
use Rattle.cm_meaning.specs.Mains.{main_of}
use Rattle.cm_meaning.specs.Scopes.{patch_names, opened, within, decl_names, decl_names_row, param_names, is_space, space_scopes, declare_all, find_in, outward, onward, find, unit_names}
use Rattle.cm_meaning.specs.Types.{is_same, are_same, scalars, scalars_of, times, flat, flat_of, flat_value, flat_values, copies, zero_of, zeros_of}
use Rattle.cm_meaning.specs.Constants.{arrays, all_there, elements, field_values, constructed, field_in, element_in, eval, eval_row, base_type, with_fields, field_types, meant}
use Rattle.cm_meaning.specs.TypeOf.{field_type, type_of}
use Rattle.cm_meaning.specs.PatchSites.{patch_sites, given_all, decl_sites, decl_sites_row}
use Rattle.cm_meaning.specs.BodySites.{init_sites, var_sites, stmt_sites, stmts_row, stmts_sites}
use Rattle.cm_meaning.specs.Sites.{expr_sites, expr_sites_row, argument_sites, base_sites}
use Rattle.cm_meaning.specs.Instances.{type_arguments, arguments_of}
use Rattle.cm_meaning.specs.Parameters.{find_key}
use Rattle.cm_meaning.specs.Chains.{is_path}
use Rattle.cm_meaning.specs.Eval.{found, values_row}
use Rattle.cm_meaning.specs.Resume.{todos, exec, exec_row}
use Rattle.cm_tree.specs.declared.decl.Decl.{Decl}
use Rattle.cm_tree.specs.declared.file.File.{File}
use Rattle.cm_tree.specs.Pieces.{Text}
use Rattle.cm_meaning.specs.Nodes.{Tree}
use Rattle.cm_meaning.specs.Growth.{tree_of}
use Rattle.cm_meaning.specs.Linked.{linked}
use Rattle.cm_meaning.specs.PatchRun.{patch_source}
use Rattle.patch_rows.specs.Faultless.{faults_of, where_right}
use Rattle.patch_rows.specs.Source.{decls_in}

-- ---- scripts

-- the first endpoint is a stream input with these values, one each frame
abbrev pub input : List ℤ → Script
input values = record { frames = length values; streams = values ∷ []; values = []; events = [] }

abbrev pub silence : ℕ → Script
silence frames = record { frames = frames; streams = []; values = []; events = [] }

abbrev pub setting : ℕ → ℕ → ℤ → Setting
setting frame endpoint value = record { frame = frame; endpoint = endpoint; value = value ∷ [] }

-- ---- what is told

abbrev pub ended : List Item → Option Outcome
ended items = Some (record { trace = items; ending = Ended })

-- out of turns in this part
abbrev pub out_in : Part → List Item → Option Outcome
out_in part items = Some (record { trace = items; ending = Out part })

abbrev pub event : ℕ → ℕ → ℤ → Item
event frame endpoint value = item.Event frame endpoint (value ∷ [])

-- a frame of one output
abbrev pub frame : ℕ → ℤ → Item
frame number value = item.Frame number (value ∷ [])

-- frames from this number on, each of one output
abbrev pub frames_from : ℕ → List ℤ → List Item
frames_from number [] = []
frames_from number (value ∷ values) = frame number value ∷ frames_from (number + 1) values

abbrev pub frames : List ℤ → List Item
frames values = frames_from 0 values

-- ---- runs

abbrev pub files_of : List Decl → List File
files_of decls = record { decls = decls } ∷ []

abbrev pub run_of : List File → List Saved → Script → ℕ → Option Outcome
run_of files saved script turns =
    by_tree (tree_of files 4) where
      by_tree : Option Tree → Option Outcome
      by_tree None = None
      by_tree (Some tree) = where_right (faults_of files tree) (source_run (patch_source (linked files tree) 1) saved script script.frames turns)

abbrev pub run_of_text : Option (List Decl) → List Saved → Script → ℕ → Option Outcome
run_of_text None saved script turns = None
run_of_text (Some decls) saved script turns = run_of (files_of decls) saved script turns

-- The run of the patch with these saved parameters, over a script, with so many turns for each part. There is nothing where the text
-- is no file, or where something is wrong with names or types. How deep nodes stand in one another, and how far the meaning of a
-- name leads, is at most 4.
unfoldable pub told_from : List Saved → Text → Script → ℕ → Option Outcome
unfolding decls_in faults_of stops found values_row exec exec_row todos floor_modulus to_signed to_unsigned to_wrap to_clamp to_bool nearest hidden-the_row-Expr-0 hidden-the_row-Expr-1 hidden-the_row-Stmt-0 hidden-the_row-Stmt-1 hidden-the_row-Decl-0 hidden main_of patch_names opened within decl_names decl_names_row param_names is_space space_scopes declare_all find_in outward onward find unit_names is_same are_same scalars scalars_of times flat flat_of flat_value flat_values copies zero_of zeros_of arrays all_there elements field_values constructed field_in element_in eval eval_row base_type with_fields field_types meant field_type type_of type_arguments arguments_of find_key is_path truncated_quotient quotient remainder bitwise_and bitwise_or bitwise_xor bitwise_not floor_quotient left_shift right_shift zero_filled_shift patch_sites given_all decl_sites decl_sites_row init_sites var_sites stmt_sites stmts_row stmts_sites expr_sites expr_sites_row argument_sites base_sites
told_from saved text script turns = run_of_text (decls_in text) saved script turns

-- the same where nothing is saved
unfoldable pub told : Text → Script → ℕ → Option Outcome
unfolding told_from
told text script turns = told_from [] text script turns

abbrev pub lines : List Text → Text
lines [] = []
lines (line ∷ others) = line ++ codes "\n" ++ lines others

-- a processor with a stream input and a stream output, and this main
abbrev pub io : Text → Text
io body = codes "processor P [[main]] { input stream int in; output stream int out; void main() {\n" ++ body ++ codes "\n} }\n"
