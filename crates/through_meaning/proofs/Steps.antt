-- What a patch of the form does in a frame.
use Rattle.std.proofs.Common.{◌≡◌, ◌≢◌, ℕ, suc, List, [], ◌∷◌, ◌++◌, false, refl, ℤ, pos, ◌+ℤ◌, arith}
use Rattle.std.specs.Prelude.{FitsSigned, codes}
use Rattle.std.specs.Int.{w32}
use Rattle.std.proofs.lemmas.Int.{ints}
use Rattle.cm_base.specs.declared.host.Flow.TheVariants.{Input, Output}
use Rattle.cm_base.specs.declared.play.Item.{Item}
use Rattle.cm_base.specs.declared.play.Item.TheVariants as item
use Rattle.cm_base.specs.Parts.{Inputs, Frame, Init}
use Rattle.cm_base.specs.Players.{Goes, Spent, Source}
use Rattle.cm_number.specs.Conversion.{to_signed}
use Rattle.cm_number.proofs.Public.{to_signed_fits}
use Rattle.cm_tree.specs.declared.expr.Base.TheBlock.{hidden-the_row-Expr-0, hidden-the_row-Expr-1}
use Rattle.cm_tree.specs.declared.stmt.Stmt.TheBlock.{hidden-the_row-Stmt-0, hidden-the_row-Stmt-1}
use Rattle.cm_tree.specs.declared.decl.Decl.TheBlock.{hidden-the_row-Decl-0}
use Rattle.cm_tree.specs.declared.file.File.{File}
use Rattle.cm_tree.specs.declared.stmt.Stmt.TheVariants as x
use Rattle.cm_tree.specs.Pieces.{Text}
use denote.Hole.Carrier.{hidden}
use Rattle.cm_meaning.specs.Declared.{Function}
use Rattle.cm_meaning.specs.Scopes.{Around, in_unit, declared, patch_names, param_names, find_in, outward, onward, find, unit_names, scoped, around_function}
use Rattle.cm_meaning.specs.Types.{is_place, is_same, are_same, scalars, scalars_of, times, flat, flat_of, flat_value, flat_values}
use Rattle.cm_meaning.specs.Constants.{arrays, all_there, eval_row, base_type}
use Rattle.cm_meaning.specs.TypeOf.{Knowledge}
use Rattle.cm_meaning.specs.Nodes.{Grown, NoGroups}
use Rattle.cm_meaning.specs.Linked.{Linked, linked}
use Rattle.cm_meaning.specs.Stores.{Store}
use Rattle.cm_meaning.specs.World.{World, Sources, Todo, Do, Again, Leave, Loop, Always}
use Rattle.cm_meaning.specs.Eval.{found, values_row}
use Rattle.cm_meaning.specs.Resume.{todos, exec, exec_row, bare}
use Rattle.cm_meaning.specs.PatchRun.{perform, patch_player, patch_source}
use Rattle.cm_meaning.specs.Calls.{depth_of}
use Rattle.through_meaning.specs.Parts.{Parts, word, host_stream, unit_at, main_at, pass_at}
use Rattle.through_meaning.proofs.Grown.{instance_of}
use Rattle.through_meaning.proofs.Files.{same_text, other_text, same_place}

-- ---- sums with zero

pub plus_zero : (v : ℤ) → FitsSigned w32 v → to_signed w32 (v +ℤ pos 0) ≡ v
plus_zero v fits = let e : v +ℤ pos 0 ≡ v = omega (arith, ints) in rw e (to_signed_fits w32 v fits)

pub zero_plus : (v : ℤ) → FitsSigned w32 v → to_signed w32 (pos 0 +ℤ v) ≡ v
zero_plus v fits = let e : pos 0 +ℤ v ≡ v = omega (arith, ints) in rw e (to_signed_fits w32 v fits)

-- ---- the patch

abbrev pub linked_of : List File → Parts → (input output : Text) → Knowledge → Linked
linked_of files parts input output k = linked files (Grown (instance_of parts input output k) 1 NoGroups)

-- what is round the body of `main`
abbrev pub around : List File → Parts → (input output : Text) → Around
around files parts input output = around_function (patch_names files) (declared (in_unit [] (unit_at parts input output)) (word parts.main.name (codes "main")) (Function (main_at parts.main input output))) (main_at parts.main input output)

abbrev pub loop_of : List File → Parts → (input output : Text) → Loop
loop_of files parts input output = bare (scoped (around files parts input output) []) Always (pass_at parts.main input output)

-- ---- between two frames

abbrev pub zero_sums : List (List ℤ)
zero_sums = (pos 0 ∷ []) ∷ (pos 0 ∷ []) ∷ []

abbrev pub world_with : List Todo → Store → List (List ℤ) → List (List ℤ) → Inputs → List Sources → ℕ → List Item → World
world_with rest store inputs current streams history frame trace =
    record {
      leaves = record { store = store; rest = rest; inputs = inputs; sums = zero_sums; values = zero_sums } ∷ [];
      current = current;
      streams = streams;
      history = history;
      frame = frame;
      trace = trace;
    }

-- the whole `main` is left
abbrev pub first_rest : List File → Parts → (input output : Text) → List Todo
first_rest files parts input output = Do (around files parts input output) (x.Block parts.main.body (main_at parts.main input output).body.stmts) ∷ []

abbrev pub first_store : Store
first_store = [] ∷ []

-- the loop was begun, and four scopes are open
abbrev pub next_rest : List File → Parts → (input output : Text) → List Todo
next_rest files parts input output = Leave ∷ Leave ∷ Again (loop_of files parts input output) ∷ Leave ∷ []

abbrev pub next_store : Store
next_store = [] ∷ [] ∷ [] ∷ [] ∷ []

abbrev pub frame_inputs : ℤ → Inputs
frame_inputs v = (v ∷ []) ∷ [] ∷ []

abbrev pub sources_of : ℤ → Sources
sources_of v = record { host = frame_inputs v; leaves = ((pos 0 ∷ []) ∷ (v ∷ []) ∷ []) ∷ [] }

-- with a turn, the frame tells the input
abbrev pub Steps : List File → Parts → (input output : Text) → Knowledge → List Todo → Store → Type 0
Steps files parts input output k rest store = (depth turns frame was : ℕ) (v : ℤ) (inputs current : List (List ℤ)) (streams : Inputs) (history : List Sources) (trace : List Item) → FitsSigned w32 v →
    perform (linked_of files parts input output k) depth (suc turns) (Frame frame (frame_inputs v)) (world_with rest store inputs current streams history was trace)
    ≡ Goes (world_with (next_rest files parts input output) next_store ((v ∷ []) ∷ [] ∷ []) current (frame_inputs v) (sources_of v ∷ history) frame (trace ++ item.Frame frame (v ∷ []) ∷ []))

pub first_step : (files : List File) (parts : Parts) (input output : Text) (k : Knowledge) → input ≢ output → is_place parts.input.name parts.output.name ≡ false →
    Steps files parts input output k (first_rest files parts input output) first_store
unfolding found values_row exec exec_row todos hidden-the_row-Expr-0 hidden-the_row-Expr-1 hidden-the_row-Stmt-0 hidden-the_row-Stmt-1 hidden-the_row-Decl-0 hidden param_names find_in outward onward find unit_names is_same are_same scalars scalars_of times flat flat_of flat_value flat_values arrays all_there base_type eval_row
first_step files parts input output k names places depth turns frame was v inputs current streams history trace fits =
    rw (same_text input, other_text input output names, same_text output, same_place parts.input.name, places, same_place parts.output.name, plus_zero v fits) (rw (to_signed_fits w32 v fits) (rw (zero_plus v fits) (rw (plus_zero v fits) refl)))

pub next_step : (files : List File) (parts : Parts) (input output : Text) (k : Knowledge) → input ≢ output → is_place parts.input.name parts.output.name ≡ false →
    Steps files parts input output k (next_rest files parts input output) next_store
unfolding found values_row exec exec_row todos hidden-the_row-Expr-0 hidden-the_row-Expr-1 hidden-the_row-Stmt-0 hidden-the_row-Stmt-1 hidden-the_row-Decl-0 hidden param_names find_in outward onward find unit_names is_same are_same scalars scalars_of times flat flat_of flat_value flat_values arrays all_there base_type eval_row
next_step files parts input output k names places depth turns frame was v inputs current streams history trace fits =
    rw (same_text input, other_text input output names, same_text output, same_place parts.input.name, places, same_place parts.output.name, plus_zero v fits) (rw (to_signed_fits w32 v fits) (rw (zero_plus v fits) (rw (plus_zero v fits) refl)))

-- without a turn nothing is told
abbrev pub Lacks : List File → Parts → (input output : Text) → Knowledge → List Todo → Store → Type 0
Lacks files parts input output k rest store = (depth frame was : ℕ) (v : ℤ) (inputs current : List (List ℤ)) (streams : Inputs) (history : List Sources) (trace : List Item) →
    (stop : World) × (perform (linked_of files parts input output k) depth 0 (Frame frame (frame_inputs v)) (world_with rest store inputs current streams history was trace) ≡ Spent stop) × (stop.trace ≡ trace)

pub first_lacks : (files : List File) (parts : Parts) (input output : Text) (k : Knowledge) → Lacks files parts input output k (first_rest files parts input output) first_store
unfolding found values_row exec exec_row todos hidden-the_row-Expr-0 hidden-the_row-Expr-1 hidden-the_row-Stmt-0 hidden-the_row-Stmt-1 hidden-the_row-Decl-0 hidden param_names find_in outward onward find unit_names is_same are_same scalars scalars_of times flat flat_of flat_value flat_values arrays all_there base_type eval_row
first_lacks files parts input output k depth frame was v inputs current streams history trace = (_, refl, refl)

pub next_lacks : (files : List File) (parts : Parts) (input output : Text) (k : Knowledge) → Lacks files parts input output k (next_rest files parts input output) next_store
unfolding found values_row exec exec_row todos hidden-the_row-Expr-0 hidden-the_row-Expr-1 hidden-the_row-Stmt-0 hidden-the_row-Stmt-1 hidden-the_row-Decl-0 hidden param_names find_in outward onward find unit_names is_same are_same scalars scalars_of times flat flat_of flat_value flat_values arrays all_there base_type eval_row
next_lacks files parts input output k depth frame was v inputs current streams history trace = (_, refl, refl)

-- ---- the patch as a source

-- there is no `init`
pub init_is : (files : List File) (parts : Parts) (input output : Text) (k : Knowledge) (depth turns : ℕ) (w : World) → perform (linked_of files parts input output k) depth turns Init w ≡ Goes w
unfolding found values_row exec exec_row todos hidden-the_row-Expr-0 hidden-the_row-Expr-1 hidden-the_row-Stmt-0 hidden-the_row-Stmt-1 hidden-the_row-Decl-0 hidden param_names find_in outward onward find unit_names is_same are_same scalars scalars_of times flat flat_of flat_value flat_values arrays all_there base_type eval_row
init_is files parts input output k depth turns w = refl

-- the patch as a source, worked out
abbrev pub source_of : List File → Parts → (input output : Text) → Knowledge → Source World
source_of files parts input output k =
    record {
      ends = host_stream Input input ∷ host_stream Output output ∷ [];
      latency = 0;
      cost = 4352;
      player = patch_player (linked_of files parts input output k) (depth_of (linked_of files parts input output k));
      first = world_with (first_rest files parts input output) first_store zero_sums zero_sums zero_sums [] 0 [];
    }

pub source_is : (files : List File) (parts : Parts) (input output : Text) (k : Knowledge) → patch_source (linked_of files parts input output k) 4352 ≡ source_of files parts input output k
unfolding found values_row exec exec_row todos hidden-the_row-Expr-0 hidden-the_row-Expr-1 hidden-the_row-Stmt-0 hidden-the_row-Stmt-1 hidden-the_row-Decl-0 hidden param_names find_in outward onward find unit_names is_same are_same scalars scalars_of times flat flat_of flat_value flat_values arrays all_there base_type eval_row
source_is files parts input output k = refl
