-- What the steps of the program mean.
use Rattle.std.specs.Prelude.{[], ◌∷◌, Option, Some, None}
use Rattle.std.specs.Option.{option_copied}
use Rattle.cm_tree.specs.declared.decl.UnitDecl.{UnitDecl}
use Rattle.cm_meaning.specs.Declared.{Named, Processor, Graph, Struct, Using, Constant, Function, State, Endpoint, Node, TypeParameter, ValueParameter, Parameter, LocalConstant, LocalVariable, Counter}
use Rattle.cm_meaning.specs.Sites as m
use Rattle.cm_meaning.specs.PatchSites.{field_words}
use Rattle.scope_walk.specs.declared.steps.Declaration.{Declaration}
use Rattle.scope_walk.specs.declared.steps.Declaration.TheVariants as d
use Rattle.scope_walk.specs.declared.steps.Part.{Part}
use Rattle.scope_walk.specs.declared.steps.Part.TheVariants as p
use Rattle.scope_walk.specs.declared.steps.UnitKind.{UnitKind}
use Rattle.scope_walk.specs.declared.steps.UnitKind.TheVariants as k
use Rattle.scope_walk.specs.declared.steps.Step.{Step as Taken}
use Rattle.scope_walk.specs.declared.steps.Step.TheVariants as t
use Rattle.scope_walk.specs.Steps.{Step, Meets, MeetsParams, MeetsUnit, MeetsLocal, MeetsCounter, MeetsGiven, Enters, Leaves, Introduces, EntersUnit, LeavesUnit, EntersSpace, LeavesSpace, EntersLoop, LeavesLoop, EntersText, LeavesText}

abbrev pub named_as : Declaration → Named
named_as (d.Struct p fields) = Struct p fields.now
named_as (d.Using ty) = Using ty.now
named_as (d.Constant a) = Constant a.now
named_as (d.Function f) = Function f.now
named_as (d.InferredState a) = State None (Some a.now)
named_as (d.TypedState ty a) = State (Some ty.now) (option_copied a)
named_as (d.Endpoint flow kind ty keys) = Endpoint flow kind ty.now keys.now
named_as (d.Node a) = Node a.now
named_as (d.TypeParameter i) = TypeParameter i
named_as (d.ValueParameter i ty) = ValueParameter i ty.now
named_as (d.Parameter ty) = Parameter ty.now
named_as (d.LocalConstant a) = LocalConstant a.now
named_as (d.InferredLocal a) = LocalVariable None (Some a.now)
named_as (d.TypedLocal ty a) = LocalVariable (Some ty.now) (option_copied a)
named_as (d.Counter ty) = Counter ty.now

abbrev pub unit_as : UnitKind → UnitDecl → Named
unit_as k.Processor u = Processor u
unit_as k.Graph u = Graph u

abbrev pub part_as : Part → m.Part
part_as (p.Reads q) = m.Reads q.now
part_as (p.Calls q args) = m.Calls q.now args.now
part_as (p.TakesArgument a) = m.TakesArgument a.now
part_as (p.NamesType q) = m.NamesType q.now
part_as (p.Writes w) = m.Writes w.now
part_as (p.Assigns w) = m.Assigns w.now
part_as (p.HasFields fields) = m.KeepsApart (field_words fields.now)
part_as (p.Defines f) = m.Defines f.now
part_as (p.Handles w) = m.Handles w.now
part_as (p.DeclaresNode a) = m.DeclaresNode a.now
part_as (p.Joins a) = m.Joins a.now
part_as (p.Jumps at) = m.Jumps at
part_as (p.Advances at) = m.Advances at

abbrev pub step_as : Taken → Step
step_as (t.Meet part) = Meets (part_as part)
step_as (t.MeetParam param) = MeetsParams (param.now ∷ [])
step_as (t.MeetParams params) = MeetsParams params.now
step_as t.MeetUnit = MeetsUnit
step_as (t.MeetLocal k w a) = MeetsLocal k w.now (named_as a)
step_as (t.MeetCounter w ty) = MeetsCounter w.now ty.now
step_as (t.MeetGiven q k a) = MeetsGiven q.now k a.now
step_as t.Enter = Enters
step_as t.Leave = Leaves
step_as (t.Declare w a) = Introduces w.now (named_as a)
step_as (t.EnterUnit kind u) = EntersUnit (unit_as kind u.now) u.now
step_as t.LeaveUnit = LeavesUnit
step_as (t.EnterSpace n) = EntersSpace n.now
step_as t.LeaveSpace = LeavesSpace
step_as t.EnterLoop = EntersLoop
step_as t.LeaveLoop = LeavesLoop
step_as (t.EnterText w a) = EntersText w.now (named_as a)
step_as t.LeaveText = LeavesText
