use Rattle.cm_meaning.specs.PatchSites.{decl_sites}
use Rattle.declaration_walk.proofs.SpaceLemmas.{function-decl, graph-part, namespace-decl, namespace-part, processor-part, row-all, row-next, row-start, shared-decl}
use Rattle.std.proofs.Common.{arith, flat_map}
use Rattle.declaration_walk.proofs.patch.+decls.Goals as goal

pub walk_decls-loop-decl-init : goal.walk_decls-loop-decl-init
walk_decls-loop-decl-init t c = row-start decl_sites c.args.decls.now c.args.steps.now

pub walk_decls-loop-decl-preserved : goal.walk_decls-loop-decl-preserved
walk_decls-loop-decl-preserved t c = row-next decl_sites c.args.decls.now c.loop-decl.decl-index c.decl-item.result c.args.steps.now c.loop-decl.steps c.walk_decl.new.steps c.loop-decl-test.true c.decl-item.is c.loop-decl.invariant c.in_ok-walk_decl.ensures

pub walk_decls-returns : goal.walk_decls-returns
walk_decls-returns t c = row-all decl_sites c.args.decls.now c.loop-decl.decl-index c.args.steps.now c.loop-decl.steps (let w = c.loop-decl-test.false in let e = c.loop-decl.auto.decl-index-end in omega arith) c.loop-decl.invariant

pub walk_decl-returns-in-Namespace : goal.walk_decl-returns-in-Namespace
walk_decl-returns-in-Namespace t c = namespace-decl c.args.steps.now c.walk_namespace.new.steps c.in-Namespace.field-0 c.in-Namespace.path c.in-Namespace.decls c.as_slice.result.now c.args.decl.now c.walk_namespace.result c.in-Namespace.is c.as_slice.ensures c.walk_namespace.ensures

pub walk_decl-returns-in-Processor : goal.walk_decl-returns-in-Processor
walk_decl-returns-in-Processor t c = processor-part c.args.steps.now c.walk_unit.new.steps c.in-Processor.unit c.args.decl.now c.walk_unit.result c.in-Processor.is c.walk_unit.ensures

pub walk_decl-returns-in-Graph : goal.walk_decl-returns-in-Graph
walk_decl-returns-in-Graph t c = graph-part c.args.steps.now c.walk_unit-in-Graph.new.steps c.in-Graph.unit c.args.decl.now c.walk_unit-in-Graph.result c.in-Graph.is c.walk_unit-in-Graph.ensures

pub walk_decl-returns-in-Shared : goal.walk_decl-returns-in-Shared
walk_decl-returns-in-Shared t c = shared-decl c.args.steps.now c.walk_shared.new.steps c.in-Shared.shared c.args.decl.now c.walk_shared.result c.in-Shared.is c.walk_shared.ensures

pub walk_decl-returns-in-Function : goal.walk_decl-returns-in-Function
walk_decl-returns-in-Function t c = function-decl c.args.steps.now c.walk_function.new.steps c.in-Function.function c.args.decl.now c.walk_function.result c.in-Function.is c.walk_function.ensures

pub walk_namespace-returns : goal.walk_namespace-returns
walk_namespace-returns t c = namespace-part c.args.steps.now c.enter_spaces.new.steps c.walk_decls.new.steps c.leave_spaces.new.steps c.args.path.now.names c.as_slice.result.now c.as_slice-2.result.now (λ all space. flat_map (decl_sites all space) c.args.decls.now) c.leave_spaces.result c.as_slice.ensures c.as_slice-2.ensures c.in_ok-enter_spaces.ensures c.in_ok-walk_decls.ensures c.leave_spaces.ensures
