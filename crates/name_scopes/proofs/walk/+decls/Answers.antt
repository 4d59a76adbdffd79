use Rattle.std.proofs.Common.{arith, ℕ}
use Rattle.std.proofs.lemmas.Result.{err_from_is_err_and}
use Rattle.cm_meaning.specs.Scopes.{decl_names}
use Rattle.name_scopes.proofs.OpenLemmas.{in-namespace, before-namespace}
use Rattle.name_scopes.proofs.AddLemmas.{adds-start, adds-next, adds-stop, adds-all}
use Rattle.name_scopes.proofs.walk.+decls.Goals as goal

pub add_decls-loop-decl-init : goal.add_decls-loop-decl-init
add_decls-loop-decl-init t c = adds-start decl_names c.args.decls.now c.args.space c.args.members.now

pub add_decls-returns-in_err-add_decl : goal.add_decls-returns-in_err-add_decl
add_decls-returns-in_err-add_decl t c =
    let p = err_from_is_err_and c.from_residual.result c.from_residual.ensures.1 in
    rw (p.1, p.2) (adds-stop (Unit {0}) decl_names c.args.decls.now c.args.space c.loop-decl.decl-index c.decl-item.result c.args.members.now c.loop-decl.members c.add_decl.new.members c.add_decl.new.members
    c.in_err-add_decl.field-0.0 c.requires c.loop-decl-test.true c.decl-item.is c.loop-decl.invariant c.in_err-add_decl.ensures)

pub add_decls-loop-decl-preserved : goal.add_decls-loop-decl-preserved
add_decls-loop-decl-preserved t c = adds-next decl_names c.args.decls.now c.args.space c.loop-decl.decl-index c.decl-item.result c.args.members.now c.loop-decl.members c.add_decl.new.members
    c.requires c.loop-decl-test.true c.decl-item.is c.loop-decl.invariant c.in_ok-add_decl.ensures

pub add_decls-returns : goal.add_decls-returns
add_decls-returns t c = adds-all decl_names c.args.decls.now c.args.space c.loop-decl.decl-index c.args.members.now c.loop-decl.members
    (let w = c.loop-decl-test.false in let e = c.loop-decl.auto.decl-index-end in omega arith) c.loop-decl.invariant

pub add_decl-returns-in_err-inner-in-Namespace : goal.add_decl-returns-in_err-inner-in-Namespace
add_decl-returns-in_err-inner-in-Namespace t c =
    let p = err_from_is_err_and c.from_residual.result c.from_residual.ensures.1 in
    rw (p.1, p.2) (before-namespace ℕ (Unit {0}) c.args.members.now c.add_path.new.members c.add_path.new.members c.args.space c.in-Namespace.field-0 c.in-Namespace.path c.in-Namespace.decls c.args.decl.now
    c.in_err-inner-in-Namespace.field-0.0 c.in-Namespace.is c.in_err-inner-in-Namespace.ensures.adds)

pub add_decl-returns-in_ok-inner-in-Namespace : goal.add_decl-returns-in_ok-inner-in-Namespace
add_decl-returns-in_ok-inner-in-Namespace t c = in-namespace c.args.members.now c.add_path.new.members c.add_decls.new.members c.args.space c.in_ok-inner-in-Namespace.inner c.in-Namespace.field-0 c.in-Namespace.path
    c.in-Namespace.decls c.as_slice.result.now c.args.decl.now c.add_decls.result c.in-Namespace.is c.as_slice.ensures c.in_ok-inner-in-Namespace.ensures.adds c.in_ok-inner-in-Namespace.ensures.number c.add_decls.ensures

pub add_decl-returns-in-Processor : goal.add_decl-returns-in-Processor
unfolding decl_names
add_decl-returns-in-Processor t c = rw c.in-Processor.is c.add_word.ensures

pub add_decl-returns-in-Graph : goal.add_decl-returns-in-Graph
unfolding decl_names
add_decl-returns-in-Graph t c = rw c.in-Graph.is c.add_word-in-Graph.ensures

pub add_decl-returns-in-Shared : goal.add_decl-returns-in-Shared
unfolding decl_names
add_decl-returns-in-Shared t c = rw c.in-Shared.is c.add_shared.ensures

pub add_decl-returns-in-Function : goal.add_decl-returns-in-Function
unfolding decl_names
add_decl-returns-in-Function t c = rw c.in-Function.is c.add_word-in-Function.ensures
