use Rattle.cm_meaning.specs.PatchSites.{end_sites, function_sites, handler_sites, link_sites, member_sites, node_sites, shared_sites, state_value_sites}
use Rattle.cm_meaning.specs.Sites.{expr_sites, type_sites}
use Rattle.declaration_walk.specs.Declares.{init_sites}
use Rattle.scope_walk.proofs.StepLemmas.{one-part}
use Rattle.std.proofs.Common.{ap, flat_map, sym, ◌++◌, ◌∙◌}
use Rattle.declaration_walk.proofs.members.walk_member.Goals as goal

pub returns-in-Ends : goal.returns-in-Ends
returns-in-Ends c = one-part c.args.steps.now c.walk_ends.new.steps (λ r. flat_map (end_sites r) c.as_slice.result.now) (λ r. member_sites r c.args.member.now) c.walk_ends.result
    (λ r. ap (member_sites r) c.in-Ends.is ∙ ap (λ z. flat_map (end_sites r) z) (sym c.as_slice.ensures)) c.walk_ends.ensures

pub returns-in-Shared : goal.returns-in-Shared
returns-in-Shared c = one-part c.args.steps.now c.walk_shared.new.steps (λ r. shared_sites r c.in-Shared.shared) (λ r. member_sites r c.args.member.now) c.walk_shared.result (λ r. ap (member_sites r) c.in-Shared.is) c.walk_shared.ensures

pub returns-in-Function : goal.returns-in-Function
returns-in-Function c = one-part c.args.steps.now c.walk_function.new.steps (λ r. function_sites r c.in-Function.function) (λ r. member_sites r c.args.member.now) c.walk_function.result (λ r. ap (member_sites r) c.in-Function.is) c.walk_function.ensures

pub returns-in-Handler : goal.returns-in-Handler
returns-in-Handler c = one-part c.args.steps.now c.walk_handler.new.steps (λ r. handler_sites r c.in-Handler.input c.in-Handler.param c.in-Handler.body) (λ r. member_sites r c.args.member.now) c.walk_handler.result (λ r. ap (member_sites r) c.in-Handler.is) c.walk_handler.ensures

pub returns-in-Var : goal.returns-in-Var
returns-in-Var c = one-part c.args.steps.now c.walk_inits.new.steps (λ r. flat_map (init_sites r) c.as_slice-in-Var.result.now) (λ r. member_sites r c.args.member.now) c.walk_inits.result
    (λ r. ap (member_sites r) c.in-Var.is ∙ ap (λ z. flat_map (init_sites r) z) (sym c.as_slice-in-Var.ensures)) c.walk_inits.ensures

pub returns-in-State : goal.returns-in-State
returns-in-State c = one-part c.args.steps.now c.walk_state.new.steps (λ r. type_sites r c.in-State.ty ++ flat_map (state_value_sites r) c.as_slice-in-State.result.now) (λ r. member_sites r c.args.member.now) c.walk_state.result
    (λ r. ap (member_sites r) c.in-State.is ∙ ap (λ z. type_sites r c.in-State.ty ++ flat_map (state_value_sites r) z) (sym c.as_slice-in-State.ensures)) c.walk_state.ensures

pub returns-in-Latency : goal.returns-in-Latency
returns-in-Latency c = one-part c.args.steps.now c.walk_expr.new.steps (λ r. expr_sites r c.in-Latency.frames) (λ r. member_sites r c.args.member.now) c.walk_expr.result (λ r. ap (member_sites r) c.in-Latency.is) c.walk_expr.ensures

pub returns-in-Nodes : goal.returns-in-Nodes
returns-in-Nodes c = one-part c.args.steps.now c.walk_nodes.new.steps (λ r. flat_map (node_sites r) c.as_slice-in-Nodes.result.now) (λ r. member_sites r c.args.member.now) c.walk_nodes.result
    (λ r. ap (member_sites r) c.in-Nodes.is ∙ ap (λ z. flat_map (node_sites r) z) (sym c.as_slice-in-Nodes.ensures)) c.walk_nodes.ensures

pub returns-in-Connection : goal.returns-in-Connection
returns-in-Connection c = one-part c.args.steps.now c.walk_links.new.steps (λ r. flat_map (link_sites r) c.as_slice-in-Connection.result.now) (λ r. member_sites r c.args.member.now) c.walk_links.result
    (λ r. ap (member_sites r) c.in-Connection.is ∙ ap (λ z. flat_map (link_sites r) z) (sym c.as_slice-in-Connection.ensures)) c.walk_links.ensures
