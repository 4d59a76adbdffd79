use Rattle.cm_meaning.specs.Declared.{Function}
use Rattle.cm_meaning.specs.Scopes.{end_names, inferred_state, member_names, node_name, shared_names, typed_state}
use Rattle.declaration_walk.proofs.NameLemmas.{declares-none, one-name, same-names}
use Rattle.std.proofs.Common.{ap, flat_map, map, sym, ◌∙◌}
use Rattle.declaration_walk.proofs.names.declare_member.Goals as goal

pub returns-in-Ends : goal.returns-in-Ends
returns-in-Ends c = same-names c.args.steps.now c.declare_ends.new.steps (λ h. flat_map (end_names h c.in-Ends.flow) c.as_slice.result.now) (λ h. member_names h c.args.member.now) c.declare_ends.result
    (λ h. ap (member_names h) c.in-Ends.is ∙ ap (flat_map (end_names h c.in-Ends.flow)) (sym c.as_slice.ensures)) c.declare_ends.ensures

pub returns-in-Shared : goal.returns-in-Shared
returns-in-Shared c = same-names c.args.steps.now c.declare_shared.new.steps (λ h. shared_names h c.in-Shared.shared) (λ h. member_names h c.args.member.now) c.declare_shared.result (λ h. ap (member_names h) c.in-Shared.is) c.declare_shared.ensures

pub returns-in-Function : goal.returns-in-Function
returns-in-Function c = one-name c.args.steps.now c.declare.new.self c.in-Function.function.name (Function c.in-Function.function) (λ h. member_names h c.args.member.now) c.declare.result (λ h. ap (member_names h) c.in-Function.is) c.declare.ensures

pub returns-in-Handler : goal.returns-in-Handler
returns-in-Handler c = declares-none c.args.steps.now (λ h. member_names h c.args.member.now) (λ h. ap (member_names h) c.in-Handler.is)

pub returns-in-Var : goal.returns-in-Var
returns-in-Var c = same-names c.args.steps.now c.declare_states.new.steps (λ h. map (inferred_state h) c.as_slice-in-Var.result.now) (λ h. member_names h c.args.member.now) c.declare_states.result
    (λ h. ap (member_names h) c.in-Var.is ∙ ap (map (inferred_state h)) (sym c.as_slice-in-Var.ensures)) c.declare_states.ensures

pub returns-in-State : goal.returns-in-State
returns-in-State c = same-names c.args.steps.now c.declare_vars.new.steps (λ h. map (typed_state h c.in-State.ty) c.as_slice-in-State.result.now) (λ h. member_names h c.args.member.now) c.declare_vars.result
    (λ h. ap (member_names h) c.in-State.is ∙ ap (map (typed_state h c.in-State.ty)) (sym c.as_slice-in-State.ensures)) c.declare_vars.ensures

pub returns-in-Latency : goal.returns-in-Latency
returns-in-Latency c = declares-none c.args.steps.now (λ h. member_names h c.args.member.now) (λ h. ap (member_names h) c.in-Latency.is)

pub returns-in-Nodes : goal.returns-in-Nodes
returns-in-Nodes c = same-names c.args.steps.now c.declare_nodes.new.steps (λ h. map (node_name h) c.as_slice-in-Nodes.result.now) (λ h. member_names h c.args.member.now) c.declare_nodes.result
    (λ h. ap (member_names h) c.in-Nodes.is ∙ ap (map (node_name h)) (sym c.as_slice-in-Nodes.ensures)) c.declare_nodes.ensures

pub returns-in-Connection : goal.returns-in-Connection
returns-in-Connection c = declares-none c.args.steps.now (λ h. member_names h c.args.member.now) (λ h. ap (member_names h) c.in-Connection.is)
