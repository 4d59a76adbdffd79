-- Export by export.
use Rattle.std.proofs.Common.{[], sym, subst}
use Rattle.wasm_tree.specs.Instance.{exported_as}
use Rattle.wasm_tree.specs.Valid.{Valid}
use Rattle.wasm_runner.specs.declared.export.Export.TheVariants as entry
use Rattle.wasm_runner.specs.Exporting.{Offers}
use Rattle.wasm_runner.specs.Running.{Running, Takes}
use Rattle.wasm_runner.proofs.Offered.{offered}
use Rattle.wasm_runner.proofs.runner.Runner.call.Goals as goal

pub call_named-requires-clause-takes : goal.call_named-requires-clause-takes
call_named-requires-clause-takes g c =
    offered c.args.self.now.of.of c.args.self.now.of.section (subst (λ (r : Running). Valid r.of.of r.of.section) c.self.view_is c.module-module.ensures.valid) entry.Init (subst (Offers c.args.self.now.of.section) c.in-Init.is c.requires.offers)

pub call_named-requires-in-Frame-clause-takes : goal.call_named-requires-in-Frame-clause-takes
call_named-requires-in-Frame-clause-takes g c =
    offered c.args.self.now.of.of c.args.self.now.of.section (subst (λ (r : Running). Valid r.of.of r.of.section) c.self.view_is c.module-module.ensures.valid) entry.Frame (subst (Offers c.args.self.now.of.section) c.in-Frame.is c.requires.offers)

pub call_named-requires-in-Event-clause-takes : goal.call_named-requires-in-Event-clause-takes
call_named-requires-in-Event-clause-takes g c =
    subst (λ name. Takes c.args.self.now.of.of (exported_as name c.args.self.now.of.of.exports) []) (sym c.event_name-name.ensures)
    (offered c.args.self.now.of.of c.args.self.now.of.section (subst (λ (r : Running). Valid r.of.of r.of.section) c.self.view_is c.module-module.ensures.valid) (entry.Event c.in-Event.number) (subst (Offers c.args.self.now.of.section) c.in-Event.is c.requires.offers))

pub call_named-requires-in-Frames-clause-takes : goal.call_named-requires-in-Frames-clause-takes
call_named-requires-in-Frames-clause-takes g c =
    offered c.args.self.now.of.of c.args.self.now.of.section (subst (λ (r : Running). Valid r.of.of r.of.section) c.self.view_is c.module-module.ensures.valid) (entry.Frames c.in-Frames.count) (subst (Offers c.args.self.now.of.section) c.in-Frames.is c.requires.offers)
