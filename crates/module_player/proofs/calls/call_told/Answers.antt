use Rattle.std.proofs.Common.{refl}
use Rattle.wasm_tree.specs.Instance.{funcs_of, call_of}
use Rattle.wasm_tree.specs.Reduce.{exec}
use Rattle.wasm_runner.specs.Exporting.{name_of, given_to}
use Rattle.module_player.proofs.HeardCalls.{call_heard}
use Rattle.module_player.proofs.Hosts.{counts_of, keeps}
use Rattle.module_player.proofs.calls.call_told.Goals as goal

pub returns : goal.returns
returns g c =
    let runner = c.args.runner.now in
    let host = c.args.host.now in
    let run = exec (funcs_of runner.of.of) c.args.steps (call_of runner.of.of (name_of c.args.export) (given_to c.args.export) runner.globals runner.memory) in
    let kept = keeps g.T.Teller.tells (funcs_of runner.of.of) c.args.steps run host c.call.result c.call.new.self.globals c.call.new.self.memory c.call.new.host c.call.ensures.follows in
    record {
      told = λ trace. call_heard g.T.Teller.tells (funcs_of runner.of.of) c.args.steps runner.of.section.slots (counts_of host) run host c.call.result c.call.new.self.globals c.call.new.self.memory c.call.new.host
          c.call.ensures.follows c.requires.slots refl c.requires.marks trace;
      same = c.call.ensures.same;
      live = c.call.ensures.live;
      dead = c.call.ensures.dead;
      slots = kept.slots;
      outputs = kept.outputs;
      teller = kept.teller;
    }
