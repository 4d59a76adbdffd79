use Rattle.std.proofs.Common.{◌≡◌, ◌+◌, ◌∙◌, ◌∷◌, [], refl, sym, subst, arith}
use Rattle.std.specs.Prelude.{codes}
use Rattle.cm_base.specs.Players.{stops}
use Rattle.wasm_tree.specs.HostRun.{module_player}
use Rattle.wasm_tree.specs.Instance.{funcs_of, call_of}
use Rattle.wasm_tree.specs.Reduce.{exec}
use Rattle.module_player.specs.Coming.{Comes, block_of, stop_of_block}
use Rattle.module_player.proofs.Called.{offered, ended_done}
use Rattle.module_player.proofs.HeardBlocks.{block_heard}
use Rattle.module_player.proofs.Hosts.{counts_of, keeps}
use Rattle.module_player.proofs.calls.call_marked.Goals as goal

pub block_came-requires : goal.block_came-requires
block_came-requires g c =
    let runner = c.args.runner.now in
    let host = c.args.host.now in
    let run = exec (funcs_of runner.of.of) c.args.steps (call_of runner.of.of (codes "frames") (c.args.count ∷ []) runner.globals runner.memory) in
    let kept = keeps g.T.Teller.tells (funcs_of runner.of.of) c.args.steps run host c.call-ended.result c.call-ended.new.self.globals c.call-ended.new.self.memory c.call-ended.new.host c.call-ended.ensures.follows in
    let s = kept.sum in
    let o = (offered runner.of.section.interface c.args.count c.requires.offers).some in
    let m : host.marks ≡ c.args.count = c.requires.marks in
    omega arith

pub returns : goal.returns
returns g c =
    let runner = c.args.runner.now in
    let host = c.args.host.now in
    let run = exec (funcs_of runner.of.of) c.args.steps (call_of runner.of.of (codes "frames") (c.args.count ∷ []) runner.globals runner.memory) in
    let kept = keeps g.T.Teller.tells (funcs_of runner.of.of) c.args.steps run host c.call-ended.result c.call-ended.new.self.globals c.call-ended.new.self.memory c.call-ended.new.host c.call-ended.ensures.follows in
    let o = offered runner.of.section.interface c.args.count c.requires.offers in
    let block = block_of runner.of c.args.count runner.globals runner.memory in
    record {
      told = λ instance inputs more rest long.
          let count : c.args.count ≡ host.entry + host.marks = (let m : host.marks ≡ c.args.count = c.requires.marks in let e : host.entry ≡ 0 = c.requires.entry in omega arith) in
          subst (λ w. Comes g.T.Teller.tells instance.trace (stops (module_player runner.of.of runner.of.section) c.args.steps rest) (stop_of_block runner.of c.args.steps host.frame block inputs more rest instance) host.teller.now
          w c.call-ended.new.self.globals c.call-ended.new.self.memory instance.current c.call-ended.new.host.teller.now) (sym c.block_came.ensures)
          (block_heard g.T.Teller.tells runner.of c.args.steps o.size o.is rest (counts_of host) run host c.call-ended.result c.call-ended.new.self.globals c.call-ended.new.self.memory c.call-ended.new.host c.call-ended.ensures.follows
          c.requires.slots refl inputs more (c.requires.marks ∙ sym long) block (sym c.requires.entry) count instance instance.trace);
      same = c.call-ended.ensures.same;
      dead = λ is. c.call-ended.ensures.dead (ended_done c.call-ended.result c.call-ended.new.host.marks c.call-ended.new.host.frame (sym c.block_came.ensures ∙ is));
      slots = kept.slots;
      outputs = kept.outputs;
      teller = kept.teller;
    }
