use Rattle.std.proofs.Common.{◌≡◌, ◌+◌, List, subst, sym, length, rules}
use Rattle.wasm_tree.specs.declared.module.ExportEntry.{ExportEntry}
use Rattle.wasm_tree.specs.Host.{exported_functions}
use Rattle.cm_base.specs.HostEnds.{AreDistinct}
use Rattle.wasm_valid.specs.Exported.{entry_names, TellsMemory, TellsFunctions}
use Rattle.wasm_valid.specs.declared.exports.Found.TheVariants as found
use Rattle.wasm_valid.proofs.ExportLemmas.{memory_missing, function_missing, exports_same, exports_other}
use Rattle.wasm_valid.proofs.exports.joined.Goals as goal

pub returns-then-eq : goal.returns-then-eq
returns-then-eq c = λ m section same events memory functions.
    let is : c.args.memory ≡ found.Missing = search rules in
    memory_missing m section (subst (TellsMemory m) is memory)

pub returns-then-eq-2 : goal.returns-then-eq-2
returns-then-eq-2 c = λ m section same events memory functions.
    let is : c.args.functions ≡ found.Missing = search rules in
    function_missing m section (subst (TellsFunctions m (exported_functions section)) is functions)

pub returns-then-are_all : goal.returns-then-are_all
returns-then-are_all c = λ m section same events memory functions.
    let all = c.are_all.ensures.0 c.if-are_all.true in
    exports_same m section c.args.events events (subst (TellsMemory m) all.0 memory) (subst (TellsFunctions m (exported_functions section)) all.1 functions)
    (subst (λ (l : List ExportEntry). AreDistinct (entry_names l)) (sym same) all.2) (subst (λ (l : List ExportEntry). length l ≡ c.args.events + 3) (sym same) all.3)

pub returns : goal.returns
returns c = λ m section same events memory functions.
    exports_other m section c.args.events c.args.memory c.args.functions events (search rules) (search rules) memory functions
    (λ a b distinct count.
    let told = c.are_all.ensures.1 (a, b, subst (λ (l : List ExportEntry). AreDistinct (entry_names l)) same distinct, subst (λ (l : List ExportEntry). length l ≡ c.args.events + 3) same count) in
    cc (told, c.if-are_all.false))
