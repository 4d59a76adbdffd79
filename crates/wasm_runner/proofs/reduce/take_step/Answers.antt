-- Each step is the reduction of its instruction.
use Rattle.std.proofs.Common.{◌-◌, arith, refl, ap, ◌∙◌, subst}
use Rattle.std.specs.Prelude.{slice_set, slice_get, slice_index, unwrap_or}
use Rattle.std.specs.Int.{w32, w64, cast_unsigned}
use Rattle.std.proofs.Common.{rules}
use Rattle.std.proofs.lemmas.Int.{to_z-of_z}
use mir.Val.{SFits}
use Rattle.wasm_tree.specs.declared.instr.LabelTable.{LabelTable}
use Rattle.std.proofs.lemmas.Bool.{OnTrue_at, OnFalse_at}
use Rattle.wasm_tree.specs.declared.module.ValType.TheVariants.{I32, I64}
use Rattle.wasm_sound.specs.Kinds.{IsOf}
use Rattle.wasm_runner.proofs.Places.{code_here}
use Rattle.wasm_runner.proofs.Simple as S
use Rattle.wasm_runner.proofs.Variables as V
use Rattle.wasm_runner.proofs.Data as D
use Rattle.wasm_runner.proofs.Control as C
use Rattle.wasm_runner.proofs.Blocks as B
use Rattle.wasm_runner.proofs.reduce.take_step.Goals as goal

pub returns-in-Unreachable : goal.returns-in-Unreachable
returns-in-Unreachable c = λ scope codes callers depth k a. S.unreachable scope codes _ _ depth _ k a (code_here _ _ _ _ c.requires.at c.index-code-at.is c.in-Unreachable.is)

pub returns-in-Nop : goal.returns-in-Nop
returns-in-Nop c = λ scope codes callers depth k a. S.nop scope codes _ _ depth _ k a (code_here _ _ _ _ c.requires.at c.index-code-at.is c.in-Nop.is)

pub enter-requires-clause-room : goal.enter-requires-clause-room
enter-requires-clause-room c = let w = c.requires.there in B.block_room w.scope w.codes _ _ w.depth _ w.c w.is _ c.jump_to-jump.result (code_here _ _ _ _ c.requires.at c.index-code-at.is c.in-Block.is) (c.requires.jumps.each _ _ _ (code_here _ _ _ _ c.requires.at c.index-code-at.is c.in-Block.is) c.jump_to-jump.ensures)

pub enter-requires-in-Loop-clause-room : goal.enter-requires-in-Loop-clause-room
enter-requires-in-Loop-clause-room c = let w = c.requires.there in B.loop_room w.scope w.codes _ _ w.depth _ w.c w.is _ (code_here _ _ _ _ c.requires.at c.index-code-at.is c.in-Loop.is)

pub enter-requires-in-If-clause-room : goal.enter-requires-in-If-clause-room
enter-requires-in-If-clause-room c = let w = c.requires.there in (B.if_there_low w.scope w.codes _ _ w.depth _ w.c w.is _ c.jump_to-jump-in-If.result (code_here _ _ _ _ c.requires.at c.index-code-at.is c.in-If.is) (c.requires.jumps.each _ _ _ (code_here _ _ _ _ c.requires.at c.index-code-at.is c.in-If.is) c.jump_to-jump-in-If.ensures)).1

pub arm-to-requires : goal.arm-to-requires
arm-to-requires c = let w = c.requires.there in (B.if_there_low w.scope w.codes _ _ w.depth _ w.c w.is _ c.jump_to-jump-in-If.result (code_here _ _ _ _ c.requires.at c.index-code-at.is c.in-If.is) (c.requires.jumps.each _ _ _ (code_here _ _ _ _ c.requires.at c.index-code-at.is c.in-If.is) c.jump_to-jump-in-If.ensures)).0

pub overflow_sub-result : goal.overflow_sub-result
overflow_sub-result c = let w = c.requires.there in let h = B.block_room w.scope w.codes _ _ w.depth _ w.c w.is _ c.jump_to-jump.result (code_here _ _ _ _ c.requires.at c.index-code-at.is c.in-Block.is) (c.requires.jumps.each _ _ _ (code_here _ _ _ _ c.requires.at c.index-code-at.is c.in-Block.is) c.jump_to-jump.ensures) in omega arith

pub overflow_sub-result-in-Loop : goal.overflow_sub-result-in-Loop
overflow_sub-result-in-Loop c = let w = c.requires.there in let h = B.loop_room w.scope w.codes _ _ w.depth _ w.c w.is _ (code_here _ _ _ _ c.requires.at c.index-code-at.is c.in-Loop.is) in omega arith

pub overflow_sub-result-in-If : goal.overflow_sub-result-in-If
overflow_sub-result-in-If c = let w = c.requires.there in let h = (B.if_there_low w.scope w.codes _ _ w.depth _ w.c w.is _ c.jump_to-jump-in-If.result (code_here _ _ _ _ c.requires.at c.index-code-at.is c.in-If.is) (c.requires.jumps.each _ _ _ (code_here _ _ _ _ c.requires.at c.index-code-at.is c.in-If.is) c.jump_to-jump-in-If.ensures)).1 in omega arith

pub returns-in-Block : goal.returns-in-Block
returns-in-Block c = λ scope codes callers depth k a. B.block_goes scope codes _ _ depth _ k a _ c.jump_to-jump.result _ _ c.arity_of.ensures (code_here _ _ _ _ c.requires.at c.index-code-at.is c.in-Block.is) (c.requires.jumps.each _ _ _ (code_here _ _ _ _ c.requires.at c.index-code-at.is c.in-Block.is) c.jump_to-jump.ensures) c.enter.ensures

pub returns-in-Loop : goal.returns-in-Loop
returns-in-Loop c = λ scope codes callers depth k a. B.loop_goes scope codes _ _ depth _ k a _ _ (code_here _ _ _ _ c.requires.at c.index-code-at.is c.in-Loop.is) c.enter-in-Loop.ensures

pub returns-in-If : goal.returns-in-If
returns-in-If c = λ scope codes callers depth k a. B.if_goes scope codes _ _ depth _ k a _ c.jump_to-jump-in-If.result _ _ _ c.arity_of-in-If.ensures (code_here _ _ _ _ c.requires.at c.index-code-at.is c.in-If.is) (c.requires.jumps.each _ _ _ (code_here _ _ _ _ c.requires.at c.index-code-at.is c.in-If.is) c.jump_to-jump-in-If.ensures) c.arm-to.ensures.zero c.arm-to.ensures.other c.enter-in-If.ensures

pub returns-in-Else : goal.returns-in-Else
returns-in-Else c = λ scope codes callers depth k a. B.else_goes scope codes _ _ depth _ k a c.jump_to-jump-in-Else.result (code_here _ _ _ _ c.requires.at c.index-code-at.is c.in-Else.is) (c.requires.jumps.each _ _ _ (code_here _ _ _ _ c.requires.at c.index-code-at.is c.in-Else.is) c.jump_to-jump-in-Else.ensures)

pub returns-then-lp-place : goal.returns-then-lp-place
returns-then-lp-place c = λ scope codes callers depth k a. B.end_leaves scope codes _ _ depth _ k a (code_here _ _ _ _ c.requires.at c.index-code-at.is c.in-End.is) c.if-lp-place.true

pub returns-else-lp-place : goal.returns-else-lp-place
returns-else-lp-place c = λ scope codes callers depth k a. B.end_goes scope codes _ _ depth _ k a (code_here _ _ _ _ c.requires.at c.index-code-at.is c.in-End.is) c.if-lp-place.false

pub branch-cells-requires-clause-floor : goal.branch-cells-requires-clause-floor
branch-cells-requires-clause-floor c = let w = c.requires.there in C.floor_up w.scope w.codes _ _ w.depth _ w.c w.is

pub branch-cells-requires-clause-blocks : goal.branch-cells-requires-clause-blocks
branch-cells-requires-clause-blocks c = let w = c.requires.there in C.floor_within w.scope w.codes _ _ w.depth _ w.c w.is

pub branch-cells-requires-clause-takes : goal.branch-cells-requires-clause-takes
branch-cells-requires-clause-takes c = let w = c.requires.there in let f = B.br_finds w.scope w.codes _ _ w.depth _ w.c w.is _ (code_here _ _ _ _ c.requires.at c.index-code-at.is c.in-Br.is) in C.taken_at w.scope w.codes _ _ w.depth _ w.c w.is f.q f.o _ f.vs _ f.b

pub returns-in-Br : goal.returns-in-Br
returns-in-Br c = λ scope codes callers depth k a. let f = B.br_finds scope codes _ _ depth _ k a _ (code_here _ _ _ _ c.requires.at c.index-code-at.is c.in-Br.is) in C.branch_took scope codes _ _ depth _ k a f.q f.o _ f.vs _ f.b _ _ c.branch-cells.ensures.exits c.branch-cells.ensures.bare c.branch-cells.ensures.takes

pub branch-cells-requires-in-BrIf-clause-floor : goal.branch-cells-requires-in-BrIf-clause-floor
branch-cells-requires-in-BrIf-clause-floor c = let w = c.requires.there in C.floor_up w.scope w.codes _ _ w.depth _ w.c w.is

pub branch-cells-requires-in-BrIf-clause-blocks : goal.branch-cells-requires-in-BrIf-clause-blocks
branch-cells-requires-in-BrIf-clause-blocks c = let w = c.requires.there in C.floor_within w.scope w.codes _ _ w.depth _ w.c w.is

pub branch-cells-requires-in-BrIf-clause-takes : goal.branch-cells-requires-in-BrIf-clause-takes
branch-cells-requires-in-BrIf-clause-takes c = let w = c.requires.there in let f = (B.br_ifs w.scope w.codes _ _ w.depth _ w.c w.is _ (code_here _ _ _ _ c.requires.at c.index-code-at.is c.in-BrIf.is)).taken (OnFalse_at c.if-is_zero.false c.is_zero.ensures.no) in C.taken_at w.scope w.codes _ _ w.depth _ w.c w.is f.q f.o _ f.vs _ f.b

pub returns-else-is_zero : goal.returns-else-is_zero
returns-else-is_zero c = λ scope codes callers depth k a. let f = (B.br_ifs scope codes _ _ depth _ k a _ (code_here _ _ _ _ c.requires.at c.index-code-at.is c.in-BrIf.is)).taken (OnFalse_at c.if-is_zero.false c.is_zero.ensures.no) in C.branch_took scope codes _ _ depth _ k a f.q f.o _ f.vs _ f.b _ _ c.branch-cells-in-BrIf.ensures.exits c.branch-cells-in-BrIf.ensures.bare c.branch-cells-in-BrIf.ensures.takes

pub branch-cells-requires-in-BrTable-clause-floor : goal.branch-cells-requires-in-BrTable-clause-floor
branch-cells-requires-in-BrTable-clause-floor c = let w = c.requires.there in C.floor_up w.scope w.codes _ _ w.depth _ w.c w.is

pub branch-cells-requires-in-BrTable-clause-blocks : goal.branch-cells-requires-in-BrTable-clause-blocks
branch-cells-requires-in-BrTable-clause-blocks c = let w = c.requires.there in C.floor_within w.scope w.codes _ _ w.depth _ w.c w.is

pub branch-cells-requires-in-BrTable-clause-takes : goal.branch-cells-requires-in-BrTable-clause-takes
branch-cells-requires-in-BrTable-clause-takes c = let w = c.requires.there in let f = (B.br_tables w.scope w.codes _ _ w.depth _ w.c w.is _ (code_here _ _ _ _ c.requires.at c.index-code-at.is c.in-BrTable.is)).finds _ (c.chosen-label.ensures ∙ ap (λ (t : LabelTable). unwrap_or (slice_get t.labels (slice_index c.args.cells.now c.args.place.sp)) t.other) c.get.ensures) in C.taken_at w.scope w.codes _ _ w.depth _ w.c w.is f.q f.o _ f.vs _ f.b

pub returns-in-BrTable : goal.returns-in-BrTable
returns-in-BrTable c = λ scope codes callers depth k a. let f = (B.br_tables scope codes _ _ depth _ k a _ (code_here _ _ _ _ c.requires.at c.index-code-at.is c.in-BrTable.is)).finds _ (c.chosen-label.ensures ∙ ap (λ (t : LabelTable). unwrap_or (slice_get t.labels (slice_index c.args.cells.now c.args.place.sp)) t.other) c.get.ensures) in C.branch_took scope codes _ _ depth _ k a f.q f.o _ f.vs _ f.b _ _ c.branch-cells-in-BrTable.ensures.exits c.branch-cells-in-BrTable.ensures.bare c.branch-cells-in-BrTable.ensures.takes

pub is_zero-requires : goal.is_zero-requires
is_zero-requires c = let w = c.requires.there in (B.br_ifs w.scope w.codes _ _ w.depth _ w.c w.is _ (code_here _ _ _ _ c.requires.at c.index-code-at.is c.in-BrIf.is)).low

pub chosen-label-requires : goal.chosen-label-requires
chosen-label-requires c = let w = c.requires.there in (B.br_tables w.scope w.codes _ _ w.depth _ w.c w.is _ (code_here _ _ _ _ c.requires.at c.index-code-at.is c.in-BrTable.is)).low

pub returns-then-is_zero : goal.returns-then-is_zero
returns-then-is_zero c = λ scope codes callers depth k a. (B.br_ifs scope codes _ _ depth _ k a _ (code_here _ _ _ _ c.requires.at c.index-code-at.is c.in-BrIf.is)).passes (OnTrue_at c.if-is_zero.true c.is_zero.ensures.yes)

pub returns-in-Return : goal.returns-in-Return
returns-in-Return c = λ scope codes callers depth k a. B.return_leaves scope codes _ _ depth _ k a (code_here _ _ _ _ c.requires.at c.index-code-at.is c.in-Return.is)

pub returns-in-Call : goal.returns-in-Call
returns-in-Call c = λ scope codes callers depth k a. B.calls scope codes _ _ depth _ k a _ (code_here _ _ _ _ c.requires.at c.index-code-at.is c.in-Call.is)

pub returns-in-Drop : goal.returns-in-Drop
returns-in-Drop c = λ scope codes callers depth k a. S.drop_goes scope codes _ _ depth _ k a (code_here _ _ _ _ c.requires.at c.index-code-at.is c.in-Drop.is)

pub select_at-requires : goal.select_at-requires
select_at-requires c = let w = c.requires.there in D.select_there w.scope w.codes _ _ w.depth _ w.c w.is (code_here _ _ _ _ c.requires.at c.index-code-at.is c.in-Select.is)

pub returns-in-Select : goal.returns-in-Select
returns-in-Select c = λ scope codes callers depth k a. D.select_goes scope codes _ _ depth _ k a _ (code_here _ _ _ _ c.requires.at c.index-code-at.is c.in-Select.is) c.select_at.ensures

pub get_local-requires-clause-room : goal.get_local-requires-clause-room
get_local-requires-clause-room c = let w = c.requires.there in (V.local_get_there w.scope w.codes _ _ w.depth _ w.c w.is _ (code_here _ _ _ _ c.requires.at c.index-code-at.is c.in-LocalGet.is)).0

pub get_local-requires-clause-there : goal.get_local-requires-clause-there
get_local-requires-clause-there c = let w = c.requires.there in (V.local_get_there w.scope w.codes _ _ w.depth _ w.c w.is _ (code_here _ _ _ _ c.requires.at c.index-code-at.is c.in-LocalGet.is)).1

pub get_local-requires-clause-base : goal.get_local-requires-clause-base
get_local-requires-clause-base c = let w = c.requires.there in V.base_within w.scope w.codes _ _ w.depth _ w.c w.is

pub overflow_sub-result-in-LocalGet : goal.overflow_sub-result-in-LocalGet
overflow_sub-result-in-LocalGet c = let w = c.requires.there in let h = (V.local_get_there w.scope w.codes _ _ w.depth _ w.c w.is _ (code_here _ _ _ _ c.requires.at c.index-code-at.is c.in-LocalGet.is)).0 in omega arith

pub returns-in-LocalGet : goal.returns-in-LocalGet
returns-in-LocalGet c = λ scope codes callers depth k a. V.local_get_goes scope codes _ _ depth _ k a _ _ (code_here _ _ _ _ c.requires.at c.index-code-at.is c.in-LocalGet.is) c.get_local.ensures

pub set_local-requires-clause-within : goal.set_local-requires-clause-within
set_local-requires-clause-within c = let w = c.requires.there in (V.local_set_there w.scope w.codes _ _ w.depth _ w.c w.is _ (code_here _ _ _ _ c.requires.at c.index-code-at.is c.in-LocalSet.is)).0

pub set_local-requires-clause-there : goal.set_local-requires-clause-there
set_local-requires-clause-there c = let w = c.requires.there in (V.local_set_there w.scope w.codes _ _ w.depth _ w.c w.is _ (code_here _ _ _ _ c.requires.at c.index-code-at.is c.in-LocalSet.is)).1

pub set_local-requires-clause-base : goal.set_local-requires-clause-base
set_local-requires-clause-base c = let w = c.requires.there in V.base_within w.scope w.codes _ _ w.depth _ w.c w.is

pub returns-in-LocalSet : goal.returns-in-LocalSet
returns-in-LocalSet c = λ scope codes callers depth k a. V.local_set_goes scope codes _ _ depth _ k a _ _ (code_here _ _ _ _ c.requires.at c.index-code-at.is c.in-LocalSet.is) c.set_local.ensures

pub set_local-requires-in-LocalTee-clause-within : goal.set_local-requires-in-LocalTee-clause-within
set_local-requires-in-LocalTee-clause-within c = let w = c.requires.there in (V.local_tee_there w.scope w.codes _ _ w.depth _ w.c w.is _ (code_here _ _ _ _ c.requires.at c.index-code-at.is c.in-LocalTee.is)).0

pub set_local-requires-in-LocalTee-clause-there : goal.set_local-requires-in-LocalTee-clause-there
set_local-requires-in-LocalTee-clause-there c = let w = c.requires.there in (V.local_tee_there w.scope w.codes _ _ w.depth _ w.c w.is _ (code_here _ _ _ _ c.requires.at c.index-code-at.is c.in-LocalTee.is)).1

pub set_local-requires-in-LocalTee-clause-base : goal.set_local-requires-in-LocalTee-clause-base
set_local-requires-in-LocalTee-clause-base c = let w = c.requires.there in V.base_within w.scope w.codes _ _ w.depth _ w.c w.is

pub returns-in-LocalTee : goal.returns-in-LocalTee
returns-in-LocalTee c = λ scope codes callers depth k a. V.local_tee_goes scope codes _ _ depth _ k a _ _ (code_here _ _ _ _ c.requires.at c.index-code-at.is c.in-LocalTee.is) c.set_local-in-LocalTee.ensures

pub get_global-requires-clause-room : goal.get_global-requires-clause-room
get_global-requires-clause-room c = let w = c.requires.there in (V.global_get_there w.scope w.codes _ _ w.depth _ w.c w.is _ (code_here _ _ _ _ c.requires.at c.index-code-at.is c.in-GlobalGet.is)).0

pub get_global-requires-clause-there : goal.get_global-requires-clause-there
get_global-requires-clause-there c = let w = c.requires.there in (V.global_get_there w.scope w.codes _ _ w.depth _ w.c w.is _ (code_here _ _ _ _ c.requires.at c.index-code-at.is c.in-GlobalGet.is)).1

pub overflow_sub-result-in-GlobalGet : goal.overflow_sub-result-in-GlobalGet
overflow_sub-result-in-GlobalGet c = let w = c.requires.there in let h = (V.global_get_there w.scope w.codes _ _ w.depth _ w.c w.is _ (code_here _ _ _ _ c.requires.at c.index-code-at.is c.in-GlobalGet.is)).0 in omega arith

pub returns-in-GlobalGet : goal.returns-in-GlobalGet
returns-in-GlobalGet c = λ scope codes callers depth k a. V.global_get_goes scope codes _ _ depth _ k a _ _ (code_here _ _ _ _ c.requires.at c.index-code-at.is c.in-GlobalGet.is) c.get_global.ensures

pub set_global-requires-clause-within : goal.set_global-requires-clause-within
set_global-requires-clause-within c = let w = c.requires.there in (V.global_set_there w.scope w.codes _ _ w.depth _ w.c w.is _ (code_here _ _ _ _ c.requires.at c.index-code-at.is c.in-GlobalSet.is)).0

pub set_global-requires-clause-there : goal.set_global-requires-clause-there
set_global-requires-clause-there c = let w = c.requires.there in (V.global_set_there w.scope w.codes _ _ w.depth _ w.c w.is _ (code_here _ _ _ _ c.requires.at c.index-code-at.is c.in-GlobalSet.is)).1

pub returns-in-GlobalSet : goal.returns-in-GlobalSet
returns-in-GlobalSet c = λ scope codes callers depth k a. V.global_set_goes scope codes _ _ depth _ k a _ _ (code_here _ _ _ _ c.requires.at c.index-code-at.is c.in-GlobalSet.is) c.set_global.ensures

pub load_at-requires-clause-within : goal.load_at-requires-clause-within
load_at-requires-clause-within c = let w = c.requires.there in (D.load_there w.scope w.codes _ _ w.depth _ w.c w.is _ _ (code_here _ _ _ _ c.requires.at c.index-code-at.is c.in-Load.is)).0

pub load_at-requires-clause-address : goal.load_at-requires-clause-address
load_at-requires-clause-address c = let w = c.requires.there in (D.load_there w.scope w.codes _ _ w.depth _ w.c w.is _ _ (code_here _ _ _ _ c.requires.at c.index-code-at.is c.in-Load.is)).1

pub returns-then-load_at : goal.returns-then-load_at
returns-then-load_at c = λ scope codes callers depth k a. D.load_goes scope codes _ _ depth _ k a _ _ _ (code_here _ _ _ _ c.requires.at c.index-code-at.is c.in-Load.is) (OnTrue_at c.if-load_at.true c.load_at.ensures.loads).0 (OnTrue_at c.if-load_at.true c.load_at.ensures.loads).1 (OnTrue_at c.if-load_at.true c.load_at.ensures.fits)

pub returns-else-load_at : goal.returns-else-load_at
returns-else-load_at c = λ scope codes callers depth k a. D.load_traps scope codes _ _ depth _ k a _ _ (code_here _ _ _ _ c.requires.at c.index-code-at.is c.in-Load.is) (OnFalse_at c.if-load_at.false c.load_at.ensures.traps).0

pub store_at-requires-clause-within : goal.store_at-requires-clause-within
store_at-requires-clause-within c = let w = c.requires.there in (D.store_there w.scope w.codes _ _ w.depth _ w.c w.is _ _ (code_here _ _ _ _ c.requires.at c.index-code-at.is c.in-Store.is)).0

pub store_at-requires-clause-address : goal.store_at-requires-clause-address
store_at-requires-clause-address c = let w = c.requires.there in (D.store_there w.scope w.codes _ _ w.depth _ w.c w.is _ _ (code_here _ _ _ _ c.requires.at c.index-code-at.is c.in-Store.is)).1

pub returns-then-store_at : goal.returns-then-store_at
returns-then-store_at c = λ scope codes callers depth k a. D.store_two scope codes _ _ depth _ k a _ _ _ (code_here _ _ _ _ c.requires.at c.index-code-at.is c.in-Store.is) (OnTrue_at c.if-store_at.true c.store_at.ensures.stores).0 (OnTrue_at c.if-store_at.true c.store_at.ensures.stores).1

pub returns-else-store_at : goal.returns-else-store_at
returns-else-store_at c = λ scope codes callers depth k a. D.store_traps scope codes _ _ depth _ k a _ _ (code_here _ _ _ _ c.requires.at c.index-code-at.is c.in-Store.is) (OnFalse_at c.if-store_at.false c.store_at.ensures.traps).0

pub push-requires-clause-room : goal.push-requires-clause-room
push-requires-clause-room c = let w = c.requires.there in D.size_there w.scope w.codes _ _ w.depth _ w.c w.is (code_here _ _ _ _ c.requires.at c.index-code-at.is c.in-MemorySize.is)

pub overflow_sub-result-in-MemorySize : goal.overflow_sub-result-in-MemorySize
overflow_sub-result-in-MemorySize c = let w = c.requires.there in let h = D.size_there w.scope w.codes _ _ w.depth _ w.c w.is (code_here _ _ _ _ c.requires.at c.index-code-at.is c.in-MemorySize.is) in omega arith

pub returns-in-MemorySize : goal.returns-in-MemorySize
returns-in-MemorySize c = λ scope codes callers depth k a. D.size_goes scope codes _ _ depth _ k a _ (code_here _ _ _ _ c.requires.at c.index-code-at.is c.in-MemorySize.is) c.push.ensures

pub push-requires-in-I32Const-clause-room : goal.push-requires-in-I32Const-clause-room
push-requires-in-I32Const-clause-room c = let f : SFits w32 c.in-I32Const.value = search rules in let w = c.requires.there in D.const32_there w.scope w.codes _ _ w.depth _ w.c w.is _ (code_here _ _ _ _ c.requires.at c.index-code-at.is c.in-I32Const.is) (subst (λ x. IsOf I32 x) (c.bits32-bits.ensures.value ∙ ap (cast_unsigned w32) (to_z-of_z w32 c.in-I32Const.value f)) c.bits32-bits.ensures.fits)

pub overflow_sub-result-in-I32Const : goal.overflow_sub-result-in-I32Const
overflow_sub-result-in-I32Const c = let f : SFits w32 c.in-I32Const.value = search rules in let w = c.requires.there in let h = D.const32_there w.scope w.codes _ _ w.depth _ w.c w.is _ (code_here _ _ _ _ c.requires.at c.index-code-at.is c.in-I32Const.is) (subst (λ x. IsOf I32 x) (c.bits32-bits.ensures.value ∙ ap (cast_unsigned w32) (to_z-of_z w32 c.in-I32Const.value f)) c.bits32-bits.ensures.fits) in omega arith

pub returns-in-I32Const : goal.returns-in-I32Const
returns-in-I32Const c = let f : SFits w32 c.in-I32Const.value = search rules in λ scope codes callers depth k a. (refl, D.const32_goes scope codes _ _ depth _ k a _ _ (code_here _ _ _ _ c.requires.at c.index-code-at.is c.in-I32Const.is) (subst (λ x. IsOf I32 x) (c.bits32-bits.ensures.value ∙ ap (cast_unsigned w32) (to_z-of_z w32 c.in-I32Const.value f)) c.bits32-bits.ensures.fits) (c.push-in-I32Const.ensures ∙ ap (λ z. slice_set c.args.cells.now (c.args.place.sp - 1) z) (c.bits32-bits.ensures.value ∙ ap (cast_unsigned w32) (to_z-of_z w32 c.in-I32Const.value f))))

pub push-requires-in-I64Const-clause-room : goal.push-requires-in-I64Const-clause-room
push-requires-in-I64Const-clause-room c = let f : SFits w64 c.in-I64Const.value = search rules in let w = c.requires.there in D.const64_there w.scope w.codes _ _ w.depth _ w.c w.is _ (code_here _ _ _ _ c.requires.at c.index-code-at.is c.in-I64Const.is) (subst (λ x. IsOf I64 x) (c.bits64-bits.ensures.value ∙ ap (cast_unsigned w64) (to_z-of_z w64 c.in-I64Const.value f)) c.bits64-bits.ensures.fits)

pub overflow_sub-result-in-I64Const : goal.overflow_sub-result-in-I64Const
overflow_sub-result-in-I64Const c = let f : SFits w64 c.in-I64Const.value = search rules in let w = c.requires.there in let h = D.const64_there w.scope w.codes _ _ w.depth _ w.c w.is _ (code_here _ _ _ _ c.requires.at c.index-code-at.is c.in-I64Const.is) (subst (λ x. IsOf I64 x) (c.bits64-bits.ensures.value ∙ ap (cast_unsigned w64) (to_z-of_z w64 c.in-I64Const.value f)) c.bits64-bits.ensures.fits) in omega arith

pub returns-in-I64Const : goal.returns-in-I64Const
returns-in-I64Const c = let f : SFits w64 c.in-I64Const.value = search rules in λ scope codes callers depth k a. (refl, D.const64_goes scope codes _ _ depth _ k a _ _ (code_here _ _ _ _ c.requires.at c.index-code-at.is c.in-I64Const.is) (subst (λ x. IsOf I64 x) (c.bits64-bits.ensures.value ∙ ap (cast_unsigned w64) (to_z-of_z w64 c.in-I64Const.value f)) c.bits64-bits.ensures.fits) (c.push-in-I64Const.ensures ∙ ap (λ z. slice_set c.args.cells.now (c.args.place.sp - 1) z) (c.bits64-bits.ensures.value ∙ ap (cast_unsigned w64) (to_z-of_z w64 c.in-I64Const.value f))))

pub test_at-requires : goal.test_at-requires
test_at-requires c = let w = c.requires.there in (S.test_there w.scope w.codes _ _ w.depth _ w.c w.is _ (code_here _ _ _ _ c.requires.at c.index-code-at.is c.in-Test.is)).0

pub returns-in-Test : goal.returns-in-Test
returns-in-Test c = λ scope codes callers depth k a. S.test_goes scope codes _ _ depth _ k a _ _ (code_here _ _ _ _ c.requires.at c.index-code-at.is c.in-Test.is) c.test_at.ensures.value c.test_at.ensures.fits

pub compare_at-requires-clause-within : goal.compare_at-requires-clause-within
compare_at-requires-clause-within c = let w = c.requires.there in (S.compare_there w.scope w.codes _ _ w.depth _ w.c w.is _ _ (code_here _ _ _ _ c.requires.at c.index-code-at.is c.in-Compare.is)).0

pub compare_at-requires-clause-first : goal.compare_at-requires-clause-first
compare_at-requires-clause-first c = let w = c.requires.there in (S.compare_there w.scope w.codes _ _ w.depth _ w.c w.is _ _ (code_here _ _ _ _ c.requires.at c.index-code-at.is c.in-Compare.is)).1

pub compare_at-requires-clause-second : goal.compare_at-requires-clause-second
compare_at-requires-clause-second c = let w = c.requires.there in (S.compare_there w.scope w.codes _ _ w.depth _ w.c w.is _ _ (code_here _ _ _ _ c.requires.at c.index-code-at.is c.in-Compare.is)).2

pub returns-in-Compare : goal.returns-in-Compare
returns-in-Compare c = λ scope codes callers depth k a. S.compare_goes scope codes _ _ depth _ k a _ _ _ (code_here _ _ _ _ c.requires.at c.index-code-at.is c.in-Compare.is) c.compare_at.ensures.value c.compare_at.ensures.fits

pub unary_at-requires-clause-within : goal.unary_at-requires-clause-within
unary_at-requires-clause-within c = let w = c.requires.there in (S.unary_there w.scope w.codes _ _ w.depth _ w.c w.is _ _ (code_here _ _ _ _ c.requires.at c.index-code-at.is c.in-Unary.is)).0

pub unary_at-requires-clause-first : goal.unary_at-requires-clause-first
unary_at-requires-clause-first c = let w = c.requires.there in (S.unary_there w.scope w.codes _ _ w.depth _ w.c w.is _ _ (code_here _ _ _ _ c.requires.at c.index-code-at.is c.in-Unary.is)).1

pub returns-in-Unary : goal.returns-in-Unary
returns-in-Unary c = λ scope codes callers depth k a. S.unary_goes scope codes _ _ depth _ k a _ _ _ (code_here _ _ _ _ c.requires.at c.index-code-at.is c.in-Unary.is) c.unary_at.ensures.value c.unary_at.ensures.fits

pub binary_at-requires-clause-within : goal.binary_at-requires-clause-within
binary_at-requires-clause-within c = let w = c.requires.there in (S.binary_there w.scope w.codes _ _ w.depth _ w.c w.is _ _ (code_here _ _ _ _ c.requires.at c.index-code-at.is c.in-Binary.is)).0

pub binary_at-requires-clause-first : goal.binary_at-requires-clause-first
binary_at-requires-clause-first c = let w = c.requires.there in (S.binary_there w.scope w.codes _ _ w.depth _ w.c w.is _ _ (code_here _ _ _ _ c.requires.at c.index-code-at.is c.in-Binary.is)).1

pub binary_at-requires-clause-second : goal.binary_at-requires-clause-second
binary_at-requires-clause-second c = let w = c.requires.there in (S.binary_there w.scope w.codes _ _ w.depth _ w.c w.is _ _ (code_here _ _ _ _ c.requires.at c.index-code-at.is c.in-Binary.is)).2

pub returns-then-binary_at : goal.returns-then-binary_at
returns-then-binary_at c = λ scope codes callers depth k a. let g = OnTrue_at c.if-binary_at.true c.binary_at.ensures.gives in S.binary_goes scope codes _ _ depth _ k a _ _ g.0 _ (code_here _ _ _ _ c.requires.at c.index-code-at.is c.in-Binary.is) g.1 g.2 g.3

pub returns-else-binary_at : goal.returns-else-binary_at
returns-else-binary_at c = λ scope codes callers depth k a. S.binary_traps scope codes _ _ depth _ k a _ _ (code_here _ _ _ _ c.requires.at c.index-code-at.is c.in-Binary.is) (OnFalse_at c.if-binary_at.false c.binary_at.ensures.traps)

pub convert_at-requires-clause-within : goal.convert_at-requires-clause-within
convert_at-requires-clause-within c = let w = c.requires.there in (S.convert_there w.scope w.codes _ _ w.depth _ w.c w.is _ (code_here _ _ _ _ c.requires.at c.index-code-at.is c.in-Convert.is)).0

pub convert_at-requires-clause-first : goal.convert_at-requires-clause-first
convert_at-requires-clause-first c = let w = c.requires.there in (S.convert_there w.scope w.codes _ _ w.depth _ w.c w.is _ (code_here _ _ _ _ c.requires.at c.index-code-at.is c.in-Convert.is)).1

pub returns-in-Convert : goal.returns-in-Convert
returns-in-Convert c = λ scope codes callers depth k a. S.convert_goes scope codes _ _ depth _ k a _ _ (code_here _ _ _ _ c.requires.at c.index-code-at.is c.in-Convert.is) c.convert_at.ensures.value c.convert_at.ensures.fits
