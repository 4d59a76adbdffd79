use Rattle.wasm_valid.proofs.SoundModules.{valid_scope, call_sound}
use Rattle.wasm_valid.proofs.laws.valid_is_sound.Goals as goal

pub returns-clause-scope : goal.returns-clause-scope
returns-clause-scope c = λ m section valid. valid_scope m section valid

pub returns-clause-begins : goal.returns-clause-begins
returns-clause-begins c = λ m section config valid call. call_sound m section valid config call
