use Rattle.std.proofs.Common.{◌≡◌, drop}
use Rattle.saved_state.specs.Finals.{after_settings}
use Rattle.saved_state.proofs.finals.replace_each.Given as goal

-- with the settings that are left it is the whole
abbrev pub invariant-loop-setting : goal.invariant-loop-setting
invariant-loop-setting l = after_settings (drop l.setting-index l.settings) l.now.items ≡ after_settings l.settings l.fn.now.items
