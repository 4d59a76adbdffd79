-- Worked rows of the definitions.
use Rattle.std.proofs.Common.{◌≡◌, [], ◌∷◌, ◌++◌, codes, None, Some, refl, pos, negsuc}
use Rattle.cm_base.specs.declared.host.Scalar.TheVariants.{Int32}
use Rattle.cm_base.specs.declared.host.Flow.TheVariants.{Input}
use Rattle.cm_base.specs.declared.host.Kind.TheVariants as kinds
use Rattle.cm_base.specs.declared.host.HostEnd.{HostEnd}
use Rattle.cm_number.specs.Conversion.{nearest}
use Rattle.saved_state.specs.Applied.{values_of, state_with}
use Rattle.saved_state.specs.Version2.{count_bytes, value_bytes, scalar_bytes, state_bytes}

level : HostEnd
level = record { flow = Input; kind = kinds.Stream; name = codes "in"; shape = Int32 ∷ []; parameter = None }

gain : HostEnd
gain = record { flow = Input; kind = kinds.Value; name = codes "gain"; shape = Int32 ∷ []; parameter = Some (record { min = negsuc 9; max = pos 10; init = pos 1 }) }

-- the first value of the name, held in the range
first_and_held : values_of (level ∷ gain ∷ []) (record { name = codes "in"; value = pos 5 } ∷ record { name = codes "gain"; value = pos 99 } ∷ record { name = codes "gain"; value = pos 2 } ∷ []) ≡ pos 10 ∷ []
unfolding level gain nearest
first_and_held = refl

not_saved : values_of (level ∷ gain ∷ []) [] ≡ pos 1 ∷ []
unfolding level gain nearest
not_saved = refl

-- -1 for `gain`, a module of one byte, a memory of one, and one global
written : state_bytes (state_with (level ∷ gain ∷ []) (negsuc 0 ∷ []) (97 ∷ []) (record { memory = 8 ∷ []; globals = pos 3 ∷ []; current = [] }))
    ≡ codes "CMS2" ++ (1 ∷ 0 ∷ 0 ∷ 0 ∷ 4 ∷ 0 ∷ 0 ∷ 0 ∷ [] ++ (codes "gain" ++ (255 ∷ 255 ∷ 255 ∷ 255 ∷ 1 ∷ 0 ∷ 0 ∷ 0 ∷ 97 ∷ 1 ∷ 0 ∷ 0 ∷ 0 ∷ 8 ∷ 1 ∷ 0 ∷ 0 ∷ 0 ∷ 3 ∷ 0 ∷ 0 ∷ 0 ∷ 0 ∷ 0 ∷ 0 ∷ 0 ∷ 0 ∷ 0 ∷ 0 ∷ 0 ∷ [])))
unfolding level gain count_bytes value_bytes scalar_bytes
written = refl
