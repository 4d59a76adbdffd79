-- Types where they stand.
use Rattle.cm_core.specs.declared.core_type.CoreType.{CoreType}
use Rattle.type_places.specs.declared.type_view.TypeView.{TypeView}

-- the type that is viewed
abbrev pub viewed : TypeView → CoreType
viewed v = record { base = v.base; lengths = v.lengths.now }
