-- The answers of a sink, each with a fact that stands with it.
use Rattle.cm_io.specs.declared.sink.Put.{Put}
use Rattle.cm_io.specs.declared.sink.Put.TheVariants.{Ok as Done, Failed, NoMemory}

-- a fact where a piece was taken
abbrev pub OnPut : Put → Type 0 → Type 0
OnPut Done P = P
OnPut Failed P = Unit {0}
OnPut NoMemory P = Unit {0}

-- a fact where a piece failed
abbrev pub OnPutFailed : Put → Type 0 → Type 0
OnPutFailed Done P = Unit {0}
OnPutFailed Failed P = P
OnPutFailed NoMemory P = Unit {0}

-- a fact where a piece lacked memory
abbrev pub OnPutNoMemory : Put → Type 0 → Type 0
OnPutNoMemory Done P = Unit {0}
OnPutNoMemory Failed P = Unit {0}
OnPutNoMemory NoMemory P = P
