-- The hasher that keys make.
use Rattle.std.specs.RandomState.{initial_hasher}
use Rattle.std.specs.declared.hash.DefaultHasher.{DefaultHasher}
use Rattle.std.specs.Hash.DefaultHasher.{initial}
use Rattle.pattern_port.specs.declared.keys.Keys.{Keys}
use Rattle.pattern_port.specs.declared.keys.Keys.TheVariants.{Fixed, Drawn}

abbrev pub hasher_of_keys : Keys → DefaultHasher
hasher_of_keys Fixed = initial
hasher_of_keys (Drawn state) = initial_hasher state
