-- The words that clauses use for the source and the sink in memory.
use Rattle.std.specs.Prelude.{ℕ, List, drop}
use Rattle.port_memory.specs.declared.source.MemorySource.{MemorySource}
use Rattle.port_memory.specs.declared.sink.MemorySink.{MemorySink}

-- the bytes that are still unread
abbrev pub bytes_left : MemorySource → List ℕ
bytes_left s = drop s.at s.bytes

-- the numbers of the calls that fail
abbrev pub source_fails : MemorySource → List ℕ
source_fails s = s.fail

abbrev pub source_calls : MemorySource → ℕ
source_calls s = s.calls

abbrev pub source_faults : MemorySource → ℕ
source_faults s = s.faults

-- the bytes that the sink took
abbrev pub bytes_held : MemorySink → List ℕ
bytes_held s = s.bytes.items

-- the numbers of the calls that fail
abbrev pub sink_fails : MemorySink → List ℕ
sink_fails s = s.fail

abbrev pub sink_calls : MemorySink → ℕ
sink_calls s = s.calls

abbrev pub sink_faults : MemorySink → ℕ
sink_faults s = s.faults

-- how many calls failed for lack of memory
abbrev pub sink_starved : MemorySink → ℕ
sink_starved s = s.starved
