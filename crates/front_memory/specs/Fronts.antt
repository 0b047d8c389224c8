-- The words that clauses use for a front in memory.
use Rattle.std.specs.Prelude.{ℕ, List, length, map, Option, Some}
use Rattle.port_memory.specs.Streams.{bytes_left, bytes_held, source_faults, sink_faults}
use Rattle.port_memory.specs.declared.source.MemorySource.{MemorySource}
use Rattle.port_memory.specs.declared.sink.MemorySink.{MemorySink}
use Rattle.front_port.specs.declared.front.Link.{Link}
use Rattle.front_port.specs.Links.{Given}
use Rattle.front_memory.specs.declared.front.MemoryFront.{MemoryFront}

-- the port of the last successful call of `listen`
abbrev pub listens_of : MemoryFront → Option ℕ
listens_of front = front.port

-- the incoming bytes of each link that is left
abbrev pub links_left : MemoryFront → List (List ℕ)
links_left front = front.coming.items

-- how many links were handed out
abbrev pub links_out : MemoryFront → ℕ
links_out front = length front.handed_out.items

-- the links that were given back, each as it was then
abbrev pub links_given : MemoryFront → List (Link MemorySource MemorySink)
links_given front = map (λ entry. entry.0) front.given_back.items

abbrev pub given : Link MemorySource MemorySink → Given
given link = record { left = Some (bytes_left link.incoming); held = Some (bytes_held link.outgoing); read_faults = source_faults link.incoming; write_faults = sink_faults link.outgoing }

-- the numbers of the calls that fail
abbrev pub fails_of : MemoryFront → List ℕ
fails_of front = front.fail

abbrev pub calls_of : MemoryFront → ℕ
calls_of front = front.calls

abbrev pub faults_of : MemoryFront → ℕ
faults_of front = front.faults

-- how many links were given back but not kept, for lack of memory
abbrev pub lost_of : MemoryFront → ℕ
lost_of front = front.lost
