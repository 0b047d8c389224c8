-- The words that clauses use for a front over TCP. Contracts know nothing of the bytes on its connections.
use Rattle.std.specs.Prelude.{ℕ, List, length, map, Option, None}
use Rattle.front_port.specs.Links.{Given}
use Rattle.front_tcp.specs.declared.halves.TcpIncoming.{TcpIncoming}
use Rattle.front_tcp.specs.declared.halves.TcpOutgoing.{TcpOutgoing}
use Rattle.front_tcp.specs.declared.front.TcpFront.{TcpFront}

abbrev pub read_faults_of : TcpIncoming → ℕ
read_faults_of incoming = incoming.faults

abbrev pub write_faults_of : TcpOutgoing → ℕ
write_faults_of outgoing = outgoing.faults

abbrev pub given : TcpIncoming → TcpOutgoing → Given
given incoming outgoing = record { left = None; held = None; read_faults = read_faults_of incoming; write_faults = write_faults_of outgoing }

-- the port of the last successful call of `listen`
abbrev pub listens_of : TcpFront → Option ℕ
listens_of front = front.port

-- how many links were handed out
abbrev pub links_out : TcpFront → ℕ
links_out front = length front.handed_out.items

-- the links that were given back
abbrev pub links_back : TcpFront → List Given
links_back front = map (λ halves. given halves.0 halves.1) front.given_back.items

abbrev pub faults_of : TcpFront → ℕ
faults_of front = front.faults
