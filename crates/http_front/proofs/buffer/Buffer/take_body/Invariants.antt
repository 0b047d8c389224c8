use Rattle.std.proofs.Common.{◌⊎◌, ◌+◌, ◌<◌, length, ◌≤◌, ◌≡◌, ◌-◌, take}
use Rattle.std.specs.Io.KnownBytes.{Consumes}
use Rattle.std.specs.Vec.{vec_len}
use Rattle.http_front.specs.Inside.{buffered, unread}
use Rattle.http_front.proofs.buffer.Buffer.take_body.Given as goal
use Rattle.http_spec.specs.Limits.{most_link}

abbrev pub invariant-filling : goal.invariant-filling
invariant-filling g l = record {
  gone : Consumes (unread l.fn.self l.fn.taken (g.L.Source.left l.fn.link)) (unread l.self l.taken (g.L.Source.left l.link)) (take l.filled l.body.items);
  asks : ((l.link ≡ l.fn.link) × (l.filled + length (buffered l.self) ≡ length (buffered l.fn.self))) ⊎ (length (buffered l.fn.self) < l.size);
  size : vec_len l.body ≡ l.size;
  filled : l.filled ≤ l.size;
  room : vec_len l.self.bytes ≡ vec_len l.fn.self.bytes;
  within : l.taken ≤ most_link;
  later : g.L.Source.fault_count l.link ≡ g.L.Source.fault_count l.fn.link;
}

abbrev pub decreases-filling : goal.decreases-filling
decreases-filling g l = l.size - l.filled
