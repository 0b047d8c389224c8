use Rattle.std.proofs.Common.{◌≡◌, ◌+◌, ◌≤◌, drop}
use Rattle.pql_reader.specs.Goes.{space_length}
use Rattle.pql_reader.proofs.read.space_length.Given as goal

abbrev pub invariant-loop-byte : goal.invariant-loop-byte
invariant-loop-byte l = record {
  few : l.length ≤ l.byte-index;
  same : l.length + space_length (drop l.byte-index l.bytes) ≡ space_length l.bytes;
}
