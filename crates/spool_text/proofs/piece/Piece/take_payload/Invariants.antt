use Rattle.std.proofs.Common.{◌≤◌, ◌≡◌, ◌-◌, take}
use Rattle.std.specs.Io.KnownBytes.{Consumes, prepend_known}
use Rattle.spool_text.specs.Unread.{buffered}
use Rattle.std.specs.Vec.{vec_len}
use Rattle.spool_text.proofs.piece.Piece.take_payload.Given as goal

abbrev pub invariant-filling : goal.invariant-filling
invariant-filling g l = record {
  taken : Consumes (prepend_known (buffered l.fn.self) (g.S.Source.left l.fn.source)) (prepend_known (buffered l.self) (g.S.Source.left l.source)) (take l.filled l.payload.items);
  size : vec_len l.payload ≡ l.size;
  filled : l.filled ≤ l.size;
  room : vec_len l.self.bytes ≡ vec_len l.fn.self.bytes;
  later : g.S.Source.fault_count l.source ≡ g.S.Source.fault_count l.fn.source;
}

abbrev pub decreases-filling : goal.decreases-filling
decreases-filling g l = l.size - l.filled
