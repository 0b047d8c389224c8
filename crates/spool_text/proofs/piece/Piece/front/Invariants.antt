use Rattle.std.proofs.Common.{◌≡◌, ◌-◌, length}
use Rattle.std.specs.Io.KnownBytes.{Keeps, prepend_known}
use Rattle.spool_text.specs.Unread.{buffered}
use Rattle.std.specs.Vec.{vec_len}
use Rattle.spool_text.proofs.piece.Piece.front.Given as goal

abbrev pub invariant-reading : goal.invariant-reading
invariant-reading g l = record {
  kept : Keeps (prepend_known (buffered l.fn.self) (g.S.Source.left l.fn.source)) (prepend_known (buffered l.self) (g.S.Source.left l.source));
  room : vec_len l.self.bytes ≡ vec_len l.fn.self.bytes;
  later : g.S.Source.fault_count l.source ≡ g.S.Source.fault_count l.fn.source;
}

abbrev pub decreases-reading : goal.decreases-reading
decreases-reading g l = 201 - length (buffered l.self)
