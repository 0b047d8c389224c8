use Rattle.std.proofs.Common.{refl}
use Rattle.spool_text.specs.Unread.{buffered}
use Rattle.spool_text.proofs.Pieces.{another_byte, no_byte, stops_here}
use Rattle.spool_text.proofs.piece.Piece.take_feed.Goals as goal

pub returns-in-Ended-clause-feed : goal.returns-in-Ended-clause-feed
returns-in-Ended-clause-feed g c = no_byte _ _ c.in-Ended.ensures.bytes.0 c.in-Ended.ensures.bytes.1

pub returns-else-byte-eq10-clause-feed : goal.returns-else-byte-eq10-clause-feed
returns-else-byte-eq10-clause-feed g c =
    another_byte _ _ c.fill.new.into c.in-Bytes.field-0 c.in-Bytes.ensures.bytes.0 c.in-Bytes.ensures.bytes.1 c.in-Bytes.ensures.bytes.2 c.if-byte-eq10.false

pub returns-in-Failed-clause-fault : goal.returns-in-Failed-clause-fault
returns-in-Failed-clause-fault g c = λ _. stops_here _ _ (buffered c.fill.new.self) c.in-Failed.ensures.bytes (c.in-Failed.ensures.none refl)
