use Rattle.std.proofs.Common.{arith, subst}
use Rattle.spool_text.specs.Unread.{HasNoLine}
use Rattle.spool_text.proofs.Pieces.{no_line_to_end, no_line_in_reach}
use Rattle.spool_text.proofs.piece.Piece.find_line.Goals as goal

pub returns-after-looking-clause-none : goal.returns-after-looking-clause-none
returns-after-looking-clause-none c =
    subst HasNoLine c.as_slice-bytes.ensures (no_line_to_end c.as_slice-bytes.result.now c.looking.at c.looking.invariant.no_feed (omega arith) (omega arith))

pub returns-else-at-lt-MOST_LINE-clause-none : goal.returns-else-at-lt-MOST_LINE-clause-none
returns-else-at-lt-MOST_LINE-clause-none c =
    subst HasNoLine c.as_slice-bytes.ensures (no_line_in_reach c.as_slice-bytes.result.now c.looking.at c.looking.invariant.no_feed (omega arith) (omega arith))
