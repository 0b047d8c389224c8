use Rattle.std.proofs.Common.{arith}
use Rattle.spool_text.proofs.Pieces.{no_line_in_all}
use Rattle.spool_text.proofs.piece.Piece.front.Goals as goal

pub returns-then-len-ge-MOST_LINE-clause-front : goal.returns-then-len-ge-MOST_LINE-clause-front
returns-then-len-ge-MOST_LINE-clause-front g c = no_line_in_all _ _ (omega arith) c.in-None.ensures.none
