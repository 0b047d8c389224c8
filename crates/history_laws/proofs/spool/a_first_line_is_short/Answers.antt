use Rattle.history_laws.proofs.FirstLines.{first_lines_are_short}
use Rattle.history_laws.proofs.spool.a_first_line_is_short.Goals as goal

pub returns : goal.returns
returns c = first_lines_are_short
