use Rattle.spool_text.proofs.StampBytes.{not_utf8_is_no_stamp}
use Rattle.spool_text.proofs.first_line.read_moment.Goals as goal

pub returns-in-Err : goal.returns-in-Err
returns-in-Err c = not_utf8_is_no_stamp c.args.text.now c.in-Err.ensures.cases.0
