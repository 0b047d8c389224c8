use Rattle.wire_laws.proofs.KeptOnce.{each_text_stays_once}
use Rattle.wire_laws.proofs.table.each_tag_stays_once_in_order.Goals as goal

pub returns : goal.returns
returns c = each_text_stays_once
