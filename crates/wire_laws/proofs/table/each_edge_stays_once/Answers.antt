use Rattle.wire_laws.proofs.KeptOnce.{each_edge_stays_once}
use Rattle.wire_laws.proofs.table.each_edge_stays_once.Goals as goal

pub returns : goal.returns
returns c = each_edge_stays_once
