use Rattle.table_laws.proofs.LatestReports.{nodes_show_their_latest_report}
use Rattle.table_laws.proofs.ShownColumns.{nodes_show_their_greatest_report}
use Rattle.table_laws.proofs.nodes.a_node_shows_its_latest_report.Goals as goal

pub returns-clause-latest : goal.returns-clause-latest
returns-clause-latest c = nodes_show_their_latest_report

pub returns-clause-greatest : goal.returns-clause-greatest
returns-clause-greatest c = nodes_show_their_greatest_report
