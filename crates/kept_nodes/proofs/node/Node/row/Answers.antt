use Rattle.std.proofs.Common.{◌≡◌, ◌<◌, length, refl, ap, arith}
use Rattle.std.proofs.lemmas.Option.{slice_get_read}
use Rattle.checkpoint_spec.proofs.of_history_laws.Members.{All-Among}
use Rattle.kept_nodes.specs.Kept.{IsReport}
use Rattle.kept_nodes.proofs.FoundNodes.{at_place}
use Rattle.checkpoint_spec.specs.fleet_rows.declared.row.Entity.{Entity}
use Rattle.checkpoint_spec.specs.fleet_rows.declared.row.Entity.TheVariants.{Reports}
use Rattle.kept_nodes.specs.Counted.{counts, count_of}
use Rattle.kept_nodes.proofs.RowPlaces.{report_row_is, counted_reports}
use Rattle.kept_nodes.proofs.node.Node.row.Goals as goal

pub row-requires-in-Reports : goal.row-requires-in-Reports
row-requires-in-Reports c =
    let node = c.args.self.now in
    let r = c.index.result.now in
    let number : count_of c.args.entity (counts node) ≡ count_of Reports (counts node) = ap (λ (e : Entity). count_of e (counts node)) c.in-Reports.is in
    let within : c.args.j < length node.reports.items = omega (arith, c.requires.within, number, counted_reports node) in
    All-Among IsReport node.reports.items r c.requires.kept.3 (at_place node.reports.items c.args.j r (slice_get_read node.reports.items (length node.reports.items) c.args.j r refl within c.index.ensures))

pub returns-in-Reports : goal.returns-in-Reports
returns-in-Reports c =
    let node = c.args.self.now in
    let number : count_of c.args.entity (counts node) ≡ count_of Reports (counts node) = ap (λ (e : Entity). count_of e (counts node)) c.in-Reports.is in
    let within : c.args.j < length node.reports.items = omega (arith, c.requires.within, number, counted_reports node) in
    report_row_is node c.args.entity c.args.j c.index.result.now c.row-in-Reports.result c.in-Reports.is within c.index.ensures c.row-in-Reports.ensures
