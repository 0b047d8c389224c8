use Rattle.std.proofs.Common.{◌≡◌, [], ◌∷◌, take}
use Rattle.std.specs.List.{flat_map}
use Rattle.kept_nodes.specs.Seen.{report_seen}
use Rattle.fleet_dump.specs.Printed.{change_item, Prints}
use Rattle.fleet_dump.proofs.dump.print_reports.Given as goal

-- the items so far were written or are left in the text
abbrev pub invariant-reports : goal.invariant-reports
invariant-reports g l = record {
  so_far : Prints (flat_map (λ report. change_item (report_seen report.now).change ∷ []) (take l.report-index l.reports)) l.fn.printer.text.items l.printer.text.items (g.O.Sink.held l.fn.out) (g.O.Sink.held l.out) l.fn.printer.room l.printer.room;
  calm : g.O.Sink.fault_count l.out ≡ g.O.Sink.fault_count l.fn.out;
}
