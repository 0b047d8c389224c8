use Rattle.std.proofs.Common.{◌∙◌, map, sym, ap, subst, List}
use Rattle.std.specs.List.{AllByRecursion}
use Rattle.dump_writer.specs.dump_spec.fleet_rows.declared.applied.Applied.{Applied}
use Rattle.dump_writer.specs.dump_spec.history_spec.Lawful.{IsChange}
use Rattle.dump_writer.specs.dump_spec.history_spec.Thread.{Item}
use Rattle.dump_writer.specs.dump_spec.list_again.Told.{change_in}
use Rattle.kept_nodes.specs.Seen.{report_seen}
use Rattle.fleet_dump.specs.Printed.{change_item, Printed}
use Rattle.fleet_dump.proofs.Listed.{each_ranked, same_changes}
use Rattle.fleet_dump.proofs.Progress.{front_of_none}
use Rattle.fleet_dump.proofs.dump.print_ranked.Goals as goal

pub print_reports-requires : goal.print_reports-requires
print_reports-requires g c =
    let same = ap (map (λ r. report_seen r.now)) c.as_slice.ensures.value ∙ c.in-Ok.ensures in
    each_ranked c.as_slice.result.now (subst (λ (xs : List Applied). AllByRecursion IsChange (map change_in xs)) (sym same) c.requires)

pub returns-in-Ok-clause-which : goal.returns-in-Ok-clause-which
returns-in-Ok-clause-which g c =
    let held = g.O.Sink.held in
    let same = ap (map (λ r. report_seen r.now)) c.as_slice.ensures.value ∙ c.in-Ok.ensures in
    let old = c.args.printer.now in
    let new = c.print_reports.new in
    subst (λ (items : List Item). Printed c.print_reports.result items old.text.items new.printer.text.items (held c.args.out.now) (held new.out) old.room new.printer.room)
    (same_changes c.as_slice.result.now ∙ ap (λ (xs : List Applied). map change_item (map change_in xs)) same) c.print_reports.ensures.which

pub returns-in-Err-clause-which : goal.returns-in-Err-clause-which
returns-in-Err-clause-which g c = front_of_none _ (g.O.Sink.held c.args.out.now)
