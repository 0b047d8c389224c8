use Rattle.std.proofs.Common.{◌≡◌, ◌∙◌, ◌<◌, ◌++◌, ◌∷◌, [], List, length, refl, subst, arith, Some}
use Rattle.std.specs.Prelude.{slice_get}
use Rattle.std.proofs.lemmas.Option.{slice_get_read}
use Rattle.dump_writer.specs.dump_spec.history_spec.Thread.{Item}
use Rattle.kept_nodes.specs.Seen.{report_seen}
use Rattle.dump_writer.specs.dump_spec.history_spec.Lawful.{IsChange}
use Rattle.fleet_dump.specs.Printed.{change_item, items_text, Prints, PrintsLess, PrintsFront}
use Rattle.fleet_dump.proofs.of_plain_laws.Members.{all_at}
use Rattle.fleet_dump.proofs.Progress.{prints_nothing}
use Rattle.fleet_dump.proofs.Loops.{prints_more, less_more, front_more, prints_all}
use Rattle.fleet_dump.proofs.dump.print_reports.Goals as goal

pub reports-init : goal.reports-init
reports-init g c = record { so_far = prints_nothing c.args.printer.now.text.items (g.O.Sink.held c.args.out.now) c.args.printer.now.room; calm = refl }

pub print_report-requires : goal.print_report-requires
print_report-requires g c =
    let xs = c.args.reports.now in
    let at = c.reports.report-index in
    let within : at < length xs = omega arith in
    let x = c.report-item.result in
    let there : slice_get xs at ≡ Some x = slice_get_read xs (length xs) at x refl within c.report-item.is in
    all_at (λ report. IsChange (report_seen report.now).change) xs at x c.requires there

pub reports-preserved : goal.reports-preserved
reports-preserved g c =
    let held = g.O.Sink.held in
    let xs = c.args.reports.now in
    let at = c.reports.report-index in
    let within : at < length xs = omega arith in
    let x = c.report-item.result in
    let there : slice_get xs at ≡ Some x = slice_get_read xs (length xs) at x refl within c.report-item.is in
    let new = c.print_report.new in
    let mid = c.reports.printer in
    record {
      so_far = prints_more (λ report. change_item (report_seen report.now).change ∷ []) xs at x there c.args.printer.now.text.items mid.text.items (held c.args.out.now) (held c.reports.out) (held new.out) c.args.printer.now.room mid.room
          c.reports.invariant.so_far new.printer.text.items new.printer.room c.in-Ok.ensures.which;
      calm = c.in-Ok.ensures.cause.calm (λ same. absurd (cc)) ∙ c.reports.invariant.calm;
    }

pub returns-in-WriteFault-clause-which : goal.returns-in-WriteFault-clause-which
returns-in-WriteFault-clause-which g c =
    let held = g.O.Sink.held in
    let xs = c.args.reports.now in
    let at = c.reports.report-index in
    let within : at < length xs = omega arith in
    let x = c.report-item.result in
    let there : slice_get xs at ≡ Some x = slice_get_read xs (length xs) at x refl within c.report-item.is in
    let new = c.print_report.new in
    let mid = c.reports.printer in
    let old = c.args.printer.now in
    subst (λ (items : List Item). PrintsLess (old.text.items ++ items_text items) (held c.args.out.now) (held new.out)) (refl)
    (less_more (λ report. change_item (report_seen report.now).change ∷ []) xs at x there old.text.items mid.text.items (held c.args.out.now) (held c.reports.out) (held new.out) old.room mid.room c.reports.invariant.so_far
    c.in-WriteFault.ensures.which)

pub returns-in-Memory-clause-which : goal.returns-in-Memory-clause-which
returns-in-Memory-clause-which g c =
    let held = g.O.Sink.held in
    let xs = c.args.reports.now in
    let at = c.reports.report-index in
    let within : at < length xs = omega arith in
    let x = c.report-item.result in
    let there : slice_get xs at ≡ Some x = slice_get_read xs (length xs) at x refl within c.report-item.is in
    let new = c.print_report.new in
    let mid = c.reports.printer in
    let old = c.args.printer.now in
    subst (λ (items : List Item). PrintsFront (old.text.items ++ items_text items) (held c.args.out.now) (held new.out)) (refl)
    (front_more (λ report. change_item (report_seen report.now).change ∷ []) xs at x there old.text.items mid.text.items (held c.args.out.now) (held c.reports.out) (held new.out) old.room mid.room c.reports.invariant.so_far
    c.in-Memory.ensures.which)

pub returns-clause-which : goal.returns-clause-which
returns-clause-which g c =
    let held = g.O.Sink.held in
    let xs = c.args.reports.now in
    let at = c.reports.report-index in
    let all : at ≡ length xs = omega (arith, c.reports-test.false) in
    let last = c.reports.printer in
    let old = c.args.printer.now in
    subst (λ (items : List Item). Prints items old.text.items last.text.items (held c.args.out.now) (held c.reports.out) old.room last.room) (refl)
    (prints_all (λ report. change_item (report_seen report.now).change ∷ []) xs at old.text.items last.text.items (held c.args.out.now) (held c.reports.out) old.room last.room all c.reports.invariant.so_far)
