use Rattle.std.proofs.Common.{sym, subst}
use Rattle.calm_commands.specs.Told.{stream}
use Rattle.spool_run.specs.declared.ends.SpoolEnd.{SpoolEnd}
use Rattle.spool_run.specs.Summary.{summary_text, Closes}
use Rattle.spool_run.proofs.run.close.Goals as goal

pub returns-in-Done : goal.returns-in-Done
returns-in-Done g c =
    let o = g.O.Sink in
    let out = stream (o.held c.args.out.now) (o.fault_count c.args.out.now) in
    let after = stream (o.held c.print_summary.new.out) (o.fault_count c.print_summary.new.out) in
    subst (λ (e : SpoolEnd). Closes e (summary_text c.args.tally.now) out after c.print_summary.result) (sym c.in-Done.is) c.print_summary.ensures

pub returns-in-Bad : goal.returns-in-Bad
returns-in-Bad g c =
    let o = g.O.Sink in
    let out = stream (o.held c.args.out.now) (o.fault_count c.args.out.now) in
    let after = stream (o.held c.print_summary-in-Bad.new.out) (o.fault_count c.print_summary-in-Bad.new.out) in
    subst (λ (e : SpoolEnd). Closes e (summary_text c.args.tally.now) out after c.print_summary-in-Bad.result) (sym c.in-Bad.is) c.print_summary-in-Bad.ensures
