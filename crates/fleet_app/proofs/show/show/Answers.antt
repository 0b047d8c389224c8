use Rattle.busy_commands.specs.calm_commands.Told.{stream}
use Rattle.fleet_app.proofs.ShowRuns.{shown_run}
use Rattle.fleet_app.proofs.show.show.Goals as goal

pub returns : goal.returns
returns g c =
    let s = g.S.Source in
    let o = g.O.Sink in
    let e = c.show_items.ensures in
    shown_run c.show_items.result (stream (s.left c.args.spool.now) (s.fault_count c.args.spool.now)) (stream (s.left c.show_items.new.spool) (s.fault_count c.show_items.new.spool))
    (stream (o.held c.args.out.now) (o.fault_count c.args.out.now)) (stream (o.held c.show_items.new.out) (o.fault_count c.show_items.new.out)) e.which e.read_cause e.write_cause
