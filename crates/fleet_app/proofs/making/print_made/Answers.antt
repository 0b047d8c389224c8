use Rattle.busy_commands.specs.calm_commands.Told.{stream}
use Rattle.busy_commands.specs.spool_maker.declared.maker.Made.TheVariants as made
use Rattle.fleet_app.proofs.MadeRuns.{made_run}
use Rattle.fleet_app.proofs.making.print_made.Goals as goal

pub returns-in-Ok : goal.returns-in-Ok
returns-in-Ok g c =
    let o = g.O.Sink in
    made_run c.args.seed c.args.count (stream (o.held c.args.out.now) (o.fault_count c.args.out.now)) (stream (o.held c.make.new.out) (o.fault_count c.make.new.out)) made.Ok c.in-Ok.ensures.which c.in-Ok.ensures.cause

pub returns-in-WriteFault : goal.returns-in-WriteFault
returns-in-WriteFault g c =
    let o = g.O.Sink in
    made_run c.args.seed c.args.count (stream (o.held c.args.out.now) (o.fault_count c.args.out.now)) (stream (o.held c.make.new.out) (o.fault_count c.make.new.out)) made.WriteFault c.in-WriteFault.ensures.which c.in-WriteFault.ensures.cause

pub returns-in-Memory : goal.returns-in-Memory
returns-in-Memory g c =
    let o = g.O.Sink in
    made_run c.args.seed c.args.count (stream (o.held c.args.out.now) (o.fault_count c.args.out.now)) (stream (o.held c.make.new.out) (o.fault_count c.make.new.out)) made.Memory c.in-Memory.ensures.which c.in-Memory.ensures.cause
