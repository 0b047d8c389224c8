use Rattle.std.proofs.Common.{◌++◌}
use Rattle.calm_commands.specs.Told.{stream}
use Rattle.calm_commands.proofs.TellingLaws.{more_pieces}
use Rattle.calm_commands.proofs.print.print_pieces.Goals as goal

pub returns-in-All : goal.returns-in-All
returns-in-All g c =
    let held = g.E.Sink.held in
    let faults = g.E.Sink.fault_count in
    let middle = c.write_all.new.sink in
    let after = c.print_two.new.errors in
    more_pieces c.args.first.now (c.args.second.now ++ c.args.third.now) (stream (held c.args.errors.now) (faults c.args.errors.now)) (stream (held middle) (faults middle)) (stream (held after) (faults after))
    c.in-All.ensures.bytes c.in-All.ensures.cause c.print_two.ensures
