use Rattle.fleet_dump.proofs.Whole.{whole_sent, less_is, front_is, is_spool, leads_back}
use Rattle.fleet_dump.proofs.dump.write_dump.Goals as goal

pub returns-in-Ok-clause-which : goal.returns-in-Ok-clause-which
returns-in-Ok-clause-which g c =
    let held = g.O.Sink.held in
    let mid = c.print_tables.new in
    let new = c.send_all.new in
    whole_sent c.send_all.result c.args.tables.now c.new-printer.result.text.items mid.printer.text.items new.self.text.items (held c.args.out.now) (held mid.out) (held new.out)
    c.new-printer.result.room mid.printer.room c.new-printer.ensures.text c.in-Ok.ensures.which c.send_all.ensures.which c.send_all.ensures.all

pub returns-in-Ok-clause-spool : goal.returns-in-Ok-clause-spool
returns-in-Ok-clause-spool g c history received stands done =
    let held = g.O.Sink.held in
    let mid = c.print_tables.new in
    is_spool c.args.tables.now c.new-printer.result.text.items mid.printer.text.items (held c.args.out.now) (held mid.out) c.new-printer.result.room mid.printer.room c.in-Ok.ensures.which
    c.new-printer.ensures.room history received stands

pub returns-in-Ok-clause-back : goal.returns-in-Ok-clause-back
returns-in-Ok-clause-back g c entity history again received stands stamp thread = leads_back c.args.tables.now entity history again received stands stamp thread

pub returns-in-WriteFault-clause-which : goal.returns-in-WriteFault-clause-which
returns-in-WriteFault-clause-which g c =
    let held = g.O.Sink.held in
    let mid = c.print_tables.new in
    less_is c.args.tables.now c.new-printer.result.text.items mid.printer.text.items (held c.args.out.now) (held mid.out) (held mid.out) c.new-printer.result.room mid.printer.room
    c.new-printer.ensures.text c.in-WriteFault.ensures.which

pub returns-in-WriteFault-clause-back : goal.returns-in-WriteFault-clause-back
returns-in-WriteFault-clause-back g c entity history again received stands stamp thread = leads_back c.args.tables.now entity history again received stands stamp thread

pub returns-clause-which : goal.returns-clause-which
returns-clause-which g c =
    let held = g.O.Sink.held in
    let mid = c.print_tables.new in
    front_is c.args.tables.now c.new-printer.result.text.items mid.printer.text.items (held c.args.out.now) (held mid.out) (held mid.out) c.new-printer.result.room mid.printer.room
    c.new-printer.ensures.text c.in-Memory.ensures.which

pub returns-clause-back : goal.returns-clause-back
returns-clause-back g c entity history again received stands stamp thread = leads_back c.args.tables.now entity history again received stands stamp thread
