use Rattle.std.proofs.Common.{◌++◌, ℤ, subst, true, false, Option}
use Rattle.fleet_dump.specs.Printed.{sweep_items, items_text, Prints, Printed, PrintsLess, PrintsFront}
use Rattle.fleet_dump.proofs.Progress.{printed_then, less_of_first, front_of_first}
use Rattle.fleet_dump.proofs.dump.print_sweeps.Goals as goal

pub returns-in-Ok-clause-which : goal.returns-in-Ok-clause-which
returns-in-Ok-clause-which g c =
    let held = g.O.Sink.held in
    let t = c.args.tables.now in
    let old = c.args.printer.now in
    let mid = c.print_sweep.new in
    let new = c.print_sweep-in-Ok.new in
    let r = c.print_sweep-in-Ok.result in
    let p =
    subst (λ (m : Option ℤ). Prints (sweep_items false m) old.text.items mid.self.text.items (held c.args.out.now) (held mid.out) old.room mid.self.room) c.expiry.ensures c.in-Ok.ensures.which in
    let q =
    subst (λ (m : Option ℤ). Printed r (sweep_items true m) mid.self.text.items new.self.text.items (held mid.out) (held new.out) mid.self.room new.self.room) c.retention.ensures
    c.print_sweep-in-Ok.ensures.which in
    printed_then r (sweep_items false t.expiry) (sweep_items true t.retention) old.text.items mid.self.text.items new.self.text.items (held c.args.out.now) (held mid.out) (held new.out)
    old.room mid.self.room new.self.room p q

pub returns-in-WriteFault-clause-which : goal.returns-in-WriteFault-clause-which
returns-in-WriteFault-clause-which g c =
    let held = g.O.Sink.held in
    let t = c.args.tables.now in
    let old = c.args.printer.now.text.items in
    let after = held c.print_sweep.new.out in
    less_of_first (sweep_items false t.expiry) (sweep_items true t.retention) old (held c.args.out.now) after
    (subst (λ (m : Option ℤ). PrintsLess (old ++ items_text (sweep_items false m)) (held c.args.out.now) after) c.expiry.ensures c.in-WriteFault.ensures.which)

pub returns-in-Memory-clause-which : goal.returns-in-Memory-clause-which
returns-in-Memory-clause-which g c =
    let held = g.O.Sink.held in
    let t = c.args.tables.now in
    let old = c.args.printer.now in
    let after = held c.print_sweep.new.out in
    front_of_first (sweep_items false t.expiry) (sweep_items true t.retention) old.text.items (held c.args.out.now) after old.room
    (subst (λ (m : Option ℤ). PrintsFront (old.text.items ++ items_text (sweep_items false m)) (held c.args.out.now) after) c.expiry.ensures c.in-Memory.ensures.which)
