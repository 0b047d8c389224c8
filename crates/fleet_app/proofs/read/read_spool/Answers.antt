use Rattle.std.proofs.Common.{◌∙◌, refl, sym, ap, subst, arith, IfSome, pos}
use Rattle.busy_commands.proofs.of_stamp_time.RangeLaws.{stamp_in_range}
use Rattle.busy_commands.specs.history_spec.Thread.{command, sweep}
use Rattle.busy_commands.specs.spool_spec.Spool.{IsCommandText}
use Rattle.busy_commands.specs.table_machine.Steps.{empty_table}
use Rattle.busy_commands.specs.spool_text.Next as next
use Rattle.busy_commands.specs.spool_text.Next.{unread, place}
use Rattle.busy_commands.proofs.of_spool_run.Readings.{nothing_ahead}
use Rattle.fleet_app.specs.Reads.{SoFar, FaultsAt}
use Rattle.fleet_app.proofs.ReadLaws.{received_has_stamp, nothing_read, command_more, sweep_more, at_end, at_fault}
use Rattle.fleet_app.proofs.read.read_spool.Goals as goal

pub items-init : goal.items-init
items-init g c =
    let left = g.S.Source.left c.args.spool.now in
    let tables = c.new-tables.result in
    record {
      so_far = subst (λ o. SoFar left o (place c.new-reader.result) 0 tables) (sym (nothing_ahead c.new-reader.result.ahead left c.new-reader.ensures.ahead))
          (subst (λ p. SoFar left left p 0 tables) (sym c.new-reader.ensures.place) (nothing_read left tables (c.new-tables.ensures.value ∙ ap empty_table c.default_lifetimes.ensures)));
      counted = omega arith;
      within = omega (arith, c.new-reader.ensures.place);
      later = grind arith;
    }

-- a payload of a spool is short, whatever the source tells
pub take_command-requires-clause-size : goal.take_command-requires-clause-size
take_command-requires-clause-size g c = omega (arith, c.in-Command.ensures.item.is_item.payload)

pub take_command-requires-clause-stamp : goal.take_command-requires-clause-stamp
take_command-requires-clause-stamp g c =
    let item = c.in-Command.ensures.item in
    received_has_stamp c.in-Command.command item.text (subst (λ r. IsCommandText r c.in-Command.command item.text) c.from_nanosecond.ensures item.is_item)

pub items-preserved-in-Ok : goal.items-preserved-in-Ok
items-preserved-in-Ok g c =
    let before = g.S.Source.left c.args.spool.now in
    let old = unread c.items.reader (g.S.Source.left c.items.spool) in
    let new = unread c.next_item.new.self (g.S.Source.left c.next_item.new.source) in
    let p = place c.items.reader in
    let q = place c.next_item.new.self in
    let gives : next.Gives (pos 0) (command c.in-Command.command) p q old new =
    subst (λ r. next.Gives r (command c.in-Command.command) p q old new) c.from_nanosecond.ensures c.in-Command.ensures.item in
    record {
      so_far = command_more before old new p q c.items.receipt c.items.tables c.take_command.new.tables c.items.invariant.so_far c.next_item.ensures.within
          c.in-Command.command gives c.in-Ok.ensures;
      counted = omega (arith, c.items.invariant.counted, c.in-Command.ensures.more);
      within = c.next_item.ensures.within;
      later = grind arith;
    }

pub sweep-requires : goal.sweep-requires
sweep-requires g c = let text = c.in-Sweep.ensures.item.is_item in stamp_in_range text.stamp c.in-Sweep.m text.moment

pub items-preserved : goal.items-preserved
items-preserved g c =
    let before = g.S.Source.left c.args.spool.now in
    let old = unread c.items.reader (g.S.Source.left c.items.spool) in
    let new = unread c.next_item.new.self (g.S.Source.left c.next_item.new.source) in
    let p = place c.items.reader in
    let q = place c.next_item.new.self in
    let gives : next.Gives (pos 0) (sweep c.in-Sweep.kinds c.in-Sweep.m) p q old new =
    subst (λ r. next.Gives r (sweep c.in-Sweep.kinds c.in-Sweep.m) p q old new) c.from_nanosecond.ensures c.in-Sweep.ensures.item in
    record {
      so_far = sweep_more before old new p q c.items.receipt c.items.tables c.sweep.new.tables c.items.invariant.so_far c.next_item.ensures.within
          c.in-Sweep.kinds c.in-Sweep.m gives c.sweep.ensures.step;
      counted = omega (arith, c.items.invariant.counted, c.in-Sweep.ensures.more);
      within = c.next_item.ensures.within;
      later = grind arith;
    }

pub returns-in-End-clause-which : goal.returns-in-End-clause-which
returns-in-End-clause-which g c =
    let old = unread c.items.reader (g.S.Source.left c.items.spool) in (
      at_end (g.S.Source.left c.args.spool.now) old (place c.items.reader) c.items.receipt c.items.tables c.items.invariant.so_far (c.in-End.ensures.end refl),
      c.in-End.ensures.read_to_the_end refl,
    )

pub returns-in-SpoolBad-clause-which : goal.returns-in-SpoolBad-clause-which
returns-in-SpoolBad-clause-which g c =
    let before = g.S.Source.left c.args.spool.now in
    let old = unread c.items.reader (g.S.Source.left c.items.spool) in
    let p = place c.items.reader in
    let bad = c.in-SpoolBad.ensures.bad in
    let here : IfSome old (next.IsBad (pos 0) p) =
    subst (λ r. IfSome old (next.IsBad r p)) c.from_nanosecond.ensures (subst (λ n. IfSome old (next.IsBad c.from_nanosecond.result n)) bad.0 bad.1) in
    subst (λ n. IfSome before (FaultsAt n)) (sym bad.0) (at_fault before old p c.items.receipt c.items.tables c.items.invariant.so_far here)
