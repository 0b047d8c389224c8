use Rattle.std.proofs.Common.{◌≡◌, ◌<◌, ◌^◌, length, IfOk, rules, subst, sym}
use Rattle.core_state.specs.history_spec.Lawful.{HasStamp}
use Rattle.core_state.specs.fleet_rows.declared.command.Command.{Command}
use Rattle.core_state.specs.record_spec.declared.queue.QueueRecord.TheVariants as queue
use Rattle.core_state.specs.record_spec.Queue.{queue_text, IsCommand}
use Rattle.core_state.specs.core_spec.Checkpoints.{held}
use Rattle.queue_records.proofs.Records.{queue_again}
use Rattle.core_compact.proofs.Frames.{with_read}
use Rattle.core_compact.proofs.queue.held_frame.Goals as goal

pub held_bytes-requires-clause-command : goal.held_bytes-requires-clause-command
held_bytes-requires-clause-command c =
    let version : c.command-command.result.now.version < 2 ^ 32 = search rules in
    record {
      version = version;
      received = subst (λ (d : Command). HasStamp d.received) (sym c.command-command.ensures) c.requires.fit.0;
      payload = subst (λ (d : Command). length d.payload < 2 ^ 32) (sym c.command-command.ensures) c.requires.fit.1;
    }

pub returns : goal.returns
returns c =
    let entry = c.args.entry.now in
    let receipt : entry.receipt < 2 ^ 64 = search rules in
    let version : c.command-command.result.now.version < 2 ^ 32 = search rules in
    let command : IsCommand entry.command = record { version = subst (λ (d : Command). d.version < 2 ^ 32) c.command-command.ensures version; received = c.requires.fit.0; payload = c.requires.fit.1 } in
    with_read c.held_bytes.result (queue_text (held entry)) _ (subst (λ (d : Command). IfOk c.held_bytes.result (λ b. b ≡ queue_text (queue.Held entry.receipt entry.attempts d))) c.command-command.ensures c.held_bytes.ensures)
    (queue_again (held entry) (receipt, c.requires.few, command))
