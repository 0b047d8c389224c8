use Rattle.std.proofs.Common.{◌≡◌, ◌<◌, ◌^◌, length, IfOk, rules, subst, sym}
use Rattle.core_state.specs.history_spec.Lawful.{HasStamp}
use Rattle.core_state.specs.fleet_rows.declared.command.Command.{Command}
use Rattle.core_state.specs.record_spec.declared.queue.QueueRecord.TheVariants as queue
use Rattle.core_state.specs.record_spec.Queue.{queue_text, IsCommand}
use Rattle.core_state.specs.record_spec.Refusals.{IsCause}
use Rattle.core_state.specs.core_spec.Checkpoints.{dead}
use Rattle.queue_records.proofs.Records.{queue_again}
use Rattle.core_compact.proofs.Frames.{with_read}
use Rattle.core_compact.proofs.queue.dead_frame.Goals as goal

pub dead_bytes-requires : goal.dead_bytes-requires
dead_bytes-requires c =
    let version : c.command-command.result.now.version < 2 ^ 32 = search rules in
    record {
      version = version;
      received = subst (λ (d : Command). HasStamp d.received) (sym c.command-command.ensures) c.requires.fit.0;
      payload = subst (λ (d : Command). length d.payload < 2 ^ 32) (sym c.command-command.ensures) c.requires.fit.1;
    }

pub returns : goal.returns
returns c =
    let given = c.args.given.now in
    let receipt : given.receipt < 2 ^ 64 = search rules in
    let version : c.command-command.result.now.version < 2 ^ 32 = search rules in
    let command : IsCommand given.command = record { version = subst (λ (d : Command). d.version < 2 ^ 32) c.command-command.ensures version; received = c.requires.fit.0; payload = c.requires.fit.1 } in
    let is_cause : IsCause given.cause = c.numbers_fit.ensures in
    with_read c.dead_bytes.result (queue_text (dead given)) _ (subst (λ (d : Command). IfOk c.dead_bytes.result (λ b. b ≡ queue_text (queue.Dead given.receipt d given.cause))) c.command-command.ensures c.dead_bytes.ensures)
    (queue_again (dead given) (receipt, command, is_cause))
