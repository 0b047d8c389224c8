use Rattle.std.proofs.Common.{◌≡◌, ◌<◌, ◌^◌, rules}
use Rattle.core_state.specs.record_spec.declared.queue.QueueRecord.TheVariants as queue
use Rattle.core_state.specs.record_spec.Queue.{queue_text}
use Rattle.queue_records.proofs.Records.{queue_again}
use Rattle.core_compact.proofs.Frames.{with_read}
use Rattle.core_compact.proofs.queue.base_frame.Goals as goal

pub returns : goal.returns
returns c =
    let last : c.args.last < 2 ^ 64 = search rules in
    with_read c.write_queue.result (queue_text (queue.Base c.args.last)) _ c.write_queue.ensures (queue_again (queue.Base c.args.last) last)
