use Rattle.std.proofs.Common.{arith}
use Rattle.queue_records.proofs.Records.{queue_read}
use Rattle.queue_records.proofs.read.read_queue.Goals as goal

pub returns-clause-found : goal.returns-clause-found
returns-clause-found c = queue_read c.args.bytes.now c.queue_of.result (λ i. omega (arith, c.type_inv.bytes i)) c.queue_of.ensures
