use Rattle.std.proofs.Common.{arith}
use Rattle.store_records.proofs.Records.{store_read}
use Rattle.store_records.proofs.read.read_store.Goals as goal

pub returns-clause-found : goal.returns-clause-found
returns-clause-found c = store_read c.args.bytes.now c.store_of.result (λ i. omega (arith, c.type_inv.bytes i)) c.store_of.ensures
