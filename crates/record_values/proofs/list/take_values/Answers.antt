use Rattle.std.proofs.Common.{arith}
use Rattle.record_values.proofs.Fits.{values_fit}
use Rattle.record_values.proofs.list.take_values.Goals as goal

pub returns-clause-fit : goal.returns-clause-fit
returns-clause-fit c = values_fit (λ x. x.0) (λ x. x.1.now) c.args.bytes.now c.list_of.result (λ i. omega (arith, c.type_inv.bytes i)) c.list_of.ensures
