use Rattle.std.proofs.Common.{subst}
use Rattle.core_state.specs.record_spec.Store.{IsStoreRecord}
use Rattle.core_opening.proofs.fill.lifetimes.Goals as goal

pub invariant_of-result : goal.invariant_of-result
invariant_of-result c = let fits = subst IsStoreRecord c.in-Settings.is c.requires in record { node = fits.0; purge = fits.1; report = fits.2; count = tt }
