-- The contents of a core can be written, so its logs can be compacted.
use Rattle.std.specs.List.{AllByRecursion}
use Rattle.retry_discard.specs.core_spec.declared.dead.Dead.{Dead}
use Rattle.compact_laws.specs.Lawful.{IsLawfulTable}
use Rattle.core_state.specs.declared.state.CoreState.{CoreState}
use Rattle.core_state.specs.Seen.{IsFit}

-- the tables and the discarded commands can be written; a sound core says the same of the pending ones
pub record HasSpelling {D K : Type 0} (core : CoreState D K) : Type 0 where
  pub tables : IsLawfulTable core.tables
  pub dead : AllByRecursion (λ (d : Dead). IsFit d.command) core.discards.list
