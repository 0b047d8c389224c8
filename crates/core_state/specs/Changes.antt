-- What a call leaves unchanged.
use Rattle.std.specs.Prelude.{◌≡◌, ◌≤◌}
use Rattle.core_state.specs.declared.state.CoreState.{CoreState}

-- the tables, the discarded commands, and what the core keeps of its opening
pub record OthersStay {D K : Type 0} (old new : CoreState D K) : Type 0 where
  pub tables : new.tables ≡ old.tables
  pub dead : new.discards.list ≡ old.discards.list
  pub undone : new.undone ≡ old.undone
  pub found : new.found ≡ old.found
  pub opened_a : new.opened_a ≡ old.opened_a
  pub opened_b : new.opened_b ≡ old.opened_b

-- everything in memory is unchanged, except that there may be more room
pub record MemoryStays {D K : Type 0} (old new : CoreState D K) : Type 0 where
  pub others : OthersStay old new
  pub pending : new.pending ≡ old.pending
  pub events : new.events.list ≡ old.events.list
  pub room : old.events.room ≤ new.events.room
  pub last : new.last ≡ old.last

-- and nothing was written
pub record CoreStays {D K : Type 0} (old new : CoreState D K) : Type 0 where
  pub memory : MemoryStays old new
  pub queue : new.queue ≡ old.queue
  pub store : new.store ≡ old.store

-- what the core keeps of its opening, the last receipt and the lifetimes
pub record OpeningStays {D K : Type 0} (old new : CoreState D K) : Type 0 where
  pub found : new.found ≡ old.found
  pub opened_a : new.opened_a ≡ old.opened_a
  pub opened_b : new.opened_b ≡ old.opened_b
  pub last : new.last ≡ old.last
  pub lifetimes : new.tables.ttls ≡ old.tables.ttls
