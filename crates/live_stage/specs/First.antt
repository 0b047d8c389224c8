-- The tables of a core that comes under the lock, as a list.
use Rattle.std.specs.Prelude.{◌≡◌, ℕ, List}
use mathlib.Core.List.{IsPrefix}
use Rattle.core_ends.specs.fleet_rows.declared.store.StoreList.{StoreList}
use Rattle.core_ends.specs.fleet_tables.Stands.{Stands}
use Rattle.core_ends.specs.fleet_tables.checkpoint_spec.Histories.{checkpoint}
use Rattle.core_ends.specs.history_spec.Trace.{Trace}
use Rattle.core_ends.specs.core_state.declared.state.CoreState.{CoreState}
use Rattle.live_stage.specs.declared.note.Staged.{Staged}
use Rattle.live_stage.specs.Notes.{list_of}
use Rattle.live_stage.specs.Trace.{live_of}
use Rattle.live_stage.specs.StageCalls.{fresh}

-- the list, and the length of the core's live trace
pub record FirstView : Type 0 where
  pub live : ℕ
  pub list : StoreList

abbrev pub first : ℕ → StoreList → FirstView
first live list = record { live = live; list = list }

module _ {D K : Type 0} where
  -- The list has the core's lifetimes, and is the checkpoint of each history that the core's tables stand for.
  pub record AreFirstOf (core : CoreState D K) (f : FirstView) : Type 0 where
    pub live : f.live ≡ live_of core
    pub lifetimes : f.list.ttls ≡ core.tables.ttls
    pub list : (history : Trace) → Stands core.tables history → f.list ≡ checkpoint core.tables.ttls history

  -- What was seen begins with a core as it came under the lock, and these are its tables.
  abbrev pub BeginsWith : FirstView → List (Staged D K) → Type 0
  BeginsWith f seen = (core : CoreState D K) × AreFirstOf core f × IsPrefix (list_of (fresh core)) seen
