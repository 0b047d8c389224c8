-- What a drain, a command and a sweep do while a spool is taken.
use Rattle.std.specs.Prelude.{◌≡◌, ◌⊎◌, ℕ, ℤ, true, false, List, [], ◌∷◌, Option, Some, None}
use Rattle.fleet_hub.specs.fleet_rows.declared.command.Command.{Command}
use Rattle.fleet_hub.specs.fleet_rows.declared.settings.Kinds.{Kinds}
use Rattle.fleet_hub.specs.history_spec.Thread.{Item, command, sweep}
use Rattle.fleet_hub.specs.record_spec.Store.{store_text}
use Rattle.fleet_hub.specs.record_spec.declared.store.StoreRecord.TheVariants as store
use Rattle.fleet_hub.specs.fleet_keeper.Limits.{IsPast}
use Rattle.fleet_hub.specs.core_spec.declared.event.Event.{Event}
use Rattle.fleet_hub.specs.core_spec.declared.event.Event.TheVariants.{Submit, Sweep}
use Rattle.fleet_hub.specs.core_state.declared.state.CoreState.{CoreState}
use Rattle.fleet_hub.specs.core_course.Sight.{Sight, is_down}
use Rattle.fleet_hub.specs.core_course.Courses.{Link, Passed}
use Rattle.fleet_hub.specs.core_course.Work.{Worked}
use Rattle.fleet_hub.specs.core_submits.Submits as submits
use Rattle.fleet_hub.specs.core_drain.Ends.{HasNoRoom, QueueRose, LacksDone, ChangeIsOpen, RoseBehindFails, SomethingWaits, IsLeft}
use Rattle.spool_run.specs.declared.ends.SpoolEnd.{SpoolEnd}
use Rattle.spool_run.specs.declared.ends.SpoolEnd.TheVariants as end
use Rattle.spool_run.specs.Rules.{IsBatch, before_work}
use Rattle.spool_run.specs.Intake.{IsRecordOf, MayHaveSwept, TookIn}
use Rattle.spool_run.specs.Fronts.{IsReadTo}

-- ---- a drain

abbrev pub DrainEnds : {D K : Type 0} → Sight D K → Option SpoolEnd → CoreState D K → CoreState D K → Type 0
DrainEnds w None old new = (is_down w new ≡ false) × (new.pending ≡ [])
DrainEnds w (Some end.QueueFault) old new = QueueRose w old new × (w.store_down new.store ≡ false) × (LacksDone w old new ⊎ IsLeft w old new)
DrainEnds w (Some end.StoreDown) old new = RoseBehindFails w 2 old new × (w.store_down new.store ≡ true) × ChangeIsOpen w old new
DrainEnds w (Some end.Spent) old new = (is_down w new ≡ false) × HasNoRoom w old new × SomethingWaits w old new
DrainEnds w (Some end.Memory) old new = is_down w new ≡ false
DrainEnds w (Some _) old new = ⊥

-- the last drain gave this end, or a fault
pub data LastDrained {D K : Type 0} (w : Sight D K) (result end : SpoolEnd) (old new : CoreState D K) : Type 0 where
  stopped : (fault : SpoolEnd) → result ≡ fault → Worked w old new → DrainEnds w (Some fault) old new → LastDrained w result end old new
  settled : result ≡ end → Worked w old new → DrainEnds w None old new → LastDrained w result end old new

-- a drain if a batch limit is reached, and otherwise nothing
pub data BatchDrained {D K : Type 0} (w : Sight D K) (result : Option SpoolEnd) (old new : CoreState D K) : Type 0 where
  few : result ≡ None → (IsBatch old.pending → ⊥) → new ≡ old → BatchDrained w result old new
  many : IsBatch old.pending → Worked w old new → DrainEnds w result old new → BatchDrained w result old new

-- ---- one call that writes the record of an item and adds its event, or does nothing

pub record Added {D K : Type 0} (w : Sight D K) (item : Item) (e : Event) (old new : CoreState D K) : Type 0 where
  pub passed : Passed w (e ∷ []) old new
  pub link : Link w (λ begun. IsRecordOf old.last item begun) old new

pub record AddedNothing {D K : Type 0} (w : Sight D K) (item : Item) (old new : CoreState D K) : Type 0 where
  pub passed : Passed w [] old new
  pub link : Link w (λ begun. IsRecordOf old.last item begun) old new

-- ---- a command

abbrev pub CommandRefused : {D K : Type 0} → Sight D K → SpoolEnd → Command → CoreState D K → CoreState D K → Type 0
CommandRefused w end.QueueFault c old new = QueueRose w old new × (w.store_down new.store ≡ false) × (new.undone ≡ false) × (submits.IsSpent c new → ⊥)
CommandRefused w end.Spent c old new = (is_down w new ≡ false) × submits.IsSpent c new
CommandRefused w end.Memory c old new = is_down w new ≡ false
CommandRefused w _ c old new = ⊥

abbrev pub CommandTaken : {D K : Type 0} → Sight D K → Option SpoolEnd → Command → CoreState D K → CoreState D K → Type 0
CommandTaken w None c old new = (r : ℕ) × Added w (command c) (Submit r c) old new × (is_down w new ≡ false)
CommandTaken w (Some end) c old new = AddedNothing w (command c) old new × (new.pending ≡ old.pending) × CommandRefused w end c old new

-- a command, and then a drain if a batch limit is reached
pub data OneTaken {D K : Type 0} (w : Sight D K) (result : Option SpoolEnd) (c : Command) (old new : CoreState D K) : Type 0 where
  refused : (end : SpoolEnd) → result ≡ Some end → CommandTaken w (Some end) c old new → OneTaken w result c old new
  taken : (mid : CoreState D K) → CommandTaken w None c old mid → BatchDrained w result mid new → OneTaken w result c old new

-- ---- a sweep

abbrev pub SweepFailed : {D K : Type 0} → Sight D K → SpoolEnd → Kinds → ℤ → CoreState D K → CoreState D K → Type 0
SweepFailed w end.StoreFault kinds m old new = RoseBehindFails w 1 old new × (is_down w new ≡ false) × (IsPast (w.store_size new.store) (store_text (store.Swept kinds m)) → ⊥)
SweepFailed w end.StoreDown kinds m old new = RoseBehindFails w 2 old new × (w.store_down new.store ≡ true) × MayHaveSwept w kinds m old new
SweepFailed w end.Spent kinds m old new = (is_down w new ≡ false) × IsPast (w.store_size new.store) (store_text (store.Swept kinds m))
SweepFailed w end.Memory kinds m old new = is_down w new ≡ false
SweepFailed w _ kinds m old new = ⊥

abbrev pub SweepTaken : {D K : Type 0} → Sight D K → Option SpoolEnd → Kinds → ℤ → CoreState D K → CoreState D K → Type 0
SweepTaken w None kinds m old new = Added w (sweep kinds m) (Sweep kinds m) old new × (new.pending ≡ old.pending) × (is_down w new ≡ false)
SweepTaken w (Some end) kinds m old new = AddedNothing w (sweep kinds m) old new × (new.pending ≡ old.pending) × SweepFailed w end kinds m old new

-- a drain, and then the sweep
pub data SweptDrained {D K : Type 0} (w : Sight D K) (result : Option SpoolEnd) (kinds : Kinds) (m : ℤ) (old new : CoreState D K) : Type 0 where
  halted : (end : SpoolEnd) → result ≡ Some end → Worked w old new → DrainEnds w (Some end) old new → SweptDrained w result kinds m old new
  drained : (mid : CoreState D K) → Worked w old mid → DrainEnds w None old mid → SweepTaken w result kinds m mid new → SweptDrained w result kinds m old new

-- ---- the items so far

-- These items came in, no batch limit is reached, and no drain is unfinished. The bytes are read up to the end of the items.
pub record SoFar {D K : Type 0} (w : Sight D K) (now : ℤ) (bytes rest : Option (List ℕ)) (place : ℕ) (old new : CoreState D K) : Type 0 where
  pub items : List Item
  pub read : IsReadTo now bytes items place rest
  pub took : TookIn w now bytes false items old new
  pub up : is_down w new ≡ false
  pub few : IsBatch new.pending → ⊥
  pub whole : (before_work took.more ≡ took.more) ⊎ (new.pending ≡ [])
