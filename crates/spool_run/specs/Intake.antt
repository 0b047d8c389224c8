-- What taking a spool does to a core.
use Rattle.std.specs.Prelude.{◌≡◌, ◌⊎◌, ℕ, ◌+◌, ◌≤◌, ℤ, Bool, true, false, List, [], ◌∷◌, ◌++◌, length, Option, IfSome}
use Rattle.std.specs.Io.KnownBytes.{IsAtEnd}
use Rattle.fleet_hub.specs.fleet_rows.declared.command.Command.{Command}
use Rattle.fleet_hub.specs.fleet_rows.declared.settings.Kinds.{Kinds}
use Rattle.fleet_hub.specs.history_spec.Thread.{Item, command, sweep}
use Rattle.fleet_hub.specs.record_spec.Store.{store_text}
use Rattle.fleet_hub.specs.record_spec.declared.store.StoreRecord.TheVariants as store
use Rattle.fleet_hub.specs.fleet_keeper.Limits.{IsPast}
use Rattle.program_words.specs.spool_spec.Spool.{End, whole, bad_at, SpoolOf}
use Rattle.fleet_hub.specs.core_spec.declared.entry.Entry.{Entry}
use Rattle.fleet_hub.specs.core_spec.declared.event.Event.TheVariants.{Submit, Sweep}
use Rattle.fleet_hub.specs.core_spec.History.{History}
use Rattle.fleet_hub.specs.core_laws.Threads.{items_of}
use Rattle.fleet_hub.specs.core_state.declared.state.CoreState.{CoreState}
use Rattle.fleet_hub.specs.core_state.StandsFor.{EachImage, StandsAt, history_of}
use Rattle.fleet_hub.specs.core_course.Sight.{Sight, Stood, is_down}
use Rattle.fleet_hub.specs.core_course.Courses.{Course, Link, Passed}
use Rattle.fleet_hub.specs.core_course.Work.{IsWork}
use Rattle.fleet_hub.specs.core_submits.Submits as submits
use Rattle.fleet_hub.specs.core_drain.Ends.{HasNoRoom, QueueRose, LacksDone, ChangeIsOpen, RoseBehindFails, SomethingWaits, IsLeft}
use Rattle.spool_run.specs.declared.ends.SpoolEnd.{SpoolEnd}
use Rattle.spool_run.specs.declared.ends.SpoolEnd.TheVariants as end
use Rattle.spool_run.specs.Rules.{NothingIsDue, HasNoRestart, KeepsRules}
use Rattle.spool_run.specs.Fronts.{AreInFront, ComesNext, WereRead}
use Rattle.program_words.specs.json_tree.Limits.{most_payload}

-- ---- what may be written meanwhile

-- the event of an item's record: a command under the receipt after the last one, or a sweep
abbrev pub IsRecordOf : ℕ → Item → History → Type 0
IsRecordOf last (command c) begun = begun ≡ Submit (last + 1) c ∷ []
IsRecordOf last (sweep kinds m) begun = begun ≡ Sweep kinds m ∷ []

-- what must be settled before the item is settled: before a sweep everything
abbrev pub IsReadyFor : Item → History → List Entry → Type 0
IsReadyFor (command c) run waiting = NothingIsDue run waiting
IsReadyFor (sweep kinds m) run waiting = waiting ≡ []

-- the record of the item that comes next after those taken up to this core, which is ready for it
pub record IsNext {D K : Type 0} (now : ℤ) (bytes : Option (List ℕ)) (old core : CoreState D K) (begun : History) : Type 0 where
  pub more : History
  pub since : core.events.list ≡ more ++ old.events.list
  pub item : Item
  pub comes : ComesNext now bytes (items_of more) item
  pub ready : IsReadyFor item more core.pending
  pub record_is : IsRecordOf core.last item begun

-- that record, or one of work on pending commands
abbrev pub MayTake : {D K : Type 0} → ℤ → Option (List ℕ) → CoreState D K → CoreState D K → History → Type 0
MayTake now bytes old core begun = IsWork begun ⊎ IsNext now bytes old core begun

-- ---- what was taken

-- These items came in, in order, and pending commands were settled by the rules. If `due`, they were settled at the end too. No
-- records were written except those of this work and of the item that came next.
pub record TookIn {D K : Type 0} (w : Sight D K) (now : ℤ) (bytes : Option (List ℕ)) (due : Bool) (items : List Item) (old new : CoreState D K) : Type 0 where
  pub more : History
  pub items_are : items_of more ≡ items
  pub no_restart : HasNoRestart more
  pub rules : (start : History) → Stood w old start → KeepsRules due (history_of old start) more
  pub passed : Passed w more old new
  pub course : Course w (MayTake now bytes old) old new

-- ---- the end

-- the spool was read to its end: its items came in, and nothing is pending
pub record TookAll {D K : Type 0} (w : Sight D K) (now : ℤ) (bytes : Option (List ℕ)) (end : End) (old new : CoreState D K) : Type 0 where
  pub items : List Item
  pub spool : IfSome bytes (λ b. SpoolOf now b items end)
  pub took : TookIn w now bytes true items old new
  pub up : is_down w new ≡ false
  pub nothing : new.pending ≡ []

-- a fault came: some items came in, and this then holds of the added events and of the items
pub record TookSome {D K : Type 0} (w : Sight D K) (now : ℤ) (due : Bool) (bytes : Option (List ℕ)) (old new : CoreState D K) (Then : History → List Item → Type 0) : Type 0 where
  pub items : List Item
  pub spool : IfSome bytes (AreInFront now items)
  pub took : TookIn w now bytes due items old new
  pub after : Then took.more items

-- The last call was that of this item, on a core that was up. It could write the record of the item alone, and added no event. It
-- failed so.
pub record FailedLast {D K : Type 0} (w : Sight D K) (item : Item) (Failed : CoreState D K → CoreState D K → Type 0) (old new : CoreState D K) : Type 0 where
  pub earlier : History
  pub mid : CoreState D K
  pub before : Passed w earlier old mid
  pub up : is_down w mid ≡ false
  pub passed : Passed w [] mid new
  pub link : Link w (λ begun. IsRecordOf mid.last item begun) mid new
  pub failed : Failed mid new

-- the next item is a sweep, and nothing is pending
pub record SweepComes {D K : Type 0} (w : Sight D K) (now : ℤ) (bytes : Option (List ℕ)) (old new : CoreState D K) (items : List Item) : Type 0 where
  pub kinds : Kinds
  pub moment : ℤ
  pub comes : ComesNext now bytes items (sweep kinds moment)
  pub nothing : new.pending ≡ []

-- and the store has room for it, but failed at it in the last call
abbrev pub SweepKeptOut : {D K : Type 0} → Sight D K → ℤ → Option (List ℕ) → CoreState D K → CoreState D K → List Item → Type 0
SweepKeptOut w now bytes old new items =
    (next : SweepComes w now bytes old new items) × (IsPast (w.store_size new.store) (store_text (store.Swept next.kinds next.moment)) → ⊥)
    × FailedLast w (sweep next.kinds next.moment) (λ before after. RoseBehindFails w 1 before after) old new

-- each image of the disks stands for the history, or for it and this sweep
abbrev pub MayHaveSwept : {D K : Type 0} → Sight D K → Kinds → ℤ → CoreState D K → CoreState D K → Type 0
MayHaveSwept w kinds m old new =
    (start : History) → Stood w old start
    → EachImage w.may_leave w.images new (λ q s. StandsAt new.tables.ttls q s (history_of new start) ⊎ StandsAt new.tables.ttls q s (Sweep kinds m ∷ history_of new start))

-- A command is claimed, and only its change may be on the disks beyond the history. Or a sweep comes next, and only its record may.
pub data WorkIsLeft {D K : Type 0} (w : Sight D K) (now : ℤ) (bytes : Option (List ℕ)) (old new : CoreState D K) (items : List Item) : Type 0 where
  waits : ChangeIsOpen w old new → WorkIsLeft w now bytes old new items
  comes : (next : SweepComes w now bytes old new items) → MayHaveSwept w next.kinds next.moment old new → WorkIsLeft w now bytes old new items

-- no receipt or no room is left for the command that comes next
pub record SubmitIsSpent {D K : Type 0} (now : ℤ) (bytes : Option (List ℕ)) (new : CoreState D K) (items : List Item) : Type 0 where
  pub command_is : Command
  pub comes : ComesNext now bytes items (command command_is)
  pub received : command_is.received ≡ now
  pub payload : length command_is.payload ≤ most_payload
  pub spent : submits.IsSpent command_is new

-- There is no room for the sweep that comes next, and nothing is pending; or there is none to settle a pending command.
pub data IsSpent {D K : Type 0} (w : Sight D K) (now : ℤ) (bytes : Option (List ℕ)) (old new : CoreState D K) (items : List Item) : Type 0 where
  to_sweep : (kinds : Kinds) (m : ℤ) → ComesNext now bytes items (sweep kinds m) → new.pending ≡ [] → IsPast (w.store_size new.store) (store_text (store.Swept kinds m))
      → IsSpent w now bytes old new items
  to_settle : HasNoRoom w old new → SomethingWaits w old new → IsSpent w now bytes old new items

-- What an end says of the spool's bytes, of those left, and of the core before and after. If a fault comes while the spool is
-- read or at the next command, nothing is due. Otherwise it comes while commands are settled, or at a sweep. A command or a sweep
-- that a fault kept out had room, and the last call was its own.
abbrev pub EndsSo : {D K : Type 0} → Sight D K → ℤ → SpoolEnd → Option (List ℕ) → Option (List ℕ) → CoreState D K → CoreState D K → Type 0
EndsSo w now end.Done bytes rest old new = TookAll w now bytes whole old new × IsAtEnd rest
EndsSo w now (end.Bad at) bytes rest old new = TookAll w now bytes (bad_at at) old new
EndsSo w now end.ReadFault bytes rest old new = TookSome w now false bytes old new (λ more items. (is_down w new ≡ false) × NothingIsDue more new.pending × WereRead now bytes rest items)
EndsSo w now end.QueueFault bytes rest old new =
    TookSome w now false bytes old new (λ more items. QueueRose w old new × (w.store_down new.store ≡ false) × (new.undone ≡ false) × NothingIsDue more new.pending × (c : Command) × ComesNext now bytes items (command c) × (submits.IsSpent c new → ⊥)
    × FailedLast w (command c) (λ before after. QueueRose w before after) old new)
    ⊎ TookSome w now true bytes old new (λ more items. QueueRose w old new × (w.store_down new.store ≡ false) × (LacksDone w old new ⊎ IsLeft w old new))
EndsSo w now end.StoreDown bytes rest old new =
    TookSome w now true bytes old new (λ more items. RoseBehindFails w 2 old new × (w.store_down new.store ≡ true) × WorkIsLeft w now bytes old new items)
EndsSo w now end.StoreFault bytes rest old new =
    TookSome w now true bytes old new (λ more items. RoseBehindFails w 1 old new × (is_down w new ≡ false) × SweepKeptOut w now bytes old new items)
EndsSo w now end.Spent bytes rest old new =
    TookSome w now false bytes old new (λ more items. (is_down w new ≡ false) × NothingIsDue more new.pending × SubmitIsSpent now bytes new items)
    ⊎ TookSome w now true bytes old new (λ more items. (is_down w new ≡ false) × IsSpent w now bytes old new items)
EndsSo w now end.Memory bytes rest old new = TookSome w now true bytes old new (λ more items. is_down w new ≡ false)
