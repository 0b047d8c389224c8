-- What the calls of any passes do to a core.
use Rattle.std.specs.Prelude.{◌≡◌, ◌⊎◌, ◌+◌, ℤ, Bool, true, false, [], ◌∷◌}
use Rattle.core_ends.specs.fleet_rows.declared.command.Command.{Command}
use Rattle.core_ends.specs.fleet_rows.declared.settings.Kinds.{Kinds}
use Rattle.core_ends.specs.core_spec.declared.event.Event.TheVariants.{Submit, Sweep}
use Rattle.core_ends.specs.core_spec.History.{History}
use Rattle.core_ends.specs.core_state.declared.state.CoreState.{CoreState}
use Rattle.core_ends.specs.core_course.Sight.{Sight, is_down}
use Rattle.core_ends.specs.core_course.Courses.{Course, Passed}
use Rattle.core_ends.specs.core_course.Work.{IsWork, KeepsMoments}
use Rattle.core_ends.specs.Ends.{IsLeft, QueueRose, LacksDone, ChangeIsOpen, RoseBehindFails}

-- The events of the record that a call may write: those of work. Unless the hub is for work alone, also a command under the next
-- receipt, or a sweep.
pub data MayWrite {D K : Type 0} (only_work : Bool) (core : CoreState D K) (begun : History) : Type 0 where
  is_work : IsWork begun → MayWrite only_work core begun
  is_submit : only_work ≡ false → (c : Command) → begun ≡ Submit (core.last + 1) c ∷ [] → MayWrite only_work core begun
  is_sweep : only_work ≡ false → (kinds : Kinds) → (m : ℤ) → begun ≡ Sweep kinds m ∷ [] → MayWrite only_work core begun

-- A core that was up went down. By the store, whose count rose by two after the counted failures; or by the queue, of which one
-- count rose. A count may instead stand at 2^64 - 1. If only work was done, something is still pending: for the store, the command
-- whose change was being written. For the queue, a Done may be missing instead.
pub data WentDown {D K : Type 0} (w : Sight D K) (only_work : Bool) (old new : CoreState D K) : Type 0 where
  by_store : w.store_down new.store ≡ true → RoseBehindFails w 2 old new → (only_work ≡ true → ChangeIsOpen w old new) → WentDown w only_work old new
  by_queue : w.store_down new.store ≡ false → QueueRose w old new → (only_work ≡ true → LacksDone w old new ⊎ IsLeft w old new) → WentDown w only_work old new

-- Calls lead from the first core to the second. On a hub for work alone, no command and no sweep came in.
pub record Follows {D K : Type 0} (w : Sight D K) (only_work : Bool) (old new : CoreState D K) : Type 0 where
  pub more : History
  pub passed : Passed w more old new
  pub moments : KeepsMoments w more old
  pub course : Course w (λ core begun. MayWrite only_work core begun) old new
  pub stays : is_down w old ≡ true → new ≡ old
  pub goes_down : is_down w old ≡ false → is_down w new ≡ true → WentDown w only_work old new
  pub works : only_work ≡ true → IsWork more
