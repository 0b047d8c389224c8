-- What the caller does with a core that the workers left.
use Rattle.std.specs.Prelude.{◌≡◌, true, false, Some}
use Rattle.core_drain.specs.core_state.declared.state.CoreState.{CoreState}
use Rattle.core_drain.specs.core_course.Sight.{Sight, is_down}
use Rattle.core_drain.specs.core_course.Work.{Worked}
use Rattle.core_drain.specs.core_ends.declared.ends.WorkEnd.{WorkEnd}
use Rattle.core_drain.specs.core_ends.declared.ends.WorkEnd.TheVariants.{QueueFault, StoreDown}
use Rattle.core_drain.specs.Ends.{EndsHere, NothingClaimed}

-- If the core is up, the caller settles what is left. If the core is down, it is left unchanged, and the end names the log. If it
-- is up at the end, nothing is claimed.
pub record Finished {D K : Type 0} (w : Sight D K) (end : WorkEnd) (old new : CoreState D K) : Type 0 where
  pub worked : Worked w old new
  pub up : is_down w old ≡ false → EndsHere w (Some end) old new
  pub down : is_down w old ≡ true → new ≡ old
  pub by_store : w.store_down old.store ≡ true → end ≡ StoreDown
  pub by_queue : is_down w old ≡ true → w.store_down old.store ≡ false → end ≡ QueueFault
  pub unclaimed : NothingClaimed w old new
