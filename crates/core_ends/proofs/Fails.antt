-- Failures that were counted before a call.
use Rattle.std.proofs.Common.{◌≡◌, ℕ, ◌++◌, arith, sym, subst}
use Rattle.core_course.specs.fleet_ports.Counts.{RoseBy}
use Rattle.command_core.specs.core_spec.History.{History}
use Rattle.command_core.specs.core_spec.Legal.{IsAfterFails}
use Rattle.command_core.specs.core_state.declared.state.CoreState.{CoreState}
use Rattle.core_course.specs.Sight.{Sight}
use Rattle.core_ends.specs.Ends.{RoseBehindFails}

-- a call without an event, in which the store's count rose
pub rose_behind : {D K : Type 0} (w : Sight D K) (n : ℕ) (old new : CoreState D K) → new.events.list ≡ old.events.list → RoseBy n (w.store_faults old.store) (w.store_faults new.store) → RoseBehindFails w n old new
rose_behind w n old new events rose = record {
  counted = w.store_faults old.store;
  later = omega arith;
  rose = rose;
  fails = λ start stood. subst (λ (es : History). IsAfterFails (w.store_faults old.store) (es ++ start)) (sym events) stood.holds.says.after_fails;
}
