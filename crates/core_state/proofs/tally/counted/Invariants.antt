-- The tally of the events so far, of which there are no more than were read.
use Rattle.std.proofs.Common.{◌≡◌, ◌≤◌, take, reverse}
use Rattle.core_state.specs.Tallies.{tally_of}
use Rattle.core_state.proofs.tally.counted.Given as goal

abbrev pub invariant-loop-event : goal.invariant-loop-event
invariant-loop-event l = record {
  tally : l.tally ≡ tally_of (reverse (take l.event-index l.events));
  received : l.tally.received ≤ l.event-index;
  applied : l.tally.applied ≤ l.event-index;
  superseded : l.tally.superseded ≤ l.event-index;
  discarded : l.tally.discarded ≤ l.event-index;
}
