-- The count of the commands that came in, and of how they ended.
use Rattle.std.specs.Prelude.{◌+◌, [], ◌∷◌}
use Rattle.retry_discard.specs.core_spec.declared.event.Event.{Event}
use Rattle.retry_discard.specs.core_spec.declared.event.Event.TheVariants.{Submit, Apply, Supersede, Discard}
use Rattle.retry_discard.specs.core_spec.History.{History}
use Rattle.core_state.specs.declared.note.EventKind.{EventKind}
use Rattle.core_state.specs.declared.note.EventKind.TheVariants as kind
use Rattle.core_state.specs.declared.tally.Tally.{Tally}

abbrev pub nothing_counted : Tally
nothing_counted = record { received = 0; applied = 0; superseded = 0; discarded = 0 }

-- the tally with one event more
abbrev pub counted_with : Event → Tally → Tally
counted_with (Submit r c) t = record { received = t.received + 1; applied = t.applied; superseded = t.superseded; discarded = t.discarded }
counted_with (Apply r m) t = record { received = t.received; applied = t.applied + 1; superseded = t.superseded; discarded = t.discarded }
counted_with (Supersede q p) t = record { received = t.received; applied = t.applied; superseded = t.superseded + 1; discarded = t.discarded }
counted_with (Discard r why) t = record { received = t.received; applied = t.applied; superseded = t.superseded; discarded = t.discarded + 1 }
counted_with _ t = t

-- the tally with one event of this kind more
abbrev pub counted_as : EventKind → Tally → Tally
counted_as kind.Submit t = record { received = t.received + 1; applied = t.applied; superseded = t.superseded; discarded = t.discarded }
counted_as kind.Apply t = record { received = t.received; applied = t.applied + 1; superseded = t.superseded; discarded = t.discarded }
counted_as kind.Supersede t = record { received = t.received; applied = t.applied; superseded = t.superseded + 1; discarded = t.discarded }
counted_as kind.Discard t = record { received = t.received; applied = t.applied; superseded = t.superseded; discarded = t.discarded + 1 }
counted_as kind.Other t = t

abbrev pub tally_of : History → Tally
tally_of [] = nothing_counted
tally_of (e ∷ earlier) = counted_with e (tally_of earlier)
