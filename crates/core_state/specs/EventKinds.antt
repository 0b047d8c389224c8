-- The kinds of events that a tally tells apart.
use Rattle.retry_discard.specs.core_spec.declared.event.Event.{Event}
use Rattle.retry_discard.specs.core_spec.declared.event.Event.TheVariants as event
use Rattle.core_state.specs.declared.note.EventKind.{EventKind}
use Rattle.core_state.specs.declared.note.EventKind.TheVariants as kind

abbrev pub kind_of : Event → EventKind
kind_of (event.Submit r c) = kind.Submit
kind_of (event.Apply r m) = kind.Apply
kind_of (event.Supersede q p) = kind.Supersede
kind_of (event.Discard r why) = kind.Discard
kind_of _ = kind.Other
