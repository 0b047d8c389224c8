-- The kind of an event says how a tally counts it.
use Rattle.std.proofs.Common.{◌≡◌, refl}
use Rattle.retry_discard.specs.core_spec.declared.event.Event.{Event}
use Rattle.retry_discard.specs.core_spec.declared.event.Event.TheVariants.{Submit, Claim, Release, Apply, Supersede, Fail, Discard, Sweep, Restart}
use Rattle.core_state.specs.declared.tally.Tally.{Tally}
use Rattle.core_state.specs.EventKinds.{kind_of}
use Rattle.core_state.specs.Tallies.{counted_as, counted_with}

pub kind_counts : (e : Event) (t : Tally) → counted_as (kind_of e) t ≡ counted_with e t
kind_counts (Submit r c) t = refl
kind_counts (Claim r) t = refl
kind_counts (Release r) t = refl
kind_counts (Apply r m) t = refl
kind_counts (Supersede q p) t = refl
kind_counts (Fail r b a) t = refl
kind_counts (Discard r why) t = refl
kind_counts (Sweep k m) t = refl
kind_counts Restart t = refl
