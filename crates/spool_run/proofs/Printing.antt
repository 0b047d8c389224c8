-- What is printed, and what is counted then.
use Rattle.std.proofs.Common.{◌≡◌, ℕ, List, [], ◌∷◌, ◌++◌, refl, sym, ap, subst, arith, Option, Some, None}
use Rattle.std.specs.Io.KnownBytes.{Keeps}
use Rattle.spool_text.specs.fleet_ports.Counts.{Counts}
use Rattle.spool_text.specs.fleet_ports.Streams.{Writes}
use Rattle.spool_text.specs.fleet_ports.declared.write.Wrote.TheVariants as wrote
use Rattle.fleet_hub.specs.core_spec.declared.event.Event.TheVariants.{Restart}
use Rattle.fleet_hub.specs.core_spec.History.{History}
use Rattle.fleet_hub.specs.core_state.Tallies.{tally_of, counted_with}
use Rattle.calm_commands.specs.declared.status.Status.{Status}
use Rattle.calm_commands.specs.declared.status.Status.TheVariants as status
use Rattle.calm_commands.specs.Told.{Stream}
use Rattle.spool_run.specs.Summary.{Printed, whole, faulty}

-- a restart isn't counted
pub tally_behind : (more : History) → tally_of (more ++ Restart ∷ []) ≡ tally_of more
tally_behind [] = refl
tally_behind (e ∷ more) = ap (counted_with e) (tally_behind more)

pub keeps : (o : Option (List ℕ)) → Keeps o o
keeps None = tt
keeps (Some bytes) = refl

-- a stream that nothing was written to
pub kept : (before after : Stream) → after ≡ before → Keeps before.bytes after.bytes
kept before after same = subst (λ (s : Stream). Keeps before.bytes s.bytes) (sym same) (keeps before.bytes)

pub uncounted : (before after : Stream) (F : Type 0) → (F → ⊥) → after ≡ before → Counts before.faults after.faults F
uncounted before after F never same =
    subst (λ (s : Stream). Counts before.faults s.faults F) (sym same) (record { later = omega arith; cause = λ f. absurd (never f); calm = λ none. refl })

-- counts of one cause, where neither it nor the other stands
pub other_cause : (before after : ℕ) (F G : Type 0) → (F → ⊥) → (G → ⊥) → Counts before after F → Counts before after G
other_cause before after F G no_f no_g counts = record { later = counts.later; cause = λ g. absurd (no_g g); calm = λ none. counts.calm no_f }

-- the text went out whole
pub wrote_all : (text : List ℕ) (wanted : Status) (before after : Stream) → Writes wrote.All text before.bytes after.bytes → Counts before.faults after.faults ⊥ → Printed text wanted before after wanted
wrote_all text wanted before after writes counts = whole refl writes (counts.calm (λ e. e))

-- or not
pub wrote_less : (taken : ℕ) (text : List ℕ) (wanted : Status) (before after : Stream) → Writes (wrote.Failed taken) text before.bytes after.bytes → Counts before.faults after.faults (Unit {0})
    → Printed text wanted before after status.WriteFault
wrote_less taken text wanted before after writes counts = faulty refl (taken, writes.0, writes.1) counts.later (counts.cause tt)
