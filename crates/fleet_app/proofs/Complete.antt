-- Where no fault is counted, a spool is printed and other bytes are told by their fault.
use Rattle.std.proofs.Common.{◌≡◌, ◌⊎◌, inl, inr, refl, ap, pos, List, ℕ, Option, Some, None, IfSome}
use Rattle.busy_commands.specs.fleet_ports.Counts.{Counts, Rose}
use Rattle.busy_commands.specs.spool_spec.Spool.{whole, bad_at}
use Rattle.busy_commands.proofs.of_history_laws.Spools.{spools_have_one_reading}
use Rattle.fleet_app.specs.Show.{IsSpool, FaultsAt, Tells, MatchShown}
use Rattle.busy_commands.specs.calm_commands.declared.status.Status.{Status}
use Rattle.busy_commands.specs.calm_commands.declared.status.Status.TheVariants.{Done, SpoolBad, ReadFault, WriteFault, Memory}

no_fault : (at : ℕ) (bytes : List ℕ) → IsSpool bytes → FaultsAt at bytes → ⊥
no_fault at bytes s f =
    let apart : whole ≡ bad_at at = (spools_have_one_reading (pos 0) bytes s.0 f.0 whole (bad_at at) s.1 f.1).1 in
    absurd (cc)

one_place : (at other : ℕ) (bytes : List ℕ) → FaultsAt at bytes → FaultsAt other bytes → at ≡ other
one_place at other bytes f g =
    let same : bad_at at ≡ bad_at other = (spools_have_one_reading (pos 0) bytes f.0 g.0 (bad_at at) (bad_at other) f.1 g.1).1 in
    cc

spool_is_good : (at : ℕ) (bytes : Option (List ℕ)) → Tells bytes IsSpool → IfSome bytes (FaultsAt at) → ⊥
spool_is_good at None s f = s
spool_is_good at (Some bytes) s f = no_fault at bytes s f

fault_is_bad : (at : ℕ) (bytes : Option (List ℕ)) → Tells bytes (FaultsAt at) → IfSome bytes IsSpool → ⊥
fault_is_bad at None f s = f
fault_is_bad at (Some bytes) f s = no_fault at bytes s f

fault_is_there : (at other : ℕ) (bytes : Option (List ℕ)) → Tells bytes (FaultsAt at) → IfSome bytes (FaultsAt other) → other ≡ at
fault_is_there at other None f g = absurd f
fault_is_there at other (Some bytes) f g = one_place other at bytes g f

pub done_or_memory : (s : Status) (bytes rest before after : Option (List ℕ)) (r0 r1 w0 w1 : ℕ) → MatchShown s bytes rest before after → Counts r0 r1 (s ≡ ReadFault) → Counts w0 w1 (s ≡ WriteFault) → Tells bytes IsSpool → (¬ Rose r0 r1) → (¬ Rose w0 w1) → (s ≡ Done) ⊎ (s ≡ Memory)
done_or_memory Done bytes rest before after r0 r1 w0 w1 m r w t nr nw = inl refl
done_or_memory (SpoolBad at) bytes rest before after r0 r1 w0 w1 m r w t nr nw = absurd (spool_is_good at bytes t m.0)
done_or_memory ReadFault bytes rest before after r0 r1 w0 w1 m r w t nr nw = absurd (nr (r.cause refl))
done_or_memory WriteFault bytes rest before after r0 r1 w0 w1 m r w t nr nw = absurd (nw (w.cause refl))
done_or_memory Memory bytes rest before after r0 r1 w0 w1 m r w t nr nw = inr refl
done_or_memory _ bytes rest before after r0 r1 w0 w1 m r w t nr nw = absurd m

pub bad_or_memory : (s : Status) (at : ℕ) (bytes rest before after : Option (List ℕ)) (r0 r1 : ℕ) → MatchShown s bytes rest before after → Counts r0 r1 (s ≡ ReadFault) → Tells bytes (FaultsAt at) → (¬ Rose r0 r1) → (s ≡ SpoolBad at) ⊎ (s ≡ Memory)
bad_or_memory Done at bytes rest before after r0 r1 m r t nr = absurd (fault_is_bad at bytes t m.0)
bad_or_memory (SpoolBad other) at bytes rest before after r0 r1 m r t nr = inl (ap (λ n. SpoolBad n) (fault_is_there at other bytes t m.0))
bad_or_memory ReadFault at bytes rest before after r0 r1 m r t nr = absurd (nr (r.cause refl))
bad_or_memory WriteFault at bytes rest before after r0 r1 m r t nr = absurd (fault_is_bad at bytes t m.0)
bad_or_memory Memory at bytes rest before after r0 r1 m r t nr = inr refl
bad_or_memory _ at bytes rest before after r0 r1 m r t nr = absurd m
