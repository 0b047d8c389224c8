-- A command that prints what a core holds, or whose opening failed.
use Rattle.std.proofs.Common.{◌≡◌, ◌∙◌, inl, inr, ℕ, List, ◌∷◌, ◌++◌, arith, refl, sym, ap, subst, IsTrue, Option}
use Rattle.std.specs.Io.KnownBytes.{Keeps}
use Rattle.query_answer.specs.fleet_ports.Counts.{Counts}
use Rattle.query_answer.specs.fleet_ports.declared.disk.Disks.{Disks}
use Rattle.query_answer.specs.fleet_rows.declared.settings.Ttls.{Ttls}
use Rattle.command_core.specs.log_pair.Open.{PairCounts}
use Rattle.command_core.specs.core_spec.declared.dead.Dead.{Dead}
use Rattle.command_core.specs.core_spec.declared.event.Event.TheVariants.{Restart}
use Rattle.command_core.specs.core_spec.Discards.{dead_of}
use Rattle.command_core.specs.core_spec.History.{History}
use Rattle.command_core.specs.core_laws.StandingLaws.{IsPlain}
use Rattle.command_core.proofs.of_core_laws.DiscardSteps.{others_discard_nothing}
use Rattle.command_core.specs.retry_discard.Kept.{dead_at}
use Rattle.command_core.specs.core_opening.Opened.{LogCore, disks_in}
use Rattle.calm_commands.specs.declared.status.Status.{Status}
use Rattle.calm_commands.specs.declared.status.Status.TheVariants as status
use Rattle.calm_commands.specs.Openings.{DiskSight, StandAsRead, OpensTo, IsUnopened, IsOpeningEnd}
use Rattle.calm_commands.specs.Told.{Stream}
use Rattle.calm_commands.proofs.Printed.{keeps}
use Rattle.calm_commands.specs.Calm.{PrintsLines, PrintsPayload, IsPrintEnd, IsUnopenedEnd, IsLinesEnd, IsPayloadEnd, OnlyOpens, IsDiscardsRun, IsPayloadRun}

calm_counts : (a a1 b b1 : ℕ) (F : Type 0) → (F → ⊥) → PairCounts a a1 b b1 ⊥ → PairCounts a a1 b b1 F
calm_counts a a1 b b1 F never counts = record { later_a = counts.later_a; later_b = counts.later_b; cause = λ f. absurd (never f); calm = λ none. counts.calm (λ e. e) }

prints_opened : (answer : Status) → IsPrintEnd answer → IsUnopenedEnd answer → ⊥
prints_opened answer ends (inl spent) = subst IsPrintEnd spent ends
prints_opened answer ends (inr (inl fault)) = subst IsPrintEnd fault ends
prints_opened answer ends (inr (inr damaged)) = subst IsPrintEnd damaged.2 ends

queue_held : (answer : Status) → IsUnopenedEnd answer → answer ≡ status.QueueFault → ⊥
queue_held answer (inl spent) fault = let apart : status.Spent ≡ status.QueueFault = sym spent ∙ fault in cc
queue_held answer (inr (inl store)) fault = let apart : status.StoreFault ≡ status.QueueFault = sym store ∙ fault in cc
queue_held answer (inr (inr damaged)) fault = let apart : status.Damaged damaged.0 damaged.1 ≡ status.QueueFault = sym damaged.2 ∙ fault in cc

pub printed_opens : {D : Type 0} (w : DiskSight D) (disks : Disks D) (core : LogCore D) (answer : Status) → OpensTo w disks core → IsPrintEnd answer → OnlyOpens w disks (disks_in core) answer
printed_opens w disks core answer opens ends =
    let now = disks_in core in
    record {
      files = record {
        damaged = λ told file at is. absurd (subst IsPrintEnd is ends);
        told = λ told file at damage. absurd (opens.undamaged told file at damage);
        never = λ told ttls history files file at is. subst IsPrintEnd is ends;
        spent = λ told lacks. absurd (opens.roomy told lacks);
      };
      full = λ told is. absurd (subst IsPrintEnd is ends);
      any_moment = opens.any_moment;
      images = opens.images;
      leaves = λ told ttls history all. opens.leaves told ttls history (opens.read told ttls history all);
      left = inr opens.leaves;
      untouched = λ why. absurd (prints_opened answer ends why);
      queue_counts = calm_counts (w.faults disks.queue_a) (w.faults now.queue_a) (w.faults disks.queue_b) (w.faults now.queue_b) (answer ≡ status.QueueFault) (λ is. subst IsPrintEnd is ends) opens.queue_counts;
      store_counts = calm_counts (w.faults disks.store_a) (w.faults now.store_a) (w.faults disks.store_b) (w.faults now.store_b) (answer ≡ status.StoreFault) (λ is. subst IsPrintEnd is ends) opens.store_counts;
    }

pub unopened_opens : {D : Type 0} (w : DiskSight D) (disks after : Disks D) (answer : Status) → IsUnopened w disks after answer → OnlyOpens w disks after answer
unopened_opens w disks after answer is = record {
  files = is.files;
  full = is.full;
  any_moment = is.any_moment;
  images = is.images;
  leaves = is.leaves;
  left = inl is;
  untouched = λ why. is.untouched (queue_held answer why);
  queue_counts = is.queue_counts;
  store_counts = is.store_counts;
}

lines_printed : (s : Status) → IsLinesEnd s → IsPrintEnd s
lines_printed status.Done ends = tt
lines_printed status.WriteFault ends = tt
lines_printed status.Memory ends = tt
lines_printed _ ends = absurd ends

payload_printed : (s : Status) → IsPayloadEnd s → IsPrintEnd s
payload_printed status.Done ends = tt
payload_printed status.WriteFault ends = tt
payload_printed (status.NoSuch receipt) ends = tt
payload_printed _ ends = absurd ends

-- what the core holds as given up is what was in the history
pub dead_is : {D : Type 0} (w : DiskSight D) (disks : Disks D) (core : LogCore D) → OpensTo w disks core → IsTrue w.tells → (ttls : Ttls) (history : History) → StandAsRead w disks ttls history
    → core.discards.list ≡ dead_of history
dead_is w disks core opens told ttls history files =
    let says = (opens.stands_for told ttls history files).1.holds.says in
    let events : core.events.list ++ history ≡ Restart ∷ history = ap (λ (h : History). h ++ history) opens.events in
    let plain = subst (λ (h : History). IsPlain core.tables.ttls h) events says.plain in
    says.dead ∙ ap dead_of events ∙ others_discard_nothing core.tables.ttls Restart history plain.legal tt

module _ {D : Type 0} (w : DiskSight D) (disks : Disks D) (out out_after : Stream) (answer : Status) where
  module _ (core : LogCore D) (opens : OpensTo w disks core) (silent : (answer ≡ status.Done → ⊥) → (answer ≡ status.WriteFault → ⊥) → Keeps out.bytes out_after.bytes)
      (cause : Counts out.faults out_after.faults (answer ≡ status.WriteFault)) where
    pub discards_run : IsLinesEnd answer → PrintsLines answer core.discards.list out.bytes out_after.bytes → IsDiscardsRun w out out_after disks (disks_in core) answer
    discards_run ends prints = record {
      opens = printed_opens w disks core answer opens (lines_printed answer ends);
      ends = inl ends;
      prints = λ told ttls history files. subst (λ (ds : List Dead). PrintsLines answer ds out.bytes out_after.bytes) (dead_is w disks core opens told ttls history files) prints;
      silent = silent;
      write_cause = cause;
    }

    pub payload_run : (receipt : ℕ) → IsPayloadEnd answer → PrintsPayload answer receipt (dead_at receipt core.discards.list) out.bytes out_after.bytes → IsPayloadRun w receipt out out_after disks (disks_in core) answer
    payload_run receipt ends prints = record {
      opens = printed_opens w disks core answer opens (payload_printed answer ends);
      ends = inl ends;
      prints = λ told ttls history files. subst (λ (ds : List Dead). PrintsPayload answer receipt (dead_at receipt ds) out.bytes out_after.bytes) (dead_is w disks core opens told ttls history files) prints;
      silent = silent;
      write_cause = cause;
    }

module _ {D : Type 0} (w : DiskSight D) (disks after : Disks D) (out : Stream) (answer : Status) (is : IsUnopened w disks after answer) where
  no_lines : (s : Status) (ds : List Dead) → IsOpeningEnd s → PrintsLines s ds out.bytes out.bytes
  no_lines status.QueueFault ds ends = keeps out.bytes
  no_lines status.StoreFault ds ends = keeps out.bytes
  no_lines (status.Damaged file at) ds ends = keeps out.bytes
  no_lines status.Memory ds ends = keeps out.bytes
  no_lines status.Spent ds ends = keeps out.bytes
  no_lines _ ds ends = absurd ends

  no_payload : (s : Status) (receipt : ℕ) (o : Option Dead) → IsOpeningEnd s → PrintsPayload s receipt o out.bytes out.bytes
  no_payload status.QueueFault receipt o ends = keeps out.bytes
  no_payload status.StoreFault receipt o ends = keeps out.bytes
  no_payload (status.Damaged file at) receipt o ends = keeps out.bytes
  no_payload status.Memory receipt o ends = keeps out.bytes
  no_payload status.Spent receipt o ends = keeps out.bytes
  no_payload _ receipt o ends = absurd ends

  no_writes : Counts out.faults out.faults (answer ≡ status.WriteFault)
  no_writes = record { later = omega arith; cause = λ fault. absurd (subst IsOpeningEnd fault is.ends); calm = λ none. refl }

  pub unopened_discards : IsDiscardsRun w out out disks after answer
  unopened_discards = record {
    opens = unopened_opens w disks after answer is;
    ends = inr is.ends;
    prints = λ told ttls history files. no_lines answer (dead_of history) is.ends;
    silent = λ done fault. keeps out.bytes;
    write_cause = no_writes;
  }

  pub unopened_payload : (receipt : ℕ) → IsPayloadRun w receipt out out disks after answer
  unopened_payload receipt = record {
    opens = unopened_opens w disks after answer is;
    ends = inr is.ends;
    prints = λ told ttls history files. no_payload answer receipt (dead_at receipt (dead_of history)) is.ends;
    silent = λ done fault. keeps out.bytes;
    write_cause = no_writes;
  }
