use Rattle.std.proofs.Common.{◌∙◌, ◌∷◌, [], length, false, arith, refl, ap}
use Rattle.std.specs.List.{flat_map}
use Rattle.core_claims.specs.fleet_rows.declared.refusal.Cause.TheVariants.{Failures}
use Rattle.core_claims.specs.core_spec.declared.entry.Entry.{Entry}
use Rattle.core_claims.specs.core_spec.declared.event.Event.TheVariants.{Discard}
use Rattle.core_claims.specs.core_spec.History.{History}
use Rattle.core_claims.specs.core_machine.Claims.{is_claimed}
use Rattle.core_claims.specs.core_machine.Steps.{marked, at_receipt}
use Rattle.core_claims.proofs.of_supersede_core.TwoCalls.{failure_is_counted}
use Rattle.core_settles.proofs.CountedLists.{claimed_waits, few_attempts, still_claimed, counted_length, out_of_counted, not_last}
use Rattle.core_settles.proofs.steps.count.Goals as goal

pub count_failure-attempts-requires-clause-there : goal.count_failure-attempts-requires-clause-there
count_failure-attempts-requires-clause-there g c = claimed_waits c.args.job.receipt c.args.core.now.pending c.requires.claimed

pub count_failure-attempts-requires-clause-attempts : goal.count_failure-attempts-requires-clause-attempts
count_failure-attempts-requires-clause-attempts g c = few_attempts c.args.job.receipt c.args.core.now.pending c.requires.few

pub discard-requires-clause-claimed : goal.discard-requires-clause-claimed
discard-requires-clause-claimed g c =
    ap (is_claimed c.args.job.receipt) c.count_failure-attempts.ensures.counted ∙ still_claimed c.args.job.receipt c.args.core.now.pending ∙ c.requires.claimed

pub discard-requires-clause-events : goal.discard-requires-clause-events
discard-requires-clause-events g c =
    let same = ap length c.count_failure-attempts.ensures.counted ∙ counted_length c.args.job.receipt c.args.core.now.pending in
    omega (arith, same, c.note.ensures.room, c.requires.events)

pub returns-then-is_last : goal.returns-then-is_last
returns-then-is_last g c =
    let d = c.discard.ensures.discarded in
    let last = c.is_last.ensures.0 c.if-is_last.true in
    let few = few_attempts c.args.job.receipt c.args.core.now.pending c.requires.few in
    let same = ap length c.count_failure-attempts.ensures.counted ∙ counted_length c.args.job.receipt c.args.core.now.pending in
    record {
      does = (
        omega (arith, last, few, c.count_failure-attempts.ensures.attempts),
        record {
          queue = d.queue;
          store = d.store;
          discarded = record {
            tables = d.discarded.tables;
            dead_is = d.discarded.dead_is;
            undone = d.discarded.undone;
            found = d.discarded.found;
            opened_a = d.discarded.opened_a;
            opened_b = d.discarded.opened_b;
            pending = d.discarded.pending ∙ ap (flat_map (at_receipt c.args.job.receipt (λ e. []))) c.count_failure-attempts.ensures.counted ∙ out_of_counted c.args.job.receipt c.args.core.now.pending;
            events = d.discarded.events ∙ ap (λ (h : History). Discard c.args.job.receipt Failures ∷ h) c.note.ensures.list;
            room = omega (arith, same, d.discarded.room);
            last = d.discarded.last;
          };
        },
      );
    }

pub unmark-requires : goal.unmark-requires
unmark-requires g c =
    ap (is_claimed c.args.job.receipt) c.count_failure-attempts.ensures.counted ∙ still_claimed c.args.job.receipt c.args.core.now.pending ∙ c.requires.claimed

pub returns : goal.returns
returns g c =
    let attempts = c.count_failure-attempts.ensures.attempts in
    let below = not_last _ c.is_last.result c.is_last.ensures.1 c.if-is_last.false in
    record {
      does = (
        attempts,
        omega (arith, below, attempts),
        record {
          queue = refl;
          store = refl;
          failed = record {
            few = c.unmark.ensures.few (c.count_failure-attempts.ensures.few c.requires.few (omega (arith, below, attempts)));
            others = record { tables = refl; dead = refl; undone = refl; found = refl; opened_a = refl; opened_b = refl };
            pending = c.unmark.ensures.unmarked ∙ ap (flat_map (at_receipt c.args.job.receipt (λ (e : Entry). marked false e ∷ []))) c.count_failure-attempts.ensures.counted ∙ failure_is_counted c.args.job.receipt c.args.core.now.pending;
            events = c.note.ensures.list;
            room = omega (arith, c.note.ensures.room, c.requires.events);
            last = refl;
          };
        },
      );
    }
