-- Small histories, as the definitions see them. Payloads play no part here.
use Rattle.std.proofs.Common.{◌≡◌, ℕ, zero, suc, ℤ, List, [], ◌∷◌, map, refl, Some, None, Ok}
use Rattle.table_spec.specs.fleet_rows.declared.change.Change.{Change}
use Rattle.table_spec.specs.fleet_rows.declared.command.Command.{Command}
use Rattle.table_spec.specs.fleet_rows.declared.refusal.Cause.TheVariants.{Refused, Failures}
use Rattle.table_spec.specs.fleet_rows.declared.refusal.Refusal.{Refusal}
use Rattle.table_spec.specs.fleet_rows.declared.settings.Kinds.{Kinds}
use Rattle.table_spec.specs.history_spec.Thread as thread
use Rattle.table_spec.specs.history_spec.Trace.{applied_as, swept}
use Rattle.table_spec.specs.history_spec.Trace as trace
use Rattle.record_spec.specs.declared.queue.QueueRecord.TheVariants as queue
use Rattle.record_spec.specs.declared.store.StoreRecord.TheVariants as store
use Rattle.core_spec.specs.declared.entry.Entry.{Entry}
use Rattle.core_spec.specs.declared.event.Event.TheVariants.{Submit, Claim, Release, Apply, Supersede, Fail, Discard, Sweep, Restart}
use Rattle.core_spec.specs.Commands.{answer_of}
use Rattle.core_spec.specs.Discards.{dead_of}
use Rattle.core_spec.specs.History.{History, last_receipt, unknown, queued, applied, superseded, discarded, standing, fails, trace_of}
use Rattle.core_spec.specs.Pending.{pending_of}
use Rattle.core_spec.specs.Stands.{queue_trace, store_trace}
use Rattle.core_spec.specs.Thread.{one_thread}

abbrev receipts_of : List Entry → List ℕ
receipts_of = map (λ (e : Entry). e.receipt)

-- ---- five commands of one node

module _ (a b c d e : Command) where
  abbrev five : History
  five = Submit 5 e ∷ Submit 4 d ∷ Submit 3 c ∷ Submit 2 b ∷ Submit 1 a ∷ []

  abbrev settled : History
  settled = Supersede 4 5 ∷ Supersede 3 5 ∷ Supersede 2 5 ∷ Supersede 1 5 ∷ Apply 5 (Some e.received) ∷ Claim 5 ∷ five

  five_wait : receipts_of (pending_of five) ≡ 1 ∷ 2 ∷ 3 ∷ 4 ∷ 5 ∷ []
  five_wait = refl

  the_fifth_has_the_last_receipt : last_receipt settled ≡ 5
  the_fifth_has_the_last_receipt = refl

  none_waits_in_the_end : pending_of settled ≡ []
  none_waits_in_the_end = refl

  the_newest_is_applied : standing 5 settled ≡ applied
  the_newest_is_applied = refl

  the_first_is_superseded : standing 1 settled ≡ superseded 5
  the_first_is_superseded = refl

  a_sixth_was_not_submitted : standing 6 settled ≡ unknown
  a_sixth_was_not_submitted = refl

  one_is_applied : (change : Change) → answer_of e ≡ Ok change → trace_of settled ≡ trace.applied (applied_as 5 (Some e.received) change) ∷ []
  one_is_applied change h = rw h refl

  the_records_of_the_queue_are_in_order : queue_trace settled
      ≡ queue.Submit 1 a ∷ queue.Submit 2 b ∷ queue.Submit 3 c ∷ queue.Submit 4 d ∷ queue.Submit 5 e
      ∷ queue.Done 5 ∷ queue.Superseded 1 5 ∷ queue.Superseded 2 5 ∷ queue.Superseded 3 5 ∷ queue.Superseded 4 5 ∷ []
  the_records_of_the_queue_are_in_order = refl

  the_store_has_one_record : (change : Change) → answer_of e ≡ Ok change → store_trace [] settled ≡ store.Received 5 (Some e.received) change ∷ []
  the_store_has_one_record change h = rw h refl

  -- ---- claims and restarts

  a_claim_leaves_no_record : queue_trace (Claim 5 ∷ five) ≡ queue_trace five
  a_claim_leaves_no_record = refl

  a_claimed_command_waits_after_a_restart : standing 5 (Restart ∷ Claim 5 ∷ five) ≡ queued
  a_claimed_command_waits_after_a_restart = refl

  a_released_command_waits : standing 5 (Release 5 ∷ Claim 5 ∷ five) ≡ queued
  a_released_command_waits = refl

  what_was_applied_stays_so_after_a_restart : standing 5 (Restart ∷ settled) ≡ applied
  what_was_applied_stays_so_after_a_restart = refl

  -- ---- a purge between

  a_purge_between_stands_between : (kinds : Kinds) (m : ℤ) (x y : Change) → answer_of a ≡ Ok x → answer_of b ≡ Ok y
      → trace_of (Apply 2 None ∷ Claim 2 ∷ Submit 2 b ∷ Sweep kinds m ∷ Apply 1 None ∷ Claim 1 ∷ Submit 1 a ∷ [])
      ≡ trace.applied (applied_as 2 None y) ∷ swept kinds m ∷ trace.applied (applied_as 1 None x) ∷ []
  a_purge_between_stands_between kinds m x y h g = rw (h, g) refl

  a_sweep_leaves_the_queue_alone : (kinds : Kinds) (m : ℤ) → queue_trace (Sweep kinds m ∷ five) ≡ queue_trace five
  a_sweep_leaves_the_queue_alone kinds m = refl

  one_thread_takes_what_waits_in_order : (kinds : Kinds) (m : ℤ) (y z : Change) → answer_of b ≡ Ok y → answer_of c ≡ Ok z
      → one_thread (Submit 2 b ∷ Submit 1 a ∷ []) (thread.sweep kinds m ∷ thread.command c ∷ []) (1 ∷ [])
      ≡ trace.applied (applied_as 3 (Some c.received) z) ∷ swept kinds m ∷ trace.applied (applied_as 2 (Some b.received) y) ∷ []
  one_thread_takes_what_waits_in_order kinds m y z g f = rw (g, f) refl

-- ---- failures and discards

module _ (a : Command) where
  abbrev one : History
  one = Submit 1 a ∷ []

  -- claimed and failed so often
  abbrev failed : ℕ → History
  failed zero = one
  failed (suc n) = Fail 1 n (suc n) ∷ Claim 1 ∷ failed n

  fifteen_failures_leave_it_queued : standing 1 (failed 15) ≡ queued
  fifteen_failures_leave_it_queued = refl

  fifteen_failures_are_counted : fails 1 (failed 15) ≡ 15
  fifteen_failures_are_counted = refl

  a_restart_leaves_the_failures : fails 1 (Restart ∷ failed 15) ≡ 15
  a_restart_leaves_the_failures = refl

  a_sixteenth_is_a_record_for_its_discard_too : queue_trace (Discard 1 Failures ∷ failed 16) ≡ queue_trace (failed 16)
  a_sixteenth_is_a_record_for_its_discard_too = refl

  after_sixteen_it_is_given_up : standing 1 (Discard 1 Failures ∷ failed 16) ≡ discarded Failures
  after_sixteen_it_is_given_up = refl

  it_stands_among_the_discarded : dead_of (Discard 1 Failures ∷ failed 16) ≡ record { receipt = 1; command = a; cause = Failures } ∷ []
  it_stands_among_the_discarded = refl

  a_refused_command_leaves_a_record : (refusal : Refusal) → queue_trace (Discard 1 (Refused refusal) ∷ Claim 1 ∷ one) ≡ queue.Submit 1 a ∷ queue.Refused 1 refusal ∷ []
  a_refused_command_leaves_a_record refusal = refl

  a_refused_command_stands_among_the_discarded : (refusal : Refusal) → dead_of (Discard 1 (Refused refusal) ∷ Claim 1 ∷ one) ≡ record { receipt = 1; command = a; cause = Refused refusal } ∷ []
  a_refused_command_stands_among_the_discarded refusal = refl
