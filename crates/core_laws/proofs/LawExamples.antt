-- Small histories, as the outcomes, the records and the tables tell them.
use Rattle.std.proofs.Common.{◌≡◌, ℕ, zero, suc, ℤ, pos, List, [], ◌∷◌, map, refl, codes, Some, None, Ok}
use Rattle.core_machine.specs.fleet_rows.Defaults.{default_ttls}
use Rattle.core_machine.specs.fleet_rows.declared.change.Change.{Change}
use Rattle.core_machine.specs.fleet_rows.declared.change.Change.TheVariants as change
use Rattle.core_machine.specs.fleet_rows.declared.command.Command.{Command}
use Rattle.core_machine.specs.fleet_rows.declared.refusal.Cause.TheVariants.{Failures}
use Rattle.core_machine.specs.history_spec.Trace.{applied_as}
use Rattle.checkpoint_spec.specs.table_machine.Steps.{empty_table}
use Rattle.checkpoint_spec.specs.table_machine.Table.{Table, table_of}
use Rattle.core_machine.specs.record_spec.declared.queue.QueueRecord.TheVariants as queue
use Rattle.core_machine.specs.record_spec.declared.store.StoreRecord.TheVariants as store
use Rattle.core_machine.specs.core_spec.declared.entry.Entry.{Entry}
use Rattle.core_machine.specs.core_spec.declared.event.Event.TheVariants.{Submit, Claim, Apply, Supersede, Fail, Discard}
use Rattle.core_machine.specs.core_spec.Checkpoints.{store_checkpoint}
use Rattle.core_machine.specs.core_spec.Commands.{answer_of}
use Rattle.core_machine.specs.core_spec.History.{History, trace_of}
use Rattle.core_machine.specs.core_spec.Stands.{queue_trace, store_trace}
use Rattle.core_laws.specs.Outcomes.{outcome, applied, superseded_by, discarded}
use Rattle.core_laws.specs.Replay.{pending_after, dead_after}
use Rattle.core_laws.specs.TableReplay.{table_after}

abbrev receipts_of : List Entry → List ℕ
receipts_of = map (λ (e : Entry). e.receipt)

-- ---- five commands of one node

module _ (a b c d e : Command) where
  abbrev five : History
  five = Submit 5 e ∷ Submit 4 d ∷ Submit 3 c ∷ Submit 2 b ∷ Submit 1 a ∷ []

  abbrev settled : History
  settled = Supersede 4 5 ∷ Supersede 3 5 ∷ Supersede 2 5 ∷ Supersede 1 5 ∷ Apply 5 (Some e.received) ∷ Claim 5 ∷ five

  the_newest_is_applied : outcome 5 settled ≡ Some applied
  the_newest_is_applied = refl

  the_first_is_superseded : outcome 1 settled ≡ Some (superseded_by 5)
  the_first_is_superseded = refl

  a_sixth_was_not_submitted : outcome 6 settled ≡ None
  a_sixth_was_not_submitted = refl

  the_records_tell_that_none_waits : pending_after (queue.Base 0 ∷ queue_trace settled) [] ≡ []
  the_records_tell_that_none_waits = refl

  -- ---- and as the tables tell them

  abbrev facts : ℤ → Change
  facts stamp = change.Facts (record { certname = codes "n"; environment = None; values = []; stamp = stamp; producer = None })

  abbrev one_node : Table
  one_node = record {
    ttls = default_ttls;
    expiry = None;
    retention = None;
    nodes = record {
      certname = codes "n";
      active = Some (pos 5);
      facts = Some (applied_as 5 (Some e.received) (facts (pos 5)));
      catalog = None;
      deactivate = None;
      expiration = None;
      reports = [];
    } ∷ [];
  }

  module _ (decodes : answer_of e ≡ Ok (facts (pos 5))) where
    the_table_has_the_newest : table_of default_ttls (trace_of settled) ≡ one_node
    the_table_has_the_newest = rw decodes refl

    the_records_lead_to_it : table_after (store.Settings 7 14 14 ∷ store.Base None None None ∷ store_trace [] settled) (empty_table default_ttls) ≡ one_node
    the_records_lead_to_it = rw decodes refl

    a_checkpoint_leads_to_it : table_after (store_checkpoint default_ttls (Some 5) (trace_of settled)) (empty_table default_ttls) ≡ one_node
    a_checkpoint_leads_to_it = rw decodes refl

-- ---- failures

module _ (a : Command) where
  -- claimed and failed so often
  abbrev failed : ℕ → History
  failed zero = Submit 1 a ∷ []
  failed (suc n) = Fail 1 n (suc n) ∷ Claim 1 ∷ failed n

  after_fifteen_it_waits : receipts_of (pending_after (queue.Base 0 ∷ queue_trace (failed 15)) []) ≡ 1 ∷ []
  after_fifteen_it_waits = refl

  after_sixteen_nothing_waits : pending_after (queue.Base 0 ∷ queue_trace (failed 16)) [] ≡ []
  after_sixteen_nothing_waits = refl

  after_fifteen_none_is_discarded : dead_after (queue.Base 0 ∷ queue_trace (failed 15)) [] [] ≡ []
  after_fifteen_none_is_discarded = refl

  after_sixteen_it_is_discarded : dead_after (queue.Base 0 ∷ queue_trace (failed 16)) [] [] ≡ record { receipt = 1; command = a; cause = Failures } ∷ []
  after_sixteen_it_is_discarded = refl

  after_sixteen_it_is_given_up : outcome 1 (Discard 1 Failures ∷ failed 16) ≡ Some (discarded Failures)
  after_sixteen_it_is_given_up = refl

  -- ---- a Done that lacks

  without_its_done_it_waits : receipts_of (pending_after (queue.Base 0 ∷ queue.Submit 1 a ∷ []) []) ≡ 1 ∷ []
  without_its_done_it_waits = refl

  with_its_done_none_waits : pending_after (queue.Base 0 ∷ queue.Submit 1 a ∷ queue.Done 1 ∷ []) [] ≡ []
  with_its_done_none_waits = refl
