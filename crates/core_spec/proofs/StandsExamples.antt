-- Records of the two logs, and the histories that they stand for.
use Rattle.std.proofs.Common.{◌≡◌, inl, inr, ℕ, zero, suc, ℤ, pos, List, [], ◌∷◌, arith, refl, codes, Some, None, Ok}
use Rattle.table_spec.specs.fleet_rows.Defaults.{default_ttls}
use Rattle.table_spec.specs.fleet_rows.declared.change.Change.{Change}
use Rattle.table_spec.specs.fleet_rows.declared.change.Change.TheVariants as change
use Rattle.table_spec.specs.fleet_rows.declared.command.Command.{Command}
use Rattle.table_spec.specs.fleet_rows.declared.refusal.Cause.TheVariants.{Failures}
use Rattle.table_spec.specs.fleet_rows.declared.settings.Kinds.{Kinds}
use Rattle.record_spec.specs.declared.queue.QueueRecord.TheVariants as queue
use Rattle.record_spec.specs.declared.store.StoreRecord.{StoreRecord}
use Rattle.record_spec.specs.declared.store.StoreRecord.TheVariants as store
use Rattle.core_spec.specs.declared.event.Event.TheVariants.{Submit, Claim, Apply, Fail, Discard, Sweep}
use Rattle.core_spec.specs.Checkpoints.{queue_checkpoint, store_checkpoint, untold}
use Rattle.core_spec.specs.Commands.{answer_of}
use Rattle.core_spec.specs.History.{History, trace_of}
use Rattle.core_spec.specs.Pending.{pending_of, NoneIsWornOut}
use Rattle.core_spec.specs.Stands.{queue_trace, store_trace, QueueTells, StoreTells, MissesDone, GivesUpAtOnce, last_taken}

-- ---- checkpoints

the_checkpoint_of_nothing_is_a_base : queue_checkpoint [] ≡ queue.Base 0 ∷ []
the_checkpoint_of_nothing_is_a_base = refl

nothing_in_the_store : store_checkpoint default_ttls None [] ≡ store.Settings 7 14 14 ∷ store.Base None None None ∷ []
nothing_in_the_store = refl

module _ (a b c : Command) where
  abbrev three : History
  three = Discard 1 Failures ∷ Fail 3 7 9 ∷ Claim 3 ∷ Submit 3 c ∷ Claim 2 ∷ Submit 2 b ∷ Submit 1 a ∷ []

  the_last_receipt_then_what_waits_then_what_was_discarded : queue_checkpoint three ≡ queue.Base 3 ∷ queue.Held 2 0 b ∷ queue.Held 3 1 c ∷ queue.Dead 1 a Failures ∷ []
  the_last_receipt_then_what_waits_then_what_was_discarded = refl

-- a node's marks, and what is kept of it
abbrev facts : ℤ → Change
facts stamp = change.Facts (record { certname = codes "n"; environment = None; values = []; stamp = stamp; producer = None })

module _ (a b : Command) (older : answer_of a ≡ Ok (facts (pos 2))) (newer : answer_of b ≡ Ok (facts (pos 3))) where
  abbrev both : History
  both = Apply 2 (Some b.received) ∷ Claim 2 ∷ Apply 1 (Some a.received) ∷ Claim 1 ∷ Submit 2 b ∷ Submit 1 a ∷ []

  of_a_node_the_newest_is_kept : store_checkpoint default_ttls (Some 2) (trace_of both)
      ≡ store.Settings 7 14 14 ∷ store.Base None None (Some 2) ∷ store.Marks (record { certname = codes "n"; active = Some (pos 3); deactivated = None })
      ∷ store.Received 2 (Some b.received) (facts (pos 3)) ∷ []
  of_a_node_the_newest_is_kept = rw (older, newer) refl

-- ---- a Done that lacks

module _ (a : Command) (d : Change) (decodes : answer_of a ≡ Ok d) where
  abbrev taken : History
  taken = Apply 1 (Some a.received) ∷ Claim 1 ∷ Submit 1 a ∷ []

  abbrev kept : List StoreRecord
  kept = store.Settings 7 14 14 ∷ store.Base None None None ∷ store.Received 1 (Some a.received) d ∷ []

  the_store_took_one : last_taken kept ≡ Some 1
  the_store_took_one = refl

  the_store_tells_it : StoreTells default_ttls kept taken
  the_store_tells_it = record {
    later = taken;
    upto = [];
    whole = refl;
    start = store.Settings 7 14 14 ∷ store.Base None None None ∷ [];
    starts = (None, tt, inl refl);
    says = rw decodes refl;
  }

  the_queue_tells_it_with_its_done : QueueTells (queue.Base 0 ∷ queue.Submit 1 a ∷ queue.Done 1 ∷ []) taken
  the_queue_tells_it_with_its_done = record { later = taken; upto = []; whole = refl; few = tt; says = refl }

  the_queue_lacks_its_done : MissesDone (queue.Base 0 ∷ queue.Submit 1 a ∷ []) kept taken
  the_queue_lacks_its_done = record { receipt = 1; taken = refl; tells = the_queue_tells_it_with_its_done }

  -- the store alone tells nothing of the claim
  the_store_tells_it_without_a_claim_too : StoreTells default_ttls kept (Apply 1 (Some a.received) ∷ Submit 1 a ∷ [])
  the_store_tells_it_without_a_claim_too = record {
    later = Apply 1 (Some a.received) ∷ Submit 1 a ∷ [];
    upto = [];
    whole = refl;
    start = store.Settings 7 14 14 ∷ store.Base None None None ∷ [];
    starts = (None, tt, inl refl);
    says = rw decodes refl;
  }

  a_base_names_the_receipt_where_no_change_is_behind_it : last_taken (store.Settings 7 14 14 ∷ store.Base None None (Some 4) ∷ []) ≡ Some 4
  a_base_names_the_receipt_where_no_change_is_behind_it = refl

  -- ---- moments that aren't told

  without_its_moment : untold (store.Received 1 None d) ≡ store.Applied 1 d
  without_its_moment = refl

-- ---- what stands for nothing

module _ (a b : Command) where
  -- claimed and failed so often
  abbrev failed : ℕ → History
  failed zero = Submit 1 a ∷ []
  failed (suc n) = Fail 1 n (suc n) ∷ Claim 1 ∷ failed n

  after_fifteen_failures_none_is_worn_out : NoneIsWornOut (pending_of (failed 15))
  after_fifteen_failures_none_is_worn_out = (omega arith, tt)

  after_sixteen_one_is : NoneIsWornOut (pending_of (failed 16)) → ⊥
  after_sixteen_one_is h = omega (arith, h.0)

  it_is_given_up_at_once : (e : GivesUpAtOnce (failed 16)) → GivesUpAtOnce (Discard 1 Failures ∷ failed 16)
  it_is_given_up_at_once e = (inr tt, e)

  a_command_comes_in_before_it_is_given_up : GivesUpAtOnce (Discard 1 Failures ∷ Submit 2 b ∷ failed 16) → ⊥
  a_command_comes_in_before_it_is_given_up h = elim h.1.0 [ inl none ↦ after_sixteen_one_is none | inr never ↦ never ]

-- ---- a sweep

module _ (a : Command) (kinds : Kinds) (m : ℤ) where
  a_sweep_leaves_a_record_in_the_store : store_trace [] (Sweep kinds m ∷ Submit 1 a ∷ []) ≡ store.Swept kinds m ∷ []
  a_sweep_leaves_a_record_in_the_store = refl

  and_none_in_the_queue : queue_trace (Sweep kinds m ∷ Submit 1 a ∷ []) ≡ queue.Submit 1 a ∷ []
  and_none_in_the_queue = refl
