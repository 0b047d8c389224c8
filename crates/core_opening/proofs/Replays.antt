-- What a record makes of the commands that wait and of those that were given up, and that it may be replayed.
use Rattle.std.proofs.Common.{◌≡◌, ◌∙◌, ℕ, suc, ◌<◌, ◌≤◌, ◌==◌, List, [], ◌∷◌, ◌++◌, reverse, map, arith, refl, sym, ap, subst, Bool, true, false, ◌||◌, if◌then◌else◌, nat_lt, Option, Some}
use Rattle.std.specs.Prelude.{MatchOption}
use Rattle.std.specs.List.{AllByRecursion, flat_map}
use Rattle.std.proofs.lemmas.List.{reverse-append}
use Rattle.ttl_sweeps.proofs.of_plain_laws.Options.{none_some, some_is}
use Rattle.core_state.specs.fleet_rows.declared.refusal.Cause.TheVariants.{Failures}
use Rattle.core_state.specs.record_spec.declared.queue.QueueRecord.{QueueRecord}
use Rattle.core_state.specs.record_spec.declared.queue.QueueRecord.TheVariants as queue
use Rattle.core_state.specs.record_spec.Queue.{queue_text, IsQueueRecord}
use Rattle.core_state.specs.core_spec.declared.dead.Dead.{Dead}
use Rattle.core_state.specs.core_spec.declared.entry.Entry.{Entry}
use Rattle.core_state.specs.core_spec.Damage.{attempts, MayQueue, AreQueued}
use Rattle.core_state.specs.core_machine.Claims.{attempts_of}
use Rattle.core_state.specs.core_machine.Steps.{marked, failed, at_receipt}
use Rattle.core_state.specs.core_laws.Replay.{if_few, at_entry, given_up, if_worn_out, pending_after, dead_by, dead_after, last_by, last_after}
use Rattle.core_state.proofs.of_core_laws.DeadReplays.{dead_joined}
use Rattle.core_state.proofs.of_core_laws.QueueLogs.{all_so}
use Rattle.core_state.proofs.of_core_laws.Replays.{pending_joined, last_joined}
use Rattle.core_state.proofs.of_core_laws.WaitingRecords.{IsFew, IsReplayed, few_of, records_wait}
use Rattle.core_state.specs.supersede_core.Waiting.{Rises, counted, entry_of, stands}
use Rattle.core_state.proofs.of_supersede_core.ChangedEntries.{changed_rises, left_rises, more_rises}
use Rattle.core_state.proofs.of_plain_laws.Members.{all_more}
use Rattle.core_state.specs.queue_records.Reading.{queue_at}
use Rattle.core_opening.specs.declared.reading.Reading.{Reading}
use Rattle.core_opening.specs.declared.reading.SoFar.{SoFar}
use Rattle.core_opening.specs.LogPrefix.{IsLogPrefix}
use Rattle.core_opening.specs.Replayed.{AreQueuedOnly, FailAlike, MayReplay, IsSoFar, IsReading, IsTaken, bare, bare_by, grouped}
use Rattle.core_opening.proofs.Bares.{bare_is, dead_bare, replayed_bare, queued_bare, regrouped}
use Rattle.core_opening.proofs.Fronts.{never, wait_so}
use Rattle.core_opening.proofs.Sounds.{none_is_claimed, each_grouped}

-- ---- the entry of a receipt

at_step : (b : Bool) (r : ℕ) (put : Entry → List Dead → List Dead) (f e : Entry) (es : List Entry) (ds : List Dead) → (if b then Some f else entry_of r es) ≡ Some e → (entry_of r es ≡ Some e → at_entry r put es ds ≡ put e ds)
    → (if b then put f ds else at_entry r put es ds) ≡ put e ds
at_step true r put f e es ds is next = ap (λ (x : Entry). put x ds) (some_is f e is)
at_step false r put f e es ds is next = next is

pub at_of : (r : ℕ) (put : Entry → List Dead → List Dead) (es : List Entry) (ds : List Dead) (e : Entry) → entry_of r es ≡ Some e → at_entry r put es ds ≡ put e ds
at_of r put [] ds e is = none_some e is
at_of r put (f ∷ es) ds e is = at_step (r == f.receipt) r put f e es ds is (at_of r put es ds e)

record HasOne (r : ℕ) (es : List Entry) : Type 0 where
  pub entry : Entry
  pub is : entry_of r es ≡ Some entry
  pub attempts : attempts_of r es ≡ entry.attempts

has_step : (b : Bool) (r : ℕ) (e : Entry) (es : List Entry) → (r == e.receipt) ≡ b → (b || stands r es) ≡ true → (stands r es ≡ true → HasOne r es) → HasOne r (e ∷ es)
has_step true r e es same h next = record { entry = e; is = rw same refl; attempts = rw same refl }
has_step false r e es other h next = let there = next h in record { entry = there.entry; is = rw other there.is; attempts = rw other there.attempts }

has_one : (r : ℕ) (es : List Entry) → stands r es ≡ true → HasOne r es
has_one r [] h = never h
has_one r (e ∷ es) h = has_step (r == e.receipt) r e es refl h (has_one r es)

-- ---- a failure

module _ (r n : ℕ) (f g : Entry → List Entry) (same : (e : Entry) → e.claimed ≡ false → e.attempts ≡ n → f e ≡ g e) where
  same_step : (b : Bool) (e : Entry) → (r == e.receipt) ≡ b → e.claimed ≡ false → (e.receipt ≡ r → e.attempts ≡ n) → (if b then f e else e ∷ []) ≡ (if b then g e else e ∷ [])
  same_step true e is free alike = same e free (alike (grind (arith, is)))
  same_step false e is free alike = refl

  same_flat : (es : List Entry) → AreQueuedOnly es → AllByRecursion (λ (e : Entry). e.receipt ≡ r → e.attempts ≡ n) es → flat_map (at_receipt r f) es ≡ flat_map (at_receipt r g) es
  same_flat [] free alike = refl
  same_flat (e ∷ es) free alike = λ i. same_step (r == e.receipt) e refl free.0 alike.0 i ++ same_flat es free.1 alike.1 i

module _ (r : ℕ) (es : List Entry) (ds : List Dead) (there : stands r es ≡ true) (free : AreQueuedOnly es) (alike : FailAlike r es) where
  one : HasOne r es
  one = has_one r es there

  module _ (last : 15 ≤ attempts_of r es) where
    worn : (e : Entry) → e.attempts ≡ attempts_of r es → nat_lt (suc e.attempts) 16 ≡ false
    worn e is = grind (arith, is, last)

    pub worn_pending : flat_map (at_receipt r (λ e. [])) es ≡ flat_map (at_receipt r (λ e. if_few (failed e))) es
    worn_pending = same_flat r (attempts_of r es) (λ e. []) (λ e. if_few (failed e)) (λ e queued is. rw (worn e is) refl) es free alike

    pub worn_dead : at_entry r (given_up Failures) es ds ≡ at_entry r if_worn_out es ds
    worn_dead = at_of r (given_up Failures) es ds one.entry one.is ∙ sym (at_of r if_worn_out es ds one.entry one.is ∙ rw (worn one.entry (sym one.attempts)) refl)

  module _ (more : attempts_of r es < 15) where
    fresh : (e : Entry) → e.attempts ≡ attempts_of r es → nat_lt (suc e.attempts) 16 ≡ true
    fresh e is = grind (arith, is, more)

    once_more : (e : Entry) → e.claimed ≡ false → e.attempts ≡ attempts_of r es → (counted e ∷ []) ≡ if_few (failed e)
    once_more e queued is =
        let kept : marked false (failed e) ≡ counted e = λ i. record { receipt = e.receipt; command = e.command; group = e.group; attempts = suc e.attempts; claimed = sym queued i } in
        rw (fresh e is) (ap (λ (x : Entry). x ∷ []) (sym kept))

    pub counted_pending : flat_map (at_receipt r (λ e. counted e ∷ [])) es ≡ flat_map (at_receipt r (λ e. if_few (failed e))) es
    counted_pending = same_flat r (attempts_of r es) (λ e. counted e ∷ []) (λ e. if_few (failed e)) once_more es free alike

    pub counted_dead : ds ≡ at_entry r if_worn_out es ds
    counted_dead = sym (at_of r if_worn_out es ds one.entry one.is ∙ rw (fresh one.entry (sym one.attempts)) refl)

not_last_by : (r : ℕ) (es : List Entry) (n : ℕ) (b : Bool) → nat_lt n 15 ≡ b → n ≡ attempts_of r es → (15 ≤ n → ⊥) → attempts_of r es < 15
not_last_by r es n true less is not = grind (arith, less, is)
not_last_by r es n false less is not = absurd (not (grind (arith, less)))

pub not_last : (r : ℕ) (es : List Entry) (n : ℕ) (last : Bool) → n ≡ attempts_of r es → last ≡ false → (15 ≤ n → last ≡ true) → attempts_of r es < 15
not_last r es n last is other told = not_last_by r es n (nat_lt n 15) refl is (λ le. never (sym other ∙ told le))

-- ---- a record that may stand there may be replayed

abbrev Counted : List QueueRecord → Entry → Type 0
Counted L e = (e.attempts < 16) × (attempts e.receipt L ≡ e.attempts)

module _ (earlier : List QueueRecord) (r : ℕ) where
  told_step : (b : Bool) (e : Entry) (es : List Entry) → (r == e.receipt) ≡ b → attempts e.receipt earlier ≡ e.attempts → (b || stands r es) ≡ true → (stands r es ≡ true → attempts_of r es ≡ attempts r earlier)
      → (if b then e.attempts else attempts_of r es) ≡ attempts r earlier
  told_step true e es same is h next = let own : e.receipt ≡ r = grind (arith, same) in sym is ∙ ap (λ q. attempts q earlier) own
  told_step false e es other is h next = next h

  told_attempts : (es : List Entry) → AllByRecursion (Counted earlier) es → stands r es ≡ true → attempts_of r es ≡ attempts r earlier
  told_attempts [] all h = never h
  told_attempts (e ∷ es) all h = told_step (r == e.receipt) e es refl all.0.1 h (told_attempts es all.1)

  fail_alike : (es : List Entry) → AllByRecursion (Counted earlier) es → stands r es ≡ true → FailAlike r es
  fail_alike es all h =
      let told = told_attempts es all h in
      all_so (Counted earlier) (λ (e : Entry). e.receipt ≡ r → e.attempts ≡ attempts_of r es) es (λ e is same. sym is.1 ∙ ap (λ q. attempts q earlier) same ∙ sym told) all

pub may_replay : (x : QueueRecord) (earlier : List QueueRecord) (es : List Entry) → IsReplayed earlier es → AreQueuedOnly es → IsQueueRecord x → MayQueue x earlier → MayReplay x es
may_replay (queue.Base last) earlier es h free fits may = tt
may_replay (queue.Held r n c) earlier es h free fits may = (h.held may.front r may.rises, fits.1, omega (arith, may.room, (wait_so earlier es h).many))
may_replay (queue.Dead r c why) earlier es h free fits may = tt
may_replay (queue.Submit r c) earlier es h free fits may = (h.given r may.rises, omega (arith, may.room, (wait_so earlier es h).many))
may_replay (queue.Done r) earlier es h free fits may = ((wait_so earlier es h).each r).0 may
may_replay (queue.Superseded r p) earlier es h free fits may = ((wait_so earlier es h).each r).0 may
may_replay (queue.Refused r f) earlier es h free fits may = ((wait_so earlier es h).each r).0 may
may_replay (queue.Fail r b a) earlier es h free fits may =
    let there = ((wait_so earlier es h).each r).0 may.0 in
    (there, all_so (Counted earlier) (λ (e : Entry). e.attempts < 16) es (λ e k. k.0) h.entries, free, fail_alike earlier r es h.entries there)

-- ---- receipts rise

failed_rises : (b : Bool) (r : ℕ) (es : List Entry) → nat_lt (attempts_of r es) 15 ≡ b → stands r es ≡ true → AreQueuedOnly es → FailAlike r es → Rises es → Rises (flat_map (at_receipt r (λ e. if_few (failed e))) es)
failed_rises true r es less there free alike rises = subst Rises (counted_pending r es [] there free alike (grind (arith, less))) (changed_rises r counted es (λ e. refl) rises)
failed_rises false r es less there free alike rises = subst Rises (worn_pending r es [] there free alike (grind (arith, less))) (left_rises r es rises)

rises_by : (x : QueueRecord) (es : List Entry) → MayReplay x es → Rises es → Rises (bare_by x es)
rises_by (queue.Base last) es may rises = rises
rises_by (queue.Held r n c) es may rises = more_rises es _ rises may.0
rises_by (queue.Dead r c why) es may rises = rises
rises_by (queue.Submit r c) es may rises = more_rises es _ rises may.0
rises_by (queue.Done r) es may rises = left_rises r es rises
rises_by (queue.Superseded r p) es may rises = left_rises r es rises
rises_by (queue.Refused r f) es may rises = left_rises r es rises
rises_by (queue.Fail r b a) es may rises = failed_rises (nat_lt (attempts_of r es) 15) r es refl may.0 may.2 may.3 rises

-- ---- one record more is read

pub told_frame : (frame : List ℕ) (o : Option QueueRecord) (rec : QueueRecord) → o ≡ Some rec → MatchOption o ((r : QueueRecord) → IsQueueRecord r → frame ≡ queue_text r → ⊥) (λ r. IsQueueRecord r × (frame ≡ queue_text r)) → IsQueueRecord rec × (frame ≡ queue_text rec)
told_frame frame o rec is found = subst (λ (p : Option QueueRecord). MatchOption p ((r : QueueRecord) → IsQueueRecord r → frame ≡ queue_text r → ⊥) (λ r. IsQueueRecord r × (frame ≡ queue_text r))) is found

pub read_so : (so_far : SoFar) → IsSoFar so_far → IsReplayed (reverse so_far.records) so_far.pending
read_so so_far is =
    let all = pending_after so_far.records [] in
    subst (λ (es : List Entry). IsReplayed (reverse so_far.records) es) (sym is.pending)
    (replayed_bare (reverse so_far.records) all (records_wait so_far.records is.stand (all_so IsQueueRecord IsFew so_far.records few_of is.lawful)))

pub read_free : (so_far : SoFar) → IsSoFar so_far → AreQueuedOnly so_far.pending
read_free so_far is = subst AreQueuedOnly (sym is.pending) (queued_bare (pending_after so_far.records []) (none_is_claimed so_far.records))

pub one_taken : (old new : SoFar) (frame : List ℕ) (rec : QueueRecord) → IsSoFar old → queue_at frame ≡ Some rec → IsQueueRecord rec → MayQueue rec (reverse old.records) → MayReplay rec old.pending
    → new.records ≡ old.records ++ rec ∷ [] → new.pending ≡ bare_by rec old.pending → new.discards.list ≡ dead_by rec old.pending old.discards.list → new.last ≡ last_by rec old.last
    → IsLogPrefix new.front (rec ∷ reverse old.records) → IsTaken old frame new
one_taken old new frame rec is read fits may replays records pending dead last front =
    let back : rec ∷ reverse old.records ≡ reverse new.records = sym (ap reverse records ∙ reverse-append old.records (rec ∷ [])) in
    let waiting = pending_after old.records [] in
    record {
      rec = rec;
      is = read;
      may = may;
      more = records;
      so_far = record {
        stand = subst AreQueued back (may, is.stand);
        lawful = subst (AllByRecursion IsQueueRecord) (sym records) (all_more IsQueueRecord old.records rec is.lawful fits);
        pending = pending ∙ ap (bare_by rec) is.pending ∙ sym (bare_is rec waiting fits) ∙ sym (ap (λ (xs : List QueueRecord). map bare (pending_after xs [])) records ∙ ap (map bare) (pending_joined old.records (rec ∷ []) []));
        rises = subst Rises (sym pending) (rises_by rec old.pending replays is.rises);
        discards = dead ∙ (λ i. dead_by rec (is.pending i) (is.discards i)) ∙ dead_bare rec waiting (dead_after old.records [] [])
            ∙ sym (ap (λ (xs : List QueueRecord). dead_after xs [] []) records ∙ dead_joined old.records (rec ∷ []) [] []);
        last = last ∙ ap (last_by rec) is.last ∙ sym (ap (λ (xs : List QueueRecord). last_after xs 0) records ∙ last_joined old.records (rec ∷ []) 0);
        front = subst (IsLogPrefix new.front) back front;
      };
    }

-- ---- all was read

pub so_far_few : (so_far : SoFar) → IsSoFar so_far → AllByRecursion (λ (e : Entry). e.attempts < 16) so_far.pending
so_far_few so_far is = all_so (Counted (reverse so_far.records)) (λ (e : Entry). e.attempts < 16) so_far.pending (λ e k. k.0) (read_so so_far is).entries

pub whole_reading : (so_far : SoFar) (reading : Reading) → IsSoFar so_far → reading.found.value ≡ so_far.records → reading.pending ≡ map grouped so_far.pending
    → reading.discards.list ≡ so_far.discards.list → reading.last ≡ so_far.last → IsReading reading
whole_reading so_far reading is found pending discards last =
    let back = sym found in
    let waiting = ap (map grouped) is.pending ∙ regrouped (pending_after so_far.records []) (each_grouped so_far.records) in
    record {
      stand = subst (λ (xs : List QueueRecord). AreQueued (reverse xs)) back is.stand;
      lawful = subst (AllByRecursion IsQueueRecord) back is.lawful;
      pending = pending ∙ waiting ∙ ap (λ (xs : List QueueRecord). pending_after xs []) back;
      discards = discards ∙ is.discards ∙ ap (λ (xs : List QueueRecord). dead_after xs [] []) back;
      last = last ∙ is.last ∙ ap (λ (xs : List QueueRecord). last_after xs 0) back;
    }
