-- The records go on with the events, and stand for the history then.
use Rattle.std.proofs.Common.{◌≡◌, ◌≢◌, ◌∙◌, ◌⊎◌, inl, inr, ℕ, ◌==◌, ℤ, List, [], ◌∷◌, ◌++◌, length-append, reverse, arith, refl, sym, ap, subst, map, Bool, true, false, if◌then◌else◌, Option, Some, None, Result, Ok, append_assoc}
use Rattle.std.specs.List.{AllByRecursion, flat_map}
use Rattle.std.proofs.lemmas.List.{append-nil, reverse-append}
use Rattle.core_machine.proofs.of_plain_laws.Options.{some_same}
use Rattle.core_machine.specs.fleet_rows.declared.change.Change.{Change}
use Rattle.core_machine.specs.fleet_rows.declared.refusal.Cause.TheVariants.{Refused, Failures}
use Rattle.core_machine.specs.fleet_rows.declared.refusal.Refusal.{Refusal}
use Rattle.core_machine.specs.fleet_rows.declared.settings.Ttls.{Ttls}
use Rattle.core_machine.specs.record_spec.declared.queue.QueueRecord.{QueueRecord}
use Rattle.core_machine.specs.record_spec.declared.queue.QueueRecord.TheVariants as queue
use Rattle.core_machine.specs.record_spec.declared.store.StoreRecord.{StoreRecord}
use Rattle.core_machine.specs.record_spec.declared.store.StoreRecord.TheVariants as store
use Rattle.core_machine.specs.core_spec.declared.dead.Dead.{Dead}
use Rattle.core_machine.specs.core_spec.declared.entry.Entry.{Entry}
use Rattle.core_machine.specs.core_spec.declared.event.Event.{Event}
use Rattle.core_machine.specs.core_spec.declared.event.Event.TheVariants.{Submit, Claim, Release, Apply, Supersede, Fail, Discard, Sweep, Restart}
use Rattle.core_machine.specs.core_spec.Checkpoints.{held, dead, queue_checkpoint, store_checkpoint}
use Rattle.core_machine.specs.core_spec.Damage.{AreQueued}
use Rattle.core_machine.specs.core_spec.Discards.{dead_of}
use Rattle.core_machine.specs.core_spec.History.{History, answer, claimed, applied, standing, trace_of}
use Rattle.core_machine.specs.core_spec.Legal.{IsLegal}
use Rattle.core_machine.specs.core_spec.Pending.{pending_of, NoneIsWornOut}
use Rattle.core_machine.specs.core_spec.Stands.{queue_part, queue_trace, QueueTells, change_part, store_part, store_trace, StoreTells, or_else, last_taken, MissesDone, Stands}
use Rattle.core_machine.specs.Steps.{at_receipt, left_by}
use Rattle.core_machine.proofs.PendingSteps.{pending_is_followed}
use Rattle.core_laws.specs.StandingLaws.{QueueRecordsGoOn, StoreRecordsGoOn, QueueCheckpointsTell, StoreCheckpointsTell, BothLogsStand, AChangeStandsBeforeItsDone, DonesAreMended, RestartsLeaveTheRecords}
use Rattle.core_laws.proofs.Endings.{IsEnded, ended_stays}
use Rattle.core_laws.proofs.Missing.{missing_waits, whole_waits_not}
use Rattle.core_laws.proofs.StoreLogs.{no_store_record_is_damage}
use Rattle.core_laws.proofs.WaitingRecords.{IsFew, waits_where_led}

-- ---- one event more

pub queue_records_go_on : QueueRecordsGoOn
queue_records_go_on records e history t = record {
  later = e ∷ t.later;
  upto = t.upto;
  whole = ap (λ (h : History). e ∷ h) t.whole;
  few = t.few;
  says = ap (λ (xs : List QueueRecord). xs ++ queue_part e) t.says ∙ append_assoc (queue_checkpoint t.upto) (queue_trace t.later) (queue_part e);
}

abbrev pub store_next : (ttls : Ttls) (records : List StoreRecord) (e : Event) (history : History) → StoreTells ttls records history → StoreTells ttls (records ++ store_part e history) (e ∷ history)
store_next ttls records e history t = record {
  later = e ∷ t.later;
  upto = t.upto;
  whole = ap (λ (h : History). e ∷ h) t.whole;
  start = t.start;
  starts = t.starts;
  says =
      ap (λ (xs : List StoreRecord). xs ++ store_part e history) t.says
      ∙ append_assoc t.start (store_trace t.upto t.later) (store_part e history)
      ∙ ap (λ (h : History). t.start ++ (store_trace t.upto t.later ++ store_part e h)) t.whole;
}

pub store_records_go_on : StoreRecordsGoOn
store_records_go_on ttls records e history t = store_next ttls records e history t

pub queue_checkpoints_tell : QueueCheckpointsTell
queue_checkpoints_tell history few = record { later = []; upto = history; whole = refl; few = few; says = sym (append-nil (queue_checkpoint history)) }

pub store_checkpoints_tell : StoreCheckpointsTell
store_checkpoints_tell ttls taken history may = record {
  later = [];
  upto = history;
  whole = refl;
  start = store_checkpoint ttls taken (trace_of history);
  starts = (taken, may, inl refl);
  says = sym (append-nil (store_checkpoint ttls taken (trace_of history)));
}

-- ---- both logs

-- where the queue tells the history, no Done lacks
not_both : (ttls : Ttls) (queued_now : List QueueRecord) (kept : List StoreRecord) (history : History) → IsLegal ttls history → StoreTells ttls kept history → QueueTells queued_now history → MissesDone queued_now kept history → ⊥
not_both ttls queued_now kept history l t q missing =
    whole_waits_not ttls queued_now kept history l t q missing.receipt missing.taken (missing_waits ttls queued_now kept history l missing)

pub both_logs_stand : BothLogsStand
both_logs_stand ttls queued_now kept history plain q t log = record {
  legal = plain.legal;
  few = plain.few;
  at_once = plain.at_once;
  store = t;
  queue = inl q;
  queue_log = log;
  store_log = no_store_record_is_damage ttls kept history t;
  done = λ missing h. not_both ttls queued_now kept history plain.legal t q missing;
}

-- ---- the receipt that was taken last

taken_last : (xs : List StoreRecord) (r : ℕ) (x : StoreRecord) → last_taken (x ∷ []) ≡ Some r → last_taken (xs ++ x ∷ []) ≡ Some r
taken_last [] r x h = h
taken_last (store.Settings n p q ∷ xs) r x h = taken_last xs r x h
taken_last (store.Base expire retain taken ∷ xs) r x h = ap (λ o. or_else o taken) (taken_last xs r x h)
taken_last (store.Marks m ∷ xs) r x h = taken_last xs r x h
taken_last (store.Applied q c ∷ xs) r x h = ap (λ o. or_else o (Some q)) (taken_last xs r x h)
taken_last (store.Swept kinds m ∷ xs) r x h = taken_last xs r x h
taken_last (store.Received q t c ∷ xs) r x h = ap (λ o. or_else o (Some q)) (taken_last xs r x h)
taken_last (store.Limits n p q k ∷ xs) r x h = taken_last xs r x h

part_taken : (kept : List StoreRecord) (r : ℕ) (t : Option ℤ) (change : Change) (a : Option (Result Change Refusal)) → a ≡ Some (Ok change) → last_taken (kept ++ change_part r t a) ≡ Some r
part_taken kept r None change a e = ap (λ a. last_taken (kept ++ change_part r None a)) e ∙ taken_last kept r (store.Applied r change) refl
part_taken kept r (Some m) change a e = ap (λ a. last_taken (kept ++ change_part r (Some m) a)) e ∙ taken_last kept r (store.Received r (Some m) change) refl

still_applied : (ttls : Ttls) (later upto : History) (r : ℕ) → IsLegal ttls (later ++ upto) → standing r upto ≡ applied → standing r (later ++ upto) ≡ applied
still_applied ttls [] upto r l h = h
still_applied ttls (e ∷ later) upto r l h =
    let before = still_applied ttls later upto r l.1 h in
    ended_stays ttls e (later ++ upto) r l (subst IsEnded (sym before) tt) ∙ before

-- ---- what waits and isn't worn out

pub few_left : (r : ℕ) (es : List Entry) → NoneIsWornOut es → NoneIsWornOut (flat_map (at_receipt r (λ e. [])) es)
few_left r [] h = tt
few_left r (e ∷ es) h = by (r == e.receipt) (few_left r es h.1)
  where
    by : (b : Bool) → NoneIsWornOut (flat_map (at_receipt r (λ e. [])) es) → NoneIsWornOut ((if b then [] else e ∷ []) ++ flat_map (at_receipt r (λ e. [])) es)
    by true k = k
    by false k = (h.0, k)

pub few_restarted : (es : List Entry) → NoneIsWornOut es → NoneIsWornOut (flat_map (left_by Restart) es)
few_restarted [] h = tt
few_restarted (e ∷ es) h = (h.0, few_restarted es h.1)

few_after : (ttls : Ttls) (e : Event) (history : History) (es : List Entry) → IsLegal ttls (e ∷ history) → flat_map (left_by e) (pending_of history) ++ [] ≡ pending_of (e ∷ history) → NoneIsWornOut (flat_map (left_by e) (pending_of history)) → NoneIsWornOut (pending_of (e ∷ history))
few_after ttls e history es l follows h = subst NoneIsWornOut (sym (append-nil (flat_map (left_by e) (pending_of history))) ∙ follows) h

-- ---- a change whose Done lacks as yet

module _ (ttls : Ttls) (queued_now : List QueueRecord) (kept : List StoreRecord) (r : ℕ) (t : Option ℤ) (history : History) where
  lacks : (l : IsLegal ttls (Apply r t ∷ history)) → QueueTells queued_now history → MissesDone queued_now (kept ++ store_part (Apply r t) history) (Apply r t ∷ history)
  lacks l q = record {
    receipt = r;
    taken = part_taken kept r t l.0.change (answer r history) l.0.decodes;
    tells = queue_records_go_on queued_now (Apply r t) history q;
  }

  not_yet : IsLegal ttls (Apply r t ∷ history) → (tells : StoreTells ttls kept history) → standing r tells.upto ≢ applied
  not_yet l tells h =
      let now : standing r history ≡ applied = ap (standing r) tells.whole ∙ still_applied ttls tells.later tells.upto r (subst (IsLegal ttls) tells.whole l.1) h in
      let apart : claimed ≡ applied = sym l.0.claimed ∙ now in cc

pub a_change_stands_before_its_done : AChangeStandsBeforeItsDone
a_change_stands_before_its_done ttls queued_now kept r t history plain l q tells log = record {
  legal = l;
  few = few_after ttls (Apply r t) history (pending_of history) l (pending_is_followed ttls (Apply r t) history l) (few_left r (pending_of history) plain.few);
  at_once = (inl plain.few, plain.at_once);
  store = store_next ttls kept (Apply r t) history tells;
  queue = inr (lacks ttls queued_now kept r t history l q);
  queue_log = log;
  store_log = no_store_record_is_damage ttls (kept ++ store_part (Apply r t) history) (Apply r t ∷ history) (store_next ttls kept (Apply r t) history tells);
  done = λ missing h.
      let same : r ≡ missing.receipt = sym (some_same r missing.receipt (sym (part_taken kept r t l.0.change (answer r history) l.0.decodes) ∙ missing.taken)) in
      not_yet ttls queued_now kept r t history l tells (ap (λ n. standing n tells.upto) same ∙ h);
}

-- ---- the Done is written

few_heads : (xs ys : List QueueRecord) → AllByRecursion IsFew (xs ++ ys) → AllByRecursion IsFew xs
few_heads [] ys h = tt
few_heads (x ∷ xs) ys h = (h.0, few_heads xs ys h.1)

few_both : (xs ys : List QueueRecord) → AllByRecursion IsFew xs → AllByRecursion IsFew ys → AllByRecursion IsFew (xs ++ ys)
few_both [] ys h g = g
few_both (x ∷ xs) ys h g = (h.0, few_both xs ys h.1 g)

few_held : (es : List Entry) → NoneIsWornOut es → AllByRecursion IsFew (map held es)
few_held [] h = tt
few_held (e ∷ es) h = (h.0, few_held es h.1)

few_dead : (ds : List Dead) → AllByRecursion IsFew (map dead ds)
few_dead [] = tt
few_dead (d ∷ ds) = (tt, few_dead ds)

few_part : (e : Event) → AllByRecursion IsFew (queue_part e)
few_part (Submit r c) = (tt, tt)
few_part (Claim r) = tt
few_part (Release r) = tt
few_part (Apply r t) = (tt, tt)
few_part (Supersede r p) = (tt, tt)
few_part (Fail r before after) = (tt, tt)
few_part (Discard r (Refused refusal)) = (tt, tt)
few_part (Discard r Failures) = tt
few_part (Sweep kinds m) = tt
few_part Restart = tt

few_trace : (later : History) → AllByRecursion IsFew (queue_trace later)
few_trace [] = tt
few_trace (e ∷ later) = few_both (queue_trace later) (queue_part e) (few_trace later) (few_part e)

pub told_few : (records : List QueueRecord) (history : History) → QueueTells records history → AllByRecursion IsFew records
told_few records history t =
    subst (AllByRecursion IsFew) (sym t.says)
    (few_both (queue_checkpoint t.upto) (queue_trace t.later) (tt, few_both (map held (pending_of t.upto)) (map dead (dead_of t.upto)) (few_held (pending_of t.upto) t.few) (few_dead (dead_of t.upto))) (few_trace t.later))

pub dones_are_mended : DonesAreMended
dones_are_mended ttls queued_now kept history s missing =
    let r = missing.receipt in
    let records = queued_now ++ queue.Done r ∷ [] in
    let few = few_heads queued_now (queue.Done r ∷ []) (told_few records history missing.tells) in
    let waits = waits_where_led queued_now r s.queue_log.1 few (missing_waits ttls queued_now kept history s.legal missing) in
    let turned : reverse records ≡ queue.Done r ∷ reverse queued_now = reverse-append queued_now (queue.Done r ∷ []) in
    let long = length-append queued_now (queue.Done r ∷ []) in
    both_logs_stand ttls records kept history (record { legal = s.legal; few = s.few; at_once = s.at_once }) missing.tells s.store
    (omega (arith, long), subst AreQueued (sym turned) (waits, s.queue_log.1))

-- ---- a restart

module _ (ttls : Ttls) (queued_now : List QueueRecord) (kept : List StoreRecord) (history : History) (s : Stands ttls queued_now kept history) where
  abbrev now : History
  now = Restart ∷ history

  queue_still : (records : List QueueRecord) → QueueTells records history → QueueTells records now
  queue_still records t = subst (λ (xs : List QueueRecord). QueueTells xs now) (append-nil records) (queue_records_go_on records Restart history t)

  abbrev store_still : StoreTells ttls kept now
  store_still = record {
    later = Restart ∷ s.store.later;
    upto = s.store.upto;
    whole = ap (λ (h : History). Restart ∷ h) s.store.whole;
    start = s.store.start;
    starts = s.store.starts;
    says = s.store.says ∙ ap (λ (xs : List StoreRecord). s.store.start ++ xs) (sym (append-nil (store_trace s.store.upto s.store.later)));
  }

  legal_still : IsLegal ttls now
  legal_still = (tt, s.legal)

  few_still : NoneIsWornOut (pending_of now)
  few_still = few_after ttls Restart history (pending_of history) legal_still (pending_is_followed ttls Restart history legal_still) (few_restarted (pending_of history) s.few)

  still : QueueTells queued_now history ⊎ MissesDone queued_now kept history → Stands ttls queued_now kept now
  still (inl t) =
      both_logs_stand ttls queued_now kept now (record { legal = legal_still; few = few_still; at_once = (inl s.few, s.at_once) }) (queue_still queued_now t) store_still s.queue_log
  still (inr missing) = record {
    legal = legal_still;
    few = few_still;
    at_once = (inl s.few, s.at_once);
    store = store_still;
    queue = inr (record { receipt = missing.receipt; taken = missing.taken; tells = queue_still (queued_now ++ queue.Done missing.receipt ∷ []) missing.tells });
    queue_log = s.queue_log;
    store_log = s.store_log;
    done = λ other h.
        let same : missing.receipt ≡ other.receipt = sym (some_same missing.receipt other.receipt (sym missing.taken ∙ other.taken)) in
        s.done missing (ap (λ n. standing n s.store.upto) same ∙ h);
  }

pub restarts_leave_the_records : RestartsLeaveTheRecords
restarts_leave_the_records ttls queued_now kept history s = still ttls queued_now kept history s s.queue
