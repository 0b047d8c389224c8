-- Behind the records of a history the record of its next event may stand.
use Rattle.std.proofs.Common.{◌≡◌, ◌∙◌, ℕ, ◌<◌, ◌≤◌, List, [], ◌∷◌, ◌++◌, length, length-append, reverse, map, arith, refl, sym, ap, subst, true}
use Rattle.std.specs.List.{AllByRecursion, flat_map, list_any}
use Rattle.std.proofs.lemmas.List.{append-nil, length-reverse, reverse-append}
use Rattle.supersede_core.specs.fleet_rows.declared.command.Command.{Command}
use Rattle.supersede_core.specs.fleet_rows.declared.refusal.Cause.TheVariants.{Refused, Failures}
use Rattle.supersede_core.specs.fleet_rows.declared.settings.Ttls.{Ttls}
use Rattle.fleet_tables.proofs.of_history_laws.Members.{Among, Among-map}
use Rattle.supersede_core.specs.record_spec.declared.queue.QueueRecord.{QueueRecord}
use Rattle.supersede_core.specs.record_spec.declared.queue.QueueRecord.TheVariants as queue
use Rattle.retry_discard.specs.core_spec.declared.entry.Entry.{Entry}
use Rattle.retry_discard.specs.core_spec.declared.event.Event.{Event}
use Rattle.retry_discard.specs.core_spec.declared.event.Event.TheVariants.{Submit, Claim, Release, Apply, Supersede, Fail, Discard, Sweep, Restart}
use Rattle.retry_discard.specs.core_spec.Checkpoints.{held, dead, queue_checkpoint}
use Rattle.retry_discard.specs.core_spec.Damage.{Waits, waiting_in, is_base, given, IsAbove, HasRoom, MayQueue, AreQueued, IsQueueLog}
use Rattle.retry_discard.specs.core_spec.Discards.{dead_if, dead_in, dead_of}
use Rattle.retry_discard.specs.core_spec.History.{History, last_receipt, Standing, unknown, queued, claimed, applied, superseded, discarded, requeued, standing, fails}
use Rattle.retry_discard.specs.core_spec.Legal.{IsLegal, May}
use Rattle.retry_discard.specs.core_spec.Pending.{submitted, waiting, entry_in, pending_of}
use Rattle.retry_discard.specs.core_spec.Stands.{queue_part, queue_trace, QueueTells}
use Rattle.compact_laws.specs.core_machine.Steps.{left_by}
use Rattle.compact_laws.proofs.of_core_laws.QueueCheckpoints.{logs_are_bounded}
use Rattle.compact_laws.proofs.of_core_machine.PendingSteps.{pending_is_followed}
use Rattle.compact_laws.proofs.of_core_machine.Receipts.{AreGiven, submitted_are_given}
use Rattle.compact_laws.specs.core_laws.Replay.{pending_after}
use Rattle.compact_laws.specs.core_laws.StandingLaws.{IsPlain}
use Rattle.compact_laws.proofs.of_core_laws.Entries.{has_entry}
use Rattle.compact_laws.proofs.of_core_laws.Lives.{receipt_of}
use Rattle.compact_laws.proofs.of_core_laws.Missing.{records_lead_to_the_pending}
use Rattle.compact_laws.proofs.of_core_laws.QueueLogs.{back_length}
use Rattle.supersede_core.proofs.of_plain_laws.Members.{all_both}
use Rattle.compact_laws.proofs.of_core_laws.StandingRecords.{told_few}
use Rattle.compact_laws.proofs.of_core_laws.Waiting.{IsWaiting}
use Rattle.compact_laws.proofs.of_core_laws.WaitingRecords.{IsFew, records_wait, waits_where_led}
use Rattle.fleet_tables.specs.fleet_rows.Limits.{most_pending}

-- ---- lists

all_reversed : {X : Type 0} (P : X → Type 0) (xs : List X) → AllByRecursion P xs → AllByRecursion P (reverse xs)
all_reversed P [] h = tt
all_reversed P (x ∷ xs) h = subst (AllByRecursion P) (sym (reverse-append (x ∷ []) xs)) (all_both P (reverse xs) (x ∷ []) (all_reversed P xs h.1) (h.0, tt))

-- ---- receipts below a number

abbrev Below : ℕ → QueueRecord → Type 0
Below n x = AllByRecursion (λ q. q < n) (given x)

held_below : (n r : ℕ) (c : Command) (k : ℕ) (s : Standing) (es : List Entry) → r < n → IsAbove n (map held es) → IsAbove n (map held (waiting r c k s ++ es))
held_below n r c k unknown es l h = h
held_below n r c k queued es l h = ((l, tt), h)
held_below n r c k claimed es l h = ((l, tt), h)
held_below n r c k applied es l h = h
held_below n r c k (superseded p) es l h = h
held_below n r c k (discarded cause) es l h = h

all_held_below : (history : History) (n last : ℕ) (xs : List (ℕ × Command)) → last < n → AreGiven last xs → IsAbove n (map held (flat_map (entry_in history) xs))
all_held_below history n last [] l g = tt
all_held_below history n last (x ∷ xs) l g =
    held_below n x.0 x.1 (fails x.0 history) (standing x.0 history) (flat_map (entry_in history) xs) (omega (arith, l, g.0)) (all_held_below history n last xs l g.1)

all_dead_below : (history : History) (n last : ℕ) (xs : List (ℕ × Command)) → last < n → AreGiven last xs → IsAbove n (map dead (flat_map (dead_in history) xs))
all_dead_below history n last [] l g = tt
all_dead_below history n last (x ∷ xs) l g = by (standing x.0 history) (all_dead_below history n last xs l g.1)
  where
    by : (s : Standing) → IsAbove n (map dead (flat_map (dead_in history) xs)) → IsAbove n (map dead (dead_if x.0 x.1 s ++ flat_map (dead_in history) xs))
    by unknown h = h
    by queued h = h
    by claimed h = h
    by applied h = h
    by (superseded p) h = h
    by (discarded cause) h = ((omega (arith, l, g.0), tt), h)

-- no receipt is given twice
pub last_grows : (ttls : Ttls) (later upto : History) → IsLegal ttls (later ++ upto) → last_receipt upto ≤ last_receipt (later ++ upto)
last_grows ttls [] upto l = omega arith
last_grows ttls (Submit r c ∷ later) upto l = let before = last_grows ttls later upto l.1 in omega (arith, before, l.0.receipt)
last_grows ttls (Claim r ∷ later) upto l = last_grows ttls later upto l.1
last_grows ttls (Release r ∷ later) upto l = last_grows ttls later upto l.1
last_grows ttls (Apply r t ∷ later) upto l = last_grows ttls later upto l.1
last_grows ttls (Supersede q p ∷ later) upto l = last_grows ttls later upto l.1
last_grows ttls (Fail r b a ∷ later) upto l = last_grows ttls later upto l.1
last_grows ttls (Discard r why ∷ later) upto l = last_grows ttls later upto l.1
last_grows ttls (Sweep kinds m ∷ later) upto l = last_grows ttls later upto l.1
last_grows ttls (Restart ∷ later) upto l = last_grows ttls later upto l.1

module _ (ttls : Ttls) (n : ℕ) (upto : History) where
  joined : (later : History) (part : List QueueRecord) → IsAbove n (queue_trace later) → IsAbove n part → IsAbove n (queue_trace later ++ part)
  joined later part h g = all_both (Below n) (queue_trace later) part h g

  trace_below : (later : History) → IsLegal ttls (later ++ upto) → last_receipt (later ++ upto) < n → IsAbove n (queue_trace later)
  trace_below [] l h = tt
  trace_below (Submit r c ∷ later) l h = joined later (queue.Submit r c ∷ []) (trace_below later l.1 (omega (arith, l.0.receipt, h))) ((h, tt), tt)
  trace_below (Claim r ∷ later) l h = joined later [] (trace_below later l.1 h) tt
  trace_below (Release r ∷ later) l h = joined later [] (trace_below later l.1 h) tt
  trace_below (Apply r t ∷ later) l h = joined later (queue.Done r ∷ []) (trace_below later l.1 h) (tt, tt)
  trace_below (Supersede q p ∷ later) l h = joined later (queue.Superseded q p ∷ []) (trace_below later l.1 h) (tt, tt)
  trace_below (Fail r b a ∷ later) l h = joined later (queue.Fail r b a ∷ []) (trace_below later l.1 h) (tt, tt)
  trace_below (Discard r (Refused refusal) ∷ later) l h = joined later (queue.Refused r refusal ∷ []) (trace_below later l.1 h) (tt, tt)
  trace_below (Discard r Failures ∷ later) l h = joined later [] (trace_below later l.1 h) tt
  trace_below (Sweep kinds m ∷ later) l h = joined later [] (trace_below later l.1 h) tt
  trace_below (Restart ∷ later) l h = joined later [] (trace_below later l.1 h) tt

-- ---- the first record

some_wait : (r : ℕ) (L : List QueueRecord) → Waits r L → 1 ≤ length L
some_wait r [] w = absurd (omega (arith, w.1))
some_wait r (x ∷ L) w = omega arith

has_base : (L : List QueueRecord) → AreQueued L → 1 ≤ length L → list_any is_base L ≡ true
has_base [] q l = absurd (omega (arith, l))
has_base (queue.Base last ∷ L) q l = refl
has_base (queue.Held r n c ∷ L) q l = q.0.base
has_base (queue.Dead r c why ∷ L) q l = q.0.base
has_base (queue.Submit r c ∷ L) q l = q.0.base
has_base (queue.Done r ∷ L) q l = has_base L q.1 (some_wait r L q.0)
has_base (queue.Superseded r p ∷ L) q l = has_base L q.1 (some_wait r L q.0)
has_base (queue.Refused r refusal ∷ L) q l = has_base L q.1 (some_wait r L q.0)
has_base (queue.Fail r b a ∷ L) q l = has_base L q.1 (some_wait r L q.0.0)

-- ---- the next record

-- a command comes in where fewer than 262,144 wait
abbrev pub RoomIsLeft : Event → History → Type 0
RoomIsLeft (Submit r c) history = length (pending_of history) < most_pending
RoomIsLeft _ history = Unit {0}

still_waits : (s : Standing) → IsWaiting s → IsWaiting (requeued s)
still_waits unknown w = w
still_waits queued w = tt
still_waits claimed w = tt
still_waits applied w = w
still_waits (superseded p) w = w
still_waits (discarded cause) w = w

unmarked_length : (es : List Entry) → length (flat_map (left_by Restart) es) ≡ length es
unmarked_length [] = refl
unmarked_length (e ∷ es) = let rest = unmarked_length es in omega (arith, rest)

module _ (ttls : Ttls) (records : List QueueRecord) (history : History) (plain : IsPlain ttls history) (tells : QueueTells records history) (log : IsQueueLog records) where
  few_records : AllByRecursion IsFew records
  few_records = told_few records history tells

  restarted : IsLegal ttls (Restart ∷ history)
  restarted = (tt, plain.legal)

  led : pending_after records [] ≡ pending_of (Restart ∷ history)
  led = records_lead_to_the_pending ttls records history plain.legal plain.few tells

  waits : (r : ℕ) → IsWaiting (standing r history) → Waits r (reverse records)
  waits r w =
      let es = pending_of (Restart ∷ history) in
      let has = has_entry ttls r (Restart ∷ history) restarted (still_waits (standing r history) w) in
      let among : Among r (map receipt_of es) = subst (λ n. Among n (map receipt_of es)) has.receipt (Among-map receipt_of es has.entry has.among) in
      waits_where_led records r log.1 few_records (subst (λ (fs : List Entry). Among r (map receipt_of fs)) (sym led) among)

  all_below : (n : ℕ) → last_receipt history < n → IsAbove n records
  all_below n h =
      let whole : IsLegal ttls (tells.later ++ tells.upto) = subst (IsLegal ttls) tells.whole plain.legal in
      let less : last_receipt (tells.later ++ tells.upto) < n = subst (λ (g : History). last_receipt g < n) tells.whole h in
      let first : last_receipt tells.upto < n = (let grows = last_grows ttls tells.later tells.upto whole in omega (arith, grows, less)) in
      let given_upto = submitted_are_given ttls tells.upto (start_is_legal tells.later whole) in
      subst (IsAbove n) (sym tells.says)
      (all_both (Below n) (queue_checkpoint tells.upto) (queue_trace tells.later) (
        (first, tt),
        all_both (Below n) (map held (pending_of tells.upto)) (map dead (dead_of tells.upto))
            (all_held_below tells.upto n (last_receipt tells.upto) (submitted tells.upto) first given_upto)
            (all_dead_below tells.upto n (last_receipt tells.upto) (submitted tells.upto) first given_upto),
      )
      (trace_below ttls n tells.upto tells.later whole less))
    where
      start_is_legal : (later : History) → IsLegal ttls (later ++ tells.upto) → IsLegal ttls tells.upto
      start_is_legal [] l = l
      start_is_legal (e ∷ later) l = start_is_legal later l.1

  -- so many wait in the log as in the history
  number : length (waiting_in (reverse records)) ≡ length (pending_of history)
  number =
      let waiting_number : length (waiting_in (reverse records)) ≡ length (pending_after records []) = ap length (records_wait records log.1 few_records).waits ∙ back_length (pending_after records []) in
      let restarted_number : length (pending_of (Restart ∷ history)) ≡ length (pending_of history) =
      ap length (sym (pending_is_followed ttls Restart history restarted) ∙ append-nil (flat_map (left_by Restart) (pending_of history))) ∙ unmarked_length (pending_of history) in
      waiting_number ∙ ap length led ∙ restarted_number

  room : length (pending_of history) < most_pending → HasRoom (reverse records)
  room h = omega (arith, h, number)

  pub bounded : length (pending_of history) ≤ most_pending
  bounded = let most = logs_are_bounded records log in omega (arith, most, number)

  with_record : (x : QueueRecord) → MayQueue x (reverse records) → IsQueueLog (records ++ x ∷ [])
  with_record x may =
      let turned : reverse (records ++ x ∷ []) ≡ x ∷ reverse records = reverse-append records (x ∷ []) in
      let long = length-append records (x ∷ []) in
      (omega (arith, long), subst AreQueued (sym turned) (may, log.1))

  as_it_was : IsQueueLog (records ++ [])
  as_it_was = subst IsQueueLog (sym (append-nil records)) log

  pub log_goes_on : (e : Event) → May ttls e history → RoomIsLeft e history → IsQueueLog (records ++ queue_part e)
  log_goes_on (Submit r c) may left =
      with_record (queue.Submit r c) (record {
        base = has_base (reverse records) log.1 (let same = length-reverse records in omega (arith, same, log.0));
        rises = all_reversed (Below r) records (all_below r (omega (arith, may.receipt)));
        room = room left;
      })
  log_goes_on (Claim r) may left = as_it_was
  log_goes_on (Release r) may left = as_it_was
  log_goes_on (Apply r t) may left = with_record (queue.Done r) (waits r (subst IsWaiting (sym may.claimed) tt))
  log_goes_on (Supersede q p) may left = with_record (queue.Superseded q p) (waits q (subst IsWaiting (sym may.queued) tt))
  log_goes_on (Fail r before after) may left = with_record (queue.Fail r before after) (waits r (subst IsWaiting (sym may.0) tt), may.1)
  log_goes_on (Discard r (Refused refusal)) may left = with_record (queue.Refused r refusal) (waits r (subst IsWaiting (sym may.0) tt))
  log_goes_on (Discard r Failures) may left = as_it_was
  log_goes_on (Sweep kinds m) may left = as_it_was
  log_goes_on Restart may left = as_it_was
