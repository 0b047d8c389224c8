-- The records of a history tell what waits after a restart, the last receipt and the trace.
use Rattle.std.proofs.Common.{◌≡◌, ◌∙◌, ℕ, ◌≤◌, ℤ, List, [], ◌∷◌, ◌++◌, arith, refl, sym, ap, map, true, false, Option, Some, None, Result, Ok, Err, append_assoc}
use Rattle.std.specs.List.{AllByRecursion, flat_map}
use Rattle.std.proofs.lemmas.List.{append-nil}
use Rattle.core_machine.specs.fleet_rows.declared.change.Change.{Change}
use Rattle.core_machine.specs.fleet_rows.declared.command.Command.{Command}
use Rattle.core_machine.specs.fleet_rows.declared.refusal.Cause.TheVariants.{Refused, Failures}
use Rattle.core_machine.specs.fleet_rows.declared.refusal.Refusal.{Refusal}
use Rattle.core_machine.specs.fleet_rows.declared.settings.Ttls.{Ttls}
use Rattle.core_machine.specs.history_spec.Trace.{Trace}
use Rattle.checkpoint_spec.proofs.of_history_laws.Members.{All-from_Among}
use Rattle.core_machine.specs.record_spec.declared.queue.QueueRecord.{QueueRecord}
use Rattle.core_machine.specs.record_spec.declared.store.StoreRecord.{StoreRecord}
use Rattle.core_machine.specs.core_spec.declared.dead.Dead.{Dead}
use Rattle.core_machine.specs.core_spec.declared.entry.Entry.{Entry}
use Rattle.core_machine.specs.core_spec.declared.event.Event.{Event}
use Rattle.core_machine.specs.core_spec.declared.event.Event.TheVariants.{Submit, Claim, Release, Apply, Supersede, Fail, Discard, Sweep, Restart}
use Rattle.core_machine.specs.core_spec.Checkpoints.{held, dead, queue_checkpoint}
use Rattle.core_machine.specs.core_spec.Commands.{key_of}
use Rattle.core_machine.specs.core_spec.Discards.{dead_of}
use Rattle.core_machine.specs.core_spec.History.{History, last_receipt, answer, Standing, unknown, queued, claimed, applied, superseded, discarded, standing, fails, with_applied, trace_of}
use Rattle.core_machine.specs.core_spec.Legal.{IsLegal}
use Rattle.core_machine.specs.core_spec.Pending.{submitted, waiting, entry_in, pending_of, NoneIsWornOut}
use Rattle.core_machine.specs.core_spec.Stands.{queue_part, queue_trace, change_part, store_part, store_trace}
use Rattle.core_machine.specs.Steps.{left_by, new_entry, pending_step}
use Rattle.core_machine.proofs.PendingSteps.{pending_is_followed}
use Rattle.core_laws.specs.Replay.{if_few, held_entry, pending_by, pending_after, last_by, last_after, trace_by, trace_after}
use Rattle.core_laws.proofs.Entries.{entry_is_of}
use Rattle.core_laws.proofs.Live.{live, IsWorn, live_marked, live_restarted, live_same, live_submitted, live_out, live_failed, live_worn, all_live}

-- ---- the commands that wait

pub pending_joined : (xs ys : List QueueRecord) (es : List Entry) → pending_after (xs ++ ys) es ≡ pending_after ys (pending_after xs es)
pending_joined [] ys es = refl
pending_joined (x ∷ xs) ys es = pending_joined xs ys (pending_by x es)

-- the entries of a receipt that failed sixteen times
worn_at : (ttls : Ttls) (r : ℕ) (earlier : History) → IsLegal ttls earlier → fails r earlier ≡ 16 → IsWorn r (pending_of earlier)
worn_at ttls r earlier l h =
    All-from_Among (λ (e : Entry). e.receipt ≡ r → 16 ≤ e.attempts) (pending_of earlier)
    (λ e a same. let of = entry_is_of ttls earlier e l a in omega (arith, of.attempts ∙ ap (λ n. fails n earlier) same ∙ h))

nothing_more : (es : List Entry) → live (es ++ []) ≡ live es
nothing_more es = ap live (append-nil es)

pub event_replayed : (ttls : Ttls) (e : Event) (earlier : History) → IsLegal ttls (e ∷ earlier) → pending_after (queue_part e) (live (pending_of earlier)) ≡ live (pending_step e (pending_of earlier))
event_replayed ttls (Submit r c) earlier l = sym (live_submitted (pending_of earlier) (new_entry r c) refl)
event_replayed ttls (Claim r) earlier l = sym (nothing_more (flat_map (left_by (Claim r)) (pending_of earlier)) ∙ live_marked r true (pending_of earlier))
event_replayed ttls (Release r) earlier l = sym (nothing_more (flat_map (left_by (Release r)) (pending_of earlier)) ∙ live_marked r false (pending_of earlier))
event_replayed ttls (Apply r t) earlier l = sym (nothing_more (flat_map (left_by (Apply r t)) (pending_of earlier)) ∙ live_out r (pending_of earlier))
event_replayed ttls (Supersede r p) earlier l = sym (nothing_more (flat_map (left_by (Supersede r p)) (pending_of earlier)) ∙ live_out r (pending_of earlier))
event_replayed ttls (Fail r before after) earlier l = sym (nothing_more (flat_map (left_by (Fail r before after)) (pending_of earlier)) ∙ live_failed r (pending_of earlier))
event_replayed ttls (Discard r (Refused refusal)) earlier l = sym (nothing_more (flat_map (left_by (Discard r (Refused refusal))) (pending_of earlier)) ∙ live_out r (pending_of earlier))
event_replayed ttls (Discard r Failures) earlier l =
    sym (nothing_more (flat_map (left_by (Discard r Failures)) (pending_of earlier)) ∙ live_worn r (pending_of earlier) (worn_at ttls r earlier l.1 l.0.1))
event_replayed ttls (Sweep kinds m) earlier l = sym (nothing_more (flat_map (left_by (Sweep kinds m)) (pending_of earlier)) ∙ live_same (pending_of earlier))
event_replayed ttls Restart earlier l = sym (nothing_more (flat_map (left_by Restart) (pending_of earlier)) ∙ live_restarted (pending_of earlier))

pub trace_replayed : (ttls : Ttls) (later upto : History) → IsLegal ttls (later ++ upto) → pending_after (queue_trace later) (live (pending_of upto)) ≡ live (pending_of (later ++ upto))
trace_replayed ttls [] upto l = refl
trace_replayed ttls (e ∷ later) upto l =
    pending_joined (queue_trace later) (queue_part e) (live (pending_of upto)) ∙ ap (pending_after (queue_part e)) (trace_replayed ttls later upto l.1)
    ∙ event_replayed ttls e (later ++ upto) l ∙ ap live (pending_is_followed ttls e (later ++ upto) l)

-- ---- a checkpoint

abbrev HasItsKey : Entry → Type 0
HasItsKey e = e.group ≡ key_of e.command

keyed_more : (r : ℕ) (c : Command) (n : ℕ) (s : Standing) (es : List Entry) → AllByRecursion HasItsKey es → AllByRecursion HasItsKey (waiting r c n s ++ es)
keyed_more r c n unknown es h = h
keyed_more r c n queued es h = (refl, h)
keyed_more r c n claimed es h = (refl, h)
keyed_more r c n applied es h = h
keyed_more r c n (superseded p) es h = h
keyed_more r c n (discarded cause) es h = h

all_keyed : (history : History) (xs : List (ℕ × Command)) → AllByRecursion HasItsKey (flat_map (entry_in history) xs)
all_keyed history [] = tt
all_keyed history (x ∷ xs) = keyed_more x.0 x.1 (fails x.0 history) (standing x.0 history) (flat_map (entry_in history) xs) (all_keyed history xs)

held_is : (e : Entry) → HasItsKey e → if_few (held_entry e.receipt e.attempts e.command) ≡ if_few e
held_is e h = λ i. if_few (record { receipt = e.receipt; command = e.command; group = sym h i; attempts = e.attempts; claimed = false })

all_held : (es done : List Entry) → AllByRecursion HasItsKey es → pending_after (map held es) done ≡ done ++ live es
all_held [] done h = sym (append-nil done)
all_held (e ∷ es) done h =
    all_held es (done ++ if_few (held_entry e.receipt e.attempts e.command)) h.1
    ∙ append_assoc done (if_few (held_entry e.receipt e.attempts e.command)) (live es)
    ∙ ap (λ fs. done ++ (fs ++ live es)) (held_is e h.0)

none_dead : (ds : List Dead) (es : List Entry) → pending_after (map dead ds) es ≡ es
none_dead [] es = refl
none_dead (d ∷ ds) es = none_dead ds es

pub checkpoint_replayed : (history : History) → pending_after (queue_checkpoint history) [] ≡ live (pending_of history)
checkpoint_replayed history =
    pending_joined (map held (pending_of history)) (map dead (dead_of history)) []
    ∙ none_dead (dead_of history) (pending_after (map held (pending_of history)) [])
    ∙ all_held (pending_of history) [] (all_keyed history (submitted history))

-- the records of a history, from a checkpoint on
pub records_replayed : (ttls : Ttls) (later upto : History) → IsLegal ttls (later ++ upto) → pending_after (queue_checkpoint upto ++ queue_trace later) [] ≡ live (pending_of (later ++ upto))
records_replayed ttls later upto l =
    pending_joined (queue_checkpoint upto) (queue_trace later) [] ∙ ap (pending_after (queue_trace later)) (checkpoint_replayed upto) ∙ trace_replayed ttls later upto l

pub waits_on : (ttls : Ttls) (history : History) → IsLegal ttls history → NoneIsWornOut (pending_of history) → live (pending_of history) ≡ pending_of (Restart ∷ history)
waits_on ttls history l few =
    all_live (pending_of history) few ∙ sym (append-nil (flat_map (left_by Restart) (pending_of history))) ∙ pending_is_followed ttls Restart history (tt, l)

-- ---- the last receipt

pub last_joined : (xs ys : List QueueRecord) (n : ℕ) → last_after (xs ++ ys) n ≡ last_after ys (last_after xs n)
last_joined [] ys n = refl
last_joined (x ∷ xs) ys n = last_joined xs ys (last_by x n)

event_last : (e : Event) (earlier : History) → last_after (queue_part e) (last_receipt earlier) ≡ last_receipt (e ∷ earlier)
event_last (Submit r c) earlier = refl
event_last (Claim r) earlier = refl
event_last (Release r) earlier = refl
event_last (Apply r t) earlier = refl
event_last (Supersede r p) earlier = refl
event_last (Fail r before after) earlier = refl
event_last (Discard r (Refused refusal)) earlier = refl
event_last (Discard r Failures) earlier = refl
event_last (Sweep kinds m) earlier = refl
event_last Restart earlier = refl

trace_last : (later upto : History) → last_after (queue_trace later) (last_receipt upto) ≡ last_receipt (later ++ upto)
trace_last [] upto = refl
trace_last (e ∷ later) upto =
    last_joined (queue_trace later) (queue_part e) (last_receipt upto) ∙ ap (last_after (queue_part e)) (trace_last later upto) ∙ event_last e (later ++ upto)

held_last : (es : List Entry) (n : ℕ) → last_after (map held es) n ≡ n
held_last [] n = refl
held_last (e ∷ es) n = held_last es n

dead_last : (ds : List Dead) (n : ℕ) → last_after (map dead ds) n ≡ n
dead_last [] n = refl
dead_last (d ∷ ds) n = dead_last ds n

pub last_replayed : (later upto : History) → last_after (queue_checkpoint upto ++ queue_trace later) 0 ≡ last_receipt (later ++ upto)
last_replayed later upto =
    last_joined (queue_checkpoint upto) (queue_trace later) 0
    ∙ ap (last_after (queue_trace later)) (last_joined (map held (pending_of upto)) (map dead (dead_of upto)) (last_receipt upto) ∙ ap (last_after (map dead (dead_of upto))) (held_last (pending_of upto) (last_receipt upto)) ∙ dead_last (dead_of upto) (last_receipt upto))
    ∙ trace_last later upto

-- ---- the trace

pub trace_joined : (xs ys : List StoreRecord) (trace : Trace) → trace_after (xs ++ ys) trace ≡ trace_after ys (trace_after xs trace)
trace_joined [] ys trace = refl
trace_joined (x ∷ xs) ys trace = trace_joined xs ys (trace_by x trace)

change_replayed : (r : ℕ) (t : Option ℤ) (a : Option (Result Change Refusal)) (trace : Trace) → trace_after (change_part r t a) trace ≡ with_applied r t a trace
change_replayed r None None trace = refl
change_replayed r (Some t) None trace = refl
change_replayed r None (Some (Ok change)) trace = refl
change_replayed r (Some t) (Some (Ok change)) trace = refl
change_replayed r None (Some (Err refusal)) trace = refl
change_replayed r (Some t) (Some (Err refusal)) trace = refl

event_stored : (e : Event) (earlier : History) → trace_after (store_part e earlier) (trace_of earlier) ≡ trace_of (e ∷ earlier)
event_stored (Submit r c) earlier = refl
event_stored (Claim r) earlier = refl
event_stored (Release r) earlier = refl
event_stored (Apply r t) earlier = change_replayed r t (answer r earlier) (trace_of earlier)
event_stored (Supersede r p) earlier = refl
event_stored (Fail r before after) earlier = refl
event_stored (Discard r cause) earlier = refl
event_stored (Sweep kinds m) earlier = refl
event_stored Restart earlier = refl

pub store_replayed : (later upto : History) → trace_after (store_trace upto later) (trace_of upto) ≡ trace_of (later ++ upto)
store_replayed [] upto = refl
store_replayed (e ∷ later) upto =
    trace_joined (store_trace upto later) (store_part e (later ++ upto)) (trace_of upto) ∙ ap (trace_after (store_part e (later ++ upto))) (store_replayed later upto) ∙ event_stored e (later ++ upto)
