-- Each record of the queue may stand where a legal history leaves it.
use Rattle.std.proofs.Common.{◌≡◌, ◌∙◌, ◌⊎◌, inl, inr, ℕ, suc, ◌<◌, ◌≤◌, ◌==◌, List, [], ◌∷◌, ◌++◌, length, length-append, reverse, arith, refl, sym, ap, subst, map, Bool, true, false, not, if◌then◌else◌, append_assoc}
use Rattle.std.specs.Prelude.{nat_lt}
use Rattle.std.specs.List.{AllByRecursion, Contains, list_any, flat_map}
use Rattle.std.proofs.lemmas.List.{append-nil, reverse-append}
use Rattle.std.proofs.lemmas.List.Elements.{filter-append}
use Rattle.core_machine.proofs.of_plain_laws.Booleans.{eq_is}
use Rattle.core_machine.specs.fleet_rows.declared.command.Command.{Command}
use Rattle.core_machine.specs.fleet_rows.declared.refusal.Cause.TheVariants.{Refused, Failures}
use Rattle.core_machine.specs.fleet_rows.declared.settings.Ttls.{Ttls}
use Rattle.checkpoint_spec.proofs.of_history_laws.Members.{Among, Contains-from_Among, Among-append_left, Among-append_right, Among-append_cases}
use Rattle.core_machine.specs.record_spec.declared.queue.QueueRecord.{QueueRecord}
use Rattle.core_machine.specs.record_spec.declared.queue.QueueRecord.TheVariants as queue
use Rattle.core_machine.specs.core_spec.declared.entry.Entry.{Entry}
use Rattle.core_machine.specs.core_spec.declared.event.Event.{Event}
use Rattle.core_machine.specs.core_spec.declared.event.Event.TheVariants.{Submit, Claim, Release, Apply, Supersede, Fail, Discard, Sweep, Restart}
use Rattle.core_machine.specs.core_spec.Damage.{attempts, leave, waiting_in, is_base, given, IsAbove, MayQueue, AreQueued}
use Rattle.core_machine.specs.core_spec.History.{History, last_receipt, queued, claimed, standing}
use Rattle.core_machine.specs.core_spec.Legal.{IsLegal, Rises}
use Rattle.core_machine.specs.core_spec.Pending.{pending_of, NoneIsWornOut}
use Rattle.core_machine.specs.core_spec.Stands.{queue_part, queue_trace, IsGivingUp, GivesUpAtOnce}
use Rattle.core_machine.specs.Steps.{marked, failed, at_receipt, new_entry}
use Rattle.core_machine.proofs.PendingSteps.{pending_is_followed}
use Rattle.core_laws.specs.LogLaws.{RoomWasLeft}
use Rattle.core_laws.specs.Replay.{if_few, pending_after}
use Rattle.core_laws.proofs.Live.{live}
use Rattle.core_laws.proofs.Lives.{receipt_of, claimed_is_few, lives, few_queued}
use Rattle.core_laws.proofs.Replays.{event_replayed}
use Rattle.core_laws.proofs.Waiting.{IsWaiting}
use Rattle.checkpoint_spec.specs.fleet_rows.Limits.{most_pending}

-- ---- the receipts of a list, the last first

abbrev pub receipts_back : List Entry → List ℕ
receipts_back [] = []
receipts_back (e ∷ es) = receipts_back es ++ e.receipt ∷ []

pub back_last : (es : List Entry) (e : Entry) → receipts_back (es ++ e ∷ []) ≡ e.receipt ∷ receipts_back es
back_last [] e = refl
back_last (f ∷ es) e = ap (λ rs. rs ++ f.receipt ∷ []) (back_last es e)

pub back_length : (es : List Entry) → length (receipts_back es) ≡ length es
back_length [] = refl
back_length (e ∷ es) = let rest = back_length es in let both = length-append (receipts_back es) (e.receipt ∷ []) in omega (arith, rest, both)

pub among_back : (r : ℕ) (es : List Entry) → Among r (map receipt_of es) → Among r (receipts_back es)
among_back r [] a = absurd a
among_back r (e ∷ es) (inl same) = Among-append_right (receipts_back es) (e.receipt ∷ []) r (inl same)
among_back r (e ∷ es) (inr a) = Among-append_left (receipts_back es) (e.receipt ∷ []) r (among_back r es a)

pub all_back : (P : ℕ → Type 0) (es : List Entry) → AllByRecursion (λ (e : Entry). P e.receipt) es → (r : ℕ) → Among r (receipts_back es) → P r
all_back P [] h r a = absurd a
all_back P (e ∷ es) h r a = elim (Among-append_cases (receipts_back es) (e.receipt ∷ []) r a) [ inl b ↦ all_back P es h.1 r b | inr b ↦ here b ]
  where
    here : Among r (e.receipt ∷ []) → P r
    here (inl same) = subst P (sym same) h.0
    here (inr none) = absurd none

turned : (b : Bool) (r q : ℕ) → (r == q) ≡ b → (q == r) ≡ b
turned true r q e = grind arith
turned false r q e = grind arith

out_step : (b : Bool) (r : ℕ) (e : Entry) (rs : List ℕ) (fs : List Entry) → (r == e.receipt) ≡ b → leave r rs ≡ receipts_back fs → leave r (rs ++ e.receipt ∷ []) ≡ receipts_back ((if b then [] else e ∷ []) ++ fs)
out_step true r e rs fs h next =
    let same = turned true r e.receipt h in
    let none : leave r (e.receipt ∷ []) ≡ [] = rw same refl in
    filter-append (λ q. not (q == r)) rs (e.receipt ∷ []) ∙ (λ i. next i ++ none i) ∙ append-nil (receipts_back fs)
out_step false r e rs fs h next =
    let other = turned false r e.receipt h in
    let one : leave r (e.receipt ∷ []) ≡ e.receipt ∷ [] = rw other refl in
    filter-append (λ q. not (q == r)) rs (e.receipt ∷ []) ∙ (λ i. next i ++ one i)

pub back_out : (r : ℕ) (es : List Entry) → leave r (receipts_back es) ≡ receipts_back (flat_map (at_receipt r (λ e. [])) es)
back_out r [] = refl
back_out r (e ∷ es) = out_step (r == e.receipt) r e (receipts_back es) (flat_map (at_receipt r (λ e. [])) es) refl (back_out r es)

-- ---- failures

abbrev pub fails_at : ℕ → Entry → List Entry
fails_at r = at_receipt r (λ e. if_few (failed e))

-- the entries of the receipt failed so often
abbrev Failed : ℕ → ℕ → List Entry → Type 0
Failed r n = AllByRecursion (λ (e : Entry). (e.receipt ≡ r → e.attempts ≡ n) × (e.attempts < 16))

gone_step : (b : Bool) (r n : ℕ) (e : Entry) (rs : List ℕ) (fs : List Entry) → (r == e.receipt) ≡ b → suc n ≡ 16 → (e.receipt ≡ r → e.attempts ≡ n) → leave r rs ≡ receipts_back fs
    → leave r (rs ++ e.receipt ∷ []) ≡ receipts_back ((if b then if_few (failed e) else e ∷ []) ++ fs)
gone_step true r n e rs fs h last many next =
    let is : e.attempts ≡ n = many (sym (eq_is r e.receipt h)) in
    let out : nat_lt (suc e.attempts) 16 ≡ false = grind (arith, is, last) in
    rw out (out_step true r e rs fs h next)
gone_step false r n e rs fs h last many next = out_step false r e rs fs h next

back_gone : (r n : ℕ) (es : List Entry) → suc n ≡ 16 → Failed r n es → leave r (receipts_back es) ≡ receipts_back (flat_map (fails_at r) es)
back_gone r n [] last h = refl
back_gone r n (e ∷ es) last h = gone_step (r == e.receipt) r n e (receipts_back es) (flat_map (fails_at r) es) refl last h.0.0 (back_gone r n es last h.1)

stay_step : (b : Bool) (r n : ℕ) (e : Entry) (rs : List ℕ) (fs : List Entry) → (r == e.receipt) ≡ b → (suc n == 16) ≡ false → (e.receipt ≡ r → e.attempts ≡ n) → e.attempts < 16 → rs ≡ receipts_back fs
    → rs ++ e.receipt ∷ [] ≡ receipts_back ((if b then if_few (failed e) else e ∷ []) ++ fs)
stay_step true r n e rs fs h more many few next =
    let is : e.attempts ≡ n = many (sym (eq_is r e.receipt h)) in
    let stays : nat_lt (suc e.attempts) 16 ≡ true = grind (arith, is, more, few) in
    rw stays (ap (λ qs. qs ++ e.receipt ∷ []) next)
stay_step false r n e rs fs h more many few next = ap (λ qs. qs ++ e.receipt ∷ []) next

back_stays : (r n : ℕ) (es : List Entry) → (suc n == 16) ≡ false → Failed r n es → receipts_back es ≡ receipts_back (flat_map (fails_at r) es)
back_stays r n [] more h = refl
back_stays r n (e ∷ es) more h = stay_step (r == e.receipt) r n e (receipts_back es) (flat_map (fails_at r) es) refl more h.0.0 h.0.1 (back_stays r n es more h.1)

pub back_failed : (b : Bool) (r n : ℕ) (es : List Entry) (ws : List ℕ) → (suc n == 16) ≡ b → ws ≡ receipts_back es → Failed r n es → (if b then leave r ws else ws) ≡ receipts_back (flat_map (fails_at r) es)
back_failed true r n es ws e h f = ap (leave r) h ∙ back_gone r n es (eq_is (suc n) 16 e) f
back_failed false r n es ws e h f = h ∙ back_stays r n es e f

-- ---- lists

module _ {X Y : Type 0} (P : X → Type 0) (Q : Y → Type 0) where
  pub all_joined : (xs ys : List Y) → AllByRecursion Q xs → AllByRecursion Q ys → AllByRecursion Q (xs ++ ys)
  all_joined [] ys h g = g
  all_joined (x ∷ xs) ys h g = (h.0, all_joined xs ys h.1 g)

  pub all_flat : (f : X → List Y) (xs : List X) → ((x : X) → P x → AllByRecursion Q (f x)) → AllByRecursion P xs → AllByRecursion Q (flat_map f xs)
  all_flat f [] each h = tt
  all_flat f (x ∷ xs) each h = all_joined (f x) (flat_map f xs) (each x h.0) (all_flat f xs each h.1)

module _ {X : Type 0} (P Q : X → Type 0) where
  pub all_so : (xs : List X) → ((x : X) → P x → Q x) → AllByRecursion P xs → AllByRecursion Q xs
  all_so [] each h = tt
  all_so (x ∷ xs) each h = (each x h.0, all_so xs each h.1)

above_more : (m n : ℕ) (L : List QueueRecord) → m ≤ n → IsAbove m L → IsAbove n L
above_more m n L l h = all_so (λ x. AllByRecursion (λ q. q < m) (given x)) (λ x. AllByRecursion (λ q. q < n) (given x)) L (λ x g. all_so (λ q. q < m) (λ q. q < n) (given x) (λ q k. omega (arith, l, k)) g) h

-- ---- a log, and what waits behind it

abbrev pub IsKept : List QueueRecord → ℕ → Entry → Type 0
IsKept L last e = (e.receipt ≤ last) × (e.attempts < 16) × (attempts e.receipt L ≡ e.attempts)

-- the log, its newest record first, the last receipt, and what waits
pub record IsLogFor (L : List QueueRecord) (last : ℕ) (es : List Entry) : Type 0 where
  pub queue : AreQueued L
  pub base : list_any is_base L ≡ true
  pub given : IsAbove (suc last) L
  pub waits : waiting_in L ≡ receipts_back es
  pub entries : AllByRecursion (IsKept L last) es
  pub fresh : (r : ℕ) → last < r → attempts r L ≡ 0

submitted_log : (L : List QueueRecord) (last : ℕ) (es : List Entry) (r : ℕ) (c : Command) → r ≡ suc last → length es < most_pending → IsLogFor L last es → IsLogFor (queue.Submit r c ∷ L) r (es ++ new_entry r c ∷ [])
submitted_log L last es r c next room h = record {
  queue = (record { base = h.base; rises = subst (λ n. IsAbove n L) (sym next) h.given; room = omega (arith, room, ap length h.waits, back_length es) }, h.queue);
  base = h.base;
  given = ((omega arith, tt), above_more (suc last) (suc r) L (omega (arith, next)) h.given);
  waits = ap (λ rs. r ∷ rs) h.waits ∙ sym (back_last es (new_entry r c));
  entries = all_joined (IsKept L last) (IsKept (queue.Submit r c ∷ L) r) es (new_entry r c ∷ [])
      (all_so (IsKept L last) (IsKept (queue.Submit r c ∷ L) r) es (λ e k. (omega (arith, next, k.0), k.1, k.2)) h.entries)
      ((omega arith, omega arith, h.fresh r (omega (arith, next))), tt);
  fresh = λ q l. h.fresh q (omega (arith, next, l));
}

-- a record that ends a receipt
ended_log : (x : QueueRecord) (L : List QueueRecord) (last : ℕ) (es : List Entry) (r : ℕ) → MayQueue x L → waiting_in (x ∷ L) ≡ leave r (waiting_in L) → given x ≡ [] → is_base x ≡ false → ((q : ℕ) → attempts q (x ∷ L) ≡ attempts q L)
    → IsLogFor L last es → IsLogFor (x ∷ L) last (flat_map (at_receipt r (λ e. [])) es)
ended_log x L last es r may waits none other same h = record {
  queue = (may, h.queue);
  base = rw other h.base;
  given = (subst (λ (rs : List ℕ). AllByRecursion (λ q. q < suc last) rs) (sym none) tt, h.given);
  waits = waits ∙ ap (leave r) h.waits ∙ back_out r es;
  entries = all_flat (IsKept L last) (IsKept (x ∷ L) last) (at_receipt r (λ e. [])) es (λ e k. left (r == e.receipt) e k) h.entries;
  fresh = λ q l. same q ∙ h.fresh q l;
}
  where
    left : (b : Bool) (e : Entry) → IsKept L last e → AllByRecursion (IsKept (x ∷ L) last) (if b then [] else e ∷ [])
    left true e k = tt
    left false e k = ((k.0, k.1, same e.receipt ∙ k.2), tt)

failed_log : (L : List QueueRecord) (last : ℕ) (es : List Entry) (r before after : ℕ) → Among r (receipts_back es) → Rises before after → IsLogFor L last es → IsLogFor (queue.Fail r before after ∷ L) last (flat_map (fails_at r) es)
failed_log L last es r before after a rises h = record {
  queue = ((Contains-from_Among (waiting_in L) r (subst (λ (rs : List ℕ). Among r rs) (sym h.waits) a), rises), h.queue);
  base = h.base;
  given = (tt, h.given);
  waits = back_failed (suc (attempts r L) == 16) r (attempts r L) es (waiting_in L) refl h.waits
      (all_so (IsKept L last) (λ e. (e.receipt ≡ r → e.attempts ≡ attempts r L) × (e.attempts < 16)) es (λ e k. ((λ same. sym k.2 ∙ ap (λ n. attempts n L) same), k.1)) h.entries);
  entries = all_flat (IsKept L last) (IsKept (queue.Fail r before after ∷ L) last) (fails_at r) es (λ e k. left (r == e.receipt) e refl k) h.entries;
  fresh = λ q l. newer q l (all_back (λ n. n ≤ last) es (all_so (IsKept L last) (λ e. e.receipt ≤ last) es (λ e k. k.0) h.entries) r a);
}
  where
    newer : (q : ℕ) → last < q → r ≤ last → attempts q (queue.Fail r before after ∷ L) ≡ 0
    newer q l k = let other : (r == q) ≡ false = grind (arith, l, k) in rw other (h.fresh q l)

    once_more : (b : Bool) (e : Entry) → nat_lt (suc e.attempts) 16 ≡ b → (r == e.receipt) ≡ true → IsKept L last e
        → AllByRecursion (IsKept (queue.Fail r before after ∷ L) last) (if b then marked false (failed e) ∷ [] else [])
    once_more true e f g k = ((k.0, (grind (arith, f)), rw g (ap suc k.2)), tt)
    once_more false e f g k = tt

    left : (b : Bool) (e : Entry) → (r == e.receipt) ≡ b → IsKept L last e → AllByRecursion (IsKept (queue.Fail r before after ∷ L) last) (if b then if_few (failed e) else e ∷ [])
    left true e g k = once_more (nat_lt (suc e.attempts) 16) e refl g k
    left false e g k = ((k.0, k.1, rw g k.2), tt)

-- ---- a history

-- records behind a log, the newest first
abbrev pub onto : List QueueRecord → List QueueRecord → List QueueRecord
onto [] L = L
onto (x ∷ xs) L = onto xs (x ∷ L)

live_few : (es : List Entry) → length (live es) ≤ length es
live_few [] = omega arith
live_few (e ∷ es) = one (nat_lt e.attempts 16) (live_few es)
  where
    one : (b : Bool) → length (live es) ≤ length es → length ((if b then marked false e ∷ [] else []) ++ live es) ≤ suc (length es)
    one true h = omega (arith, h)
    one false h = omega (arith, h)

module _ (ttls : Ttls) where
  claimed_back : (r : ℕ) (history : History) → IsLegal ttls history → standing r history ≡ claimed → Among r (receipts_back (live (pending_of history)))
  claimed_back r history l s = among_back r (live (pending_of history)) (lives ttls r history l (subst IsWaiting (sym s) tt) (claimed_is_few ttls r history l s))

  queued_back : (r : ℕ) (history : History) → IsLegal ttls history → standing r history ≡ queued → NoneIsWornOut (pending_of history) → Among r (receipts_back (live (pending_of history)))
  queued_back r history l s none = among_back r (live (pending_of history)) (lives ttls r history l (subst IsWaiting (sym s) tt) (few_queued ttls r history l s none))

  waits_there : (L : List QueueRecord) (last r : ℕ) (es : List Entry) → IsLogFor L last es → Among r (receipts_back es) → Contains (waiting_in L) r
  waits_there L last r es h a = Contains-from_Among (waiting_in L) r (subst (λ (rs : List ℕ). Among r rs) (sym h.waits) a)

  abbrev Goes : Event → History → List QueueRecord → Type 0
  Goes e earlier L = IsLogFor (onto (queue_part e) L) (last_receipt (e ∷ earlier)) (pending_after (queue_part e) (live (pending_of earlier)))

  goes_on : (e : Event) (earlier : History) (L : List QueueRecord) → IsLegal ttls (e ∷ earlier) → NoneIsWornOut (pending_of earlier) ⊎ IsGivingUp e → RoomWasLeft (e ∷ earlier)
      → IsLogFor L (last_receipt earlier) (live (pending_of earlier)) → Goes e earlier L
  goes_on (Submit r c) earlier L l once room h = submitted_log L (last_receipt earlier) (live (pending_of earlier)) r c l.0.receipt (omega (arith, room.0, live_few (pending_of earlier))) h
  goes_on (Claim r) earlier L l once room h = h
  goes_on (Release r) earlier L l once room h = h
  goes_on (Apply r t) earlier L l once room h =
      ended_log (queue.Done r) L (last_receipt earlier) (live (pending_of earlier)) r (waits_there L (last_receipt earlier) r (live (pending_of earlier)) h (claimed_back r earlier l.1 l.0.claimed)) refl refl refl (λ q. refl) h
  goes_on (Supersede r p) earlier L l (inl none) room h =
      ended_log (queue.Superseded r p) L (last_receipt earlier) (live (pending_of earlier)) r (waits_there L (last_receipt earlier) r (live (pending_of earlier)) h (queued_back r earlier l.1 l.0.queued none)) refl refl refl (λ q. refl) h
  goes_on (Supersede r p) earlier L l (inr never) room h = absurd never
  goes_on (Fail r before after) earlier L l once room h =
      failed_log L (last_receipt earlier) (live (pending_of earlier)) r before after (claimed_back r earlier l.1 l.0.0) l.0.1 h
  goes_on (Discard r (Refused refusal)) earlier L l once room h =
      ended_log (queue.Refused r refusal) L (last_receipt earlier) (live (pending_of earlier)) r (waits_there L (last_receipt earlier) r (live (pending_of earlier)) h (claimed_back r earlier l.1 l.0.0)) refl refl refl (λ q. refl) h
  goes_on (Discard r Failures) earlier L l once room h = h
  goes_on (Sweep kinds m) earlier L l once room h = h
  goes_on Restart earlier L l once room h = h

  pub room_before : (e : Event) (earlier : History) → RoomWasLeft (e ∷ earlier) → RoomWasLeft earlier
  room_before (Submit r c) earlier room = room.1
  room_before (Claim r) earlier room = room
  room_before (Release r) earlier room = room
  room_before (Apply r t) earlier room = room
  room_before (Supersede r p) earlier room = room
  room_before (Fail r before after) earlier room = room
  room_before (Discard r cause) earlier room = room
  room_before (Sweep kinds m) earlier room = room
  room_before Restart earlier room = room

  pub trace_onto : History → List QueueRecord → List QueueRecord
  trace_onto [] L = L
  trace_onto (e ∷ later) L = onto (queue_part e) (trace_onto later L)

  -- from a log of the earlier events on, the records of the later ones make a log
  pub follows : (L : List QueueRecord) (upto later : History) → IsLegal ttls (later ++ upto) → GivesUpAtOnce (later ++ upto) → RoomWasLeft (later ++ upto) → IsLogFor L (last_receipt upto) (live (pending_of upto))
      → IsLogFor (trace_onto later L) (last_receipt (later ++ upto)) (live (pending_of (later ++ upto)))
  unfolding trace_onto
  follows L upto [] l once room h = h
  follows L upto (e ∷ later) l once room h =
      subst (IsLogFor (onto (queue_part e) (trace_onto later L)) (last_receipt (e ∷ (later ++ upto)))) (event_replayed ttls e (later ++ upto) l ∙ ap live (pending_is_followed ttls e (later ++ upto) l))
      (goes_on e (later ++ upto) (trace_onto later L) l once.0 room (follows L upto later l.1 once.1 (room_before e (later ++ upto) room) h))

  part_onto : (e : Event) (L : List QueueRecord) → reverse (queue_part e) ++ L ≡ onto (queue_part e) L
  part_onto (Submit r c) L = refl
  part_onto (Claim r) L = refl
  part_onto (Release r) L = refl
  part_onto (Apply r t) L = refl
  part_onto (Supersede r p) L = refl
  part_onto (Fail r before after) L = refl
  part_onto (Discard r (Refused refusal)) L = refl
  part_onto (Discard r Failures) L = refl
  part_onto (Sweep kinds m) L = refl
  part_onto Restart L = refl

  pub reversed : (start : List QueueRecord) (later : History) → reverse (start ++ queue_trace later) ≡ trace_onto later (reverse start)
  unfolding trace_onto
  reversed start [] = ap reverse (append-nil start)
  reversed start (e ∷ later) =
      ap reverse (sym (append_assoc start (queue_trace later) (queue_part e))) ∙ reverse-append (start ++ queue_trace later) (queue_part e)
      ∙ ap (λ (L : List QueueRecord). reverse (queue_part e) ++ L) (reversed start later) ∙ part_onto e (trace_onto later (reverse start))
