-- A log that begins with the checkpoint of an earlier history.
use Rattle.std.proofs.Common.{◌≡◌, ◌∙◌, inl, inr, ℕ, suc, ◌+◌, ◌<◌, ◌≤◌, ◌==◌, List, [], ◌∷◌, ◌++◌, length, length-append, reverse, arith, refl, sym, ap, subst, map, Bool, true, false, if◌then◌else◌, append_assoc}
use Rattle.std.specs.Prelude.{nat_lt, not, filter}
use Rattle.std.specs.List.{AllByRecursion, flat_map}
use Rattle.std.proofs.lemmas.List.{append-nil, reverse-append}
use Rattle.core_machine.specs.fleet_rows.declared.command.Command.{Command}
use Rattle.core_machine.specs.fleet_rows.declared.settings.Ttls.{Ttls}
use Rattle.core_machine.specs.record_spec.declared.queue.QueueRecord.{QueueRecord}
use Rattle.core_machine.specs.record_spec.declared.queue.QueueRecord.TheVariants as queue
use Rattle.core_machine.specs.core_spec.declared.dead.Dead.{Dead}
use Rattle.core_machine.specs.core_spec.declared.entry.Entry.{Entry}
use Rattle.core_machine.specs.core_spec.declared.event.Event.{Event}
use Rattle.core_machine.specs.core_spec.declared.event.Event.TheVariants.{Submit, Claim, Release, Apply, Supersede, Fail, Discard, Sweep, Restart}
use Rattle.core_machine.specs.core_spec.Checkpoints.{held, dead, queue_checkpoint}
use Rattle.core_machine.specs.core_spec.Damage.{attempts, leave, waiting_in, is_held, is_dead, IsAbove, AreOnly, begins, AreQueued, IsQueueLog}
use Rattle.core_machine.specs.core_spec.Discards.{dead_in, dead_of}
use Rattle.core_machine.specs.core_spec.History.{History, last_receipt, Standing, unknown, queued, claimed, applied, superseded, discarded, standing, fails}
use Rattle.core_machine.specs.core_spec.Legal.{IsLegal}
use Rattle.core_machine.specs.core_spec.Pending.{submitted, waiting, entry_in, pending_of, NoneIsWornOut}
use Rattle.core_machine.specs.core_spec.Stands.{queue_trace, QueueTells, GivesUpAtOnce}
use Rattle.core_machine.specs.Steps.{marked, failed, at_receipt, left_by, added_by}
use Rattle.core_machine.proofs.PendingSteps.{pending_is_followed}
use Rattle.core_machine.proofs.Receipts.{AreGiven, submitted_are_given}
use Rattle.core_laws.specs.LogLaws.{RoomWasLeft, NoQueueRecordIsDamage}
use Rattle.core_laws.specs.StandingLaws.{QueueCheckpointsAreLogs, LogsAreBounded}
use Rattle.core_laws.proofs.DeadPuts.{IsOwn, dead_own}
use Rattle.core_laws.proofs.DeadReplays.{DeadsRise, deads_rise}
use Rattle.core_laws.proofs.Entries.{Rises, submitted_rise, pending_rises}
use Rattle.core_laws.proofs.Live.{live}
use Rattle.core_laws.proofs.QueueLogs.{back_last, back_length, all_joined, all_so, IsKept, IsLogFor, onto, follows, reversed, room_before}
use Rattle.core_laws.proofs.Taken.{upto_legal}
use Rattle.checkpoint_spec.specs.fleet_rows.Limits.{most_pending}

-- ---- a held command more

itself : (r : ℕ) → (r == r) ≡ true
itself r = grind arith

one_held : (L : List QueueRecord) (last : ℕ) (done : List Entry) (e : Entry) → e.attempts < 16 → e.receipt ≤ last → AllByRecursion (λ (d : Entry). d.receipt < e.receipt) done
    → IsAbove e.receipt (filter is_held L) → length done < most_pending → AreOnly (begins is_held) L → IsLogFor L last done → IsLogFor (held e ∷ L) last (done ++ marked false e ∷ [])
one_held L last done e few given below above room front h = record {
  queue = (record { front = front; base = h.base; rises = above; room = omega (arith, room, ap length h.waits, back_length done) }, h.queue);
  base = h.base;
  given = ((omega (arith, given), tt), h.given);
  waits = ap (λ rs. e.receipt ∷ rs) h.waits ∙ sym (back_last done (marked false e));
  entries = all_joined (IsKept L last) (IsKept (held e ∷ L) last) done (marked false e ∷ [])
      (all_both done below h.entries)
      ((given, few, rw (itself e.receipt) refl), tt);
  fresh = λ q l. let other : (e.receipt == q) ≡ false = (let less : e.receipt < q = omega (arith, given, l) in grind arith) in rw other (h.fresh q l);
}
  where
    all_both : (ds : List Entry) → AllByRecursion (λ (d : Entry). d.receipt < e.receipt) ds → AllByRecursion (IsKept L last) ds → AllByRecursion (IsKept (held e ∷ L) last) ds
    all_both [] b k = tt
    all_both (d ∷ ds) b k =
        let other : (e.receipt == d.receipt) ≡ false = grind (arith, b.0) in
        ((k.0.0, k.0.1, rw other k.0.2), all_both ds b.1 k.1)

-- each of the entries to come is above those that were held
abbrev Follow : List Entry → List Entry → Type 0
Follow done es = AllByRecursion (λ (e : Entry). AllByRecursion (λ (d : Entry). d.receipt < e.receipt) done) es

abbrev AreAbove : List QueueRecord → List Entry → Type 0
AreAbove L es = AllByRecursion (λ (e : Entry). IsAbove e.receipt (filter is_held L)) es

follow_more : (done : List Entry) (e : Entry) (es : List Entry) → AllByRecursion (λ (f : Entry). e.receipt < f.receipt) es → Follow done es → Follow (done ++ marked false e ∷ []) es
follow_more done e [] h g = tt
follow_more done e (f ∷ es) h g = (joined done g.0, follow_more done e es h.1 g.1)
  where
    joined : (xs : List Entry) → AllByRecursion (λ (x : Entry). x.receipt < f.receipt) xs → AllByRecursion (λ (x : Entry). x.receipt < f.receipt) (xs ++ marked false e ∷ [])
    joined [] k = (h.0, tt)
    joined (x ∷ xs) k = (k.0, joined xs k.1)

above_more : (L : List QueueRecord) (e : Entry) (es : List Entry) → AllByRecursion (λ (f : Entry). e.receipt < f.receipt) es → AreAbove L es → AreAbove (held e ∷ L) es
above_more L e [] h g = tt
above_more L e (f ∷ es) h g = (((h.0, tt), g.0), above_more L e es h.1 g.1)

record IsHeldLog (L : List QueueRecord) (last : ℕ) (es : List Entry) : Type 0 where
  log : IsLogFor L last es
  front : AreOnly (begins is_held) L

few_live : (e : Entry) (es : List Entry) → e.attempts < 16 → live (e ∷ es) ≡ marked false e ∷ live es
few_live e es h = let few : nat_lt e.attempts 16 ≡ true = grind (arith, h) in rw few refl

all_held : (es : List Entry) (L : List QueueRecord) (last : ℕ) (done : List Entry) → NoneIsWornOut es → Rises es → AllByRecursion (λ (e : Entry). e.receipt ≤ last) es
    → Follow done es → AreAbove L es → length done + length es ≤ most_pending → IsHeldLog L last done → IsHeldLog (onto (map held es) L) last (done ++ live es)
all_held [] L last done few rise given follow above room h = subst (IsHeldLog L last) (sym (append-nil done)) h
all_held (e ∷ es) L last done few rise given follow above room h =
    let both = length-append done (marked false e ∷ []) in
    subst (IsHeldLog (onto (map held es) (held e ∷ L)) last) (append_assoc done (marked false e ∷ []) (live es) ∙ ap (λ fs. done ++ fs) (sym (few_live e es few.0)))
    (all_held es (held e ∷ L) last (done ++ marked false e ∷ []) few.1 rise.1 given.1 (follow_more done e es rise.0 follow.1) (above_more L e es rise.0 above.1) (omega (arith, room, both))
    (record { log = one_held L last done e few.0 given.0 follow.0 above.0 (omega (arith, room)) h.front h.log; front = (refl, h.front) }))

-- ---- a discarded command more

abbrev is_ended : QueueRecord → Bool
is_ended x = if is_held x then true else is_dead x

one_dead : (L : List QueueRecord) (last : ℕ) (es : List Entry) (d : Dead) → d.receipt ≤ last → IsAbove d.receipt (filter is_dead L) → AreOnly (begins is_ended) L → IsLogFor L last es
    → IsLogFor (dead d ∷ L) last es
one_dead L last es d given above front h = record {
  queue = (record { front = front; base = h.base; rises = above }, h.queue);
  base = h.base;
  given = ((omega (arith, given), tt), h.given);
  waits = h.waits;
  entries = all_so (IsKept L last) (IsKept (dead d ∷ L) last) es (λ e k. k) h.entries;
  fresh = h.fresh;
}

abbrev DeadAbove : List QueueRecord → List Dead → Type 0
DeadAbove L ds = AllByRecursion (λ (d : Dead). IsAbove d.receipt (filter is_dead L)) ds

dead_more : (L : List QueueRecord) (d : Dead) (ds : List Dead) → AllByRecursion (λ (f : Dead). d.receipt < f.receipt) ds → DeadAbove L ds → DeadAbove (dead d ∷ L) ds
dead_more L d [] h g = tt
dead_more L d (f ∷ ds) h g = (((h.0, tt), g.0), dead_more L d ds h.1 g.1)

all_dead : (ds : List Dead) (L : List QueueRecord) (last : ℕ) (es : List Entry) → DeadsRise ds → AllByRecursion (λ (d : Dead). d.receipt ≤ last) ds → DeadAbove L ds → AreOnly (begins is_ended) L
    → IsLogFor L last es → IsLogFor (onto (map dead ds) L) last es
all_dead [] L last es rise given above front h = h
all_dead (d ∷ ds) L last es rise given above front h =
    all_dead ds (dead d ∷ L) last es rise.1 given.1 (dead_more L d ds rise.0 above.1) (refl, front) (one_dead L last es d given.0 above.0 front h)

-- ---- from held commands to discarded ones

still_front : (L : List QueueRecord) → AreOnly (begins is_held) L → AreOnly (begins is_ended) L
still_front L h = all_so (λ x. begins is_held x ≡ true) (λ x. begins is_ended x ≡ true) L one h
  where
    one : (x : QueueRecord) → begins is_held x ≡ true → begins is_ended x ≡ true
    one (queue.Base last) h = refl
    one (queue.Held r n c) h = refl
    one (queue.Dead r c why) h = refl
    one (queue.Submit r c) h = h
    one (queue.Done r) h = h
    one (queue.Superseded r p) h = h
    one (queue.Refused r f) h = h
    one (queue.Fail r b a) h = h

none_dead : (x : QueueRecord) → begins is_held x ≡ true → is_dead x ≡ false
none_dead (queue.Base last) h = refl
none_dead (queue.Held r n c) h = refl
none_dead (queue.Dead r c why) h = sym h
none_dead (queue.Submit r c) h = refl
none_dead (queue.Done r) h = refl
none_dead (queue.Superseded r p) h = refl
none_dead (queue.Refused r f) h = refl
none_dead (queue.Fail r b a) h = refl

no_dead : (L : List QueueRecord) → AreOnly (begins is_held) L → filter is_dead L ≡ []
no_dead [] h = refl
no_dead (x ∷ L) h = rw (none_dead x h.0) (no_dead L h.1)

above_none : (L : List QueueRecord) (ds : List Dead) → filter is_dead L ≡ [] → DeadAbove L ds
above_none L [] e = tt
above_none L (d ∷ ds) e = (subst (IsAbove d.receipt) (sym e) tt, above_none L ds e)

-- ---- what is given

module _ (history : History) (last : ℕ) where
  entries_given : (r : ℕ) (c : Command) (n : ℕ) (s : Standing) (es : List Entry) → r ≤ last → AllByRecursion (λ (e : Entry). e.receipt ≤ last) es → AllByRecursion (λ (e : Entry). e.receipt ≤ last) (waiting r c n s ++ es)
  entries_given r c n unknown es l h = h
  entries_given r c n queued es l h = (l, h)
  entries_given r c n claimed es l h = (l, h)
  entries_given r c n applied es l h = h
  entries_given r c n (superseded p) es l h = h
  entries_given r c n (discarded cause) es l h = h

  pending_given : (xs : List (ℕ × Command)) → AreGiven last xs → AllByRecursion (λ (e : Entry). e.receipt ≤ last) (flat_map (entry_in history) xs)
  pending_given [] g = tt
  pending_given (x ∷ xs) g = entries_given x.0 x.1 (fails x.0 history) (standing x.0 history) (flat_map (entry_in history) xs) g.0 (pending_given xs g.1)

  own_given : (r : ℕ) (own ds : List Dead) → IsOwn r own → r ≤ last → AllByRecursion (λ (d : Dead). d.receipt ≤ last) ds → AllByRecursion (λ (d : Dead). d.receipt ≤ last) (own ++ ds)
  own_given r own ds (inl none) l h = rw none h
  own_given r own ds (inr one) l h = rw one.1 (subst (λ n. n ≤ last) (sym one.2) l, h)

  deads_given : (xs : List (ℕ × Command)) → AreGiven last xs → AllByRecursion (λ (d : Dead). d.receipt ≤ last) (flat_map (dead_in history) xs)
  deads_given [] g = tt
  deads_given (x ∷ xs) g = own_given x.0 (dead_in history x) (flat_map (dead_in history) xs) (dead_own x.0 x.1 (standing x.0 history)) g.0 (deads_given xs g.1)

-- ---- records behind a log

pub onto_is : (xs L : List QueueRecord) → reverse xs ++ L ≡ onto xs L
onto_is [] L = refl
onto_is (x ∷ xs) L = ap (λ ys. ys ++ L) (reverse-append (x ∷ []) xs) ∙ append_assoc (reverse xs) (x ∷ []) L ∙ onto_is xs (x ∷ L)

-- ---- how many wait

flat_few : {X : Type 0} (f : X → List X) (xs : List X) → ((x : X) → length (f x) ≤ 1) → length (flat_map f xs) ≤ length xs
flat_few f [] h = omega arith
flat_few f (x ∷ xs) h = let both = length-append (f x) (flat_map f xs) in omega (arith, h x, flat_few f xs h, both)

at_few : (r : ℕ) (change : Entry → List Entry) (e : Entry) → length (change e) ≤ 1 → length (at_receipt r change e) ≤ 1
at_few r change e h = by (r == e.receipt)
  where
    by : (b : Bool) → length (if b then change e else e ∷ []) ≤ 1
    by true = h
    by false = omega arith

left_few : (e : Event) (x : Entry) → length (left_by e x) ≤ 1
left_few (Submit r c) x = omega arith
left_few (Claim r) x = at_few r (λ e. marked true e ∷ []) x (omega arith)
left_few (Release r) x = at_few r (λ e. marked false e ∷ []) x (omega arith)
left_few (Apply r t) x = at_few r (λ e. []) x (omega arith)
left_few (Supersede r p) x = at_few r (λ e. []) x (omega arith)
left_few (Fail r b a) x = at_few r (λ e. failed e ∷ []) x (omega arith)
left_few (Discard r cause) x = at_few r (λ e. []) x (omega arith)
left_few (Sweep kinds m) x = omega arith
left_few Restart x = omega arith

module _ (ttls : Ttls) where
  no_more : (e : Event) (earlier : History) → IsLegal ttls (e ∷ earlier) → length (pending_of (e ∷ earlier)) ≤ length (pending_of earlier) + length (added_by e)
  no_more e earlier l =
      let followed = ap length (pending_is_followed ttls e earlier l) in
      let left = flat_few (left_by e) (pending_of earlier) (left_few e) in
      let both = length-append (flat_map (left_by e) (pending_of earlier)) (added_by e) in
      omega (arith, followed, left, both)

  pending_bounded : (history : History) → IsLegal ttls history → RoomWasLeft history → length (pending_of history) ≤ most_pending
  pending_bounded [] l room = omega arith
  pending_bounded (Submit r c ∷ earlier) l room = omega (arith, no_more (Submit r c) earlier l, room.0)
  pending_bounded (Claim r ∷ earlier) l room = omega (arith, no_more (Claim r) earlier l, pending_bounded earlier l.1 room)
  pending_bounded (Release r ∷ earlier) l room = omega (arith, no_more (Release r) earlier l, pending_bounded earlier l.1 room)
  pending_bounded (Apply r t ∷ earlier) l room = omega (arith, no_more (Apply r t) earlier l, pending_bounded earlier l.1 room)
  pending_bounded (Supersede r p ∷ earlier) l room = omega (arith, no_more (Supersede r p) earlier l, pending_bounded earlier l.1 room)
  pending_bounded (Fail r b a ∷ earlier) l room = omega (arith, no_more (Fail r b a) earlier l, pending_bounded earlier l.1 room)
  pending_bounded (Discard r cause ∷ earlier) l room = omega (arith, no_more (Discard r cause) earlier l, pending_bounded earlier l.1 room)
  pending_bounded (Sweep kinds m ∷ earlier) l room = omega (arith, no_more (Sweep kinds m) earlier l, pending_bounded earlier l.1 room)
  pending_bounded (Restart ∷ earlier) l room = omega (arith, no_more Restart earlier l, pending_bounded earlier l.1 room)

  room_upto : (later upto : History) → RoomWasLeft (later ++ upto) → RoomWasLeft upto
  room_upto [] upto room = room
  room_upto (e ∷ later) upto room = room_upto later upto (room_before ttls e (later ++ upto) room)

  -- ---- the whole checkpoint

  nothing_follows : (es : List Entry) → Follow [] es
  nothing_follows [] = tt
  nothing_follows (e ∷ es) = (tt, nothing_follows es)

  base_below : (n : ℕ) (es : List Entry) → AreAbove (queue.Base n ∷ []) es
  base_below n [] = tt
  base_below n (e ∷ es) = (tt, base_below n es)

  base_log : (n : ℕ) → IsHeldLog (queue.Base n ∷ []) n []
  base_log n = record {
    log = record { queue = (refl, tt); base = refl; given = ((omega arith, tt), tt); waits = refl; entries = tt; fresh = λ r l. refl };
    front = (refl, tt);
  }

  onto_both : (xs ys L : List QueueRecord) → onto (xs ++ ys) L ≡ onto ys (onto xs L)
  onto_both [] ys L = refl
  onto_both (x ∷ xs) ys L = onto_both xs ys (x ∷ L)

  module _ (upto : History) (l : IsLegal ttls upto) (few : NoneIsWornOut (pending_of upto)) (bounded : length (pending_of upto) ≤ most_pending) where
    abbrev last : ℕ
    last = last_receipt upto

    given : AreGiven last (submitted upto)
    given = submitted_are_given ttls upto l

    held_part : IsHeldLog (onto (map held (pending_of upto)) (queue.Base last ∷ [])) last (live (pending_of upto))
    held_part =
        all_held (pending_of upto) (queue.Base last ∷ []) last [] few (pending_rises ttls upto l) (pending_given upto last (submitted upto) given)
        (nothing_follows (pending_of upto)) (base_below last (pending_of upto)) (omega (arith, bounded)) (base_log last)

    checkpoint_log : IsLogFor (reverse (queue_checkpoint upto)) last (live (pending_of upto))
    checkpoint_log =
        let L = onto (map held (pending_of upto)) (queue.Base last ∷ []) in
        let turned : onto (map dead (dead_of upto)) L ≡ reverse (queue_checkpoint upto) =
        sym (onto_both (map held (pending_of upto)) (map dead (dead_of upto)) (queue.Base last ∷ [])) ∙ sym (onto_is (queue_checkpoint upto) []) ∙ append-nil (reverse (queue_checkpoint upto)) in
        subst (λ (xs : List QueueRecord). IsLogFor xs last (live (pending_of upto))) turned
        (all_dead (dead_of upto) L last (live (pending_of upto)) (deads_rise upto (submitted upto) (submitted_rise ttls upto l)) (deads_given upto last (submitted upto) given)
        (above_none L (dead_of upto) (no_dead L held_part.front)) (still_front L held_part.front) held_part.log)

at_least_one : (x : QueueRecord) (xs ys : List QueueRecord) → 1 ≤ length ((x ∷ xs) ++ ys)
at_least_one x xs ys = omega arith

told_log : (ttls : Ttls) (records : List QueueRecord) (history : History) → IsLegal ttls history → GivesUpAtOnce history → RoomWasLeft history → QueueTells records history → IsQueueLog records
told_log ttls records history l once room t =
    let legal : IsLegal ttls (t.later ++ t.upto) = subst (IsLegal ttls) t.whole l in
    let at_once : GivesUpAtOnce (t.later ++ t.upto) = subst GivesUpAtOnce t.whole once in
    let left : RoomWasLeft (t.later ++ t.upto) = subst RoomWasLeft t.whole room in
    let upto_is = upto_legal ttls t.later t.upto legal in
    let start = checkpoint_log ttls t.upto upto_is t.few (pending_bounded ttls t.upto upto_is (room_upto ttls t.later t.upto left)) in
    let log = follows ttls (reverse (queue_checkpoint t.upto)) t.upto t.later legal at_once left start in
    subst IsQueueLog (sym t.says) (
      at_least_one (queue.Base (last_receipt t.upto)) (map held (pending_of t.upto) ++ map dead (dead_of t.upto)) (queue_trace t.later),
      subst AreQueued (sym (reversed ttls (queue_checkpoint t.upto) t.later)) log.queue,
    )

-- a log without its last record, a Done
without_done : (xs : List QueueRecord) (r : ℕ) → IsQueueLog (xs ++ queue.Done r ∷ []) → IsQueueLog xs
without_done [] r h = absurd (let short : 0 < 0 = omega (arith, h.1.0.1) in omega (arith, short))
without_done (x ∷ xs) r h =
    (omega arith, (subst AreQueued (reverse-append (x ∷ xs) (queue.Done r ∷ [])) h.1).1)

pub no_queue_record_is_damage : NoQueueRecordIsDamage
no_queue_record_is_damage ttls records kept history l once room (inl t) = told_log ttls records history l once room t
no_queue_record_is_damage ttls records kept history l once room (inr missing) =
    without_done records missing.receipt (told_log ttls (records ++ queue.Done missing.receipt ∷ []) history l once room missing.tells)

-- ---- a log that begins anew

longer : (x : QueueRecord) (xs : List QueueRecord) → 1 ≤ length (x ∷ xs)
longer x xs = omega arith

pub queue_checkpoints_are_logs : QueueCheckpointsAreLogs
queue_checkpoints_are_logs ttls history l few bounded =
    (longer (queue.Base (last_receipt history)) (map held (pending_of history) ++ map dead (dead_of history)), (checkpoint_log ttls history l few bounded).queue)

fewer : (r : ℕ) (rs : List ℕ) → length (leave r rs) ≤ length rs
fewer r [] = omega arith
fewer r (q ∷ rs) = by (not (q == r)) (fewer r rs)
  where
    by : (b : Bool) → length (leave r rs) ≤ length rs → length (if b then q ∷ leave r rs else leave r rs) ≤ length (q ∷ rs)
    by true h = omega (arith, h)
    by false h = omega (arith, h)

fails_on : (b : Bool) (r : ℕ) (rs : List ℕ) → length rs ≤ most_pending → length (if b then leave r rs else rs) ≤ most_pending
fails_on true r rs h = omega (arith, fewer r rs, h)
fails_on false r rs h = h

queued_bounded : (L : List QueueRecord) → AreQueued L → length (waiting_in L) ≤ most_pending
queued_bounded [] q = omega arith
queued_bounded (queue.Base last ∷ L) q = queued_bounded L q.1
queued_bounded (queue.Held r n c ∷ L) q = let room = q.0.room in omega (arith, room)
queued_bounded (queue.Dead r c why ∷ L) q = queued_bounded L q.1
queued_bounded (queue.Submit r c ∷ L) q = let room = q.0.room in omega (arith, room)
queued_bounded (queue.Done r ∷ L) q = omega (arith, fewer r (waiting_in L), queued_bounded L q.1)
queued_bounded (queue.Superseded r p ∷ L) q = omega (arith, fewer r (waiting_in L), queued_bounded L q.1)
queued_bounded (queue.Refused r refusal ∷ L) q = omega (arith, fewer r (waiting_in L), queued_bounded L q.1)
queued_bounded (queue.Fail r b a ∷ L) q = fails_on (suc (attempts r L) == 16) r (waiting_in L) (queued_bounded L q.1)

pub logs_are_bounded : LogsAreBounded
logs_are_bounded records log = queued_bounded (reverse records) log.1
