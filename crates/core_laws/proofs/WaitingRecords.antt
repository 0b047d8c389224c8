-- What waits by the rule of damage is what the records lead to, one after the other.
use Rattle.std.proofs.Common.{◌≡◌, ◌∙◌, inl, inr, ℕ, suc, ◌<◌, ◌==◌, List, [], ◌∷◌, ◌++◌, reverse, arith, refl, sym, ap, subst, map, Bool, true, false, if◌then◌else◌}
use Rattle.std.specs.Prelude.{nat_lt, filter}
use Rattle.std.specs.List.{AllByRecursion, flat_map}
use Rattle.std.proofs.lemmas.List.{append-nil}
use Rattle.checkpoint_spec.proofs.of_history_laws.Members.{Among, Among-from_Contains, Contains-from_Among, Among-append_cases}
use Rattle.core_machine.specs.record_spec.declared.queue.QueueRecord.{QueueRecord}
use Rattle.core_machine.specs.record_spec.declared.queue.QueueRecord.TheVariants as queue
use Rattle.core_machine.specs.record_spec.Queue.{IsQueueRecord}
use Rattle.core_machine.specs.fleet_rows.declared.command.Command.{Command}
use Rattle.core_machine.specs.core_spec.declared.entry.Entry.{Entry}
use Rattle.core_machine.specs.core_spec.Damage.{attempts, leave, waiting_in, Waits, is_held, given, IsAbove, AreOnly, begins, MayQueue, AreQueued}
use Rattle.core_machine.specs.Steps.{marked, failed, at_receipt, new_entry}
use Rattle.core_laws.specs.Replay.{if_few, held_entry, pending_by, pending_after}
use Rattle.core_laws.specs.StandingLaws.{WhatWaitsIsTold}
use Rattle.core_laws.proofs.Lives.{receipt_of}
use Rattle.core_laws.proofs.QueueCheckpoints.{onto_is}
use Rattle.core_laws.proofs.QueueLogs.{receipts_back, back_last, back_out, back_failed, among_back, all_back, all_joined, all_flat, all_so, fails_at, onto}

-- a command is held with fewer than sixteen failures
abbrev pub IsFew : QueueRecord → Type 0
IsFew (queue.Held r n c) = n < 16
IsFew _ = Unit {0}

abbrev Below : ℕ → List Entry → Type 0
Below q = AllByRecursion (λ (e : Entry). e.receipt < q)

abbrev IsCounted : List QueueRecord → Entry → Type 0
IsCounted L e = (e.attempts < 16) × (attempts e.receipt L ≡ e.attempts)

-- a log, its newest record first, and what its records lead to
pub record IsReplayed (L : List QueueRecord) (es : List Entry) : Type 0 where
  pub waits : waiting_in L ≡ receipts_back es
  pub entries : AllByRecursion (IsCounted L) es
  pub fresh : (q : ℕ) → IsAbove q L → attempts q L ≡ 0
  pub given : (q : ℕ) → IsAbove q L → Below q es
  pub held : AreOnly (begins is_held) L → (q : ℕ) → IsAbove q (filter is_held L) → Below q es

one_below : (q : ℕ) (es : List Entry) (e : Entry) → Below q es → e.receipt < q → Below q (es ++ e ∷ [])
one_below q [] e h l = (l, tt)
one_below q (f ∷ es) e h l = (h.0, one_below q es e h.1 l)

left_below : (q r : ℕ) (f : Entry → List Entry) (es : List Entry) → ((e : Entry) → e.receipt < q → Below q (f e)) → Below q es → Below q (flat_map (at_receipt r f) es)
left_below q r f es h below = all_flat (λ (e : Entry). e.receipt < q) (λ (e : Entry). e.receipt < q) (at_receipt r f) es (λ e l. by (r == e.receipt) e l) below
  where
    by : (b : Bool) (e : Entry) → e.receipt < q → Below q (if b then f e else e ∷ [])
    by true e l = h e l
    by false e l = (l, tt)

few_below : (q : ℕ) (e : Entry) → e.receipt < q → Below q (if_few e)
few_below q e l = by (nat_lt e.attempts 16)
  where
    by : (b : Bool) → Below q (if b then marked false e ∷ [] else [])
    by true = (l, tt)
    by false = tt

itself : (r : ℕ) → (r == r) ≡ true
itself r = grind arith

unheld : {P : Type 0} → false ≡ true → P
unheld h = absurd (let never : false ≡ true = h in cc)

-- ---- one record

held_step : (L : List QueueRecord) (es : List Entry) (r n : ℕ) (c : Command) → n < 16 → AreOnly (begins is_held) L → IsAbove r (filter is_held L) → IsReplayed L es
    → IsReplayed (queue.Held r n c ∷ L) (es ++ if_few (held_entry r n c))
held_step L es r n c few front above h =
    let stays : nat_lt n 16 ≡ true = grind (arith, few) in
    subst (λ fs. IsReplayed (queue.Held r n c ∷ L) (es ++ fs)) (rw stays refl) (record {
      waits = ap (λ rs. r ∷ rs) h.waits ∙ sym (back_last es (held_entry r n c));
      entries = all_joined (IsCounted L) (IsCounted (queue.Held r n c ∷ L)) es (held_entry r n c ∷ []) (others es (h.held front r above) h.entries) ((few, rw (itself r) refl), tt);
      fresh = λ q a. let other : (r == q) ≡ false = grind (arith, a.0.0) in rw other (h.fresh q a.1);
      given = λ q a. one_below q es (held_entry r n c) (h.given q a.1) a.0.0;
      held = λ f q a. one_below q es (held_entry r n c) (h.held f.1 q a.1) a.0.0;
    })
  where
    others : (es : List Entry) → Below r es → AllByRecursion (IsCounted L) es → AllByRecursion (IsCounted (queue.Held r n c ∷ L)) es
    others [] b k = tt
    others (e ∷ es) b k = let other : (r == e.receipt) ≡ false = grind (arith, b.0) in ((k.0.0, rw other k.0.1), others es b.1 k.1)

submit_step : (L : List QueueRecord) (es : List Entry) (r : ℕ) (c : Command) → IsAbove r L → IsReplayed L es → IsReplayed (queue.Submit r c ∷ L) (es ++ new_entry r c ∷ [])
submit_step L es r c above h = record {
  waits = ap (λ rs. r ∷ rs) h.waits ∙ sym (back_last es (new_entry r c));
  entries = all_joined (IsCounted L) (IsCounted (queue.Submit r c ∷ L)) es (new_entry r c ∷ []) h.entries ((omega arith, h.fresh r above), tt);
  fresh = λ q a. h.fresh q a.1;
  given = λ q a. one_below q es (new_entry r c) (h.given q a.1) a.0.0;
  held = λ f q a. unheld f.0;
}

end_step : (x : QueueRecord) (L : List QueueRecord) (es : List Entry) (r : ℕ) → waiting_in (x ∷ L) ≡ leave r (waiting_in L) → given x ≡ [] → begins is_held x ≡ false → ((q : ℕ) → attempts q (x ∷ L) ≡ attempts q L)
    → IsReplayed L es → IsReplayed (x ∷ L) (flat_map (at_receipt r (λ e. [])) es)
end_step x L es r waits none other same h = record {
  waits = waits ∙ ap (leave r) h.waits ∙ back_out r es;
  entries = all_flat (IsCounted L) (IsCounted (x ∷ L)) (at_receipt r (λ e. [])) es (λ e k. by (r == e.receipt) e k) h.entries;
  fresh = λ q a. same q ∙ h.fresh q a.1;
  given = λ q a. left_below q r (λ e. []) es (λ e l. tt) (h.given q a.1);
  held = λ f q a. unheld (sym other ∙ f.0);
}
  where
    by : (b : Bool) (e : Entry) → IsCounted L e → AllByRecursion (IsCounted (x ∷ L)) (if b then [] else e ∷ [])
    by true e k = tt
    by false e k = ((k.0, same e.receipt ∙ k.1), tt)

fail_step : (L : List QueueRecord) (es : List Entry) (r before after : ℕ) → Waits r L → IsReplayed L es → IsReplayed (queue.Fail r before after ∷ L) (flat_map (fails_at r) es)
fail_step L es r before after waiting h = record {
  waits = back_failed (suc (attempts r L) == 16) r (attempts r L) es (waiting_in L) refl h.waits
      (all_so (IsCounted L) (λ e. (e.receipt ≡ r → e.attempts ≡ attempts r L) × (e.attempts < 16)) es (λ e k. ((λ same. sym k.1 ∙ ap (λ n. attempts n L) same), k.0)) h.entries);
  entries = all_flat (IsCounted L) (IsCounted (queue.Fail r before after ∷ L)) (fails_at r) es (λ e k. left (r == e.receipt) e refl k) h.entries;
  fresh = λ q a. newer q (h.given q a.1) (h.fresh q a.1);
  given = λ q a. left_below q r (λ e. if_few (failed e)) es (λ e l. few_below q (failed e) l) (h.given q a.1);
  held = λ f q a. unheld f.0;
}
  where
    there : Among r (receipts_back es)
    there = subst (λ (rs : List ℕ). Among r rs) h.waits (Among-from_Contains (waiting_in L) r waiting)

    newer : (q : ℕ) → Below q es → attempts q L ≡ 0 → attempts q (queue.Fail r before after ∷ L) ≡ 0
    newer q below none =
        let less : r < q = all_back (λ n. n < q) es below r there in
        let other : (r == q) ≡ false = grind (arith, less) in rw other none

    once_more : (b : Bool) (e : Entry) → nat_lt (suc e.attempts) 16 ≡ b → (r == e.receipt) ≡ true → IsCounted L e
        → AllByRecursion (IsCounted (queue.Fail r before after ∷ L)) (if b then marked false (failed e) ∷ [] else [])
    once_more true e f g k = ((grind (arith, f), rw g (ap suc k.1)), tt)
    once_more false e f g k = tt

    left : (b : Bool) (e : Entry) → (r == e.receipt) ≡ b → IsCounted L e → AllByRecursion (IsCounted (queue.Fail r before after ∷ L)) (if b then if_few (failed e) else e ∷ [])
    left true e g k = once_more (nat_lt (suc e.attempts) 16) e refl g k
    left false e g k = ((k.0, rw g k.1), tt)

one_step : (x : QueueRecord) (L : List QueueRecord) (es : List Entry) → MayQueue x L → IsFew x → IsReplayed L es → IsReplayed (x ∷ L) (pending_by x es)
one_step (queue.Base last) L es may few h = record {
  waits = h.waits;
  entries = all_so (IsCounted L) (IsCounted (queue.Base last ∷ L)) es (λ e k. k) h.entries;
  fresh = λ q a. h.fresh q a.1;
  given = λ q a. h.given q a.1;
  held = λ f q a. h.held f.1 q a;
}
one_step (queue.Held r n c) L es may few h = held_step L es r n c few may.front may.rises h
one_step (queue.Dead r c why) L es may few h = record {
  waits = h.waits;
  entries = all_so (IsCounted L) (IsCounted (queue.Dead r c why ∷ L)) es (λ e k. k) h.entries;
  fresh = λ q a. h.fresh q a.1;
  given = λ q a. h.given q a.1;
  held = λ f q a. unheld f.0;
}
one_step (queue.Submit r c) L es may few h = submit_step L es r c may.rises h
one_step (queue.Done r) L es may few h = end_step (queue.Done r) L es r refl refl refl (λ q. refl) h
one_step (queue.Superseded r p) L es may few h = end_step (queue.Superseded r p) L es r refl refl refl (λ q. refl) h
one_step (queue.Refused r f) L es may few h = end_step (queue.Refused r f) L es r refl refl refl (λ q. refl) h
one_step (queue.Fail r before after) L es may few h = fail_step L es r before after may.0 h

-- ---- all of them

front_queued : (xs L : List QueueRecord) → AreQueued (onto xs L) → AreQueued L
front_queued [] L h = h
front_queued (x ∷ xs) L h = (front_queued xs (x ∷ L) h).1

all_steps : (xs L : List QueueRecord) (es : List Entry) → AreQueued (onto xs L) → AllByRecursion IsFew xs → IsReplayed L es → IsReplayed (onto xs L) (pending_after xs es)
all_steps [] L es q few h = h
all_steps (x ∷ xs) L es q few h = all_steps xs (x ∷ L) (pending_by x es) q few.1 (one_step x L es (front_queued xs (x ∷ L) q).0 few.0 h)

reversed_is : (records : List QueueRecord) → onto records [] ≡ reverse records
reversed_is records = sym (onto_is records []) ∙ append-nil (reverse records)

pub records_wait : (records : List QueueRecord) → AreQueued (reverse records) → AllByRecursion IsFew records → IsReplayed (reverse records) (pending_after records [])
records_wait records q few =
    subst (λ (L : List QueueRecord). IsReplayed L (pending_after records [])) (reversed_is records)
    (all_steps records [] [] (subst AreQueued (sym (reversed_is records)) q) few (record { waits = refl; entries = tt; fresh = λ q a. refl; given = λ q a. tt; held = λ f q a. tt }))

from_back : (r : ℕ) (es : List Entry) → Among r (receipts_back es) → Among r (map receipt_of es)
from_back r [] a = absurd a
from_back r (e ∷ es) a = elim (Among-append_cases (receipts_back es) (e.receipt ∷ []) r a) [ inl b ↦ inr (from_back r es b) | inr b ↦ here b ]
  where
    here : Among r (e.receipt ∷ []) → Among r (map receipt_of (e ∷ es))
    here (inl same) = inl same
    here (inr none) = absurd none

pub waits_where_led : (records : List QueueRecord) (r : ℕ) → AreQueued (reverse records) → AllByRecursion IsFew records → Among r (map receipt_of (pending_after records [])) → Waits r (reverse records)
waits_where_led records r q few a =
    Contains-from_Among (waiting_in (reverse records)) r (subst (λ (rs : List ℕ). Among r rs) (sym (records_wait records q few).waits) (among_back r (pending_after records []) a))

led_where_waits : (records : List QueueRecord) (r : ℕ) → AreQueued (reverse records) → AllByRecursion IsFew records → Waits r (reverse records) → Among r (map receipt_of (pending_after records []))
led_where_waits records r q few w =
    from_back r (pending_after records []) (subst (λ (rs : List ℕ). Among r rs) (records_wait records q few).waits (Among-from_Contains (waiting_in (reverse records)) r w))

pub few_of : (x : QueueRecord) → IsQueueRecord x → IsFew x
few_of (queue.Base last) h = tt
few_of (queue.Held r n c) h = h.1
few_of (queue.Dead r c why) h = tt
few_of (queue.Submit r c) h = tt
few_of (queue.Done r) h = tt
few_of (queue.Superseded r p) h = tt
few_of (queue.Refused r f) h = tt
few_of (queue.Fail r b a) h = tt

pub what_waits_is_told : WhatWaitsIsTold
what_waits_is_told records r log spelt =
    let few = all_so IsQueueRecord IsFew records few_of spelt in (
      λ w. Contains-from_Among (map receipt_of (pending_after records [])) r (led_where_waits records r log.1 few w),
      λ c. waits_where_led records r log.1 few (Among-from_Contains (map receipt_of (pending_after records [])) r c),
    )
