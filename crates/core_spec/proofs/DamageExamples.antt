-- Where a log is damaged: each condition of a record broken once.
use Rattle.std.proofs.Common.{◌≡◌, inl, inr, lit≤, lit<, ℕ, ℤ, List, [], ◌∷◌, length, arith, refl, ap, None}
use Rattle.json_read.proofs.of_plain_laws.Booleans.{no_truth}
use Rattle.json_read.proofs.of_plain_laws.Members.{Among-from_Contains}
use Rattle.table_spec.specs.fleet_rows.declared.command.Command.{Command}
use Rattle.table_spec.specs.fleet_rows.declared.refusal.Cause.{Cause}
use Rattle.table_spec.specs.fleet_rows.declared.refusal.Refusal.{Refusal}
use Rattle.table_spec.specs.fleet_rows.declared.settings.Kinds.{Kinds}
use Rattle.record_spec.specs.declared.queue.QueueRecord.{QueueRecord}
use Rattle.record_spec.specs.declared.queue.QueueRecord.TheVariants as queue
use Rattle.record_spec.specs.declared.store.StoreRecord.{StoreRecord}
use Rattle.record_spec.specs.declared.store.StoreRecord.TheVariants as store
use Rattle.record_spec.specs.Queue.{queue_text}
use Rattle.record_spec.specs.Store.{store_text}
use Rattle.core_spec.specs.Damage.{waiting_in, MayQueue, AreQueued, MayKeep, IsQueueDamage, IsStoreDamage}

module _ (a b : Command) (why : Cause) (refusal : Refusal) where
  -- a base, a held command, a discarded one, and one that came in, the last first
  abbrev log : List QueueRecord
  log = queue.Submit 4 b ∷ queue.Dead 1 a why ∷ queue.Held 2 0 a ∷ queue.Base 3 ∷ []

  it_is_a_log : AreQueued log
  it_is_a_log = (
    record { base = refl; rises = ((omega arith, tt), ((omega arith, tt), ((omega arith, tt), tt))); room = omega arith },
    (record { front = (refl, (refl, tt)); base = refl; rises = tt }, (record { front = (refl, tt); base = refl; rises = tt; room = omega arith }, (refl, tt))),
  )

  two_wait : waiting_in log ≡ 4 ∷ 2 ∷ []
  two_wait = refl

  -- ---- fronts

  a_second_base : MayQueue (queue.Base 4) log → ⊥
  a_second_base h = let apart : queue.Submit 4 b ∷ queue.Dead 1 a why ∷ queue.Held 2 0 a ∷ queue.Base 3 ∷ [] ≡ [] = h in cc

  a_held_command_without_a_base : MayQueue (queue.Held 1 0 a) [] → ⊥
  a_held_command_without_a_base h = no_truth h.base

  a_held_command_behind_a_discarded_one : MayQueue (queue.Held 3 0 a) (queue.Dead 1 a why ∷ queue.Base 3 ∷ []) → ⊥
  a_held_command_behind_a_discarded_one h = no_truth h.front.0

  held_commands_in_another_order : MayQueue (queue.Held 1 0 a) (queue.Held 2 0 a ∷ queue.Base 3 ∷ []) → ⊥
  held_commands_in_another_order h = omega (arith, h.rises.0.0)

  a_held_command_stands_twice : MayQueue (queue.Held 2 0 a) (queue.Held 2 0 a ∷ queue.Base 3 ∷ []) → ⊥
  a_held_command_stands_twice h = omega (arith, h.rises.0.0)

  a_discarded_command_without_a_base : MayQueue (queue.Dead 1 a why) [] → ⊥
  a_discarded_command_without_a_base h = no_truth h.base

  a_discarded_command_behind_one_that_came_in : MayQueue (queue.Dead 2 a why) log → ⊥
  a_discarded_command_behind_one_that_came_in h = no_truth h.front.0

  discarded_commands_in_another_order : MayQueue (queue.Dead 1 a why) (queue.Dead 2 a why ∷ queue.Base 3 ∷ []) → ⊥
  discarded_commands_in_another_order h = omega (arith, h.rises.0.0)

  -- ---- what comes in

  a_command_comes_in_without_a_base : MayQueue (queue.Submit 1 a) [] → ⊥
  a_command_comes_in_without_a_base h = no_truth h.base

  a_receipt_below_the_base : MayQueue (queue.Submit 3 a) (queue.Base 3 ∷ []) → ⊥
  a_receipt_below_the_base h = omega (arith, h.rises.0.0)

  a_receipt_below_a_held_one : MayQueue (queue.Submit 4 a) (queue.Held 5 0 a ∷ queue.Base 3 ∷ []) → ⊥
  a_receipt_below_a_held_one h = omega (arith, h.rises.0.0)

  a_receipt_below_a_discarded_one : MayQueue (queue.Submit 4 a) (queue.Dead 5 a why ∷ queue.Base 3 ∷ []) → ⊥
  a_receipt_below_a_discarded_one h = omega (arith, h.rises.0.0)

  a_receipt_comes_twice : MayQueue (queue.Submit 4 a) log → ⊥
  a_receipt_comes_twice h = omega (arith, h.rises.0.0)

  too_many_wait : (earlier : List QueueRecord) → length (waiting_in earlier) ≡ 262_144 → MayQueue (queue.Submit 9 a) earlier → ⊥
  too_many_wait earlier many h = omega (arith, many, h.room)

  too_many_are_held : (earlier : List QueueRecord) → length (waiting_in earlier) ≡ 262_144 → MayQueue (queue.Held 9 0 a) earlier → ⊥
  too_many_are_held earlier many h = omega (arith, many, h.room)

  -- ---- endings and failures

  an_ending_of_one_that_waits : MayQueue (queue.Done 2) log
  an_ending_of_one_that_waits = (1, omega arith, refl)

  the_ending_of_one_that_was_discarded : MayQueue (queue.Done 1) log → ⊥
  the_ending_of_one_that_was_discarded h = elim (Among-from_Contains (4 ∷ 2 ∷ []) 1 h) [ inl e ↦ omega (arith, e) | inr h ↦ elim h [ inl e ↦ omega (arith, e) | inr h ↦ h ] ]

  an_ending_comes_twice : MayQueue (queue.Done 2) (queue.Superseded 2 4 ∷ log) → ⊥
  an_ending_comes_twice h = elim (Among-from_Contains (4 ∷ []) 2 h) [ inl e ↦ omega (arith, e) | inr h ↦ h ]

  the_superseded_one_does_not_wait : MayQueue (queue.Superseded 1 4) log → ⊥
  the_superseded_one_does_not_wait h = the_ending_of_one_that_was_discarded h

  the_refused_one_does_not_wait : MayQueue (queue.Refused 1 refusal) log → ⊥
  the_refused_one_does_not_wait h = the_ending_of_one_that_was_discarded h

  the_failed_one_does_not_wait : MayQueue (queue.Fail 1 0 1) log → ⊥
  the_failed_one_does_not_wait h = the_ending_of_one_that_was_discarded h.0

  a_failure_of_a_count_that_stands_still : MayQueue (queue.Fail 2 3 3) log → ⊥
  a_failure_of_a_count_that_stands_still h = elim h.1 [ inl less ↦ omega (arith, less) | inr ends ↦ omega (arith, ends.0) ]

  after_fifteen_failures_it_waits : waiting_in (queue.Fail 2 0 1 ∷ queue.Held 2 14 a ∷ queue.Base 3 ∷ []) ≡ 2 ∷ []
  after_fifteen_failures_it_waits = refl

  after_sixteen_failures_it_waits_no_more : waiting_in (queue.Fail 2 0 1 ∷ queue.Held 2 15 a ∷ queue.Base 3 ∷ []) ≡ []
  after_sixteen_failures_it_waits_no_more = refl

-- ---- the store

module _ (kinds : Kinds) (m : ℤ) where
  abbrev laid : List StoreRecord
  laid = store.Base None None None ∷ store.Settings 7 14 14 ∷ []

  a_sweep_behind_the_base : MayKeep (store.Swept kinds m) laid
  a_sweep_behind_the_base = omega arith

  a_sweep_before_the_base : MayKeep (store.Swept kinds m) (store.Settings 7 14 14 ∷ []) → ⊥
  a_sweep_before_the_base h = omega (arith, h)

  a_base_without_lifetimes : MayKeep (store.Base None None None) [] → ⊥
  a_base_without_lifetimes h = omega (arith, h)

  a_base_once_more : MayKeep (store.Base None None None) laid → ⊥
  a_base_once_more h = omega (arith, h)

  lifetimes_once_more : MayKeep (store.Settings 7 14 14) laid → ⊥
  lifetimes_once_more h = omega (arith, ap length h)

  a_limit_once_more : MayKeep (store.Limits 7 14 14 5) laid → ⊥
  a_limit_once_more h = omega (arith, ap length h)

-- ---- frames

no_frame_is_damage_at_the_first : IsQueueDamage [] 0
no_frame_is_damage_at_the_first = record { before = []; place = refl; reads = tt; stand = tt; ends = omega arith }

lifetimes_alone_are_damage_behind_them : IsStoreDamage (store_text (store.Settings 7 14 14) ∷ []) 1
lifetimes_alone_are_damage_behind_them = record {
  before = store.Settings 7 14 14 ∷ [];
  place = refl;
  reads = ((((lit≤ tt, lit≤ tt), (lit≤ tt, lit≤ tt), (lit≤ tt, lit≤ tt)), refl), tt);
  stand = (refl, tt);
  ends = omega arith;
}

-- no record has the tag 9
head_of : List ℕ → ℕ
head_of [] = 0
head_of (x ∷ xs) = x

no_record_has_tag_9 : (x : QueueRecord) → 9 ∷ [] ≡ queue_text x → ⊥
unfolding head_of
no_record_has_tag_9 (queue.Base last) e = omega (arith, ap head_of e)
no_record_has_tag_9 (queue.Held r n c) e = omega (arith, ap head_of e)
no_record_has_tag_9 (queue.Dead r c why) e = omega (arith, ap head_of e)
no_record_has_tag_9 (queue.Submit r c) e = omega (arith, ap head_of e)
no_record_has_tag_9 (queue.Done r) e = omega (arith, ap head_of e)
no_record_has_tag_9 (queue.Superseded r by) e = omega (arith, ap head_of e)
no_record_has_tag_9 (queue.Refused r refusal) e = omega (arith, ap head_of e)
no_record_has_tag_9 (queue.Fail r before after) e = omega (arith, ap head_of e)

a_frame_that_is_no_record : (rest : List (List ℕ)) → IsQueueDamage (queue_text (queue.Base 0) ∷ (9 ∷ []) ∷ rest) 1
a_frame_that_is_no_record rest = record {
  before = queue.Base 0 ∷ [];
  place = refl;
  reads = ((lit< tt, refl), tt);
  stand = (refl, tt);
  ends = λ x is may. no_record_has_tag_9 x is.1;
}
