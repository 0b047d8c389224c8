-- What a sweep that took the store down leaves on the disks.
use Rattle.std.proofs.Common.{◌≡◌, ◌∙◌, ◌⊎◌, inl, inr, ℕ, ℤ, ◌≤◌, false, List, [], ◌∷◌, ◌++◌, length, length-append, arith, sym, ap, subst, Option}
use Rattle.fleet_hub.specs.fleet_rows.declared.settings.Kinds.{Kinds}
use Rattle.fleet_hub.specs.fleet_rows.declared.settings.Ttls.{Ttls}
use Rattle.fleet_hub.specs.record_spec.declared.queue.QueueRecord.{QueueRecord}
use Rattle.fleet_hub.specs.record_spec.declared.store.StoreRecord.{StoreRecord}
use Rattle.fleet_hub.specs.core_spec.declared.event.Event.TheVariants.{Sweep}
use Rattle.fleet_hub.specs.core_spec.History.{History}
use Rattle.fleet_hub.specs.queue_log.Queued.{queue_moment, QueueImages, QueueSince}
use Rattle.fleet_hub.specs.core_state.declared.state.CoreState.{CoreState}
use Rattle.fleet_hub.specs.core_state.Moments.{StandsAmid}
use Rattle.fleet_hub.specs.core_state.StandsFor.{StandsAt, history_of}
use Rattle.fleet_hub.specs.core_sweeps.declared.answers.Swept.TheVariants as swept
use Rattle.fleet_hub.specs.core_sweeps.Sweeps.{IsSweep}
use Rattle.fleet_hub.specs.core_course.Sight.{Sight, Stood, is_down}
use Rattle.fleet_hub.proofs.of_core_drain.Sweeps.{SweepSays}
use Rattle.spool_run.specs.Intake.{MayHaveSwept}

-- where no event was added, a part of the history is all of it
same_upto : (old now upto a b : History) → now ≡ old → upto ≡ a ++ old → now ≡ b ++ upto → upto ≡ old
same_upto old now upto [] b same from to = from
same_upto old now upto (x ∷ a) b same from to =
    let first = ap length from in
    let second = ap length to in
    let third = ap length same in
    absurd (omega (arith, first, second, third, length-append a old, length-append b upto))

module _ {D K : Type 0} (w : Sight D K) (counts_now : (d : D) (t : ℕ) (c : List ℕ) → t ≤ w.moment d → w.may_leave d c → w.left_since d t c) (kinds : Kinds) (m : ℤ) (old new : CoreState D K) (up : is_down w old ≡ false)
    (says : SweepSays w swept.StoreDown kinds m old new) where
  module _ (start : History) (stood : Stood w old start) (q : Option (List QueueRecord)) (s : Option (List StoreRecord)) where
    same_history : history_of new start ≡ history_of old start
    same_history = ap (λ (h : History). h ++ start) says.adds

    -- an image of the queue now is one since the sweep began
    since : QueueImages w.may_leave new.queue q → QueueSince w.left_since new.queue (queue_moment w.moment old.queue) q
    since image =
        let later = (says.any_moment start stood up).later_queue in
        (image.0, image.1, counts_now _ _ image.0 later.0 image.2, counts_now _ _ image.1 later.1 image.3, image.4)

    module _ (amid : StandsAmid old.tables.ttls (IsSweep kinds m (history_of old start)) (history_of old start) (history_of new start) q s) where
      stand : (g : History) → amid.begun ++ amid.upto ≡ g → StandsAt new.tables.ttls q s g
      stand g same = subst (λ (t : Ttls). StandsAt t q s g) (sym says.opening.lifetimes) (subst (λ (h : History). StandsAt old.tables.ttls q s h) same amid.stands)

      whole : amid.upto ≡ history_of old start
      whole = same_upto (history_of old start) (history_of new start) amid.upto amid.from_old.0 amid.to_new.0 same_history amid.from_old.1 amid.to_new.1

      stand_so : (amid.begun ≡ []) ⊎ IsSweep kinds m (history_of old start) amid.upto amid.begun → StandsAt new.tables.ttls q s (history_of new start) ⊎ StandsAt new.tables.ttls q s (Sweep kinds m ∷ history_of new start)
      stand_so (inl none) = inl (stand (history_of new start) (ap (λ (h : History). h ++ amid.upto) none ∙ (whole ∙ sym same_history)))
      stand_so (inr one) = inr (stand (Sweep kinds m ∷ history_of new start) ((λ i. one.1 i ++ one.0 i) ∙ ap (λ (h : History). Sweep kinds m ∷ h) (sym same_history)))

  pub may_have_swept : MayHaveSwept w kinds m old new
  may_have_swept start stood q s queue_image store_image =
      let amid = (says.any_moment start stood up).then_queue q s (since start stood q s queue_image) store_image in
      stand_so start stood q s amid amid.begins
