-- What a core stands for after its queue was written, and after an event that leaves no record.
use Rattle.std.proofs.Common.{◌≡◌, ◌∙◌, ◌⊎◌, Bool, true, false, ◌||◌, List, [], ◌∷◌, ◌++◌, Option, Some, IsTrue, refl, sym, ap, subst}
use Rattle.supersede_core.specs.fleet_rows.declared.settings.Ttls.{Ttls}
use Rattle.supersede_core.specs.record_spec.declared.queue.QueueRecord.{QueueRecord}
use Rattle.supersede_core.specs.record_spec.declared.store.StoreRecord.{StoreRecord}
use Rattle.queue_log.specs.fleet_keeper.declared.kept.Kept.{Kept}
use Rattle.queue_log.specs.fleet_keeper.declared.kept.Kept.TheVariants as kept
use Rattle.queue_log.specs.fleet_keeper.Kept.{IsRefusal}
use Rattle.queue_log.specs.fleet_keeper.Records.{with_one}
use Rattle.retry_discard.specs.core_spec.declared.event.Event.{Event}
use Rattle.retry_discard.specs.core_spec.History.{History}
use Rattle.retry_discard.specs.core_spec.Legal.{May}
use Rattle.retry_discard.specs.core_spec.Stands.{queue_part, store_part, Stands}
use Rattle.queue_log.specs.Queued.{queued, QueueIsUp}
use Rattle.core_state.specs.declared.state.CoreState.{CoreState}
use Rattle.core_state.specs.Changes.{OthersStay}
use Rattle.core_state.specs.Puts.{HasPut}
use Rattle.core_state.specs.Seen.{held_of}
use Rattle.core_state.specs.StandsFor.{IsHeld, HoldsFor, StandsAt, AreOfOneRecord, history_of}
use Rattle.core_state.proofs.Carried.{holds_with}
use Rattle.core_state.proofs.NextRecords.{RoomIsLeft}
use Rattle.core_state.proofs.Ports.{Ports}
use Rattle.core_state.proofs.Standing.{BothTell, both_with, no_queue_part, no_store_part, CoreStands, IsSoundCore, is_down, up_stands, down_stands, logs_of, xs, ys, logs, plain, queue_up, store_up, tell, queue_images}

either_true : (a b : Bool) → (a || (true || b)) ≡ true
either_true true b = refl
either_true false b = refl

module _ {D K : Type 0} (p : Ports D K) (old new : CoreState D K) (start : History) (sound : IsSoundCore p old) (stands : CoreStands p old start) (up : is_down p old ≡ false) where
  abbrev pub Put : Kept → QueueRecord → Type 0
  Put answer rec = HasPut p.tells p.seen p.may_leave p.moment p.left_since p.faults answer old.queue new.queue rec

  abbrev pub xs_old : List QueueRecord
  xs_old = xs p old start sound stands up

  abbrev pub ys_old : List StoreRecord
  ys_old = ys p old start sound stands up

  abbrev pub was : History
  was = history_of old start

  -- the store has what it had, and the lifetimes are those
  module _ (same_ttls : new.tables.ttls ≡ old.tables.ttls) (store_kept : IsTrue p.store_tells → p.kept new.store ≡ Some ys_old) (store_goes : p.store_up new.store) where
    -- the record was put
    pub put_stands : (rec : QueueRecord) (history : History) → BothTell old.tables.ttls (xs_old ++ rec ∷ []) ys_old history → Put kept.Ok rec → history_of new start ≡ history
        → HoldsFor (held_of new) (p.store_faults new.store) start → CoreStands p new start
    put_stands rec history both put same holds =
        up_stands p new start (put.again (λ e. cc)) store_goes holds
        (logs_of p new (xs_old ++ rec ∷ []) ys_old (history_of new start) old.tables.ttls same_ttls (subst (BothTell old.tables.ttls (xs_old ++ rec ∷ []) ys_old) (sym same) both)
        (λ told. put.queued_one refl told ∙ ap (λ (o : Option (List QueueRecord)). with_one o rec) ((logs p old start sound stands up).queue_is told)) store_kept)

    -- it wasn't, and the log can be called
    pub unput_stands : (answer : Kept) (rec : QueueRecord) (history : History) → IsRefusal answer → BothTell old.tables.ttls xs_old ys_old history → Put answer rec → history_of new start ≡ history
        → HoldsFor (held_of new) (p.store_faults new.store) start → CoreStands p new start
    unput_stands answer rec history refused both put same holds =
        up_stands p new start (put.again (λ e. subst IsRefusal e refused)) store_goes holds
        (logs_of p new xs_old ys_old (history_of new start) old.tables.ttls same_ttls (subst (BothTell old.tables.ttls xs_old ys_old) (sym same) both)
        (λ told. put.queued_old refused told ∙ (logs p old start sound stands up).queue_is told) store_kept)

  -- the log is down, and some image may have the record
  pub open_stands : (rec : QueueRecord) (begun : History) → AreOfOneRecord begun → Stands old.tables.ttls (xs_old ++ rec ∷ []) ys_old (begun ++ was) → Put kept.Down rec
      → ((s : Option (List StoreRecord)) → p.images new.store s → s ≡ Some ys_old) → new.tables.ttls ≡ old.tables.ttls → history_of new start ≡ was → HoldsFor (held_of new) (p.store_faults new.store) start → CoreStands p new start
  open_stands rec begun of_one now put known same_ttls same holds =
      down_stands p new start (rw (put.down.1 refl) (either_true new.undone (p.store_down new.store))) holds begun of_one
      (λ q s q_image s_image.
      subst (λ (ts : Ttls). StandsAt ts q s (history_of new start) ⊎ StandsAt ts q s (begun ++ history_of new start)) (sym same_ttls)
      (subst (λ (h : History). StandsAt old.tables.ttls q s h ⊎ StandsAt old.tables.ttls q s (begun ++ h)) (sym same) (queue_images p old start sound stands up new rec begun now put.each known q s q_image s_image)))

  -- an event that leaves no record: no disk was written
  pub silent_both : (e : Event) → May old.tables.ttls e was → RoomIsLeft e was → queue_part e ≡ [] → store_part e was ≡ [] → BothTell old.tables.ttls xs_old ys_old (e ∷ was)
  silent_both e may room q s =
      no_queue_part old.tables.ttls xs_old ys_old (e ∷ was) (no_store_part old.tables.ttls (xs_old ++ []) ys_old (e ∷ was)
      (both_with old.tables.ttls xs_old ys_old was (plain p old start sound stands up) (tell p old start sound stands up) e may room [] [] q s))

  pub silent_stands : (e : Event) → May old.tables.ttls e was → RoomIsLeft e was → queue_part e ≡ [] → store_part e was ≡ [] → new.queue ≡ old.queue → new.store ≡ old.store → OthersStay old new → new.events.list ≡ e ∷ old.events.list
      → IsHeld (held_of new) (p.store_faults new.store) (e ∷ was) → CoreStands p new start
  silent_stands e may room q s queue store others events says =
      let same : history_of new start ≡ e ∷ was = ap (λ (h : History). h ++ start) events in
      up_stands p new start (subst (QueueIsUp p.seen p.may_leave) (sym queue) (queue_up p old start sound stands up)) (subst p.store_up (sym store) (store_up p old start sound stands up))
      (holds_with p old new start (e ∷ was) others stands.holds same says)
      (logs_of p new xs_old ys_old (history_of new start) old.tables.ttls (ap (λ t. t.ttls) others.tables) (subst (BothTell old.tables.ttls xs_old ys_old) (sym same) (silent_both e may room q s))
      (λ told. ap (queued p.seen) queue ∙ (logs p old start sound stands up).queue_is told) (λ told. ap p.kept store ∙ (logs p old start sound stands up).store_is told))
