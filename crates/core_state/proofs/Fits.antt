-- A record that was written leaves its log within 2^62 bytes.
use Rattle.std.proofs.Common.{◌≡◌, inl, inr, ⊎_elim, ℕ, ◌+◌, ◌≤◌, List, length, arith, refl}
use Rattle.std.proofs.lemmas.Bool.{cases_lt}
use Rattle.supersede_core.specs.record_spec.declared.queue.QueueRecord.{QueueRecord}
use Rattle.supersede_core.specs.record_spec.declared.store.StoreRecord.{StoreRecord}
use Rattle.supersede_core.specs.record_spec.Queue.{queue_text}
use Rattle.supersede_core.specs.record_spec.Store.{store_text}
use Rattle.queue_log.specs.log_spec.Limits.{most_log}
use Rattle.queue_log.specs.fleet_keeper.declared.kept.Kept.{Kept}
use Rattle.queue_log.specs.fleet_keeper.declared.kept.Kept.TheVariants as kept
use Rattle.queue_log.specs.fleet_keeper.Limits.{IsPast}
use Rattle.queue_log.specs.Queued.{queue_size}
use Rattle.queue_log.specs.declared.queue.QueueLog.{QueueLog}
use Rattle.core_state.specs.Puts.{HasPut, HasKept}
use Rattle.core_state.proofs.Ports.{Ports, keeper_stays}

room_for : (size : ℕ) (text : List ℕ) → (IsPast size text → ⊥) → size + 5 + length text ≤ most_log
room_for size text room = elim (cases_lt most_log (size + 5 + length text)) [ inl past ↦ absurd (room (inr past)) | inr fits ↦ fits ]

module _ {D K : Type 0} (p : Ports D K) where
  pub put_fits : (old new : QueueLog D) (rec : QueueRecord) → HasPut p.tells p.seen p.may_leave p.moment p.left_since p.faults kept.Ok old new rec → queue_size new ≤ most_log
  put_fits old new rec put =
      let grew = put.grew refl in
      let room = room_for (queue_size old) (queue_text rec) (λ past. let spent : kept.Ok ≡ kept.Spent = put.spent.1 past in cc) in
      omega (arith, grew, room)

  pub kept_fits : (old new : K) (rec : StoreRecord)
      → HasKept p.store_tells p.kept p.images p.store_moment p.images_since p.store_up p.store_down p.store_size (keeper_stays p) p.store_faults kept.Ok old new rec → p.store_size new ≤ most_log
  kept_fits old new rec keeps =
      let grew = keeps.grew refl in
      let room = room_for (p.store_size old) (store_text rec)
      (λ past. ⊎_elim (λ (spent : kept.Ok ≡ kept.Spent). absurd (cc)) (λ (memory : kept.Ok ≡ kept.Memory). absurd (cc)) (keeps.unspent past)) in
      omega (arith, grew, room)
