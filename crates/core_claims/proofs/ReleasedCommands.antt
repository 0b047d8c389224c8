-- What a release does is what its clauses say.
use Rattle.std.proofs.Common.{◌≡◌, ◌≢◌, ◌∙◌, ◌⊎◌, inl, inr, ℕ, ◌<◌, ◌≤◌, Bool, true, false, ◌∷◌, ◌++◌, arith, refl, sym, ap, subst}
use Rattle.core_state.proofs.of_plain_laws.Booleans.{never}
use Rattle.core_state.specs.fleet_rows.declared.command.Command.{Command}
use Rattle.core_state.specs.core_spec.declared.event.Event.TheVariants.{Release}
use Rattle.core_state.specs.core_spec.History.{History, claimed, standing}
use Rattle.core_state.specs.core_machine.Claims.{is_claimed}
use Rattle.core_state.specs.queue_log.Queued.{QueueIsUp, queue_down}
use Rattle.core_state.specs.declared.found.Found.{Found}
use Rattle.core_state.specs.declared.state.CoreState.{CoreState}
use Rattle.core_state.specs.Changes.{OthersStay}
use Rattle.core_state.specs.Seen.{events_of, held_of, claimed_number, IsSubmitted}
use Rattle.core_state.specs.StandsFor.{history_of}
use Rattle.core_state.proofs.Carried.{same_others, submitted_carried, submitted_on}
use Rattle.core_state.proofs.HeldEvents.{release_held}
use Rattle.core_state.proofs.Ports.{Ports}
use Rattle.core_state.proofs.PutStands.{silent_stands}
use Rattle.core_state.proofs.SoundLists.{sound_as, sound_marked, claimed_released}
use Rattle.core_state.proofs.Standing.{CoreStands, IsSoundCore, is_down}
use Rattle.core_state.proofs.Tests.{claimed_stands, not_claimed_stands}
use Rattle.core_claims.specs.Releases.{ReleaseGives, released, wasnt_claimed, HasReleased, ReleaseDoes, was_down, not_claimed, did_release}

module _ {D K : Type 0} (p : Ports D K) (r : ℕ) (old new : CoreState D K) where
  abbrev pub Does : Type 0
  Does = ReleaseDoes p.store_down r old new

  pub release_adds : Does → is_down p old ≡ false → is_claimed r old.pending ≡ true → events_of new ≡ Release r ∷ events_of old
  release_adds (was_down down same) up is = never (is_down p old) down up
  release_adds (not_claimed u not same) up is = never (is_claimed r old.pending) is not
  release_adds (did_release u was h) up is = h.events

  pub release_unchanged : Does → (is_down p old ≡ true) ⊎ (is_claimed r old.pending ≡ false) → new ≡ old
  release_unchanged (was_down down same) is = same
  release_unchanged (not_claimed u not same) is = same
  release_unchanged (did_release u was h) (inl down) = never (is_down p old) down u
  release_unchanged (did_release u was h) (inr not) = never (is_claimed r old.pending) was not

  pub release_others : Does → OthersStay old new
  release_others (was_down down same) = same_others old new same
  release_others (not_claimed u not same) = same_others old new same
  release_others (did_release u was h) = h.others

  pub release_queue : Does → new.queue ≡ old.queue
  release_queue (was_down down same) = ap (λ (x : CoreState D K). x.queue) same
  release_queue (not_claimed u not same) = ap (λ (x : CoreState D K). x.queue) same
  release_queue (did_release u was h) = h.queue

  pub release_store : Does → new.store ≡ old.store
  release_store (was_down down same) = ap (λ (x : CoreState D K). x.store) same
  release_store (not_claimed u not same) = ap (λ (x : CoreState D K). x.store) same
  release_store (did_release u was h) = h.store

  pub release_last : Does → new.last ≡ old.last
  release_last (was_down down same) = ap (λ (x : CoreState D K). x.last) same
  release_last (not_claimed u not same) = ap (λ (x : CoreState D K). x.last) same
  release_last (did_release u was h) = h.last

  pub release_submitted : Does → (q : ℕ) (c : Command) → IsSubmitted q c old → IsSubmitted q c new
  release_submitted (was_down down same) q c = submitted_carried old new (same_others old new same).found (ap (λ (x : CoreState D K). x.events.list) same) q c
  release_submitted (not_claimed u not same) q c = submitted_carried old new (same_others old new same).found (ap (λ (x : CoreState D K). x.events.list) same) q c
  release_submitted (did_release u was h) q c = submitted_on old new (Release r) h.others.found h.events q c

  module _ (sound : IsSoundCore p old) where
    released_sound : is_claimed r old.pending ≡ true → HasReleased r old new → IsSoundCore p new
    released_sound was h = record {
      queue = λ up. subst (QueueIsUp p.seen p.may_leave) (sym h.queue) (sound.queue (ap queue_down (sym h.queue) ∙ up));
      store = λ up. subst p.store_up (sym h.store) (sound.store (ap p.store_down (sym h.store) ∙ up));
      pending = sound_as old.last new.last old.found.queue.value new.found.queue.value (Release r ∷ old.events.list) new.events.list _ new.pending
          h.last (ap (λ (f : Found). f.queue.value) h.others.found) h.events h.pending (sound_marked old.last old.found.queue.value old.events.list old.pending sound.pending (Release r) r false);
      room = (let same = ap claimed_number h.pending in let fewer = claimed_released r old.pending was in omega (arith, same, fewer, h.room, sound.room));
    }

    pub release_sound : Does → IsSoundCore p new
    release_sound (was_down down same) = subst (IsSoundCore p) (sym same) sound
    release_sound (not_claimed u not same) = subst (IsSoundCore p) (sym same) sound
    release_sound (did_release u was h) = released_sound was h

    -- a claimed command finds the room of its release
    pub release_room : is_claimed r old.pending ≡ true → 0 < old.events.room
    release_room was = let fewer = claimed_released r old.pending was in omega (arith, fewer, sound.room)

    module _ (start : History) (stands : CoreStands p old start) where
      stands_so : is_claimed r old.pending ≡ true → standing r (history_of old start) ≡ claimed
      stands_so was = claimed_stands old.tables.ttls (history_of old start) stands.holds.says.plain.legal old.pending stands.holds.says.pending r was

      stands_not : is_claimed r old.pending ≡ false → standing r (history_of old start) ≢ claimed
      stands_not not = not_claimed_stands old.tables.ttls (history_of old start) stands.holds.says.plain.legal old.pending stands.holds.says.pending r not

      pub release_gives : Does → is_down p old ≡ false → ReleaseGives r (history_of old start) (history_of new start)
      release_gives (was_down down same) up = never (is_down p old) down up
      release_gives (not_claimed u not same) up = wasnt_claimed (stands_not not) (ap (λ (x : CoreState D K). x.events.list ++ start) same)
      release_gives (did_release u was h) up = released (stands_so was) (ap (λ (g : History). g ++ start) h.events)

      pub release_stands : Does → CoreStands p new start
      release_stands (was_down down same) = subst (λ (core : CoreState D K). CoreStands p core start) (sym same) stands
      release_stands (not_claimed u not same) = subst (λ (core : CoreState D K). CoreStands p core start) (sym same) stands
      release_stands (did_release u was h) =
          let later : p.store_faults old.store ≤ p.store_faults new.store = (let same = ap p.store_faults h.store in omega (arith, same)) in
          silent_stands p old new start sound stands u (Release r) (stands_so was) tt refl refl h.queue h.store h.others h.events
          (release_held (held_of old) (p.store_faults old.store) (history_of old start) stands.holds.says r (held_of new) (p.store_faults new.store) (stands_so was) later h.others.tables h.pending h.others.dead h.last)
