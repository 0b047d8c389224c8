-- What the records of a claimed command stand for.
use Rattle.std.proofs.Common.{◌≡◌, ◌∙◌, ℕ, ◌<◌, true, false, List, [], ◌∷◌, ◌++◌, Some, Result, Ok, Err, refl, ap, subst}
use Rattle.std.specs.Option.{option_map}
use Rattle.std.proofs.lemmas.List.{append-nil}
use Rattle.core_claims.specs.fleet_rows.declared.change.Change.{Change}
use Rattle.core_claims.specs.fleet_rows.declared.refusal.Cause.TheVariants.{Refused, Failures}
use Rattle.core_claims.specs.fleet_rows.declared.refusal.Refusal.{Refusal}
use Rattle.core_claims.specs.fleet_rows.declared.settings.Ttls.{Ttls}
use Rattle.core_claims.specs.record_spec.declared.queue.QueueRecord.{QueueRecord}
use Rattle.core_claims.specs.record_spec.declared.queue.QueueRecord.TheVariants as queue
use Rattle.core_claims.specs.record_spec.declared.store.StoreRecord.{StoreRecord}
use Rattle.core_claims.specs.record_spec.declared.store.StoreRecord.TheVariants as store
use Rattle.core_claims.specs.core_spec.declared.event.Event.{Event}
use Rattle.core_claims.specs.core_spec.declared.event.Event.TheVariants.{Release, Apply, Fail, Discard}
use Rattle.core_claims.specs.core_spec.Commands.{answer_of}
use Rattle.core_claims.specs.core_spec.History.{History, claimed, standing, command}
use Rattle.core_claims.specs.core_spec.Legal.{IsLegal, Rises}
use Rattle.core_claims.specs.core_spec.Stands.{change_part, store_part, QueueTells, StoreTells, Stands}
use Rattle.core_claims.specs.core_machine.Claims.{attempts_of, is_claimed}
use Rattle.core_claims.specs.core_laws.StandingLaws.{IsPlain}
use Rattle.core_claims.proofs.of_core_laws.StandingRecords.{queue_records_go_on, store_records_go_on, a_change_stands_before_its_done}
use Rattle.core_claims.specs.declared.job.Job.{Job}
use Rattle.core_claims.specs.core_state.declared.state.CoreState.{CoreState}
use Rattle.core_claims.specs.core_state.Seen.{held_of, IsSubmitted}
use Rattle.core_claims.specs.core_state.StandsFor.{history_of}
use Rattle.core_claims.proofs.of_core_state.HeldEvents.{apply_is_legal, refused_is_legal, fail_is_legal, give_up_is_legal}
use Rattle.core_claims.proofs.of_core_state.PlainHistories.{plain_with, plain_given_up}
use Rattle.core_claims.proofs.of_core_state.Ports.{Ports}
use Rattle.core_claims.proofs.of_core_state.PutStands.{silent_both}
use Rattle.core_claims.proofs.of_core_state.Standing.{BothTell, both_stand, both_with, no_store_part, CoreStands, IsSoundCore, is_down, tell, xs, ys}
use Rattle.core_claims.proofs.of_core_state.Submissions.{submitted_command}
use Rattle.core_claims.proofs.of_core_state.Tests.{claimed_stands}

module _ {D K : Type 0} (p : Ports D K) (old : CoreState D K) (start : History) (sound : IsSoundCore p old) (stands : CoreStands p old start) (up : is_down p old ≡ false)
    (job : Job) (is : is_claimed job.receipt old.pending ≡ true) (submitted : IsSubmitted job.receipt job.command old) where
  abbrev pub was : History
  was = history_of old start

  abbrev pub ttls : Ttls
  ttls = old.tables.ttls

  abbrev pub plain : IsPlain ttls was
  plain = stands.holds.says.plain

  abbrev pub q_old : List QueueRecord
  q_old = xs p old start sound stands up

  abbrev pub s_old : List StoreRecord
  s_old = ys p old start sound stands up

  both : BothTell ttls q_old s_old was
  both = tell p old start sound stands up

  pub is_standing : standing job.receipt was ≡ claimed
  is_standing = claimed_stands ttls was plain.legal old.pending stands.holds.says.pending job.receipt is

  pub command_is : command job.receipt was ≡ Some job.command
  command_is = submitted_command job.receipt job.command ttls old.found.queue.value old.found.store.value old.events.list start stands.holds.found plain.legal submitted

  -- ---- it is queued again

  abbrev pub release : Event
  release = Release job.receipt

  pub both_released : BothTell ttls q_old s_old (release ∷ was)
  both_released = silent_both p old old start sound stands up release is_standing tt refl refl

  -- ---- it is applied

  module _ (change : Change) (decodes : answer_of job.command ≡ Ok change) where
    abbrev pub apply : Event
    apply = Apply job.receipt (Some job.command.received)

    abbrev pub done : QueueRecord
    done = queue.Done job.receipt

    abbrev pub received : StoreRecord
    received = store.Received job.receipt (Some job.command.received) change

    pub apply_legal : IsLegal ttls (apply ∷ was)
    apply_legal = apply_is_legal (held_of old) (p.store_faults old.store) was stands.holds.says job.receipt job.command is_standing command_is change decodes

    part_is : store_part apply was ≡ received ∷ []
    part_is = ap (change_part job.receipt (Some job.command.received)) (ap (option_map answer_of) command_is ∙ ap (λ (b : Result Change Refusal). Some b) decodes)

    plain_applied : IsPlain ttls (apply ∷ was)
    plain_applied = plain_with ttls was plain apply apply_legal tt

    pub both_applied : BothTell ttls (q_old ++ done ∷ []) (s_old ++ received ∷ []) (apply ∷ was)
    both_applied = both_with ttls q_old s_old was plain both apply apply_legal.0 tt (done ∷ []) (received ∷ []) refl part_is

    pub stand_applied : Stands ttls (q_old ++ done ∷ []) (s_old ++ received ∷ []) (apply ∷ was)
    stand_applied = both_stand ttls (q_old ++ done ∷ []) (s_old ++ received ∷ []) (apply ∷ was) plain_applied both_applied

    -- the queue may lack its Done
    pub stand_undone : Stands ttls q_old (s_old ++ received ∷ []) (apply ∷ was)
    stand_undone =
        subst (λ (part : List StoreRecord). Stands ttls q_old (s_old ++ part) (apply ∷ was)) part_is
        (a_change_stands_before_its_done ttls q_old s_old job.receipt (Some job.command.received) was plain apply_legal both.queue both.store both.log)

  -- ---- the store fails

  module _ (now : ℕ) (rises : Rises (p.store_faults old.store) now) where
    abbrev count : ℕ
    count = p.store_faults old.store

    abbrev pub fail : Event
    fail = Fail job.receipt count now

    abbrev pub failure : QueueRecord
    failure = queue.Fail job.receipt count now

    abbrev pub give_up : Event
    give_up = Discard job.receipt Failures

    fail_legal : IsLegal ttls (fail ∷ was)
    fail_legal = fail_is_legal (held_of old) count was stands.holds.says job.receipt job.command is_standing command_is now rises

    pub both_failed : BothTell ttls (q_old ++ failure ∷ []) s_old (fail ∷ was)
    both_failed = no_store_part ttls (q_old ++ failure ∷ []) s_old (fail ∷ was) (both_with ttls q_old s_old was plain both fail fail_legal.0 tt (failure ∷ []) [] refl refl)

    pub stand_failed : attempts_of job.receipt old.pending < 15 → Stands ttls (q_old ++ failure ∷ []) s_old (fail ∷ was)
    stand_failed few =
        both_stand ttls (q_old ++ failure ∷ []) s_old (fail ∷ was)
        (plain_with ttls was plain fail fail_legal (subst (λ es. attempts_of job.receipt es < 15) stands.holds.says.pending few)) both_failed

    pub both_given_up : BothTell ttls (q_old ++ failure ∷ []) s_old (give_up ∷ fail ∷ was)
    both_given_up = record {
      queue = subst (λ (zs : List QueueRecord). QueueTells zs (give_up ∷ fail ∷ was)) (append-nil (q_old ++ failure ∷ [])) (queue_records_go_on (q_old ++ failure ∷ []) give_up (fail ∷ was) both_failed.queue);
      log = both_failed.log;
      store = subst (λ (zs : List StoreRecord). StoreTells ttls zs (give_up ∷ fail ∷ was)) (append-nil s_old) (store_records_go_on ttls s_old give_up (fail ∷ was) both_failed.store);
    }

    pub stand_given_up : attempts_of job.receipt old.pending ≡ 15 → Stands ttls (q_old ++ failure ∷ []) s_old (give_up ∷ fail ∷ was)
    stand_given_up sixteenth =
        both_stand ttls (q_old ++ failure ∷ []) s_old (give_up ∷ fail ∷ was)
        (plain_given_up ttls was plain job.receipt count now (give_up_is_legal (held_of old) count was stands.holds.says job.receipt job.command is_standing command_is now rises sixteenth)) both_given_up

  -- ---- it is refused

  module _ (refusal : Refusal) (decodes : answer_of job.command ≡ Err refusal) where
    abbrev pub refuse : Event
    refuse = Discard job.receipt (Refused refusal)

    abbrev pub refused : QueueRecord
    refused = queue.Refused job.receipt refusal

    refuse_legal : IsLegal ttls (refuse ∷ was)
    refuse_legal = refused_is_legal (held_of old) (p.store_faults old.store) was stands.holds.says job.receipt job.command is_standing command_is refusal decodes

    pub both_refused : BothTell ttls (q_old ++ refused ∷ []) s_old (refuse ∷ was)
    both_refused = no_store_part ttls (q_old ++ refused ∷ []) s_old (refuse ∷ was) (both_with ttls q_old s_old was plain both refuse refuse_legal.0 tt (refused ∷ []) [] refl refl)

    pub stand_refused : Stands ttls (q_old ++ refused ∷ []) s_old (refuse ∷ was)
    stand_refused = both_stand ttls (q_old ++ refused ∷ []) s_old (refuse ∷ was) (plain_with ttls was plain refuse refuse_legal tt) both_refused
