-- What a claim does is what its clauses say.
use Rattle.std.proofs.Common.{◌≡◌, ◌≢◌, ◌∙◌, ◌↔◌, inl, inr, ⊎_elim, ℕ, ◌<◌, ◌≤◌, Bool, true, false, ◌||◌, List, [], ◌∷◌, ◌++◌, length, Option, Some, IsTrue, arith, refl, sym, ap, subst, append_assoc, ◌⊎◌, None, ◌+◌}
use Rattle.std.proofs.lemmas.List.{append-nil}
use Rattle.core_state.proofs.of_plain_laws.Booleans.{never}
use Rattle.core_state.specs.fleet_ports.Counts.{RoseBy}
use Rattle.core_state.specs.fleet_rows.declared.command.Command.{Command}
use Rattle.core_state.specs.fleet_rows.declared.settings.Ttls.{Ttls}
use Rattle.core_state.proofs.of_history_laws.Members.{All-Among}
use Rattle.core_state.specs.log_pair.Pair.{disk_a, disk_b}
use Rattle.core_state.specs.record_spec.declared.queue.QueueRecord.{QueueRecord}
use Rattle.core_state.specs.record_spec.declared.queue.QueueRecord.TheVariants as queue
use Rattle.core_state.specs.record_spec.declared.store.StoreRecord.{StoreRecord}
use Rattle.core_state.specs.fleet_keeper.declared.kept.Kept.{Kept}
use Rattle.core_state.specs.fleet_keeper.declared.kept.Kept.TheVariants as kept
use Rattle.core_state.specs.fleet_keeper.Kept.{IsFaulty}
use Rattle.core_state.specs.fleet_keeper.Limits.{IsPast}
use Rattle.core_state.specs.record_spec.Queue.{queue_text}
use Rattle.core_state.specs.fleet_keeper.Records.{IsOneOf, with_one}
use Rattle.core_state.specs.core_spec.declared.entry.Entry.{Entry}
use Rattle.core_state.specs.core_spec.declared.event.Event.TheVariants.{Claim, Supersede}
use Rattle.core_state.specs.core_spec.Legal.{IsOutdated, IfFirst, IsFirst, rank_at}
use Rattle.core_state.specs.core_spec.History.{History, command, key}
use Rattle.core_state.specs.core_spec.Pending.{pending_of}
use Rattle.core_state.specs.core_laws.Claims.{IsCandidate, IsLeastClaim}
use Rattle.core_state.specs.queue_log.declared.queue.QueueLog.{QueueLog}
use Rattle.core_state.specs.queue_log.Queued.{queue_pair, queued, queue_moment, QueueIsUp, QueueLeaves, queue_down, queue_size}
use Rattle.core_state.proofs.of_queue_log.Runs.{puts_less, puts_joined, left_told}
use Rattle.core_state.specs.declared.found.Found.{Found}
use Rattle.core_state.specs.declared.state.CoreState.{CoreState}
use Rattle.core_state.specs.Changes.{OthersStay, CoreStays}
use Rattle.core_state.specs.Moments.{Within, GoesOn, StandsAmid}
use Rattle.core_state.specs.Puts.{QueueCounts, QueueRoseTwice}
use Rattle.core_state.specs.Seen.{IsFit, held_of, claimed_number, IsSubmittedIn, IsSubmitted}
use Rattle.core_state.specs.StandsFor.{StandsAt, one, history_of}
use Rattle.core_state.proofs.Carried.{same_others, submitted_carried, submitted_on, memory_holds, stands_carried, sound_carried, down_carried}
use Rattle.core_state.proofs.HeldEvents.{changed_held, later_fails}
use Rattle.core_state.proofs.KnownImages.{grown}
use Rattle.core_state.proofs.Later.{same_store_later, put_later}
use Rattle.core_state.proofs.Ports.{Ports}
use Rattle.core_state.proofs.PutStands.{unput_stands, open_stands, silent_stands}
use Rattle.core_state.proofs.SoundLists.{sound_as, sound_marked, claimed_most, marked_length}
use Rattle.core_state.proofs.Standing.{CoreStands, IsSoundCore, is_down, core_up, tell, stand_now, known_store, at, first_same}
use Rattle.core_state.specs.core_spec.Commands.{Key}
use Rattle.core_state.proofs.of_core_laws.Claims.{claimable_commands_are_candidates}
use Rattle.core_state.specs.core_machine.Claims.{first_candidate}
use Rattle.core_claims.specs.declared.answers.Claimed.{Claimed}
use Rattle.core_claims.specs.declared.answers.Claimed.TheVariants as claimed
use Rattle.core_claims.specs.declared.job.Job.{Job}
use Rattle.core_claims.specs.Claims.{Superseded, IsSuperseding, ClaimGives, LeavesPending, HasSubmittedJob, IsToSupersede, IsOverfull, claim_of, ClaimAdds}
use Rattle.core_claims.specs.Runs as runs
use Rattle.core_claims.specs.Runs.{was_down, ran}
use Rattle.core_claims.specs.Turns.{IsOlder, IsNext, HasBegun, WasRefused, TurnDoes}
use Rattle.core_claims.proofs.Candidates.{first_among, least, rests, shorter}
use Rattle.core_claims.proofs.TurnRuns.{SoFar, Supersedes, candidate, may, stand_then}
use Rattle.core_state.specs.log_spec.Limits.{most_log}

-- a superseding makes the list shorter
pub turn_shortens : {D K : Type 0} (p : Ports D K) (old new : CoreState D K) (q n : ℕ) → IsOlder q n old → Supersedes p q n old new → length new.pending < length old.pending
turn_shortens p old new q n older did =
    subst (λ (es : List Entry). length es < length old.pending) (sym did.pending) (shorter q older.entry old.pending older.receipt (first_among old.pending old.pending older.entry older.first))

-- a list that has a candidate is not empty
some_first : (es : List Entry) (e : Entry) → first_candidate es es ≡ Some e → es ≢ []
some_first [] e first none = absurd cc
some_first (x ∷ es) e first none = absurd cc

module _ {D K : Type 0} (p : Ports D K) (old new : CoreState D K) where
  abbrev pub Does : Claimed → Type 0
  Does came = runs.ClaimDoes p.tells p.store_tells p.seen p.may_leave p.moment p.left_since p.faults p.kept p.images p.store_up p.store_down p.store_faults came old new

  abbrev pub Turn : Claimed → CoreState D K → Type 0
  Turn came mid = TurnDoes p.tells p.seen p.may_leave p.moment p.left_since p.faults (Some came) mid new

  -- ---- a last turn

  module _ (mid : CoreState D K) (so_far : SoFar p old mid) where
    abbrev Refused : Kept → ℕ → ℕ → Type 0
    Refused answer q n = WasRefused p.tells p.seen p.may_leave p.moment p.left_since p.faults answer q n mid new

    turn_others : (came : Claimed) → Turn came mid → OthersStay mid new
    turn_others (claimed.Job job) t = t.1.others
    turn_others claimed.Rest t = same_others mid new t.2
    turn_others claimed.Done t = same_others mid new t.1
    turn_others claimed.QueueFault t = t.3.2.memory.others
    turn_others claimed.Spent t = t.4.memory.others
    turn_others claimed.Down t = absurd t
    turn_others claimed.Memory t = t.memory.others

    turn_store : (came : Claimed) → Turn came mid → new.store ≡ mid.store
    turn_store (claimed.Job job) t = t.1.store
    turn_store claimed.Rest t = ap (λ (x : CoreState D K). x.store) t.2
    turn_store claimed.Done t = ap (λ (x : CoreState D K). x.store) t.1
    turn_store claimed.QueueFault t = t.3.2.store
    turn_store claimed.Spent t = t.4.store
    turn_store claimed.Down t = absurd t
    turn_store claimed.Memory t = t.store

    turn_submitted : (came : Claimed) → Turn came mid → (r : ℕ) (c : Command) → IsSubmitted r c mid → IsSubmitted r c new
    turn_submitted (claimed.Job job) t r c = submitted_on mid new (Claim job.receipt) t.1.others.found t.1.events r c
    turn_submitted claimed.Rest t r c = subst (λ (x : CoreState D K). IsSubmitted r c x) (sym t.2)
    turn_submitted claimed.Done t r c = subst (λ (x : CoreState D K). IsSubmitted r c x) (sym t.1)
    turn_submitted claimed.QueueFault t r c = submitted_carried mid new t.3.2.memory.others.found t.3.2.memory.events r c
    turn_submitted claimed.Spent t r c = submitted_carried mid new t.4.memory.others.found t.4.memory.events r c
    turn_submitted claimed.Down t r c = absurd t
    turn_submitted claimed.Memory t r c = submitted_carried mid new t.memory.others.found t.memory.events r c

    job_known : (job : Job) → IsNext job mid → IsSubmitted job.receipt job.command mid
    job_known job next =
        let known = All-Among (λ (e : Entry). IsSubmittedIn e.receipt e.command mid.found.queue.value mid.events.list) mid.pending next.entry so_far.sound.pending.submitted (first_among mid.pending mid.pending next.entry next.first) in
        subst (λ r. IsSubmitted r job.command mid) (sym next.receipt) (subst (λ (c : Command). IsSubmitted next.entry.receipt c mid) (sym next.command_is) known)

    job_fit : (job : Job) → IsNext job mid → IsFit job.command
    job_fit job next =
        subst IsFit (sym next.command_is) (All-Among (λ (e : Entry). IsFit e.command) mid.pending next.entry so_far.sound.pending.fit (first_among mid.pending mid.pending next.entry next.first))

    turn_job : (came : Claimed) → Turn came mid → HasSubmittedJob came new
    turn_job (claimed.Job job) t = (submitted_on mid new (Claim job.receipt) t.1.others.found t.1.events job.receipt job.command (job_known job t.0), job_fit job t.0)
    turn_job claimed.Rest t = tt
    turn_job claimed.Done t = tt
    turn_job claimed.QueueFault t = tt
    turn_job claimed.Spent t = tt
    turn_job claimed.Down t = tt
    turn_job claimed.Memory t = tt

    turn_nothing : (came : Claimed) → Turn came mid → came ≡ claimed.Done → new.pending ≡ []
    turn_nothing (claimed.Job job) t e = absurd cc
    turn_nothing claimed.Rest t e = absurd cc
    turn_nothing claimed.Done t e = ap (λ (x : CoreState D K). x.pending) t.1 ∙ t.0
    turn_nothing claimed.QueueFault t e = absurd cc
    turn_nothing claimed.Spent t e = absurd cc
    turn_nothing claimed.Down t e = absurd t
    turn_nothing claimed.Memory t e = absurd cc

    turn_waits : (came : Claimed) → Turn came mid → LeavesPending came → new.pending ≢ []
    turn_waits (claimed.Job job) t leaves = absurd leaves
    turn_waits claimed.Rest t leaves = λ none. t.1 (sym (ap (λ (x : CoreState D K). x.pending) t.2) ∙ none)
    turn_waits claimed.Done t leaves = absurd leaves
    turn_waits claimed.QueueFault t leaves = λ none. some_first mid.pending t.2.entry t.2.first (sym t.3.2.memory.pending ∙ none)
    turn_waits claimed.Spent t leaves = λ none. some_first mid.pending t.2.entry t.2.first (sym t.4.memory.pending ∙ none)
    turn_waits claimed.Down t leaves = absurd t
    turn_waits claimed.Memory t leaves = absurd leaves

    -- what the turn adds
    record Added (came : Claimed) : Type 0 where
      events : new.events.list ≡ claim_of came ++ mid.events.list
      size : queue_size new.queue ≡ queue_size mid.queue
      records : queue_down new.queue ≡ false → IsTrue p.tells → queued p.seen new.queue ≡ queued p.seen mid.queue
      last : new.last ≡ mid.last

    same_added : new ≡ mid → (came : Claimed) → claim_of came ≡ [] → Added came
    same_added same came none = record {
      events = ap (λ (x : CoreState D K). x.events.list) same ∙ ap (λ (h : History). h ++ mid.events.list) (sym none);
      size = ap (λ (x : CoreState D K). queue_size x.queue) same;
      records = λ up told. ap (λ (x : CoreState D K). queued p.seen x.queue) same;
      last = ap (λ (x : CoreState D K). x.last) same;
    }

    stays_added : CoreStays mid new → (came : Claimed) → claim_of came ≡ [] → Added came
    stays_added m came none = record {
      events = m.memory.events ∙ ap (λ (h : History). h ++ mid.events.list) (sym none);
      size = ap queue_size m.queue;
      records = λ up told. ap (queued p.seen) m.queue;
      last = m.memory.last;
    }

    refused_added : (answer : Kept) (q n : ℕ) → IsFaulty answer → Refused answer q n → Added claimed.QueueFault
    refused_added kept.Ok q n faulty w = absurd faulty
    refused_added kept.Failed q n faulty w = record { events = w.memory.events; size = w.put.same_size (λ e. cc); records = λ up told. w.put.queued_old tt told; last = w.memory.last }
    refused_added kept.Down q n faulty w = record { events = w.memory.events; size = w.put.same_size (λ e. cc); records = λ up told. never (queue_down new.queue) (w.put.down.1 refl) up; last = w.memory.last }
    refused_added kept.Memory q n faulty w = absurd faulty
    refused_added kept.Spent q n faulty w = absurd faulty

    turn_added : (came : Claimed) → Turn came mid → Added came
    turn_added (claimed.Job job) t = record { events = t.1.events; size = ap queue_size t.1.queue; records = λ up told. ap (queued p.seen) t.1.queue; last = t.1.last }
    turn_added claimed.Rest t = same_added t.2 claimed.Rest refl
    turn_added claimed.Done t = same_added t.1 claimed.Done refl
    turn_added claimed.QueueFault t = refused_added t.3.0 t.0 t.1 t.3.1 t.3.2
    turn_added claimed.Spent t = stays_added t.4 claimed.Spent refl
    turn_added claimed.Down t = absurd t
    turn_added claimed.Memory t = stays_added t claimed.Memory refl

    still_up : {P : Type 0} → new.queue ≡ mid.queue → queue_down new.queue ≡ true → P
    still_up same down = never (queue_down mid.queue) (ap queue_down (sym same) ∙ down) (core_up p mid so_far.up).queue

    rose_twice : QueueRoseTwice p.faults mid.queue new.queue → QueueRoseTwice p.faults old.queue new.queue
    rose_twice (inl a) = inl (subst (λ n. RoseBy 2 n (p.faults (disk_a (queue_pair new.queue)))) (so_far.calm.calm (λ none. none)).0 a)
    rose_twice (inr b) = inr (subst (λ n. RoseBy 2 n (p.faults (disk_b (queue_pair new.queue)))) (so_far.calm.calm (λ none. none)).1 b)

    turn_twice : (came : Claimed) → Turn came mid → queue_down new.queue ≡ true → QueueRoseTwice p.faults old.queue new.queue
    turn_twice (claimed.Job job) t down = still_up t.1.queue down
    turn_twice claimed.Rest t down = still_up (ap (λ (x : CoreState D K). x.queue) t.2) down
    turn_twice claimed.Done t down = still_up (ap (λ (x : CoreState D K). x.queue) t.1) down
    turn_twice claimed.QueueFault t down = rose_twice (t.3.2.put.twice (t.3.2.put.down.0 down))
    turn_twice claimed.Spent t down = still_up t.4.queue down
    turn_twice claimed.Down t down = absurd t
    turn_twice claimed.Memory t down = still_up t.queue down

    -- counts
    from_mid : {Fault : Type 0} → QueueCounts p.faults mid.queue new.queue Fault → QueueCounts p.faults old.queue new.queue Fault
    from_mid {Fault} counts =
        let same = so_far.calm.calm (λ none. none) in
        record {
          later_a = omega (arith, same.0, counts.later_a);
          later_b = omega (arith, same.1, counts.later_b);
          cause = λ fault. ⊎_elim (λ a. inl (omega (arith, same.0, a))) (λ b. inr (omega (arith, same.1, b))) (counts.cause fault);
          calm = λ none. (let now = counts.calm none in (now.0 ∙ same.0, now.1 ∙ same.1));
        }

    calm_counts : {Fault : Type 0} → (Fault → ⊥) → new.queue ≡ mid.queue → QueueCounts p.faults old.queue new.queue Fault
    calm_counts {Fault} none same =
        from_mid (subst (λ (q : QueueLog D). QueueCounts p.faults mid.queue q Fault) (sym same) (record { later_a = omega arith; later_b = omega arith; cause = λ fault. absurd (none fault); calm = λ f. (refl, refl) }))

    turn_cause : (came : Claimed) → Turn came mid → QueueCounts p.faults old.queue new.queue (came ≡ claimed.QueueFault)
    turn_cause (claimed.Job job) t = calm_counts (λ e. cc) t.1.queue
    turn_cause claimed.Rest t = calm_counts (λ e. cc) (ap (λ (x : CoreState D K). x.queue) t.2)
    turn_cause claimed.Done t = calm_counts (λ e. cc) (ap (λ (x : CoreState D K). x.queue) t.1)
    turn_cause claimed.QueueFault t =
        let counts = t.3.2.put.cause in
        from_mid (record { later_a = counts.later_a; later_b = counts.later_b; cause = λ e. counts.cause t.3.1; calm = λ none. absurd (none refl) })
    turn_cause claimed.Spent t = calm_counts (λ e. cc) t.4.queue
    turn_cause claimed.Down t = absurd t
    turn_cause claimed.Memory t = calm_counts (λ e. cc) t.queue

    same_down : OthersStay mid new → new.queue ≡ mid.queue → new.store ≡ mid.store → is_down p new ≡ false
    same_down others queue store = (λ i. others.undone i || (queue_down (queue i) || p.store_down (store i))) ∙ so_far.up

    turn_up : (came : Claimed) → Turn came mid → (came ≡ claimed.QueueFault → ⊥) → is_down p new ≡ false
    turn_up (claimed.Job job) t none = same_down t.1.others t.1.queue t.1.store
    turn_up claimed.Rest t none = ap (is_down p) t.2 ∙ so_far.up
    turn_up claimed.Done t none = ap (is_down p) t.1 ∙ so_far.up
    turn_up claimed.QueueFault t none = absurd (none refl)
    turn_up claimed.Spent t none = down_carried p mid new [] t.4 ∙ so_far.up
    turn_up claimed.Down t none = absurd t
    turn_up claimed.Memory t none = down_carried p mid new [] t ∙ so_far.up

    -- ---- sound then

    store_sound : new.store ≡ mid.store → p.store_down new.store ≡ false → p.store_up new.store
    store_sound store up = subst p.store_up (sym store) (so_far.sound.store (ap p.store_down (sym store) ∙ up))

    begun_sound : (r : ℕ) → HasBegun r mid new → IsSoundCore p new
    begun_sound r h = record {
      queue = λ up. subst (QueueIsUp p.seen p.may_leave) (sym h.queue) (so_far.sound.queue (ap queue_down (sym h.queue) ∙ up));
      store = store_sound h.store;
      pending = sound_as mid.last new.last mid.found.queue.value new.found.queue.value (Claim r ∷ mid.events.list) new.events.list _ new.pending
          h.last (ap (λ (f : Found). f.queue.value) h.others.found) h.events h.pending (sound_marked mid.last mid.found.queue.value mid.events.list mid.pending so_far.sound.pending (Claim r) r true);
      room = (let same = ap length h.pending ∙ marked_length r true mid.pending in let most = claimed_most new.pending in omega (arith, same, most, h.room));
    }

    refused_sound : (answer : Kept) (q n : ℕ) → Refused answer q n → IsSoundCore p new
    refused_sound answer q n w = record {
      queue = λ up. w.put.again (λ down. never (queue_down new.queue) (w.put.down.1 down) up);
      store = store_sound w.store;
      pending = sound_as mid.last new.last mid.found.queue.value new.found.queue.value mid.events.list new.events.list mid.pending new.pending w.memory.last (ap (λ (f : Found). f.queue.value) w.memory.others.found) w.memory.events w.memory.pending so_far.sound.pending;
      room = (let same = ap claimed_number w.memory.pending in omega (arith, same, w.memory.room, so_far.sound.room));
    }

    turn_sound : (came : Claimed) → Turn came mid → IsSoundCore p new
    turn_sound (claimed.Job job) t = begun_sound job.receipt t.1
    turn_sound claimed.Rest t = subst (IsSoundCore p) (sym t.2) so_far.sound
    turn_sound claimed.Done t = subst (IsSoundCore p) (sym t.1) so_far.sound
    turn_sound claimed.QueueFault t = refused_sound t.3.0 t.0 t.1 t.3.2
    turn_sound claimed.Spent t = sound_carried p mid new [] t.4 so_far.sound
    turn_sound claimed.Down t = absurd t
    turn_sound claimed.Memory t = sound_carried p mid new [] t so_far.sound

    -- ---- in the history

    module _ (start : History) (s : CoreStands p old start) where
      abbrev standing : CoreStands p mid start
      standing = so_far.stands start s

      abbrev past : History
      past = history_of mid start

      abbrev first_history : History
      first_history = history_of old start

      -- the first candidate is the least that may be claimed
      least_job : (job : Job) → IsNext job mid → IsLeastClaim mid.tables.ttls job.receipt past × (command job.receipt past ≡ Some job.command)
      least_job job next =
          let found = least (held_of mid) (p.store_faults mid.store) past standing.holds.says next.entry next.first next.not_older in (
            subst (λ r. IsLeastClaim mid.tables.ttls r past) (sym next.receipt) found.0,
            subst (λ r. command r past ≡ Some job.command) (sym next.receipt) (found.1 ∙ ap (λ (c : Command). Some c) (sym next.command_is)),
          )

      turn_gives : (came : Claimed) → Turn came mid → ClaimGives came old.tables.ttls first_history (history_of new start)
      turn_gives (claimed.Job job) t =
          let found = least_job job t.0 in
          record {
            before = past;
            superseded = so_far.superseded start s;
            new_is = ap (λ (h : History). h ++ start) t.1.events;
            least = subst (λ (ts : Ttls). IsLeastClaim ts job.receipt past) (ap (λ x. x.ttls) so_far.others.tables) found.0;
            command_is = found.1;
          }
      turn_gives claimed.Rest t =
          subst (λ (x : CoreState D K). Superseded first_history (history_of x start) × (pending_of (history_of x start) ≢ []) × ((q : ℕ) → IsCandidate q (history_of x start) → ⊥)) (sym t.2)
          (so_far.superseded start s, (λ none. t.1 (standing.holds.says.pending ∙ none)), rests (held_of mid) (p.store_faults mid.store) past standing.holds.says t.0)
      turn_gives claimed.Done t =
          subst (λ (x : CoreState D K). Superseded first_history (history_of x start) × (pending_of (history_of x start) ≡ [])) (sym t.1)
          (so_far.superseded start s, sym standing.holds.says.pending ∙ t.0)
      turn_gives claimed.QueueFault t =
          subst (λ (h : History). Superseded first_history (h ++ start) × IsToSupersede old.tables.ttls (h ++ start)) (sym t.3.2.memory.events) (
            so_far.superseded start s,
            record {
              q = t.0;
              p = t.1;
              least = candidate p old mid so_far t.0 t.1 t.2 start s;
              outdated = subst (λ (ts : Ttls). IsOutdated ts t.0 t.1 past) (ap (λ x. x.ttls) so_far.others.tables) (may p old mid so_far t.0 t.1 t.2 start s);
            },
          )
      turn_gives claimed.Spent t = subst (λ (h : History). Superseded first_history (h ++ start)) (sym t.4.memory.events) (so_far.superseded start s)
      turn_gives claimed.Down t = absurd t
      turn_gives claimed.Memory t = subst (λ (h : History). Superseded first_history (h ++ start)) (sym t.memory.events) (so_far.superseded start s)

      overfull : Turn claimed.Spent mid → IsOverfull old.tables.ttls (queue_size new.queue) (history_of new start)
      overfull t =
          subst (λ (h : History). IsOverfull old.tables.ttls (queue_size new.queue) (h ++ start)) (sym t.4.memory.events)
          (record {
            q = t.0;
            p = t.1;
            least = candidate p old mid so_far t.0 t.1 t.2 start s;
            outdated = subst (λ (ts : Ttls). IsOutdated ts t.0 t.1 past) (ap (λ x. x.ttls) so_far.others.tables) (may p old mid so_far t.0 t.1 t.2 start s);
            past = subst (λ (l : QueueLog D). IsPast (queue_size l) (queue_text (queue.Superseded t.0 t.1))) (sym t.4.queue) t.3;
          })

      turn_spent : (came : Claimed) → Turn came mid → came ≡ claimed.Spent → IsOverfull old.tables.ttls (queue_size new.queue) (history_of new start)
      turn_spent (claimed.Job job) t e = absurd cc
      turn_spent claimed.Rest t e = absurd cc
      turn_spent claimed.Done t e = absurd cc
      turn_spent claimed.QueueFault t e = absurd cc
      turn_spent claimed.Spent t e = overfull t
      turn_spent claimed.Down t e = absurd t
      turn_spent claimed.Memory t e = absurd cc

      begun_stands : (job : Job) → IsNext job mid → HasBegun job.receipt mid new → CoreStands p new start
      begun_stands job next h =
          let event = Claim job.receipt in
          let may = (least_job job next).0.claimable in
          let later : p.store_faults mid.store ≤ p.store_faults new.store = (let same = ap p.store_faults h.store in omega (arith, same)) in
          silent_stands p mid new start so_far.sound standing so_far.up event may tt refl refl h.queue h.store h.others h.events
          (changed_held (held_of mid) (p.store_faults mid.store) past standing.holds.says event (held_of new) (p.store_faults new.store) (may, standing.holds.says.plain.legal) tt tt refl refl refl
          (later_fails (p.store_faults mid.store) (p.store_faults new.store) past later standing.holds.says.after_fails) h.others.tables h.pending h.others.dead h.last)

      refused_stands : (answer : Kept) (q n : ℕ) → IsFaulty answer → IsOlder q n mid → Refused answer q n → CoreStands p new start
      refused_stands kept.Ok q n faulty older w = absurd faulty
      refused_stands kept.Failed q n faulty older w =
          unput_stands p mid new start so_far.sound standing so_far.up (ap (λ x. x.ttls) w.memory.others.tables) (λ told. ap p.kept w.store ∙ (standing.tells so_far.up).store_is told)
          (store_sound w.store (ap p.store_down w.store ∙ (core_up p mid so_far.up).store)) kept.Failed (queue.Superseded q n) past tt (tell p mid start so_far.sound standing so_far.up) w.put (ap (λ (h : History). h ++ start) w.memory.events)
          (memory_holds p mid new start w.memory w.store standing.holds)
      refused_stands kept.Down q n faulty older w =
          open_stands p mid new start so_far.sound standing so_far.up (queue.Superseded q n) (Supersede q n ∷ []) (one (Supersede q n) tt refl) (stand_then p old mid so_far q n older start s) w.put
          (known_store p mid start so_far.sound standing so_far.up new.store w.store) (ap (λ x. x.ttls) w.memory.others.tables) (ap (λ (h : History). h ++ start) w.memory.events) (memory_holds p mid new start w.memory w.store standing.holds)
      refused_stands kept.Memory q n faulty older w = absurd faulty
      refused_stands kept.Spent q n faulty older w = absurd faulty

      turn_stands : (came : Claimed) → Turn came mid → CoreStands p new start
      turn_stands (claimed.Job job) t = begun_stands job t.0 t.1
      turn_stands claimed.Rest t = subst (λ (x : CoreState D K). CoreStands p x start) (sym t.2) standing
      turn_stands claimed.Done t = subst (λ (x : CoreState D K). CoreStands p x start) (sym t.1) standing
      turn_stands claimed.QueueFault t = refused_stands t.3.0 t.0 t.1 t.3.1 t.2 t.3.2
      turn_stands claimed.Spent t = stands_carried p mid new start t.4 standing
      turn_stands claimed.Down t = absurd t
      turn_stands claimed.Memory t = stands_carried p mid new start t standing

      -- ---- moments

      abbrev Amid : Option (List QueueRecord) → Option (List StoreRecord) → Type 0
      Amid r k = StandsAmid old.tables.ttls IsSuperseding first_history (history_of new start) r k

      abbrev Meanwhile : Option (List QueueRecord) → Type 0
      Meanwhile r = IsTrue p.tells → (k : Option (List StoreRecord)) → p.images old.store k → Amid r k

      up_to_mid : GoesOn first_history past
      up_to_mid = let before = so_far.superseded start s in (before.more, before.new_is)

      -- where the last turn goes on by these events
      module _ (goes : GoesOn past (history_of new start)) where
        goes_further : (r : Option (List QueueRecord)) (k : Option (List StoreRecord)) → StandsAmid old.tables.ttls IsSuperseding first_history past r k → Amid r k
        goes_further r k amid = record {
          upto = amid.upto;
          from_old = amid.from_old;
          to_new = (goes.0 ++ amid.to_new.0, goes.1 ∙ ap (λ (h : History). goes.0 ++ h) amid.to_new.1 ∙ sym (append_assoc goes.0 amid.to_new.0 amid.upto));
          begun = amid.begun;
          begins = amid.begins;
          stands = amid.stands;
        }

        moments_so_far : QueueLeaves p.may_leave p.moment p.left_since old.queue mid.queue Meanwhile
        moments_so_far =
            puts_less p.may_leave p.moment p.left_since old.queue mid.queue (λ r. IsTrue p.tells → (k : Option (List StoreRecord)) → p.images old.store k → StandsAmid old.tables.ttls IsSuperseding first_history past r k) Meanwhile
            (λ r amid told k image. goes_further r k (amid told k image)) (so_far.moments start s)

        whole_goes : GoesOn first_history (history_of new start)
        whole_goes = (goes.0 ++ up_to_mid.0, goes.1 ∙ ap (λ (h : History). goes.0 ++ h) up_to_mid.1 ∙ sym (append_assoc goes.0 up_to_mid.0 first_history))

        -- the images of a put that failed
        of_put : (q n : ℕ) → IsOlder q n mid → (r : Option (List QueueRecord)) → IsOneOf (queued p.seen mid.queue) (with_one (queued p.seen mid.queue) (queue.Superseded q n)) r → Meanwhile r
        of_put q n older r either told k image =
            let logs = standing.tells so_far.up in
            let k_is = known_store p mid start so_far.sound standing so_far.up old.store (sym so_far.store) k image in
            ⊎_elim
            (λ is. record { upto = past; from_old = up_to_mid; to_new = goes; begun = []; begins = inl refl; stands = of_old (at mid.tables.ttls r k logs.queue_records logs.store_records past is k_is (stand_now p mid start so_far.sound standing so_far.up)) })
            (λ is. record {
              upto = past;
              from_old = up_to_mid;
              to_new = goes;
              begun = Supersede q n ∷ [];
              begins = inr (q, n, candidate p old mid so_far q n older start s, refl);
              stands = of_old (at mid.tables.ttls r k (logs.queue_records ++ queue.Superseded q n ∷ []) logs.store_records (Supersede q n ∷ past) is k_is (stand_then p old mid so_far q n older start s));
            })
            (grown (queued p.seen mid.queue) logs.queue_records (queue.Superseded q n) r (logs.queue_is told) either)
          where
            of_old : {h : History} → StandsAt mid.tables.ttls r k h → StandsAt old.tables.ttls r k h
            of_old {h} stands = subst (λ (ts : Ttls). StandsAt ts r k h) (ap (λ x. x.ttls) so_far.others.tables) stands

        whole_within : is_down p old ≡ false → IsSoundCore p old → QueueLeaves p.may_leave p.moment p.left_since old.queue new.queue Meanwhile → new.store ≡ old.store → Within p.may_leave p.moment p.left_since p.images p.store_moment p.images_since old new Amid
        whole_within up sound leaves store = record {
          later_queue = put_later p.may_leave p.moment p.left_since old.queue new.queue Meanwhile leaves;
          later_store = same_store_later p old new store;
          store_first = first_same p old start sound s up IsSuperseding (history_of new start) whole_goes new.store store;
          then_queue = λ r k since image.
              left_told p.may_leave p.moment p.left_since p.only_now old.queue new.queue Meanwhile leaves r since (p.told_since (disk_a (queue_pair new.queue)) (queue_moment p.moment old.queue).0 since.0 since.2) k
              (subst (λ (x : K). p.images x k) store image);
        }

        -- no record was written in the last turn
        calm_within : is_down p old ≡ false → IsSoundCore p old → new.queue ≡ mid.queue → new.store ≡ mid.store → Within p.may_leave p.moment p.left_since p.images p.store_moment p.images_since old new Amid
        calm_within up sound queue store =
            whole_within up sound (subst (λ (x : QueueLog D). QueueLeaves p.may_leave p.moment p.left_since old.queue x Meanwhile) (sym queue) moments_so_far) (store ∙ so_far.store)

        put_within : is_down p old ≡ false → IsSoundCore p old → (answer : Kept) (q n : ℕ) → IsOlder q n mid → Refused answer q n → Within p.may_leave p.moment p.left_since p.images p.store_moment p.images_since old new Amid
        put_within up sound answer q n older w =
            whole_within up sound
            (puts_joined p.may_leave p.moment p.left_since old.queue mid.queue new.queue Meanwhile moments_so_far
            (puts_less p.may_leave p.moment p.left_since mid.queue new.queue (IsOneOf (queued p.seen mid.queue) (with_one (queued p.seen mid.queue) (queue.Superseded q n))) Meanwhile (of_put q n older) w.put.any_moment))
            (w.store ∙ so_far.store)

      by_events : (more : History) → new.events.list ≡ more ++ mid.events.list → GoesOn past (history_of new start)
      by_events more is = (more, ap (λ (h : History). h ++ start) is ∙ append_assoc more mid.events.list start)

      turn_moments : (came : Claimed) → Turn came mid → is_down p old ≡ false → IsSoundCore p old → Within p.may_leave p.moment p.left_since p.images p.store_moment p.images_since old new Amid
      turn_moments (claimed.Job job) t up sound = calm_within (by_events (Claim job.receipt ∷ []) t.1.events) up sound t.1.queue t.1.store
      turn_moments claimed.Rest t up sound = calm_within (by_events [] (ap (λ (x : CoreState D K). x.events.list) t.2)) up sound (ap (λ (x : CoreState D K). x.queue) t.2) (ap (λ (x : CoreState D K). x.store) t.2)
      turn_moments claimed.Done t up sound = calm_within (by_events [] (ap (λ (x : CoreState D K). x.events.list) t.1)) up sound (ap (λ (x : CoreState D K). x.queue) t.1) (ap (λ (x : CoreState D K). x.store) t.1)
      turn_moments claimed.QueueFault t up sound = put_within (by_events [] t.3.2.memory.events) up sound t.3.0 t.0 t.1 t.2 t.3.2
      turn_moments claimed.Spent t up sound = calm_within (by_events [] t.4.memory.events) up sound t.4.queue t.4.store
      turn_moments claimed.Down t up sound = absurd t
      turn_moments claimed.Memory t up sound = calm_within (by_events [] t.memory.events) up sound t.queue t.store

  -- ---- the whole

  both_others : (mid : CoreState D K) → OthersStay old mid → OthersStay mid new → OthersStay old new
  both_others mid first then_ = record {
    tables = then_.tables ∙ first.tables;
    dead = then_.dead ∙ first.dead;
    undone = then_.undone ∙ first.undone;
    found = then_.found ∙ first.found;
    opened_a = then_.opened_a ∙ first.opened_a;
    opened_b = then_.opened_b ∙ first.opened_b;
  }

  pub claim_others : (came : Claimed) → Does came → OthersStay old new
  claim_others came (was_down e down same) = same_others old new same
  claim_others came (ran mid so_far t up) = both_others mid so_far.others (turn_others mid so_far came t)

  pub claim_nothing : (came : Claimed) → Does came → came ≡ claimed.Done → new.pending ≡ []
  claim_nothing came (was_down e down same) is = absurd (let apart : claimed.Down ≡ claimed.Done = sym e ∙ is in cc)
  claim_nothing came (ran mid so_far t up) is = turn_nothing mid so_far came t is

  pub claim_waits : (came : Claimed) → Does came → LeavesPending came → new.pending ≢ []
  claim_waits came (was_down e down same) leaves = absurd (subst LeavesPending e leaves)
  claim_waits came (ran mid so_far t up) leaves = turn_waits mid so_far came t leaves

  pub claim_store : (came : Claimed) → Does came → new.store ≡ old.store
  claim_store came (was_down e down same) = ap (λ (x : CoreState D K). x.store) same
  claim_store came (ran mid so_far t up) = turn_store mid so_far came t ∙ so_far.store

  pub claim_submitted : (came : Claimed) → Does came → (r : ℕ) (c : Command) → IsSubmitted r c old → IsSubmitted r c new
  claim_submitted came (was_down e down same) r c = subst (λ (x : CoreState D K). IsSubmitted r c x) (sym same)
  claim_submitted came (ran mid so_far t up) r c = λ known. turn_submitted mid so_far came t r c (so_far.submitted r c known)

  pub claim_job : (came : Claimed) → Does came → HasSubmittedJob came new
  claim_job came (was_down e down same) = subst (λ (x : Claimed). HasSubmittedJob x new) (sym e) tt
  claim_job came (ran mid so_far t up) = turn_job mid so_far came t

  down_turn : (came : Claimed) (mid : CoreState D K) → Turn came mid → came ≡ claimed.Down → ⊥
  down_turn came mid t e = subst (λ (x : Claimed). Turn x mid) e t

  pub claim_down : (came : Claimed) → Does came → (came ≡ claimed.Down) ↔ (is_down p old ≡ true)
  claim_down came (was_down e down same) = (λ is. down, λ is. e)
  claim_down came (ran mid so_far t up) = (λ is. absurd (down_turn came mid t is), λ down. never (is_down p old) down up)

  pub claim_unchanged : (came : Claimed) → Does came → came ≡ claimed.Down → new ≡ old
  claim_unchanged came (was_down e down same) is = same
  claim_unchanged came (ran mid so_far t up) is = absurd (down_turn came mid t is)

  pub claim_adds : (came : Claimed) → Does came → ClaimAdds p.tells p.seen came old new
  claim_adds came (was_down e down same) =
      subst (λ (x : Claimed). ClaimAdds p.tells p.seen x old new) (sym e) (record {
        more = [];
        only = tt;
        events = ap (λ (x : CoreState D K). x.events.list) same;
        size = (let sizes = ap (λ (x : CoreState D K). queue_size x.queue) same in omega (arith, sizes));
        within = λ short. (let sizes = ap (λ (x : CoreState D K). queue_size x.queue) same in omega (arith, sizes, short));
        records = λ up told records is. ap (λ (x : CoreState D K). queued p.seen x.queue) same ∙ is ∙ ap (λ (xs : List QueueRecord). Some xs) (sym (append-nil records));
        last = ap (λ (x : CoreState D K). x.last) same;
      })
  claim_adds came (ran mid so_far t up) =
      let added = turn_added mid so_far came t in
      record {
        more = so_far.more;
        only = so_far.appended.only;
        events = added.events ∙ ap (λ (h : History). claim_of came ++ h) so_far.appended.events;
        size = added.size ∙ so_far.appended.size;
        within = λ short. (let sizes = added.size in let before = so_far.appended.within short in omega (arith, sizes, before));
        records = λ still told records is. added.records still told ∙ so_far.appended.records (core_up p mid so_far.up).queue told records is;
        last = added.last ∙ so_far.last;
      }

  pub claim_twice : (came : Claimed) → Does came → is_down p old ≡ false → queue_down new.queue ≡ true → QueueRoseTwice p.faults old.queue new.queue
  claim_twice came (was_down e down same) up rose = never (is_down p old) down up
  claim_twice came (ran mid so_far t u) up rose = turn_twice mid so_far came t rose

  pub claim_cause : (came : Claimed) → Does came → QueueCounts p.faults old.queue new.queue (came ≡ claimed.QueueFault)
  claim_cause came (was_down e down same) =
      subst (λ (x : CoreState D K). QueueCounts p.faults old.queue x.queue (came ≡ claimed.QueueFault)) (sym same)
      (record { later_a = omega arith; later_b = omega arith; cause = λ is. absurd (let apart : claimed.Down ≡ claimed.QueueFault = sym e ∙ is in cc); calm = λ none. (refl, refl) })
  claim_cause came (ran mid so_far t up) = turn_cause mid so_far came t

  pub claim_up : (came : Claimed) → Does came → (came ≡ claimed.QueueFault → ⊥) → is_down p new ≡ is_down p old
  claim_up came (was_down e down same) none = ap (is_down p) same
  claim_up came (ran mid so_far t up) none = turn_up mid so_far came t none ∙ sym up

  pub claim_sound : IsSoundCore p old → (came : Claimed) → Does came → IsSoundCore p new
  claim_sound sound came (was_down e down same) = subst (IsSoundCore p) (sym same) sound
  claim_sound sound came (ran mid so_far t up) = turn_sound mid so_far came t

  module _ (start : History) (s : CoreStands p old start) where
    pub claim_gives : (came : Claimed) → Does came → ClaimGives came old.tables.ttls (history_of old start) (history_of new start)
    claim_gives came (was_down e down same) = subst (λ (x : Claimed). ClaimGives x old.tables.ttls (history_of old start) (history_of new start)) (sym e) (ap (λ (x : CoreState D K). history_of x start) same)
    claim_gives came (ran mid so_far t up) = turn_gives mid so_far start s came t

    pub claim_spent : (came : Claimed) → Does came → came ≡ claimed.Spent → IsOverfull old.tables.ttls (queue_size new.queue) (history_of new start)
    claim_spent came (was_down e down same) is = absurd (let apart : claimed.Down ≡ claimed.Spent = sym e ∙ is in cc)
    claim_spent came (ran mid so_far t up) is = turn_spent mid so_far start s came t is

    -- where the first record doesn't fit, no other comes before it
    module _ (mid : CoreState D K) (so_far : SoFar p old mid) (over : IsOverfull old.tables.ttls (queue_size old.queue) (history_of old start)) where
      short_text : IsPast (queue_size old.queue) (queue_text (queue.Superseded over.q over.p)) → most_log < queue_size old.queue + 22
      short_text (inl long) = absurd (omega (arith, long))
      short_text (inr past) = omega (arith, past)

      none_before : so_far.more ≡ []
      none_before = ⊎_elim (λ none. none) (λ fits. absurd (let past = short_text over.past in omega (arith, past, fits))) so_far.appended.fits

      same_events : mid.events.list ≡ old.events.list
      same_events = so_far.appended.events ∙ ap (λ (more : History). more ++ old.events.list) none_before

      size_now : queue_size mid.queue ≡ queue_size old.queue
      size_now = let sizes = so_far.appended.size in let none = ap length none_before in omega (arith, sizes, none)

      over_mid : IsOverfull mid.tables.ttls (queue_size mid.queue) (history_of mid start)
      over_mid =
          subst (λ (ts : Ttls). IsOverfull ts (queue_size mid.queue) (history_of mid start)) (sym (ap (λ x. x.ttls) so_far.others.tables))
          (subst (λ n. IsOverfull old.tables.ttls n (history_of mid start)) (sym size_now) (subst (λ (h : History). IsOverfull old.tables.ttls (queue_size old.queue) (h ++ start)) (sym same_events) over))

      -- a command that may be claimed isn't older than what was applied
      apart : (r : ℕ) → IsLeastClaim mid.tables.ttls r (history_of mid start) → ⊥
      apart r claim =
          let same : r ≡ over_mid.q = (let a = claim.least over_mid.q over_mid.least.candidate in let b = over_mid.least.least r (claimable_commands_are_candidates mid.tables.ttls r (history_of mid start) claim.claimable) in omega (arith, a, b)) in
          let first : IfFirst mid.tables.ttls over_mid.q (key over_mid.q (history_of mid start)) (history_of mid start) = subst (λ n. IfFirst mid.tables.ttls n (key n (history_of mid start)) (history_of mid start)) same claim.claimable.first in
          let known : IsFirst mid.tables.ttls over_mid.outdated.group (rank_at over_mid.outdated.stamp over_mid.q) (history_of mid start) = subst (λ (k : Option Key). IfFirst mid.tables.ttls over_mid.q k (history_of mid start)) over_mid.outdated.key_is first in
          let not = known.newest over_mid.outdated.newer over_mid.outdated.newest in
          let below = over_mid.outdated.below in
          let both : true ≡ false = sym below ∙ not in cc

      no_rest : first_candidate mid.pending mid.pending ≡ None → ⊥
      no_rest none = rests (held_of mid) (p.store_faults mid.store) (history_of mid start) (so_far.stands start s).holds.says none over_mid.q over_mid.least.candidate

      put_spent : {P : Type 0} (answer : Kept) (q n : ℕ) → IsFaulty answer → WasRefused p.tells p.seen p.may_leave p.moment p.left_since p.faults answer q n mid new → P
      put_spent answer q n faulty w = absurd (subst IsFaulty (w.put.spent.1 (inr (let past = short_text over.past in omega (arith, past, size_now)))) faulty)

      turn_unspent : (came : Claimed) → Turn came mid → (came ≡ claimed.Spent) ⊎ (came ≡ claimed.Memory)
      turn_unspent (claimed.Job job) t = absurd (apart job.receipt (least_job mid so_far start s job t.0).0)
      turn_unspent claimed.Rest t = absurd (no_rest t.0)
      turn_unspent claimed.Done t = absurd (no_rest (subst (λ (es : List Entry). first_candidate es es ≡ None) (sym t.0) refl))
      turn_unspent claimed.QueueFault t = put_spent t.3.0 t.0 t.1 t.3.1 t.3.2
      turn_unspent claimed.Spent t = inl refl
      turn_unspent claimed.Down t = absurd t
      turn_unspent claimed.Memory t = inr refl

    pub claim_unspent : (came : Claimed) → Does came → is_down p old ≡ false → IsOverfull old.tables.ttls (queue_size old.queue) (history_of old start) → (came ≡ claimed.Spent) ⊎ (came ≡ claimed.Memory)
    claim_unspent came (was_down e down same) up over = never (is_down p old) down up
    claim_unspent came (ran mid so_far t u) up over = turn_unspent mid so_far over came t

    pub claim_stands : (came : Claimed) → Does came → CoreStands p new start
    claim_stands came (was_down e down same) = subst (λ (x : CoreState D K). CoreStands p x start) (sym same) s
    claim_stands came (ran mid so_far t up) = turn_stands mid so_far start s came t

    pub claim_moments : IsSoundCore p old → (came : Claimed) → Does came → is_down p old ≡ false
        → Within p.may_leave p.moment p.left_since p.images p.store_moment p.images_since old new (StandsAmid old.tables.ttls IsSuperseding (history_of old start) (history_of new start))
    claim_moments sound came (was_down e down same) up = never (is_down p old) down up
    claim_moments sound came (ran mid so_far t u) up = turn_moments mid so_far start s came t up sound
