-- What turns of a claim come to.
use Rattle.std.proofs.Common.{◌≡◌, ◌∙◌, inl, ⊎_elim, ℕ, ◌≤◌, Bool, true, false, List, [], ◌∷◌, ◌++◌, Option, Some, IsTrue, arith, refl, sym, ap, subst, append_assoc, ◌⊎◌, inr, zero, suc, ◌+◌, ◌<◌, length}
use Rattle.std.proofs.lemmas.List.{append-nil}
use Rattle.core_state.specs.fleet_rows.declared.settings.Ttls.{Ttls}
use Rattle.core_state.specs.record_spec.declared.queue.QueueRecord.{QueueRecord}
use Rattle.core_state.specs.record_spec.declared.queue.QueueRecord.TheVariants as queue
use Rattle.core_state.specs.record_spec.declared.store.StoreRecord.{StoreRecord}
use Rattle.core_state.specs.fleet_keeper.Records.{IsOneOf, with_one}
use Rattle.core_state.specs.core_spec.declared.entry.Entry.{Entry}
use Rattle.core_state.specs.core_spec.declared.event.Event.{Event}
use Rattle.core_state.specs.core_spec.declared.event.Event.TheVariants.{Supersede}
use Rattle.core_state.specs.core_spec.History.{History}
use Rattle.core_state.specs.core_spec.Legal.{IsLegal, IsOutdated}
use Rattle.core_state.specs.core_machine.Claims.{first_candidate}
use Rattle.core_state.specs.core_spec.Stands.{queue_trace, Stands}
use Rattle.core_state.specs.core_laws.StandingLaws.{IsPlain}
use Rattle.core_state.proofs.of_core_laws.Claims.{first_is_candidate, first_is_least}
use Rattle.core_state.specs.queue_log.Queued.{queued, QueueImages, QueueLeaves, queue_down, queue_size}
use Rattle.core_state.proofs.of_queue_log.Runs.{none_put, puts_less, puts_joined}
use Rattle.core_state.specs.declared.found.Found.{Found}
use Rattle.core_state.specs.declared.state.CoreState.{CoreState}
use Rattle.core_state.specs.Changes.{OthersStay}
use Rattle.core_state.specs.Moments.{GoesOn, StandsAmid}
use Rattle.core_state.specs.Seen.{held_of, claimed_number}
use Rattle.core_state.specs.StandsFor.{StandsAt, history_of}
use Rattle.core_state.proofs.Carried.{submitted_on, holds_with}
use Rattle.core_state.proofs.HeldEvents.{changed_held, later_fails}
use Rattle.core_state.proofs.KnownImages.{grown}
use Rattle.core_state.proofs.PlainHistories.{plain_with}
use Rattle.core_state.proofs.Ports.{Ports}
use Rattle.core_state.proofs.PutStands.{put_stands}
use Rattle.core_state.proofs.SoundLists.{sound_as, sound_taken, claimed_taken, claimed_most}
use Rattle.core_state.proofs.Standing.{BothTell, both_stand, both_with, no_store_part, CoreStands, IsSoundCore, is_down, core_up, tell, stand_now, known_store, at, CoreLogs, q_known, s_known}
use Rattle.core_claims.specs.Claims.{IsLeastCandidate, Superseded, IsSuperseding, Appended}
use Rattle.core_claims.specs.Runs as runs
use Rattle.core_claims.specs.Turns.{IsOlder, HasSuperseded}
use Rattle.core_claims.proofs.Candidates.{outdated}
use Rattle.core_state.specs.log_spec.Limits.{most_log}

pub below_or : (n m : ℕ) → (n < m) ⊎ (m ≤ n)
below_or n zero = inr (omega arith)
below_or zero (suc m) = inl (omega arith)
below_or (suc n) (suc m) = ⊎_elim (λ l. inl (omega (arith, l))) (λ l. inr (omega (arith, l))) (below_or n m)

module _ {D K : Type 0} (p : Ports D K) where
  abbrev pub SoFar : CoreState D K → CoreState D K → Type 0
  SoFar old new = runs.SoFar p.tells p.store_tells p.seen p.may_leave p.moment p.left_since p.faults p.kept p.images p.store_up p.store_down p.store_faults old new

  abbrev pub Supersedes : ℕ → ℕ → CoreState D K → CoreState D K → Type 0
  Supersedes q n old new = HasSuperseded p.tells p.seen p.may_leave p.moment p.left_since p.faults q n old new

  -- before the first
  pub none_so_far : (old : CoreState D K) → IsSoundCore p old → is_down p old ≡ false → SoFar old old
  none_so_far old sound up = record {
    up = up;
    sound = sound;
    others = record { tables = refl; dead = refl; undone = refl; found = refl; opened_a = refl; opened_b = refl };
    store = refl;
    last = refl;
    more = [];
    appended = record { only = tt; events = refl; size = omega arith; fits = inl refl; within = λ short. short; records = λ up told records is. is ∙ ap (λ (xs : List QueueRecord). Some xs) (sym (append-nil records)) };
    submitted = λ r c s. s;
    calm = record { later_a = omega arith; later_b = omega arith; cause = λ none. absurd none; calm = λ none. (refl, refl) };
    stands = λ start s. s;
    superseded = λ start s. record { more = []; only = tt; new_is = refl };
    moments = λ start s. none_put p.may_leave p.moment p.left_since p.only_now old.queue (λ q. IsTrue p.tells → (r : Option (List StoreRecord)) → p.images old.store r → StandsAmid old.tables.ttls IsSuperseding (history_of old start) (history_of old start) q r)
        (λ q image told r kept.
        record {
          upto = history_of old start;
          from_old = ([], refl);
          to_new = ([], refl);
          begun = [];
          begins = inl refl;
          stands = now_at old sound up start s q r image kept;
        });
  }
    where
      now_at : (old : CoreState D K) (sound : IsSoundCore p old) (up : is_down p old ≡ false) (start : History) (s : CoreStands p old start) (q : Option (List QueueRecord)) (r : Option (List StoreRecord))
          → QueueImages p.may_leave old.queue q → p.images old.store r → StandsAt old.tables.ttls q r (history_of old start)
      now_at old sound up start s q r image kept =
          let logs = s.tells up in
          at old.tables.ttls q r logs.queue_records logs.store_records (history_of old start)
          (q_known p old (history_of old start) (sound.queue (core_up p old up).queue) (sound.store (core_up p old up).store) logs q image)
          (s_known p old (history_of old start) (sound.queue (core_up p old up).queue) (sound.store (core_up p old up).store) logs r kept)
          (stand_now p old start sound s up)

  -- the first candidate is older than what was applied of its group
  module _ (old mid : CoreState D K) (so_far : SoFar old mid) (q n : ℕ) (older : IsOlder q n mid) where
    abbrev pub event : Event
    event = Supersede q n

    abbrev pub rec : QueueRecord
    rec = queue.Superseded q n

    module _ (start : History) (s : CoreStands p old start) where
      abbrev pub mid_stands : CoreStands p mid start
      mid_stands = so_far.stands start s

      abbrev pub was : History
      was = history_of mid start

      pub may : IsOutdated mid.tables.ttls q n was
      may = subst (λ r. IsOutdated mid.tables.ttls r n was) (sym older.receipt) (outdated (held_of mid) (p.store_faults mid.store) was mid_stands.holds.says older.entry n older.first older.newer)

      pub candidate : IsLeastCandidate q was
      candidate =
          let first = subst (λ (es : List Entry). first_candidate es es ≡ Some older.entry) mid_stands.holds.says.pending older.first in
          let legal_was = mid_stands.holds.says.plain.legal in
          subst (λ r. IsLeastCandidate r was) (sym older.receipt)
          (record { candidate = first_is_candidate mid.tables.ttls was older.entry legal_was first; least = first_is_least mid.tables.ttls was older.entry legal_was first })

      pub legal : IsLegal mid.tables.ttls (event ∷ was)
      legal = (may, mid_stands.holds.says.plain.legal)

      pub plain_now : IsPlain mid.tables.ttls (event ∷ was)
      plain_now = plain_with mid.tables.ttls was mid_stands.holds.says.plain event legal tt

      abbrev pub logs_mid : CoreLogs p mid was
      logs_mid = mid_stands.tells so_far.up

      pub both_now : BothTell mid.tables.ttls (logs_mid.queue_records ++ rec ∷ []) logs_mid.store_records (event ∷ was)
      both_now =
          no_store_part mid.tables.ttls (logs_mid.queue_records ++ rec ∷ []) logs_mid.store_records (event ∷ was)
          (both_with mid.tables.ttls logs_mid.queue_records logs_mid.store_records was mid_stands.holds.says.plain (tell p mid start so_far.sound mid_stands so_far.up) event may tt (rec ∷ []) [] refl refl)

      pub stand_then : Stands mid.tables.ttls (logs_mid.queue_records ++ rec ∷ []) logs_mid.store_records (event ∷ was)
      stand_then = both_stand mid.tables.ttls (logs_mid.queue_records ++ rec ∷ []) logs_mid.store_records (event ∷ was) plain_now both_now

  -- and is superseded
  module _ (old mid new : CoreState D K) (so_far : SoFar old mid) (q n : ℕ) (older : IsOlder q n mid) (did : Supersedes q n mid new) where
    abbrev the_event : Event
    the_event = Supersede q n

    abbrev the_record : QueueRecord
    the_record = queue.Superseded q n

    queue_up_now : queue_down new.queue ≡ false
    queue_up_now = by (queue_down new.queue) refl
      where
        by : (b : Bool) → queue_down new.queue ≡ b → b ≡ false
        by true e = absurd (let is = did.put.down.0 e in cc)
        by false e = refl

    up_now : is_down p new ≡ false
    up_now = rw (did.others.undone, queue_up_now, did.store) (let parts = core_up p mid so_far.up in rw (parts.done, parts.store) refl)

    sound_now : IsSoundCore p new
    sound_now = record {
      queue = λ up. did.put.again (λ e. cc);
      store = λ up. subst p.store_up (sym did.store) (so_far.sound.store (core_up p mid so_far.up).store);
      pending = sound_as mid.last new.last mid.found.queue.value new.found.queue.value (the_event ∷ mid.events.list) new.events.list _ new.pending
          did.last (ap (λ (f : Found). f.queue.value) did.others.found) did.events did.pending (sound_taken mid.last mid.found.queue.value mid.events.list mid.pending so_far.sound.pending the_event q);
      room = (let same = ap claimed_number did.pending in let fewer = claimed_taken q mid.pending in let most = claimed_most mid.pending in omega (arith, same, fewer, most, did.room));
    }

    module _ (start : History) (s : CoreStands p old start) where
      abbrev standing : CoreStands p mid start
      standing = so_far.stands start s

      abbrev past : History
      past = history_of mid start

      abbrev told_logs : CoreLogs p mid past
      told_logs = standing.tells so_far.up

      same_history : history_of new start ≡ the_event ∷ past
      same_history = ap (λ (h : History). h ++ start) did.events

      stands_now : CoreStands p new start
      stands_now =
          let later : p.store_faults mid.store ≤ p.store_faults new.store = (let same = ap p.store_faults did.store in omega (arith, same)) in
          let says = changed_held (held_of mid) (p.store_faults mid.store) past standing.holds.says the_event (held_of new) (p.store_faults new.store) (legal old mid so_far q n older start s) tt tt refl refl refl
          (later_fails (p.store_faults mid.store) (p.store_faults new.store) past later standing.holds.says.after_fails) did.others.tables did.pending did.others.dead did.last in
          put_stands p mid new start so_far.sound standing so_far.up (ap (λ t. t.ttls) did.others.tables) (λ told. ap p.kept did.store ∙ told_logs.store_is told) (subst p.store_up (sym did.store) (so_far.sound.store (core_up p mid so_far.up).store))
          the_record (the_event ∷ past) (both_now old mid so_far q n older start s) did.put same_history (holds_with p mid new start (the_event ∷ past) did.others standing.holds same_history says)

      superseded_now : Superseded (history_of old start) (history_of new start)
      superseded_now =
          let before = so_far.superseded start s in
          record {
            more = the_event ∷ before.more;
            only = (subst (IsLeastCandidate q) before.new_is (candidate old mid so_far q n older start s), before.only);
            new_is = same_history ∙ ap (λ (h : History). the_event ∷ h) before.new_is;
          }

      -- what stood for a part of the history before does so now
      goes_further : (r : Option (List QueueRecord)) (k : Option (List StoreRecord)) → StandsAmid old.tables.ttls IsSuperseding (history_of old start) past r k → StandsAmid old.tables.ttls IsSuperseding (history_of old start) (history_of new start) r k
      goes_further r k amid = record {
        upto = amid.upto;
        from_old = amid.from_old;
        to_new = (the_event ∷ amid.to_new.0, same_history ∙ ap (λ (h : History). the_event ∷ h) amid.to_new.1);
        begun = amid.begun;
        begins = amid.begins;
        stands = amid.stands;
      }

      abbrev Meanwhile : Option (List QueueRecord) → Type 0
      Meanwhile r = IsTrue p.tells → (k : Option (List StoreRecord)) → p.images old.store k → StandsAmid old.tables.ttls IsSuperseding (history_of old start) (history_of new start) r k

      -- the images of the put
      of_put : (r : Option (List QueueRecord)) → IsOneOf (queued p.seen mid.queue) (with_one (queued p.seen mid.queue) the_record) r → Meanwhile r
      of_put r one told k image =
          let k_is = known_store p mid start so_far.sound standing so_far.up old.store (sym so_far.store) k image in
          let from : GoesOn (history_of old start) past = (let before = so_far.superseded start s in (before.more, before.new_is)) in
          ⊎_elim
          (λ is. record {
            upto = past;
            from_old = from;
            to_new = (the_event ∷ [], same_history);
            begun = [];
            begins = inl refl;
            stands = of_old (at mid.tables.ttls r k told_logs.queue_records told_logs.store_records past is k_is (stand_now p mid start so_far.sound standing so_far.up));
          })
          (λ is. record {
            upto = history_of new start;
            from_old = (the_event ∷ from.0, same_history ∙ ap (λ (h : History). the_event ∷ h) from.1);
            to_new = ([], refl);
            begun = [];
            begins = inl refl;
            stands = subst (StandsAt old.tables.ttls r k) (sym same_history) (of_old (at mid.tables.ttls r k (told_logs.queue_records ++ the_record ∷ []) told_logs.store_records (the_event ∷ past) is k_is (stand_then old mid so_far q n older start s)));
          })
          (grown (queued p.seen mid.queue) told_logs.queue_records the_record r (told_logs.queue_is told) one)
        where
          of_old : {h : History} → StandsAt mid.tables.ttls r k h → StandsAt old.tables.ttls r k h
          of_old {h} stands = subst (λ (ts : Ttls). StandsAt ts r k h) (ap (λ t. t.ttls) so_far.others.tables) stands

      moments_now : QueueLeaves p.may_leave p.moment p.left_since old.queue new.queue Meanwhile
      moments_now =
          puts_joined p.may_leave p.moment p.left_since old.queue mid.queue new.queue Meanwhile
          (puts_less p.may_leave p.moment p.left_since old.queue mid.queue (λ r. IsTrue p.tells → (k : Option (List StoreRecord)) → p.images old.store k → StandsAmid old.tables.ttls IsSuperseding (history_of old start) past r k) Meanwhile
          (λ r amid told k image. goes_further r k (amid told k image)) (so_far.moments start s))
          (puts_less p.may_leave p.moment p.left_since mid.queue new.queue (IsOneOf (queued p.seen mid.queue) (with_one (queued p.seen mid.queue) the_record)) Meanwhile of_put did.put.any_moment)

    both_others : OthersStay old new
    both_others = record {
      tables = did.others.tables ∙ so_far.others.tables;
      dead = did.others.dead ∙ so_far.others.dead;
      undone = did.others.undone ∙ so_far.others.undone;
      found = did.others.found ∙ so_far.others.found;
      opened_a = did.others.opened_a ∙ so_far.others.opened_a;
      opened_b = did.others.opened_b ∙ so_far.others.opened_b;
    }

    fits_now : queue_size mid.queue + 22 ≤ most_log
    fits_now = elim (below_or most_log (queue_size mid.queue + 22)) [
      | inl past ↦ absurd (let spent = did.put.spent.1 (inr (omega (arith, past))) in cc)
      | inr fits ↦ fits
    ]

    appended_now : Appended p.tells p.seen (the_event ∷ so_far.more) old new
    appended_now = record {
      only = so_far.appended.only;
      events = did.events ∙ ap (λ (h : History). the_event ∷ h) so_far.appended.events;
      size = (let grew = did.put.grew refl in let before = so_far.appended.size in omega (arith, grew, before));
      fits = inr (⊎_elim (λ none. (let same = ap length none in let before = so_far.appended.size in omega (arith, same, before, fits_now))) (λ fits. fits) so_far.appended.fits);
      within = λ short. (let grew = did.put.grew refl in omega (arith, grew, fits_now));
      records = λ up told records is.
          did.put.queued_one refl told ∙ ap (λ (o : Option (List QueueRecord)). with_one o the_record) (so_far.appended.records (core_up p mid so_far.up).queue told records is)
          ∙ ap (λ (xs : List QueueRecord). Some xs) (append_assoc records (queue_trace so_far.more) (the_record ∷ []));
    }

    pub one_more : SoFar old new
    one_more = record {
      up = up_now;
      sound = sound_now;
      others = both_others;
      store = did.store ∙ so_far.store;
      last = did.last ∙ so_far.last;
      more = the_event ∷ so_far.more;
      appended = appended_now;
      submitted = λ r c sub. submitted_on mid new the_event did.others.found did.events r c (so_far.submitted r c sub);
      calm = (let first = so_far.calm.calm (λ none. none) in let after = did.put.cause.calm (λ none. none) in
          record { later_a = omega (arith, first.0, after.0); later_b = omega (arith, first.1, after.1); cause = λ none. absurd none; calm = λ none. (after.0 ∙ first.0, after.1 ∙ first.1) });
      stands = stands_now;
      superseded = superseded_now;
      moments = moments_now;
    }
