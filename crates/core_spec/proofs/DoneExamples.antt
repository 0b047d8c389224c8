-- A command that was applied before the store's log began anew: where the queue lacks its Done, the logs stand for nothing.
use Rattle.std.proofs.Common.{◌≡◌, ◌≢◌, ◌∙◌, inl, inr, ℕ, ◌==◌, ◌≤◌, ℤ, pos, List, [], ◌∷◌, ◌++◌, length, arith, refl, sym, ap, subst, codes, Bool, true, false, if◌then◌else◌, Option, Some, None, Ok}
use Rattle.std.proofs.lemmas.Bool.Decides.{nat_tests}
use Rattle.std.specs.Ordering.{is_lt}
use Rattle.std.specs.Option.{option_and_then}
use Rattle.jiff_core.proofs.SignedLemmas.{signed_arith}
use Rattle.json_read.proofs.of_plain_laws.Options.{none_some, some_same}
use Rattle.json_read.proofs.of_stamp_time.RangeLaws.{has_stamp}
use Rattle.table_spec.specs.fleet_rows.Defaults.{default_ttls}
use Rattle.table_spec.specs.fleet_rows.Rank.{rank_cmp}
use Rattle.table_spec.specs.fleet_rows.declared.change.Change.{Change}
use Rattle.table_spec.specs.fleet_rows.declared.change.Change.TheVariants as change
use Rattle.table_spec.specs.fleet_rows.declared.command.Command.{Command}
use Rattle.table_spec.specs.fleet_rows.declared.command.Group.{Group}
use Rattle.table_spec.specs.fleet_rows.declared.command.Kind.TheVariants as kind
use Rattle.table_spec.specs.history_spec.Lawful.{HasStamp}
use Rattle.table_spec.specs.history_spec.Trace.{Trace}
use Rattle.record_spec.specs.declared.queue.QueueRecord.{QueueRecord}
use Rattle.record_spec.specs.declared.queue.QueueRecord.TheVariants as queue
use Rattle.record_spec.specs.declared.store.StoreRecord.{StoreRecord}
use Rattle.record_spec.specs.declared.store.StoreRecord.TheVariants as store
use Rattle.core_spec.specs.declared.event.Event.TheVariants.{Submit, Claim, Apply}
use Rattle.core_spec.specs.Checkpoints.{store_checkpoint, MayBeTaken, IsInForm}
use Rattle.core_spec.specs.Commands.{answer_of, Key, key_of}
use Rattle.core_spec.specs.Damage.{IsQueueLog}
use Rattle.core_spec.specs.History.{History, unknown, queued, claimed, applied, standing, key, trace_of}
use Rattle.core_spec.specs.Legal.{IsFirst, IfFirst, IsLegal, rank_at}
use Rattle.core_spec.specs.Stands.{store_trace, StoreTells, MissesDone, last_taken, GivesUpAtOnce, Stands}
use Rattle.core_spec.proofs.CommandExamples.{sent, deactivation, it_is_short, it_decodes, its_group_is_its_node_and_kind}

-- a node's deactivation of 2024-05-01 at 10:00
abbrev stamp : ℤ
stamp = pos 1_714_557_600_000_000_000

abbrev gone : Change
gone = change.Deactivate (record { certname = codes "a"; stamp = stamp })

abbrev of_a : Group
of_a = record { certname = codes "a"; kind = kind.Deactivate }

-- what a log's second record names as taken
abbrev base_taken : List StoreRecord → Option ℕ
base_taken (x ∷ store.Base expire retain taken ∷ rest) = taken
base_taken _ = None

not_claimed : (b : Bool) → (if b then queued else unknown) ≢ claimed
not_claimed true e = cc
not_claimed false e = cc

one_is : (q : ℕ) → (1 == q) ≡ true → 1 ≡ q
one_is q test = grind (arith, nat_tests)

module _ (a : Command) where
  abbrev came_in : History
  came_in = Submit 1 a ∷ []

  abbrev taken : History
  taken = Apply 1 (Some a.received) ∷ Claim 1 ∷ came_in

  -- the queue lacks the Done
  abbrev without_done : List QueueRecord
  without_done = queue.Base 0 ∷ queue.Submit 1 a ∷ []

  -- the store has the command behind its checkpoint
  abbrev behind : List StoreRecord
  behind = store.Settings 7 14 14 ∷ store.Base None None None ∷ store.Received 1 (Some a.received) gone ∷ []

  -- it has it in its checkpoint
  abbrev within : List StoreRecord
  within =
      store.Settings 7 14 14 ∷ store.Base None None (Some 1) ∷ store.Marks (record { certname = codes "a"; active = None; deactivated = Some stamp })
      ∷ store.Received 1 (Some a.received) gone ∷ []

  abbrev it_lacks : (kept : List StoreRecord) → last_taken kept ≡ Some 1 → MissesDone without_done kept taken
  it_lacks kept last = record { receipt = 1; taken = last; tells = record { later = taken; upto = []; whole = refl; few = tt; says = refl } }

  -- the checkpoint's base names the receipt, so that it was applied by then
  named : (o : Option ℕ) (start : List StoreRecord) (trace : Trace) (rest : List StoreRecord) → IsInForm start (store_checkpoint default_ttls o trace) → within ≡ start ++ rest → o ≡ Some 1
  named o start trace rest (inl is) says = sym (ap base_taken (says ∙ ap (λ (l : List StoreRecord). l ++ rest) is))
  named o start trace rest (inr older) says = sym (ap base_taken (says ∙ ap (λ (l : List StoreRecord). l ++ rest) older.0))

  applied_by_then : (s : StoreTells default_ttls within taken) → standing 1 s.upto ≡ applied
  applied_by_then s =
      subst (λ (o : Option ℕ). MayBeTaken o s.upto) (named s.starts.0 s.start (trace_of s.upto) (store_trace s.upto s.later) s.starts.2 s.says) s.starts.1

  module _ (decodes : answer_of a ≡ Ok gone) (key_is : key_of a ≡ Some (of_a, stamp)) (short : length a.payload ≤ 16_777_216) (received : HasStamp a.received) where
    -- ---- the history is legal

    same_key : (b : Bool) (s : ℤ) → option_and_then key_of (if b then Some a else None) ≡ Some (of_a, s) → (b ≡ true) × (stamp ≡ s)
    same_key true s e = (refl, ap (λ (k : Key). k.1) (sym (some_same (of_a, stamp) (of_a, s) (sym key_is ∙ e))))
    same_key false s e = absurd (none_some (of_a, s) e)

    not_below : (q : ℕ) (s : ℤ) → key q came_in ≡ Some (of_a, s) → is_lt (rank_cmp (rank_at stamp 1) (rank_at s q)) ≡ false
    not_below q s e =
        let same = same_key (1 == q) s e in
        subst (λ (n : ℕ). is_lt (rank_cmp (rank_at stamp 1) (rank_at s n)) ≡ false) (one_is q same.0) (subst (λ (m : ℤ). is_lt (rank_cmp (rank_at stamp 1) (rank_at m 1)) ≡ false) same.1 refl)

    it_is_the_first : IsFirst default_ttls of_a (rank_at stamp 1) came_in
    it_is_the_first = record {
      alone = λ q s e. not_claimed (1 == q);
      greatest = λ q s e waits. not_below q s e;
      newest = λ x is. absurd (none_some x is);
    }

    it_is_legal : IsLegal default_ttls taken
    it_is_legal = (
      record { command_is = a; change = gone; claimed = refl; submitted = refl; decodes = ap (λ r. Some r) decodes; received = inr refl },
      (
        record { queued = refl; few = omega arith; first = subst (λ o. IfFirst default_ttls 1 o came_in) (sym key_is) it_is_the_first },
        (record { receipt = refl; payload = short; received = received }, tt),
      ),
    )

    -- ---- the logs

    it_is_given_up_at_once : GivesUpAtOnce taken
    it_is_given_up_at_once = (inl (omega arith, tt), (inl (omega arith, tt), (inl tt, tt)))

    it_is_a_queue : IsQueueLog without_done
    it_is_a_queue = (omega arith, (record { base = refl; rises = ((omega arith, tt), tt); room = omega arith }, (refl, tt)))

    behind_is : behind ≡ store_checkpoint default_ttls None [] ++ store_trace [] taken
    behind_is = rw decodes refl

    abbrev tells_behind : StoreTells default_ttls behind taken
    tells_behind = record { later = taken; upto = []; whole = refl; start = store_checkpoint default_ttls None []; starts = (None, tt, inl refl); says = behind_is }

    checkpoint_is : store_checkpoint default_ttls (Some 1) (trace_of taken) ≡ within
    checkpoint_is = rw decodes refl

    abbrev tells_within : StoreTells default_ttls within taken
    tells_within = record { later = []; upto = taken; whole = refl; start = within; starts = (Some 1, refl, inl (sym checkpoint_is)); says = refl }

    -- the command may lack its Done where the store has it behind its checkpoint
    it_stands : Stands default_ttls without_done behind taken
    it_stands = record {
      legal = it_is_legal;
      few = tt;
      at_once = it_is_given_up_at_once;
      store = tells_behind;
      queue = inr (it_lacks behind refl);
      queue_log = it_is_a_queue;
      store_log = (omega arith, (omega arith, (refl, (refl, tt))));
      done = λ missing is. let apart : unknown ≡ applied = is in cc;
    }

    -- Where it has it in its checkpoint, all else holds ..
    all_else_holds : ((missing : MissesDone without_done within taken) → standing missing.receipt taken ≢ applied) → Stands default_ttls without_done within taken
    all_else_holds point = record {
      legal = it_is_legal;
      few = tt;
      at_once = it_is_given_up_at_once;
      store = tells_within;
      queue = inr (it_lacks within refl);
      queue_log = it_is_a_queue;
      store_log = (omega arith, (omega arith, (omega arith, (refl, (refl, tt)))));
      done = point;
    }

  -- .. and yet the logs don't stand for the history.
  it_does_not_stand : Stands default_ttls without_done within taken → ⊥
  it_does_not_stand h = h.done (it_lacks within refl) (applied_by_then h.store)

-- there is such a command
abbrev sent_so : Command
sent_so = sent kind.Deactivate 3 deactivation

one_stands : Stands default_ttls (without_done sent_so) (behind sent_so) (taken sent_so)
one_stands = it_stands sent_so it_decodes its_group_is_its_node_and_kind it_is_short (has_stamp (pos 0) (omega (arith, signed_arith), omega (arith, signed_arith)))
