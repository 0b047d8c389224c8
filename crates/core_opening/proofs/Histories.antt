-- What an opening holds is what each history says that the records stand for.
use Rattle.std.proofs.Common.{◌≡◌, ◌↔◌, ◌∙◌, inl, inr, ℕ, ◌+◌, ◌<◌, ◌==◌, List, [], ◌∷◌, ◌++◌, map, arith, refl, sym, ap, subst, Bool, true, false, if◌then◌else◌, Option, Some, None, nat_lt}
use Rattle.std.specs.List.{Contains, flat_map}
use Rattle.std.proofs.lemmas.List.{append-nil}
use Rattle.ttl_sweeps.proofs.of_plain_laws.Members.{Among, All-from_Among}
use Rattle.ttl_sweeps.proofs.of_plain_laws.Options.{none_some, some_is}
use Rattle.core_state.specs.fleet_rows.declared.settings.Ttls.{Ttls}
use Rattle.core_state.specs.record_spec.declared.queue.QueueRecord.{QueueRecord}
use Rattle.core_state.specs.record_spec.declared.queue.QueueRecord.TheVariants as queue
use Rattle.core_state.specs.record_spec.declared.store.StoreRecord.{StoreRecord}
use Rattle.core_state.specs.table_machine.Steps.{empty_table}
use Rattle.core_state.specs.table_machine.Table.{Table, table_of}
use Rattle.core_state.specs.core_spec.declared.entry.Entry.{Entry}
use Rattle.core_state.specs.core_spec.declared.event.Event.TheVariants.{Restart}
use Rattle.core_state.specs.core_spec.History.{History, last_receipt, unknown, applied, standing, trace_of}
use Rattle.core_state.specs.core_spec.Legal.{IsLegal}
use Rattle.core_state.specs.core_spec.Pending.{pending_of}
use Rattle.core_state.specs.core_spec.Stands.{QueueTells, StoreTells, MissesDone, Stands, last_taken}
use Rattle.core_state.proofs.of_core_machine.Receipts.{receipts_are_new}
use Rattle.core_state.specs.core_machine.Steps.{at_receipt}
use Rattle.core_state.specs.core_laws.Replay.{pending_after, dead_after, last_after}
use Rattle.core_state.specs.core_laws.StandingLaws.{IsPlain}
use Rattle.core_state.specs.core_laws.TableReplay.{table_after}
use Rattle.core_state.proofs.of_core_laws.DeadReplays.{dead_joined, records_lead_to_the_discards}
use Rattle.core_state.proofs.of_core_laws.DiscardSteps.{others_discard_nothing}
use Rattle.core_state.proofs.of_core_laws.Entries.{entry_is_of}
use Rattle.core_state.proofs.of_core_laws.Missing.{records_lead_to_the_pending, records_lead_to_the_last_receipt, the_missing_done_is_told}
use Rattle.core_state.proofs.of_core_laws.Replays.{pending_joined, last_joined}
use Rattle.core_state.proofs.of_core_laws.StandingRecords.{queue_records_go_on, store_records_go_on, dones_are_mended, restarts_leave_the_records}
use Rattle.core_state.proofs.of_core_laws.TableCheckpoints.{records_lead_to_the_table}
use Rattle.core_state.proofs.of_core_laws.Taken.{taken_was_applied}
use Rattle.core_state.proofs.of_core_laws.Traces.{legal_histories_have_traces}
use Rattle.core_state.specs.supersede_core.Waiting.{AreBelow}
use Rattle.core_state.specs.Seen.{Held}
use Rattle.core_state.specs.StandsFor.{IsHeld}
use Rattle.core_opening.specs.Opened.{TellsMissing, IsGreatest, written}

last_written : (missing : Option ℕ) (queued : List QueueRecord) → last_after (written missing queued) 0 ≡ last_after queued 0
last_written None queued = refl
last_written (Some r) queued = last_joined queued (queue.Done r ∷ []) 0

dead_written : (missing : Option ℕ) (queued : List QueueRecord) → dead_after (written missing queued) [] [] ≡ dead_after queued [] []
dead_written None queued = refl
dead_written (Some r) queued = dead_joined queued (queue.Done r ∷ []) [] []

-- where all but those of one receipt are below, and that one is, all are
below_step : (b : Bool) (n r : ℕ) (e : Entry) (es rest : List Entry) → (r == e.receipt) ≡ b → r < n → AreBelow n ((if b then [] else e ∷ []) ++ rest) → (AreBelow n rest → AreBelow n es) → AreBelow n (e ∷ es)
below_step true n r e es rest same less below next = (grind (arith, same, less), next below)
below_step false n r e es rest other less below next = (below.0, next below.1)

below_too : (n r : ℕ) (es : List Entry) → r < n → AreBelow n (flat_map (at_receipt r (λ e. [])) es) → AreBelow n es
below_too n r [] less below = tt
below_too n r (e ∷ es) less below = below_step (r == e.receipt) n r e es (flat_map (at_receipt r (λ e. [])) es) refl less below (below_too n r es less)

module _ (ttls : Ttls) (history : History) (legal : IsLegal ttls history) where
  given_below : (r : ℕ) (b : Bool) → nat_lt (last_receipt history) r ≡ b → (b ≡ true → ⊥) → r < last_receipt history + 1
  given_below r true above not = absurd (not refl)
  given_below r false above not = grind (arith, above)

  entry_below : (e : Entry) → Among e (pending_of history) → e.receipt < last_receipt history + 1
  entry_below e among = given_below e.receipt (nat_lt (last_receipt history) e.receipt) refl (λ above.
      let new = receipts_are_new ttls history e.receipt legal (λ one. grind (arith, above)) in
      none_some e.command (sym new.none ∙ (entry_is_of ttls history e legal among).command_is))

  pub pending_below : AreBelow (last_receipt history + 1) (pending_of history)
  pending_below = All-from_Among (λ (e : Entry). e.receipt < last_receipt history + 1) (pending_of history) entry_below

  applied_below : (r : ℕ) → standing r history ≡ applied → r < last_receipt history + 1
  applied_below r is = given_below r (nat_lt (last_receipt history) r) refl (λ above.
      let new = receipts_are_new ttls history r legal (λ one. grind (arith, above)) in
      let apart : unknown ≡ applied = sym new.unknown ∙ is in cc)

module _ (ttls : Ttls) (queued : List QueueRecord) (kept : List StoreRecord) (start : History) (stands : Stands ttls queued kept start) where
  told_missing : MissesDone queued kept start ↔ ((r : ℕ) × (last_taken kept ≡ Some r) × Contains (map (λ (e : Entry). e.receipt) (pending_after queued [])) r)
  told_missing = the_missing_done_is_told ttls queued kept start stands

  -- the Done is written
  pub mended : (missing : Option ℕ) → TellsMissing missing queued kept → Stands ttls (written missing queued) kept start × QueueTells (written missing queued) start
  mended None none = (stands, elim stands.queue [ inl tells ↦ tells | inr misses ↦ absurd (let told = told_missing.0 misses in none told.0 (told.1, told.2)) ])
  mended (Some r) lacks =
      let misses : MissesDone queued kept start = told_missing.1 (r, lacks.0, lacks.1) in
      let same : misses.receipt ≡ r = some_is misses.receipt r (sym misses.taken ∙ lacks.0) in
      subst (λ (q : ℕ). Stands ttls (queued ++ queue.Done q ∷ []) kept start × QueueTells (queued ++ queue.Done q ∷ []) start) same (dones_are_mended ttls queued kept start stands misses, misses.tells)

  module _ (missing : Option ℕ) (tells : TellsMissing missing queued kept) where
    abbrev records : List QueueRecord
    records = written missing queued

    now : Stands ttls records kept start
    now = (mended missing tells).0

    told : QueueTells records start
    told = (mended missing tells).1

    pub restarted : Stands ttls records kept (Restart ∷ start)
    restarted = restarts_leave_the_records ttls records kept start now

    pub queue_tells : QueueTells records (Restart ∷ start)
    queue_tells = subst (λ (qs : List QueueRecord). QueueTells qs (Restart ∷ start)) (append-nil records) (queue_records_go_on records Restart start told)

    pub store_tells : StoreTells ttls kept (Restart ∷ start)
    store_tells = subst (λ (ss : List StoreRecord). StoreTells ttls ss (Restart ∷ start)) (append-nil kept) (store_records_go_on ttls kept Restart start now.store)

    pub pending_is : pending_after records [] ≡ pending_of (Restart ∷ start)
    pending_is = records_lead_to_the_pending ttls records start now.legal now.few told

    below_before : (m : Option ℕ) → TellsMissing m queued kept → AreBelow (last_receipt start + 1) (pending_after (written m queued) []) → AreBelow (last_receipt start + 1) (pending_after queued [])
    below_before None t below = below
    below_before (Some r) t below =
        below_too (last_receipt start + 1) r (pending_after queued []) (applied_below ttls start stands.legal r (taken_was_applied ttls kept start r stands.legal stands.store t.0))
        (subst (AreBelow (last_receipt start + 1)) (pending_joined queued (queue.Done r ∷ []) []) below)

    last_is : (most : ℕ) → IsGreatest (last_after queued 0) (pending_after queued []) most → most ≡ last_receipt start
    last_is most greatest =
        let last : last_after queued 0 ≡ last_receipt start = sym (last_written missing queued) ∙ records_lead_to_the_last_receipt records start told in
        let now_below : AreBelow (last_receipt start + 1) (pending_after records []) = subst (AreBelow (last_receipt start + 1)) (sym pending_is) (pending_below ttls (Restart ∷ start) restarted.legal) in
        let least = greatest.most (last_receipt start) (omega (arith, last)) (below_before missing tells now_below) in
        omega (arith, last, greatest.least, least)

    pub is_held : (held : Held) (count : ℕ) → held.table ≡ table_after kept (empty_table ttls) → held.pending ≡ pending_after records [] → held.dead ≡ dead_after queued [] []
        → IsGreatest (last_after queued 0) (pending_after queued []) held.last → IsHeld held count (Restart ∷ start)
    is_held held count table pending dead last =
        let whole : held.table ≡ table_of ttls (trace_of start) = table ∙ records_lead_to_the_table ttls kept start now.legal now.store in
        let same : held.table.ttls ≡ ttls = ap (λ (t : Table). t.ttls) whole in
        record {
          plain = subst (λ (t : Ttls). IsPlain t (Restart ∷ start)) (sym same) (record { legal = restarted.legal; few = restarted.few; at_once = restarted.at_once });
          pending = pending ∙ pending_is;
          dead = dead ∙ sym (dead_written missing queued) ∙ records_lead_to_the_discards ttls records start now.legal now.few now.at_once told ∙ sym (others_discard_nothing ttls Restart start restarted.legal tt);
          tables = (legal_histories_have_traces ttls start now.legal, whole ∙ ap (λ (t : Ttls). table_of t (trace_of start)) (sym same));
          last = last_is held.last last;
          after_fails = tt;
        }
