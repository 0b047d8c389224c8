-- What is held in memory goes on with the events of the history.
use Rattle.std.proofs.Common.{◌≡◌, ◌∙◌, inr, ℕ, suc, ◌+◌, ◌<◌, ◌≤◌, ◌==◌, ℤ, List, [], ◌∷◌, ◌++◌, length, arith, add-one, refl, sym, ap, subst, true, false, Some, Result, Ok, Err}
use Rattle.std.specs.List.{flat_map}
use Rattle.std.specs.Option.{option_map}
use Rattle.std.proofs.lemmas.List.{append-nil}
use Rattle.supersede_core.specs.fleet_rows.declared.change.Change.{Change}
use Rattle.supersede_core.specs.fleet_rows.declared.command.Command.{Command}
use Rattle.supersede_core.specs.fleet_rows.declared.refusal.Cause.TheVariants.{Refused, Failures}
use Rattle.supersede_core.specs.fleet_rows.declared.refusal.Refusal.{Refusal}
use Rattle.supersede_core.specs.fleet_rows.declared.settings.Kinds.{Kinds}
use Rattle.supersede_core.specs.fleet_rows.declared.settings.Ttls.{Ttls}
use Rattle.supersede_core.specs.history_spec.Lawful.{HasStamp}
use Rattle.supersede_core.specs.history_spec.Trace.{Trace, IsTrace, applied, applied_as, swept}
use Rattle.fleet_tables.specs.table_machine.Table.{Table}
use Rattle.fleet_tables.specs.Stands as sheets
use Rattle.retry_discard.specs.core_spec.declared.entry.Entry.{Entry}
use Rattle.retry_discard.specs.core_spec.declared.event.Event.{Event}
use Rattle.retry_discard.specs.core_spec.declared.event.Event.TheVariants.{Submit, Claim, Release, Apply, Supersede, Fail, Discard, Sweep, Restart}
use Rattle.retry_discard.specs.core_spec.Commands.{answer_of}
use Rattle.retry_discard.specs.core_spec.Discards.{dead_of, put_dead}
use Rattle.retry_discard.specs.core_spec.History.{History, last_receipt, command, answer, claimed, queued, standing, fails, with_applied, trace_of}
use Rattle.retry_discard.specs.core_spec.Legal.{IsLegal, Rises, IsAfterFails}
use Rattle.retry_discard.specs.core_spec.Pending.{pending_of}
use Rattle.compact_laws.specs.core_machine.Claims.{attempts_of}
use Rattle.compact_laws.specs.core_machine.Steps.{marked, failed, at_receipt, left_by, new_entry, added_by, pending_step}
use Rattle.compact_laws.proofs.of_core_machine.PendingSteps.{pending_is_followed}
use Rattle.compact_laws.specs.core_laws.Discards.{IsNoDiscard}
use Rattle.compact_laws.specs.core_laws.StandingLaws.{IsPlain}
use Rattle.compact_laws.proofs.of_core_laws.DiscardSteps.{discards_are_put, others_discard_nothing}
use Rattle.compact_laws.proofs.of_core_laws.Traces.{legal_histories_have_traces}
use Rattle.core_state.specs.Seen.{Held}
use Rattle.core_state.specs.StandsFor.{IsHeld}
use Rattle.core_state.proofs.PlainHistories.{KeepsFew, plain_with, given_up_pending, plain_given_up}
use Rattle.core_state.proofs.Tests.{attempts_are}
use Rattle.fleet_tables.specs.fleet_rows.json_tree.Limits.{most_payload}

-- a count of faults only rises
pub later_fails : (n m : ℕ) (history : History) → n ≤ m → IsAfterFails n history → IsAfterFails m history
later_fails n m [] l h = tt
later_fails n m (Submit r c ∷ history) l h = later_fails n m history l h
later_fails n m (Claim r ∷ history) l h = later_fails n m history l h
later_fails n m (Release r ∷ history) l h = later_fails n m history l h
later_fails n m (Apply r t ∷ history) l h = later_fails n m history l h
later_fails n m (Supersede q p ∷ history) l h = later_fails n m history l h
later_fails n m (Fail r b a ∷ history) l h = (omega (arith, l, h.0), later_fails n m history l h.1)
later_fails n m (Discard r c ∷ history) l h = later_fails n m history l h
later_fails n m (Sweep k t ∷ history) l h = later_fails n m history l h
later_fails n m (Restart ∷ history) l h = tt

abbrev lifetimes : Table → Ttls
lifetimes table = table.ttls

-- what is held besides the tables stays, and so does the history
pub still_held : (old new : Held) (count now : ℕ) (history : History) → count ≤ now → new.table ≡ old.table → new.pending ≡ old.pending → new.dead ≡ old.dead → new.last ≡ old.last → IsHeld old count history → IsHeld new now history
still_held old new count now history later t p d l is = record {
  plain = subst (λ (ts : Ttls). IsPlain ts history) (sym (ap lifetimes t)) is.plain;
  pending = p ∙ is.pending;
  dead = d ∙ is.dead;
  tables = subst (λ (x : Table). sheets.Stands x (trace_of history)) (sym t) is.tables;
  last = l ∙ is.last;
  after_fails = later_fails count now history later is.after_fails;
}

module _ (old : Held) (count : ℕ) (history : History) (is : IsHeld old count history) where
  abbrev ttls : Ttls
  ttls = old.table.ttls

  few_of : (e : Event) → KeepsFew e old.pending → KeepsFew e (pending_of history)
  few_of e keeps = subst (KeepsFew e) is.pending keeps

  -- one event more
  pub one_held : (e : Event) (new : Held) (now : ℕ) → IsLegal ttls (e ∷ history) → KeepsFew e old.pending → lifetimes new.table ≡ ttls → new.pending ≡ pending_step e old.pending → new.dead ≡ dead_of (e ∷ history)
      → sheets.Stands new.table (trace_of (e ∷ history)) → new.last ≡ last_receipt (e ∷ history) → IsAfterFails now (e ∷ history) → IsHeld new now (e ∷ history)
  one_held e new now legal keeps same p d t l f = record {
    plain = subst (λ (ts : Ttls). IsPlain ts (e ∷ history)) (sym same) (plain_with ttls history is.plain e legal (few_of e keeps));
    pending = p ∙ ap (pending_step e) is.pending ∙ pending_is_followed ttls e history legal;
    dead = d;
    tables = t;
    last = l;
    after_fails = f;
  }

  -- an event that changes neither the tables nor what was given up
  pub one_entry : (e : Event) (new : Held) (now : ℕ) → IsLegal ttls (e ∷ history) → IsNoDiscard e → KeepsFew e old.pending → trace_of (e ∷ history) ≡ trace_of history → IsAfterFails now (e ∷ history)
      → new.table ≡ old.table → new.pending ≡ pending_step e old.pending → new.dead ≡ old.dead → new.last ≡ last_receipt (e ∷ history) → IsHeld new now (e ∷ history)
  one_entry e new now legal no_discard keeps trace f t p d l =
      one_held e new now legal keeps (ap lifetimes t) p (d ∙ is.dead ∙ sym (others_discard_nothing ttls e history legal no_discard))
      (subst (λ (x : Table). sheets.Stands x (trace_of (e ∷ history))) (sym t) (subst (sheets.Stands old.table) (sym trace) is.tables)) l f

  -- a command comes in
  undone : (es : List Entry) → flat_map (λ e. e ∷ []) es ≡ es
  undone [] = refl
  undone (e ∷ es) = ap (λ fs. e ∷ fs) (undone es)

  pub submit_held : (r : ℕ) (c : Command) (new : Held) (now : ℕ) → r ≡ old.last + 1 → length c.payload ≤ most_payload → HasStamp c.received → count ≤ now
      → new.table ≡ old.table → new.pending ≡ old.pending ++ new_entry r c ∷ [] → new.dead ≡ old.dead → new.last ≡ r → IsHeld new now (Submit r c ∷ history)
  submit_held r c new now next payload received later t p d l =
      let legal : IsLegal ttls (Submit r c ∷ history) = (record { receipt = next ∙ add-one old.last ∙ ap suc is.last; payload = payload; received = received }, is.plain.legal) in
      one_entry (Submit r c) new now legal tt tt refl (later_fails count now history later is.after_fails) t (p ∙ ap (λ fs. fs ++ new_entry r c ∷ []) (sym (undone old.pending))) d l

  -- an event of which no record is left but that the entry of its receipt changes
  pub changed_held : (e : Event) (new : Held) (now : ℕ) → IsLegal ttls (e ∷ history) → IsNoDiscard e → KeepsFew e old.pending → trace_of (e ∷ history) ≡ trace_of history → added_by e ≡ [] → last_receipt (e ∷ history) ≡ last_receipt history
      → IsAfterFails now (e ∷ history) → new.table ≡ old.table → new.pending ≡ flat_map (left_by e) old.pending → new.dead ≡ old.dead → new.last ≡ old.last → IsHeld new now (e ∷ history)
  changed_held e new now legal no_discard keeps trace none same f t p d l =
      one_entry e new now legal no_discard keeps trace f t (p ∙ sym (ap (λ (xs : List Entry). flat_map (left_by e) old.pending ++ xs) none ∙ append-nil (flat_map (left_by e) old.pending))) d (l ∙ is.last ∙ sym same)

  pub release_held : (r : ℕ) (new : Held) (now : ℕ) → standing r history ≡ claimed → count ≤ now → new.table ≡ old.table → new.pending ≡ flat_map (at_receipt r (λ e. marked false e ∷ [])) old.pending → new.dead ≡ old.dead → new.last ≡ old.last → IsHeld new now (Release r ∷ history)
  release_held r new now s later t p d l = changed_held (Release r) new now (s, is.plain.legal) tt tt refl refl refl (later_fails count now history later is.after_fails) t p d l

  -- a claimed command, and what it decodes to
  module _ (r : ℕ) (c : Command) (s : standing r history ≡ claimed) (submitted : command r history ≡ Some c) where
    answered : (a : Result Change Refusal) → answer_of c ≡ a → answer r history ≡ Some a
    answered a e = ap (option_map answer_of) submitted ∙ ap (λ b. Some b) e

    pub apply_is_legal : (change : Change) → answer_of c ≡ Ok change → IsLegal ttls (Apply r (Some c.received) ∷ history)
    apply_is_legal change e = (record { command_is = c; change = change; claimed = s; submitted = submitted; decodes = answered (Ok change) e; received = inr refl }, is.plain.legal)

    pub applied_trace : (change : Change) → answer_of c ≡ Ok change → trace_of (Apply r (Some c.received) ∷ history) ≡ applied (applied_as r (Some c.received) change) ∷ trace_of history
    applied_trace change e = ap (λ o. with_applied r (Some c.received) o (trace_of history)) (answered (Ok change) e)

    -- it is applied
    pub apply_held : (change : Change) (new : Held) (now : ℕ) → answer_of c ≡ Ok change → count ≤ now → lifetimes new.table ≡ ttls
        → ((trace : Trace) → sheets.Stands old.table trace → IsTrace (applied (applied_as r (Some c.received) change) ∷ trace) → sheets.Stands new.table (applied (applied_as r (Some c.received) change) ∷ trace))
        → new.pending ≡ flat_map (at_receipt r (λ e. [])) old.pending → new.dead ≡ old.dead → new.last ≡ old.last → IsHeld new now (Apply r (Some c.received) ∷ history)
    apply_held change new now e later same stands p d l =
        let event = Apply r (Some c.received) in
        let legal = apply_is_legal change e in
        let trace = applied_trace change e in
        let is_trace : IsTrace (applied (applied_as r (Some c.received) change) ∷ trace_of history) = subst IsTrace trace (legal_histories_have_traces ttls (event ∷ history) legal) in
        one_held event new now legal tt same (p ∙ sym (append-nil (flat_map (left_by event) old.pending))) (d ∙ is.dead ∙ sym (others_discard_nothing ttls event history legal tt))
        (subst (sheets.Stands new.table) (sym trace) (stands (trace_of history) is.tables is_trace)) (l ∙ is.last) (later_fails count now history later is.after_fails)

    -- it is refused
    pub refused_is_legal : (refusal : Refusal) → answer_of c ≡ Err refusal → IsLegal ttls (Discard r (Refused refusal) ∷ history)
    refused_is_legal refusal e = ((s, answered (Err refusal) e), is.plain.legal)

    pub refuse_held : (refusal : Refusal) (new : Held) (now : ℕ) → answer_of c ≡ Err refusal → count ≤ now → new.table ≡ old.table
        → new.pending ≡ flat_map (at_receipt r (λ e. [])) old.pending → new.dead ≡ put_dead (record { receipt = r; command = c; cause = Refused refusal }) old.dead → new.last ≡ old.last → IsHeld new now (Discard r (Refused refusal) ∷ history)
    refuse_held refusal new now e later t p d l =
        let event = Discard r (Refused refusal) in
        let legal = refused_is_legal refusal e in
        one_held event new now legal tt (ap lifetimes t) (p ∙ sym (append-nil (flat_map (left_by event) old.pending)))
        (d ∙ ap (put_dead (record { receipt = r; command = c; cause = Refused refusal })) is.dead ∙ sym (discards_are_put ttls r c (Refused refusal) history legal submitted))
        (subst (λ (x : Table). sheets.Stands x (trace_of history)) (sym t) is.tables) (l ∙ is.last) (later_fails count now history later is.after_fails)

    -- the store fails at it
    pub fail_is_legal : (now : ℕ) → Rises count now → IsLegal ttls (Fail r count now ∷ history)
    fail_is_legal now rises = ((s, rises, is.after_fails), is.plain.legal)

    pub fail_held : (new : Held) (now : ℕ) → Rises count now → count ≤ now → attempts_of r old.pending < 15 → new.table ≡ old.table
        → new.pending ≡ flat_map (at_receipt r (λ e. failed e ∷ [])) old.pending → new.dead ≡ old.dead → new.last ≡ old.last → IsHeld new now (Fail r count now ∷ history)
    fail_held new now rises later few t p d l =
        changed_held (Fail r count now) new now (fail_is_legal now rises) tt few refl refl refl (omega arith, later_fails count now history later is.after_fails) t p d l

    itself : (n : ℕ) → (n == n) ≡ true
    itself n = grind arith

    fails_now : (now : ℕ) → fails r (Fail r count now ∷ history) ≡ suc (fails r history)
    fails_now now = rw (itself r) refl

    queued_now : (now : ℕ) → standing r (Fail r count now ∷ history) ≡ queued
    queued_now now = rw (itself r) refl

    -- how often it failed then
    pub attempts_now : (now : ℕ) → fails r (Fail r count now ∷ history) ≡ suc (attempts_of r old.pending)
    attempts_now now = fails_now now ∙ ap suc (sym (attempts_are ttls history is.plain.legal old.pending is.pending r s))

    -- and is given up
    pub give_up_is_legal : (now : ℕ) → Rises count now → attempts_of r old.pending ≡ 15 → IsLegal ttls (Discard r Failures ∷ Fail r count now ∷ history)
    give_up_is_legal now rises sixteenth = ((queued_now now, attempts_now now ∙ ap suc sixteenth), fail_is_legal now rises)

    pub give_up_held : (new : Held) (now : ℕ) → Rises count now → count ≤ now → attempts_of r old.pending ≡ 15 → new.table ≡ old.table
        → new.pending ≡ flat_map (at_receipt r (λ e. [])) old.pending → new.dead ≡ put_dead (record { receipt = r; command = c; cause = Failures }) old.dead → new.last ≡ old.last
        → IsHeld new now (Discard r Failures ∷ Fail r count now ∷ history)
    give_up_held new now rises later sixteenth t p d l =
        let fail = Fail r count now in
        let legal = give_up_is_legal now rises sixteenth in
        let dead_middle : dead_of (fail ∷ history) ≡ dead_of history = others_discard_nothing ttls fail history legal.1 tt in
        record {
          plain = subst (λ (ts : Ttls). IsPlain ts (Discard r Failures ∷ fail ∷ history)) (sym (ap lifetimes t)) (plain_given_up ttls history is.plain r count now legal);
          pending = p ∙ ap (flat_map (at_receipt r (λ e. []))) is.pending ∙ sym (given_up_pending ttls history is.plain r count now legal);
          dead = d ∙ ap (put_dead (record { receipt = r; command = c; cause = Failures })) (is.dead ∙ sym dead_middle) ∙ sym (discards_are_put ttls r c Failures (fail ∷ history) legal submitted);
          tables = subst (λ (x : Table). sheets.Stands x (trace_of history)) (sym t) is.tables;
          last = l ∙ is.last;
          after_fails = (omega arith, later_fails count now history later is.after_fails);
        }

  -- the tables are swept
  pub sweep_held : (kinds : Kinds) (m : ℤ) (new : Held) (now : ℕ) → HasStamp m → count ≤ now → lifetimes new.table ≡ ttls → ((trace : Trace) → sheets.Stands old.table trace → sheets.Stands new.table (swept kinds m ∷ trace))
      → new.pending ≡ old.pending → new.dead ≡ old.dead → new.last ≡ old.last → IsHeld new now (Sweep kinds m ∷ history)
  sweep_held kinds m new now stamp later same stands p d l =
      let event = Sweep kinds m in
      let legal : IsLegal ttls (event ∷ history) = (stamp, is.plain.legal) in
      one_held event new now legal tt same (p ∙ sym (undone old.pending) ∙ sym (append-nil (flat_map (left_by event) old.pending))) (d ∙ is.dead ∙ sym (others_discard_nothing ttls event history legal tt))
      (stands (trace_of history) is.tables) (l ∙ is.last) (later_fails count now history later is.after_fails)
