-- A spool that was taken in whole is one thread's work.
use Rattle.std.proofs.Common.{◌≡◌, ◌∙◌, sym, ap, subst, ℕ, ℤ, Bool, List, [], ◌∷◌, ◌++◌, Option, is_some, if◌then◌else◌}
use Rattle.fleet_hub.specs.fleet_rows.declared.settings.Ttls.{Ttls}
use Rattle.fleet_hub.specs.table_spec.Rows.{rows}
use Rattle.fleet_hub.specs.core_spec.declared.event.Event.TheVariants.{Submit, Claim, Release, Apply, Supersede, Fail, Discard, Sweep, Restart}
use Rattle.fleet_hub.specs.core_spec.History.{History, command, trace_of}
use Rattle.fleet_hub.specs.core_spec.Legal.{IsLegal}
use Rattle.fleet_hub.specs.core_spec.Pending.{pending_of}
use Rattle.fleet_hub.specs.core_spec.Thread.{one_thread}
use Rattle.fleet_hub.specs.core_laws.Outcomes.{endings}
use Rattle.fleet_hub.specs.core_laws.Threads.{dropped, PurgesAreDrained, IsSettled}
use Rattle.fleet_hub.proofs.of_core_laws.OneThread.{rows_are_those_of_one_thread}
use Rattle.fleet_hub.proofs.of_core_laws.Outcomes.{commands_end_once, all_have_ended_where_nothing_waits}
use Rattle.program_words.specs.spool_spec.Spool.{End}
use Rattle.fleet_hub.specs.core_state.declared.state.CoreState.{CoreState}
use Rattle.fleet_hub.specs.core_state.StandsFor.{history_of}
use Rattle.fleet_hub.specs.core_course.Sight.{Sight, Stood}
use Rattle.fleet_hub.proofs.of_core_course.Stretches.{history_joined}
use Rattle.spool_run.specs.Rules.{SweepsAreDrained}
use Rattle.spool_run.specs.Intake.{TookAll}
use Rattle.spool_run.specs.Laws.{IsOneThread}

-- a purge is a sweep
purges_drained : (start run : History) → SweepsAreDrained start run → PurgesAreDrained start run
purges_drained start [] h = tt
purges_drained start (Sweep kinds m ∷ run) h = (λ purge. h.0, purges_drained start run h.1)
purges_drained start (Submit r c ∷ run) h = purges_drained start run h
purges_drained start (Claim r ∷ run) h = purges_drained start run h
purges_drained start (Release r ∷ run) h = purges_drained start run h
purges_drained start (Apply r t ∷ run) h = purges_drained start run h
purges_drained start (Supersede q p ∷ run) h = purges_drained start run h
purges_drained start (Fail r before after ∷ run) h = purges_drained start run h
purges_drained start (Discard r cause ∷ run) h = purges_drained start run h
purges_drained start (Restart ∷ run) h = purges_drained start run h

-- where nothing waits, each command has one ending
ended_once : (ttls : Ttls) (history : History) (r : ℕ) → IsLegal ttls history → pending_of history ≡ [] → endings r history ≡ (if is_some (command r history) then 1 else 0)
ended_once ttls history r legal none =
    commands_end_once ttls history r legal ∙ ap (λ (b : Bool). if b then 1 else 0) (all_have_ended_where_nothing_waits ttls history r legal none)

pub whole_spool_is_one_thread : {D K : Type 0} (w : Sight D K) (now : ℤ) (bytes : Option (List ℕ)) (end : End) (old new : CoreState D K) (took : TookAll w now bytes end old new) (start : History) → Stood w old start → IsOneThread took.items old new start
whole_spool_is_one_thread w now bytes end old new took start stood =
    let t = took.took in
    let first = history_of old start in
    let joined : history_of new start ≡ t.more ++ first = history_joined t.more old new start t.passed.events in
    let after = t.passed.stands start stood in
    let legal : IsLegal old.tables.ttls (history_of new start) = subst (λ (ttls : Ttls). IsLegal ttls (history_of new start)) t.passed.opening.lifetimes after.holds.says.plain.legal in
    let none : pending_of (history_of new start) ≡ [] = sym after.holds.says.pending ∙ took.nothing in
    let rules = t.rules start stood in
    let settled : IsSettled old.tables.ttls first t.more = record {
      legal = subst (IsLegal old.tables.ttls) joined legal;
      moments = rules.moments;
      purges = purges_drained first t.more rules.drained;
      all = ap pending_of (sym joined) ∙ none;
    } in
    record {
      more = t.more;
      goes_on = joined;
      items_are = t.items_are;
      rows_are = λ entity.
          ap (λ h. rows entity old.tables.ttls (trace_of h)) joined ∙ rows_are_those_of_one_thread entity old.tables.ttls first t.more settled
          ∙ ap (λ its. rows entity old.tables.ttls (one_thread first its (dropped t.more))) t.items_are;
      once = λ r. ended_once old.tables.ttls (history_of new start) r legal none;
    }
