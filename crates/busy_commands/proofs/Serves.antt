-- Serving over a core that stands for histories, and behind a run.
use Rattle.std.proofs.Common.{◌≡◌, ◌∙◌, inl, inr, ⊎_elim, ℕ, ℤ, List, [], ◌∷◌, ◌++◌, refl, sym, ap, subst}
use Rattle.spool_run.specs.fleet_ports.Counts.{Counts}
use Rattle.spool_run.specs.fleet_ports.declared.disk.Disks.{Disks}
use Rattle.spool_run.specs.fleet_rows.declared.settings.Ttls.{Ttls}
use Rattle.spool_run.specs.fleet_tables.Stands.{Stands}
use Rattle.spool_run.specs.history_spec.Trace.{Trace}
use Rattle.spool_run.specs.fleet_hub.queue_records.Reading.{queue_at}
use Rattle.spool_run.specs.fleet_hub.store_records.Reading.{store_at}
use Rattle.spool_run.specs.fleet_hub.core_spec.declared.event.Event.TheVariants.{Restart}
use Rattle.spool_run.specs.fleet_hub.core_spec.History.{History, trace_of}
use Rattle.spool_run.specs.fleet_hub.fleet_keeper.Pairs.{records_at}
use Rattle.spool_run.specs.fleet_hub.core_state.StandsFor.{StandsAt, history_of}
use Rattle.spool_run.specs.fleet_hub.core_opening.Opened.{LogCore, FilesStand, disks_in}
use Rattle.spool_run.specs.fleet_hub.core_course.Sight.{Stood, is_down}
use Rattle.spool_run.specs.fleet_hub.core_course.Courses.{Passed}
use Rattle.spool_run.proofs.of_core_course.Stretches.{history_joined}
use Rattle.core_inbox.specs.link_serving.means_spec.OutRows.{lines_text}
use Rattle.core_inbox.specs.link_serving.means_spec.World.{world_of}
use Rattle.core_inbox.specs.link_serving.declared.end.ServeEnd.{ServeEnd}
use Rattle.core_inbox.specs.link_serving.declared.end.ServeEnd.TheVariants.{Done, FrontFault}
use Rattle.core_inbox.specs.Intake.{came_in}
use Rattle.program_words.specs.declared.request.Serving.{Serving}
use Rattle.spool_run.specs.calm_commands.declared.status.Status.{Status}
use Rattle.spool_run.specs.calm_commands.declared.status.Status.TheVariants as status
use Rattle.spool_run.specs.calm_commands.Told.{Stream}
use Rattle.spool_run.specs.calm_commands.Openings.{DiskSight, ForEachHistory, OpensTo, IsOpeningEnd}
use Rattle.spool_run.specs.Runs.{DisksLeft, log_sight, IsRun, LeavesOpen, RunsCore}
use Rattle.busy_commands.specs.Serving.{FrontAndPatterns, ServesWorld, handed_in, ServesHistory, CoreStands, end_status, ServesBehind, IsRunAndServing}
use Rattle.busy_commands.specs.Serving as so

-- ---- a core stands for what the files stood for

module _ {D : Type 0} (w : DiskSight D) (disks : Disks D) where
  pub opened_stands : (opened : LogCore D) → OpensTo w disks opened → CoreStands w disks opened []
  opened_stands opened opens told ttls start files =
      let before = opens.stands_for told ttls start files in
      (before.0, before.1, ap (λ (h : History). h ++ start) opens.events)

  passed_stands : (opened ended : LogCore D) (more : History) → OpensTo w disks opened → Passed (log_sight w) more opened ended → CoreStands w disks ended more
  passed_stands opened ended more opens passed told ttls start files =
      let before = opened_stands opened opens told ttls start files in (
        passed.opening.lifetimes ∙ before.0,
        passed.stands start before.1,
        history_joined more opened ended start passed.events ∙ ap (λ (h : History). more ++ h) before.2,
      )

  -- behind a run
  pub left_stands : (now : ℤ) (spool out out_after : Stream) (left : LogCore D) (leaves : LeavesOpen w now spool out out_after disks left) → CoreStands w disks left leaves.ran.more
  left_stands now spool out out_after left leaves =
      let ran = leaves.ran.ran in
      subst (λ (c : LogCore D). CoreStands w disks c leaves.ran.more) (sym leaves.left_is) (passed_stands ran.opened ran.ended leaves.ran.more ran.opens ran.passed)

-- ---- the disks of a core that stands for a history

module _ {D : Type 0} (w : DiskSight D) (left : LogCore D) (ttls : Ttls) (start to : History) (stood : Stood (log_sight w) left start) (lives : left.tables.ttls ≡ ttls) (is : history_of left start ≡ to) where
  stands_so : (qa qb sa sb : List ℕ) (from upto : History) → from ≡ upto → StandsAt left.tables.ttls (records_at queue_at qa qb) (records_at store_at sa sb) from → FilesStand ttls qa qb sa sb upto
  stands_so qa qb sa sb from upto same at =
      subst (λ (t : Ttls). StandsAt t (records_at queue_at qa qb) (records_at store_at sa sb) upto) lives
      (subst (λ (h : History). StandsAt left.tables.ttls (records_at queue_at qa qb) (records_at store_at sa sb) h) same at)

  pub disks_left : DisksLeft w ttls (is_down (log_sight w) left) (disks_in left) to
  disks_left =
      let images = stood.disks in
      record {
        begun = images.begun;
        of_one = images.of_one;
        each = λ qa qb sa sb ia ib ja jb.
            ⊎_elim (λ here. inl (stands_so qa qb sa sb (history_of left start) to is here))
            (λ amid. inr (amid.0, stands_so qa qb sa sb (images.begun ++ history_of left start) (images.begun ++ to) (ap (λ (h : History). images.begun ++ h) is) amid.1))
            (images.each (records_at queue_at qa qb) (records_at store_at sa sb) (qa, qb, ia, ib, refl) (sa, sb, ja, jb, refl));
      }

-- ---- links that were served

module _ {D : Type 0} (w : DiskSight D) (now : ℤ) (links : ℕ) (end : ServeEnd) (before after : FrontAndPatterns) (found left : LogCore D) where
  -- over the tables of a history
  abbrev pub ServesTrace : Ttls → Trace → Type 0
  ServesTrace ttls trace = ServesWorld w now links before after found left (world_of ttls trace before.patterns.says) lines_text end

  one_history : (ttls : Ttls) (start history : History) → found.tables.ttls ≡ ttls → Stood (log_sight w) found start → history_of found start ≡ history → ServesTrace ttls (trace_of history)
      → ServesHistory w now links before after found left ttls history end
  one_history ttls start history lives stood is serves =
      let asked = handed_in w now links before after found left (world_of ttls (trace_of history) before.patterns.says) lines_text end serves in
      let passed = serves.came.passed in
      record {
        serves = serves;
        leaves = disks_left w left ttls start (came_in asked ++ history) (passed.stands start stood) (passed.opening.lifetimes ∙ lives)
            (history_joined (came_in asked) found left start passed.events ∙ ap (λ (h : History). came_in asked ++ h) is);
      }

  pub each_history : (disks : Disks D) (more : History) → CoreStands w disks found more → ((trace : Trace) → Stands found.tables trace → ServesTrace found.tables.ttls trace)
      → ForEachHistory w disks (λ ttls start. ServesHistory w now links before after found left ttls (more ++ Restart ∷ start) end)
  each_history disks more stands serves told ttls start files =
      let it = stands told ttls start files in
      let history : History = more ++ Restart ∷ start in
      let tables : Stands found.tables (trace_of history) = subst (λ (h : History). Stands found.tables (trace_of h)) it.2 it.1.holds.says.tables in
      one_history ttls start history it.0 it.1 it.2 (subst (λ (t : Ttls). ServesTrace t (trace_of history)) it.0 (serves (trace_of history) tables))

-- ---- counts

fault_is : (end : ServeEnd) → end_status end ≡ status.ListenFault → end ≡ FrontFault
fault_is Done is = (let apart : status.Done ≡ status.ListenFault = is in absurd (cc))
fault_is FrontFault is = refl

pub front_cause : (before after : ℕ) (end : ServeEnd) (answer : Status) → answer ≡ end_status end → Counts before after (end ≡ FrontFault) → Counts before after (answer ≡ status.ListenFault)
front_cause before after end answer is counts = record {
  later = counts.later;
  cause = λ fault. counts.cause (fault_is end (sym is ∙ fault));
  calm = λ none. counts.calm (λ fault. none (is ∙ ap end_status fault));
}

-- a front that didn't listen counted it
pub deaf_cause : {Fails : Type 0} (before after : ℕ) → Fails → Counts before after Fails → Counts before after (status.ListenFault ≡ status.ListenFault)
deaf_cause before after fails counts = record {
  later = counts.later;
  cause = λ fault. counts.cause fails;
  calm = λ none. absurd (none refl);
}

-- ---- behind a run

-- an opening that fails doesn't end so
pub never_done : (answer : Status) → IsOpeningEnd answer → answer ≡ status.Done → ⊥
never_done answer ends done = subst IsOpeningEnd done ends

pub served_run : {D : Type 0} (w : DiskSight D) (now : ℤ) (serving : Serving) (spool spool_after out out_after : Stream) (before after : FrontAndPatterns) (disks disks_after : Disks D) (found : LogCore D) (ran answer : Status)
    → RunsCore w now spool spool_after out out_after disks found ran → ServesBehind w now serving before after found ran disks_after answer
    → IsRunAndServing w now serving spool spool_after out out_after before after disks disks_after answer
served_run {D} w now serving spool spool_after out out_after before after disks disks_after found ran answer run (so.stopped not is same kept) =
    so.stops (λ done. not (sym is ∙ done))
    (subst (λ (x : Disks D). IsRun w now spool spool_after out out_after disks x answer) (sym same) (subst (λ (s : Status). IsRun w now spool spool_after out out_after disks (disks_in found) s) (sym is) run.run)) kept
served_run w now serving spool spool_after out out_after before after disks disks_after found ran answer run (so.went_on done serves) =
    let leaves = run.leaves done in
    so.goes_on found (subst (λ (s : Status). IsRun w now spool spool_after out out_after disks (disks_in found) s) done run.run) leaves
    (serves disks leaves.ran.more (left_stands w disks now spool out out_after found leaves))
