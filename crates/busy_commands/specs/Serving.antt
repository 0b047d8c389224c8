-- What serving does to a core, to its disks, to the listener and to the patterns.
use Rattle.std.specs.Prelude.{◌≡◌, ℕ, ℤ, List, [], ◌∷◌, ◌++◌, Option, Some}
use Rattle.spool_run.specs.fleet_ports.Counts.{Counts}
use Rattle.spool_run.specs.fleet_ports.declared.disk.Disks.{Disks}
use Rattle.spool_run.specs.fleet_rows.declared.settings.Ttls.{Ttls}
use Rattle.spool_run.specs.fleet_hub.core_spec.declared.event.Event.TheVariants.{Restart}
use Rattle.spool_run.specs.fleet_hub.core_spec.History.{History, trace_of}
use Rattle.spool_run.specs.fleet_hub.core_state.StandsFor.{history_of}
use Rattle.spool_run.specs.fleet_hub.core_opening.Opened.{LogCore, disks_in}
use Rattle.spool_run.specs.fleet_hub.core_course.Sight.{Stood, is_down}
use Rattle.core_inbox.specs.link_serving.means_spec.OutRows.{OutRows, lines_text}
use Rattle.core_inbox.specs.link_serving.means_spec.World as meant
use Rattle.core_inbox.specs.link_serving.means_spec.World.{World}
use Rattle.core_inbox.specs.link_serving.paging_text.Shown.{written_text}
use Rattle.core_inbox.specs.link_serving.query_engine.Tables as table
use Rattle.core_inbox.specs.link_serving.http_routes.Course.{Outside, outside}
use Rattle.core_inbox.specs.link_serving.front_port.Links.{Given}
use Rattle.core_inbox.specs.link_serving.declared.end.ServeEnd.{ServeEnd}
use Rattle.core_inbox.specs.link_serving.declared.end.ServeEnd.TheVariants.{Done, FrontFault}
use Rattle.core_inbox.specs.link_serving.Serving.{FrontSeen, front_seen}
use Rattle.core_inbox.specs.Submits.{CoreTakes}
use Rattle.core_inbox.specs.Intake.{Asked, came_in, asked_in, ServesCore}
use Rattle.program_words.specs.declared.request.Serving.{Serving}
use Rattle.spool_run.specs.calm_commands.declared.status.Status.{Status}
use Rattle.spool_run.specs.calm_commands.declared.status.Status.TheVariants as status
use Rattle.spool_run.specs.calm_commands.Told.{Stream}
use Rattle.spool_run.specs.calm_commands.Rows.{PatternSight}
use Rattle.spool_run.specs.calm_commands.Openings.{DiskSight, ForEachHistory, OpensTo, IsUnopened}
use Rattle.spool_run.specs.Runs.{DisksLeft, log_sight, IsSoundCore, IsRun, LeavesOpen}

-- ---- the listener and the patterns

-- a listener at one moment: the port that it listens to, its connections, and its fault count
pub record FrontSight : Type 0 where
  pub listens : Option ℕ
  pub seen : FrontSeen
  pub faults : ℕ

abbrev pub front_sight : Option ℕ → Option (List (List ℕ)) → ℕ → List Given → ℕ → FrontSight
front_sight listens left handed_out given_back faults = record { listens = listens; seen = front_seen left handed_out given_back; faults = faults }

-- a listener and a pattern reader
pub record FrontAndPatterns : Type 0 where
  pub front : FrontSight
  pub patterns : PatternSight

abbrev pub front_and_patterns : FrontSight → PatternSight → FrontAndPatterns
front_and_patterns front patterns = record { front = front; patterns = patterns }

-- what a served connection finds: the core, and the patterns that were read before
abbrev pub as_links_see : {D : Type 0} → LogCore D → FrontAndPatterns → Outside (LogCore D)
as_links_see core there = outside core there.patterns.asked there.patterns.refusals

-- ---- connections

-- Connections were served over this world, whose rows are printed by `print`. The commands that got a receipt came into the core.
abbrev pub ServesWorld : {D : Type 0} → DiskSight D → ℤ → ℕ → FrontAndPatterns → FrontAndPatterns → LogCore D → LogCore D → World → (OutRows → List ℕ) → ServeEnd → Type 0
ServesWorld w now links before after found left world print end =
    ServesCore (log_sight w) world print now end links before.front.seen after.front.seen (as_links_see found before) (as_links_see left after)

-- the commands that were posted on these connections, and their answers
abbrev pub handed_in : {D : Type 0} → (w : DiskSight D) (now : ℤ) (links : ℕ) (before after : FrontAndPatterns) (found left : LogCore D) (world : World) (print : OutRows → List ℕ) (end : ServeEnd)
    → ServesWorld w now links before after found left world print end → List Asked
handed_in w now links before after found left world print end it =
    asked_in (CoreTakes (log_sight w)) world print now end links before.front.seen after.front.seen (as_links_see found before) (as_links_see left after) it.front

-- The connections were served over the tables of this history, as the definition of a query's meaning has them. Exactly the
-- commands that got a receipt were added to it, in that order. Each image of the disks stands for the result. If the queue went
-- down, an image may also include one more record; `came.course` of `serves` says which.
pub record ServesHistory {D : Type 0} (w : DiskSight D) (now : ℤ) (links : ℕ) (before after : FrontAndPatterns) (found left : LogCore D) (ttls : Ttls) (history : History) (end : ServeEnd) : Type 0 where
  pub serves : ServesWorld w now links before after found left (meant.world_of ttls (trace_of history) before.patterns.says) lines_text end
  pub leaves : DisksLeft w ttls (is_down (log_sight w) left) (disks_in left)
      (came_in (handed_in w now links before after found left (meant.world_of ttls (trace_of history) before.patterns.says) lines_text end serves) ++ history)

-- ---- how serving ended

abbrev pub end_status : ServeEnd → Status
end_status Done = status.Done
end_status FrontFault = status.ListenFault

-- Nothing was served, and the status is ListenFault. Or connections were served on the port that was asked for, over the tables
-- as they are. So they were served over those of each history that the files stood for, as they were read, with these events.
pub data ServesSo {D : Type 0} (w : DiskSight D) (now : ℤ) (serving : Serving) (before after : FrontAndPatterns) (disks : Disks D) (more : History) (found left : LogCore D) (answer : Status) : Type 0 where
  deaf : answer ≡ status.ListenFault → after.front.listens ≡ before.front.listens → after.front.seen ≡ before.front.seen → after.patterns ≡ before.patterns → left ≡ found
      → ServesSo w now serving before after disks more found left answer
  heard : (end : ServeEnd) → answer ≡ end_status end → after.front.listens ≡ Some serving.port
      → ServesWorld w now serving.links before after found left (table.world_of found.tables before.patterns.says) written_text end
      → ForEachHistory w disks (λ ttls start. ServesHistory w now serving.links before after found left ttls (more ++ Restart ∷ start) end)
      → ServesSo w now serving before after disks more found left answer

-- The disks are those of a core that is sound. The end is ListenFault exactly if the listener counted a fault, or its count
-- stands at 2^64 - 1. Other faults don't end the serving.
pub record ServedOn {D : Type 0} (w : DiskSight D) (now : ℤ) (serving : Serving) (before after : FrontAndPatterns) (disks : Disks D) (more : History) (found : LogCore D) (disks_after : Disks D) (answer : Status) : Type 0 where
  pub left : LogCore D
  pub so : ServesSo w now serving before after disks more found left answer
  pub sound : IsSoundCore w left
  pub disks_are : disks_after ≡ disks_in left
  pub same : (pattern string : List ℕ) → after.patterns.says pattern string ≡ before.patterns.says pattern string
  pub cause : Counts before.front.faults after.front.faults (answer ≡ status.ListenFault)

-- ---- the core before serving

-- The core stands for each history that the files stood for, as they were read, with a restart and these events.
abbrev pub CoreStands : {D : Type 0} → DiskSight D → Disks D → LogCore D → History → Type 0
CoreStands w disks core more =
    ForEachHistory w disks (λ ttls start. (core.tables.ttls ≡ ttls) × Stood (log_sight w) core start × (history_of core start ≡ more ++ Restart ∷ start))

-- What serving over this core does. The caller names the disks that it was opened over, and the events since.
abbrev pub ServesOver : {D : Type 0} → DiskSight D → ℤ → Serving → FrontAndPatterns → FrontAndPatterns → LogCore D → Disks D → Status → Type 0
ServesOver {D} w now serving before after found disks_after answer =
    (disks : Disks D) (more : History) → CoreStands w disks found more → ServedOn w now serving before after disks more found disks_after answer

-- After a run that ended so. Unless that is Done, nothing was served, and the disks are those of the core that the run left.
pub data ServesBehind {D : Type 0} (w : DiskSight D) (now : ℤ) (serving : Serving) (before after : FrontAndPatterns) (found : LogCore D) (ran : Status) (disks_after : Disks D) (answer : Status) : Type 0 where
  stopped : (ran ≡ status.Done → ⊥) → answer ≡ ran → disks_after ≡ disks_in found → after ≡ before → ServesBehind w now serving before after found ran disks_after answer
  went_on : ran ≡ status.Done → ServesOver w now serving before after found disks_after answer → ServesBehind w now serving before after found ran disks_after answer

-- A run ended, and nothing was served. Or it ended at Done with its summary printed, and connections were served over the core
-- that it left. That core's history has the run's events after each history that the files stood for. These events are those of
-- `leaves`, whose rows are those of one thread.
pub data IsRunAndServing {D : Type 0} (w : DiskSight D) (now : ℤ) (serving : Serving) (spool spool_after out out_after : Stream) (before after : FrontAndPatterns) (disks disks_after : Disks D) (answer : Status) : Type 0 where
  stops : (answer ≡ status.Done → ⊥) → IsRun w now spool spool_after out out_after disks disks_after answer → after ≡ before
      → IsRunAndServing w now serving spool spool_after out out_after before after disks disks_after answer
  goes_on : (found : LogCore D) → IsRun w now spool spool_after out out_after disks (disks_in found) status.Done → (leaves : LeavesOpen w now spool out out_after disks found)
      → ServedOn w now serving before after disks leaves.ran.more found disks_after answer
      → IsRunAndServing w now serving spool spool_after out out_after before after disks disks_after answer

-- no core was opened; or connections were served over one that was
pub data IsServing {D : Type 0} (w : DiskSight D) (now : ℤ) (serving : Serving) (before after : FrontAndPatterns) (disks disks_after : Disks D) (answer : Status) : Type 0 where
  unopened : IsUnopened w disks disks_after answer → after ≡ before → IsServing w now serving before after disks disks_after answer
  opened_to : (opened : LogCore D) → OpensTo w disks opened → ServedOn w now serving before after disks [] opened disks_after answer → IsServing w now serving before after disks disks_after answer
