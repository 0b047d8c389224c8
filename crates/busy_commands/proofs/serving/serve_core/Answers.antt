use Rattle.std.proofs.Common.{◌≡◌, ◌∙◌, ℕ, refl, subst}
use Rattle.std.proofs.lemmas.Bool.{false≢true}
use Rattle.spool_run.specs.fleet_ports.Counts.{Counts}
use Rattle.spool_run.specs.fleet_tables.Stands.{Stands}
use Rattle.spool_run.specs.history_spec.Trace.{Trace}
use Rattle.core_inbox.specs.link_serving.means_spec.OutRows.{lines_text}
use Rattle.core_inbox.specs.link_serving.means_spec.World as meant
use Rattle.core_inbox.specs.link_serving.paging_text.Shown.{written_text}
use Rattle.core_inbox.specs.link_serving.query_engine.Tables as table
use Rattle.core_inbox.specs.link_serving.Serving.{FrontSeen, front_seen}
use Rattle.core_inbox.specs.link_serving.declared.end.ServeEnd.TheVariants.{FrontFault}
use Rattle.core_inbox.specs.Intake.{ServesCore}
use Rattle.spool_run.specs.calm_commands.Openings.{disk_sight}
use Rattle.spool_run.specs.calm_commands.Rows.{pattern_sight}
use Rattle.spool_run.specs.Runs.{log_sight}
use Rattle.busy_commands.specs.Serving as so
use Rattle.busy_commands.specs.Serving.{front_sight, front_and_patterns, as_links_see}
use Rattle.busy_commands.proofs.Serves.{each_history, front_cause, deaf_cause}
use Rattle.busy_commands.proofs.serving.serve_core.Goals as goal

pub returns-in-Ok : goal.returns-in-Ok
returns-in-Ok g c disks more stands =
    let d = g.D.Disk in
    let f = g.F.Front in
    let p = g.P.Patterns in
    let w = disk_sight d.is_told d.seen d.may_leave d.moment d.left_since d.fault_count in
    let before = front_and_patterns (front_sight (f.listens c.args.front.now) (f.left c.args.front.now) (f.handed_out c.args.front.now) (f.given_back c.args.front.now) (f.fault_count c.args.front.now)) (pattern_sight (p.says c.args.patterns.now) (p.asked c.args.patterns.now) (p.refusals c.args.patterns.now)) in
    let after = front_and_patterns (front_sight (f.listens c.serve_links-core.new.front) (f.left c.serve_links-core.new.front) (f.handed_out c.serve_links-core.new.front) (f.given_back c.serve_links-core.new.front) (f.fault_count c.serve_links-core.new.front)) (pattern_sight (p.says c.serve_links-core.new.patterns) (p.asked c.serve_links-core.new.patterns) (p.refusals c.serve_links-core.new.patterns)) in
    let now = c.args.now in
    let links = c.args.serving.links in
    let found = c.args.core in
    let left = c.serve_links-core.result.core in
    let end = c.serve_links-core.result.end in
    let heard = c.in-Ok.ensures in
    let e = c.serve_links-core.ensures in
    let seen : front_seen (f.left c.listen.new.self) (f.handed_out c.listen.new.self) (f.given_back c.listen.new.self) ≡ before.front.seen = λ i. front_seen (heard.left i) (heard.handed_out i) (heard.given_back i) in
    let tables = subst (λ (x : FrontSeen). ServesCore (log_sight w) (table.world_of found.tables before.patterns.says) written_text now end links x after.front.seen (as_links_see found before) (as_links_see left after)) seen e.served in
    let each : (trace : Trace) → Stands found.tables trace → ServesCore (log_sight w) (meant.world_of found.tables.ttls trace before.patterns.says) lines_text now end links before.front.seen after.front.seen (as_links_see found before) (as_links_see left after) =
    λ trace is. subst (λ (x : FrontSeen). ServesCore (log_sight w) (meant.world_of found.tables.ttls trace before.patterns.says) lines_text now end links x after.front.seen (as_links_see found before) (as_links_see left after)) seen (e.stands trace is) in
    let counts : Counts before.front.faults after.front.faults (end ≡ FrontFault) = subst (λ (n : ℕ). Counts n after.front.faults (end ≡ FrontFault)) (heard.cause.calm false≢true) e.cause in
    record {
      left = left;
      so = so.heard end c.status_of.ensures (e.listens ∙ heard.listens) tables (each_history w now links end before after found left disks more stands each);
      sound = c.is_sound-in-Ok.ensures;
      disks_are = c.into_disks.ensures;
      same = e.same;
      cause = front_cause before.front.faults after.front.faults end c.status_of.result c.status_of.ensures counts;
    }

pub returns-in-Err : goal.returns-in-Err
returns-in-Err g c disks more stands =
    let f = g.F.Front in
    let e = c.in-Err.ensures in
    record {
      left = c.args.core;
      so = so.deaf refl (e.listens_on refl) (λ i. front_seen (e.left i) (e.handed_out i) (e.given_back i)) refl refl;
      sound = c.is_sound.ensures;
      disks_are = c.into_disks-in-Err.ensures;
      same = λ pattern string. refl;
      cause = deaf_cause (f.fault_count c.args.front.now) (f.fault_count c.listen.new.self) refl e.cause;
    }
