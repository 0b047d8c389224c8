use Rattle.std.proofs.Common.{sym, subst}
use Rattle.query_answer.proofs.of_plain_laws.Booleans.{never}
use Rattle.command_core.specs.core_state.Seen.{down_of}
use Rattle.command_core.specs.log_pair.Pair.{is_down_of}
use Rattle.command_core.specs.fleet_keeper.Keeper.{pair_of}
use Rattle.query_answer.specs.fleet_ports.declared.disk.Disks.{Disks}
use Rattle.calm_commands.specs.declared.status.Status.{Status}
use Rattle.calm_commands.specs.Openings.{disk_sight}
use Rattle.calm_commands.specs.Compacting.{IsCompactRun, compact_status}
use Rattle.calm_commands.proofs.Compacted.{compacted_run}
use Rattle.calm_commands.proofs.compact.compact_opened.Goals as goal

pub status_of-requires : goal.status_of-requires
status_of-requires g c = record { up = λ down. never (down_of (λ k. is_down_of (pair_of k)) c.args.core) (c.compact-came.ensures.does.down.0 down) c.requires.up.up }

pub returns : goal.returns
returns g c disks opens =
    let d = g.D.Disk in
    let m = g.met.D.Disk in
    let w = disk_sight d.is_told d.seen d.may_leave d.moment d.left_since d.fault_count in
    let e = c.compact-came.ensures.does in
    let new = c.compact-came.new.self in
    let run = compacted_run w m.counts_now m.only_now disks c.args.core new opens c.compact-came.result (λ down. never (down_of (λ k. is_down_of (pair_of k)) c.args.core) (e.down.0 down) c.requires.up.up)
    e.writes e.checkpoints e.any_moment c.is_sound.ensures e.queue_cause e.store_cause e.keeper e.stays e.store_unspent e.queue_unspent e.store_goes_down e.queue_goes_down in
    subst (λ (s : Status). IsCompactRun w disks c.into_disks.result s) (sym c.status_of.ensures)
    (subst (λ (x : Disks g.row.D.Denot). IsCompactRun w disks x (compact_status c.compact-came.result)) (sym c.into_disks.ensures) run)
