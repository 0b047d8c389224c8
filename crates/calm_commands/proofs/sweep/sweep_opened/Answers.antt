use Rattle.std.proofs.Common.{sym, subst}
use Rattle.query_answer.proofs.of_plain_laws.Booleans.{never}
use Rattle.command_core.specs.core_state.Seen.{down_of}
use Rattle.command_core.specs.log_pair.Pair.{is_down_of}
use Rattle.command_core.specs.fleet_keeper.Keeper.{pair_of}
use Rattle.query_answer.specs.fleet_ports.declared.disk.Disks.{Disks}
use Rattle.calm_commands.specs.declared.status.Status.{Status}
use Rattle.calm_commands.specs.Openings.{disk_sight}
use Rattle.calm_commands.specs.Calm.{IsSweepRun}
use Rattle.calm_commands.specs.Ends.{sweep_status}
use Rattle.calm_commands.proofs.Swept.{swept_run}
use Rattle.calm_commands.proofs.sweep.sweep_opened.Goals as goal

pub status_of-requires : goal.status_of-requires
status_of-requires g c = record { up = λ down. never (down_of (λ k. is_down_of (pair_of k)) c.args.core) (c.sweep-swept.ensures.does.down.0 down) c.requires.up.up }

pub returns : goal.returns
returns g c disks opens =
    let d = g.D.Disk in
    let m = g.met.D.Disk in
    let w = disk_sight d.is_told d.seen d.may_leave d.moment d.left_since d.fault_count in
    let e = c.sweep-swept.ensures.does in
    let kinds = c.args.kinds in
    let now = c.args.now in
    let new = c.sweep-swept.new.self in
    let run = swept_run w m.counts_now m.only_now kinds now disks c.args.core new opens c.sweep-swept.result (λ down. never (down_of (λ k. is_down_of (pair_of k)) c.args.core) (e.down.0 down) c.requires.up.up) e.adds e.queue e.opening.lifetimes e.stands e.any_moment e.up e.spent e.unspent e.cause (e.store_down c.requires.up.up).1 e.keeper.bounds e.stays in
    subst (λ (s : Status). IsSweepRun w kinds now disks c.into_disks.result s) (sym c.status_of.ensures)
    (subst (λ (x : Disks g.row.D.Denot). IsSweepRun w kinds now disks x (sweep_status c.sweep-swept.result)) (sym c.into_disks.ensures) run)
