use mir.Syntax.{named}
use denote.Builtin.{unit, u64}
use denote.Exit as Exit
use denote.Param.{param}
use denote.Param.Send.{IsSend, IsSync, param_send, param_sync, arg_send, sendable}
use Rattle.std.proofs.Crossing.{sync}
use Rattle.std.proofs.sync.atomic.AtomicU64.TheSendSync as atomic
use Rattle.std.proofs.sync.OnceLock.TheSendSync as once
use Rattle.std.specs.contracts.sync.atomic.AtomicU64 as Atomic
use Rattle.std.specs.contracts.sync.OnceLock as Once
use Rattle.turn_lock.proofs.pass.Pass.TheSendSync as pass
use Rattle.turn_lock.proofs.pass.TurnLock.TheSendSync as lock
use Rattle.turn_lock.specs.contracts.pass.Pass as Pass
use Rattle.turn_lock.specs.contracts.pass.TurnLock as TurnLock
use Rattle.live_stage.proofs.Crosses.{stage_goes}
use Rattle.live_stage.specs.contracts.note.Staged as Staged
use Rattle.live_stage.specs.contracts.stage.Stage as Stage
use Rattle.live_stage.specs.contracts.stage.StageHeld.TheImpl as held
use Rattle.stage_bench.proofs.Crosses.{caught}
use Rattle.stage_bench.proofs.threads.serve_all.Lts as types
use Rattle.stage_bench.proofs.threads.serve_all.Goals as goal

pub for_each_mut-requires-send-T : goal.for_each_mut-requires-send-T
for_each_mut-requires-send-T g c κs within =
    let v = c.values_go.ensures in
    let D = param 0 g.row.D in
    let K = param 1 g.row.K in
    let S = Stage.the_row D K g.D.Disk g.K.Keeper in
    let E = Staged.the_row D K g.D.Disk g.K.Keeper in
    let H = held.ghosts D K g.D.Disk held.no_dict g.K.Keeper held.no_dict held.no_dict held.no_dict in
    let s : IsSend S = stage_goes v.items v.members v.pending v.found v.events D K c.type_bounds.send-D c.type_bounds.send-K g.D.Disk g.K.Keeper in
    param_send 1 (types.arg-1-1 g.row.D g.row.K g.row.R g.D.laws g.K.laws g.R.laws g.D.Disk g.D.Disk-dict g.K.Keeper g.K.Keeper-dict g.R.Threads g.R.Threads-dict g.R.Wait g.R.Wait-dict g.R.Clock g.R.Clock-dict g.D.Destruct-dict g.K.Destruct-dict κs)
    (arg_send _ Exit.no (Pass.the_row S E H) (pass.the_send S E H s))

pub for_each_mut-requires-sync-F : goal.for_each_mut-requires-sync-F
for_each_mut-requires-sync-F g c κs within =
    let v = c.values_go.ensures in
    let D = param 0 g.row.D in
    let K = param 1 g.row.K in
    let S = Stage.the_row D K g.D.Disk g.K.Keeper in
    let E = Staged.the_row D K g.D.Disk g.K.Keeper in
    let H = held.ghosts D K g.D.Disk held.no_dict g.K.Keeper held.no_dict held.no_dict held.no_dict in
    let s : IsSend S = stage_goes v.items v.members v.pending v.found v.events D K c.type_bounds.send-D c.type_bounds.send-K g.D.Disk g.K.Keeper in
    let l : IsSync (TurnLock.the_row S E H) = lock.the_sync S E H s in
    let o : IsSync (Once.the_row unit) = once.the_sync unit (search sendable depth 12) (search sendable depth 12) in
    let n : IsSync u64 = search sendable depth 12 in
    let all = caught (record { mir = named 6; lft = κs.1.1.1.1.1.1.0 }) (record { mir = named 7; lft = κs.1.1.1.1.1.1.1.0 }) (record { mir = named 8; lft = κs.1.1.1.1.1.1.1.1.0 }) (record { mir = named 9; lft = κs.1.1.1.1.1.1.1.1.1.0 })
    (record { mir = named 10; lft = κs.1.1.1.1.1.1.1.1.1.1.0 }) (record { mir = named 11; lft = κs.1.1.1.1.1.1.1.1.1.1.1.0 }) (record { mir = named 12; lft = κs.1.1.1.1.1.1.1.1.1.1.1.1.0 })
    (TurnLock.the_row S E H) (param 2 g.row.R) _ (Once.the_row unit) (Once.the_row unit) Atomic.the_row u64 tt tt tt tt tt tt tt l c.type_bounds.sync-R sync o o atomic.the_sync n in
    param_sync 2 (types.arg-1-2 g.row.D g.row.K g.row.R g.D.laws g.K.laws g.R.laws g.D.Disk g.D.Disk-dict g.K.Keeper g.K.Keeper-dict g.R.Threads g.R.Threads-dict g.R.Wait g.R.Wait-dict g.R.Clock g.R.Clock-dict g.D.Destruct-dict g.K.Destruct-dict κs) (record { shared = all.shared })
