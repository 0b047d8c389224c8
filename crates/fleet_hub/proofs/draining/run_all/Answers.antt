use mir.Syntax.{named}
use denote.Exit as Exit
use denote.Param.{param}
use denote.Param.Send.{IsSend, IsSync, param_send, param_sync, arg_send, sendable}
use Rattle.std.proofs.Crossing.{sync}
use Rattle.turn_lock.proofs.pass.Pass.TheSendSync as pass
use Rattle.turn_lock.proofs.pass.TurnLock.TheSendSync as lock
use Rattle.turn_lock.specs.contracts.pass.Pass as Pass
use Rattle.turn_lock.specs.contracts.pass.TurnLock as TurnLock
use Rattle.hub_work.specs.hub_calls.contracts.entry.Entry as Entry
use Rattle.hub_work.specs.hub_calls.contracts.followed.Followed as Followed
use Rattle.hub_work.specs.hub_calls.contracts.followed.FollowedHeld.TheImpl as held
use Rattle.hub_work.specs.hub_calls.contracts.purpose.WorkAlone as WorkAlone
use Rattle.hub_work.specs.hub_calls.contracts.purpose.WorkAlonePurpose.TheImpl as alone
use Rattle.hub_work.proofs.of_hub_calls.Crosses.{followed_goes, caught}
use Rattle.fleet_hub.proofs.draining.run_all.Lts as types
use Rattle.fleet_hub.proofs.draining.run_all.Goals as goal

pub for_each_mut-requires-send-T : goal.for_each_mut-requires-send-T
for_each_mut-requires-send-T g c κs within =
    let v = c.values_go.ensures in
    let D = param 0 g.row.D in
    let K = param 1 g.row.K in
    let F = Followed.the_row D K WorkAlone.the_row g.D.Disk g.K.Keeper alone.ghosts in
    let E = Entry.the_row D K g.D.Disk g.K.Keeper in
    let H = held.ghosts D K WorkAlone.the_row g.D.Disk held.no_dict g.K.Keeper held.no_dict alone.ghosts held.no_dict held.no_dict held.no_dict in
    let f : IsSend F =
    followed_goes v.items v.members v.pending v.found v.events D K WorkAlone.the_row c.type_bounds.send-D c.type_bounds.send-K (search sendable depth 20) g.D.Disk g.K.Keeper alone.ghosts in
    param_send 1 (types.arg-1-1 g.row.D g.row.K g.row.G g.row.R g.D.laws g.K.laws g.G.laws g.R.laws g.D.Disk g.D.Disk-dict g.K.Keeper g.K.Keeper-dict g.G.Gate g.G.Gate-dict g.R.Threads g.R.Threads-dict g.R.Wait g.R.Wait-dict g.D.Destruct-dict g.K.Destruct-dict κs) (arg_send _ Exit.no (Pass.the_row F E H) (pass.the_send F E H f))

pub for_each_mut-requires-sync-F : goal.for_each_mut-requires-sync-F
for_each_mut-requires-sync-F g c κs within =
    let v = c.values_go.ensures in
    let D = param 0 g.row.D in
    let K = param 1 g.row.K in
    let F = Followed.the_row D K WorkAlone.the_row g.D.Disk g.K.Keeper alone.ghosts in
    let E = Entry.the_row D K g.D.Disk g.K.Keeper in
    let H = held.ghosts D K WorkAlone.the_row g.D.Disk held.no_dict g.K.Keeper held.no_dict alone.ghosts held.no_dict held.no_dict held.no_dict in
    let f : IsSend F =
    followed_goes v.items v.members v.pending v.found v.events D K WorkAlone.the_row c.type_bounds.send-D c.type_bounds.send-K (search sendable depth 20) g.D.Disk g.K.Keeper alone.ghosts in
    let l : IsSync (TurnLock.the_row F E H) = lock.the_sync F E H f in
    let all = caught (record { mir = named 6; lft = κs.1.1.1.1.1.1.0 }) (record { mir = named 7; lft = κs.1.1.1.1.1.1.1.0 }) (record { mir = named 8; lft = κs.1.1.1.1.1.1.1.1.0 })
    (record { mir = named 9; lft = κs.1.1.1.1.1.1.1.1.1.0 }) (TurnLock.the_row F E H) (param 3 g.row.R) _ (param 2 g.row.G) tt tt tt tt l c.type_bounds.sync-R sync c.type_bounds.sync-G in
    param_sync 2 (types.arg-1-2 g.row.D g.row.K g.row.G g.row.R g.D.laws g.K.laws g.G.laws g.R.laws g.D.Disk g.D.Disk-dict g.K.Keeper g.K.Keeper-dict g.G.Gate g.G.Gate-dict g.R.Threads g.R.Threads-dict g.R.Wait g.R.Wait-dict g.D.Destruct-dict g.K.Destruct-dict κs) (record { shared = all.shared })
