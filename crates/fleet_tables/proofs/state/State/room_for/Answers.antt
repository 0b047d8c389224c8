use Rattle.fleet_tables.proofs.RoomFits.{room_with}
use Rattle.fleet_tables.proofs.state.State.room_for.Goals as goal

pub invariant_of-result : goal.invariant_of-result
invariant_of-result c =
    room_with c.in-Ok.spare c.args.shown c.with_reports.result c.args.self.now c.of.result.value c.args.change.now c.of-in-Ok.result.value c.with_reports.ensures c.of.ensures c.of-in-Ok.ensures c.requires c.in-Ok.ensures
