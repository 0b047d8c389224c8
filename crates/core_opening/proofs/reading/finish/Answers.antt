use Rattle.std.proofs.Common.{refl}
use Rattle.core_opening.proofs.Replays.{so_far_few, whole_reading}
use Rattle.core_opening.proofs.reading.finish.Goals as goal

pub with_groups-requires-clause-few : goal.with_groups-requires-clause-few
with_groups-requires-clause-few c = so_far_few c.args.so_far c.requires

pub returns : goal.returns
returns c = (whole_reading c.args.so_far _ c.requires c.of-found.ensures c.in_ok-pending.ensures refl refl, c.of-found.ensures)
