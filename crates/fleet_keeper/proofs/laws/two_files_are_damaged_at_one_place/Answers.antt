use Rattle.fleet_keeper.proofs.Openings.{one_place, not_opened}
use Rattle.fleet_keeper.proofs.laws.two_files_are_damaged_at_one_place.Goals as goal

pub returns-clause-one : goal.returns-clause-one
returns-clause-one c = one_place

pub returns-clause-none : goal.returns-clause-none
returns-clause-none c = not_opened
