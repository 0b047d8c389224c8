use Rattle.http_routes.proofs.Tellings.{all_told}
use Rattle.http_routes.proofs.told.told_of_all.Goals as goal

pub returns-in-Ok : goal.returns-in-Ok
returns-in-Ok c = all_told c.args.entity c.in-Ok.level c.told_level.result c.in-Ok.ensures c.told_level.ensures
