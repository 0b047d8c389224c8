use Rattle.std.proofs.Common.{◌∙◌, ap, sym}
use Rattle.routes_spec.specs.query_spec.Check.{level_fault}
use Rattle.routes_spec.specs.query_spec.declared.sought.Sought.TheVariants as seek
use Rattle.http_routes.specs.Told.{told_checked}
use Rattle.http_routes.specs.declared.told.Told.TheVariants.{Query}
use Rattle.http_routes.proofs.Tellings.{without_fault}
use Rattle.http_routes.proofs.told.told_level.Goals as goal

pub returns-in-Ok : goal.returns-in-Ok
returns-in-Ok c = ap Query c.in-Ok.ensures.0 ∙ without_fault (level_fault seek.Entity c.args.level) c.args.level c.in-Ok.ensures.1

pub returns-in-Err : goal.returns-in-Err
returns-in-Err c = ap (λ fault. told_checked fault c.args.level) (sym c.in-Err.ensures)
