use Rattle.std.proofs.Common.{sym, subst, refl, None}
use Rattle.routes_spec.specs.Queries.{IsToldOn}
use Rattle.http_routes.specs.Told.{Tells}
use Rattle.http_routes.proofs.told.told_of_none.Goals as goal

pub returns-in-RowsOf : goal.returns-in-RowsOf
returns-in-RowsOf c = subst (λ r. Tells c.told_of_all.result (IsToldOn r None)) (sym c.in-RowsOf.is) c.told_of_all.ensures

pub returns-in-Queries : goal.returns-in-Queries
returns-in-Queries c = subst (λ r. IsToldOn r None None) (sym c.in-Queries.is) refl

pub returns-in-Commands : goal.returns-in-Commands
returns-in-Commands c = subst (λ r. IsToldOn r None None) (sym c.in-Commands.is) refl
