use Rattle.std.proofs.Common.{sym, subst}
use Rattle.core_opening.specs.Opened.{HasStore}
use Rattle.core_opening.proofs.parts.open_filled.Goals as goal

pub returns-in-Ok-fill-clause-log : goal.returns-in-Ok-fill-clause-log
returns-in-Ok-fill-clause-log g c =
    let d = g.D.Disk in
    subst (HasStore d.is_told d.seen d.may_leave c.in-Ok.opened.0) (sym c.of-found.ensures)
    (record { up = c.in-Ok.ensures.up; is = c.in-Ok.ensures.kept; images = c.in-Ok.ensures.stands })
