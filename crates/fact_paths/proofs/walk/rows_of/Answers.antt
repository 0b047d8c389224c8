use Rattle.std.proofs.Common.{◌≡◌, map, IfOk, sym, subst}
use Rattle.fleet_rows.specs.Cell.{cell_of}
use Rattle.fact_paths.specs.Rows.{contents, content_row}
use Rattle.fact_paths.proofs.walk.rows_of.Goals as goal

pub returns-in-Plain : goal.returns-in-Plain
returns-in-Plain c =
    subst (λ cell. IfOk c.shown_rows.result (λ rows. rows ≡ map content_row (contents (cell_of c.args.certname.now) (cell_of c.args.environment.now) (cell_of cell) (cell_of c.args.value.now))))
    (sym c.in-Plain.is) c.shown_rows.ensures
