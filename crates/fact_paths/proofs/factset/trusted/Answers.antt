use Rattle.std.proofs.Common.{◌≡◌, sym, subst, IfOk}
use Rattle.fleet_rows.specs.Cell.{cell_of, plain}
use Rattle.fact_paths.specs.Rows.{trusted_in}
use Rattle.fact_paths.proofs.factset.trusted.Goals as goal

pub returns-in-Plain : goal.returns-in-Plain
returns-in-Plain c =
    subst (λ cell. IfOk c.trusted_value.result (λ made. cell_of made ≡ plain (trusted_in (cell_of cell)))) (sym c.in-Plain.is) c.trusted_value.ensures
