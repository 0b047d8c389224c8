use Rattle.std.proofs.Common.{◌∙◌, Some, sym, ap}
use Rattle.paging_text.specs.means_spec.table_spec.Rows.{Cells}
use Rattle.row_views.proofs.row.made_of.Goals as goal

pub returns : goal.returns
returns c = λ ttls expiry. (c.in_ok-row.ensures ttls expiry).1 ∙ ap (λ (x : Cells). Some x) (sym c.made.ensures)
