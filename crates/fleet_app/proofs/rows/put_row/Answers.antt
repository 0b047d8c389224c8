use Rattle.std.proofs.Common.{◌≡◌, ◌∙◌, sym, ap, ◌++◌, false}
use Rattle.busy_commands.specs.text_spec.Compact.{compact, comma_if}
use Rattle.busy_commands.specs.fleet_rows.Cell.{cells_of}
use Rattle.busy_commands.specs.fleet_rows.declared.row.Entity.TheVariants.{Facts}
use Rattle.busy_commands.specs.history_spec.Life.{is_inactive}
use Rattle.busy_commands.specs.table_spec.RowsText.{row_object}
use Rattle.fleet_app.specs.Rows.{fact_object}
use Rattle.fleet_app.proofs.RowLaws.{row_put, certname_is}
use Rattle.fleet_app.proofs.rows.put_row.Goals as goal

pub returns : goal.returns
returns c = λ history r rest stands cells.
    let ttls = c.args.tables.now.ttls in
    let out = c.args.out.now.items in
    let active : is_inactive ttls history r.certname ≡ false =
    ap (is_inactive ttls history) (certname_is c.args.cells.now r c.text_in.result.now c.index-cells-0.result cells c.index-cells-0.is c.text_in.ensures)
    ∙ sym (c.inactive.ensures.stands history stands) ∙ c.if-inactive.false in
    let written : c.put_object.new.out.items ≡ (out ++ comma_if c.args.later) ++ compact (fact_object r) =
    c.in_ok-put_object.ensures ∙ ap (λ t. t ++ compact (row_object Facts (cells_of c.args.cells.now))) c.in_ok-put_comma.ensures ∙ ap (λ cs. (out ++ comma_if c.args.later) ++ compact (row_object Facts cs)) cells in
    row_put ttls history r rest out c.put_object.new.out.items c.args.later active written
