use Rattle.std.proofs.Common.{◌≡◌, ◌∙◌, sym, ap, ◌++◌, [], ◌∷◌, codes}
use Rattle.busy_commands.specs.text_spec.Compact.{compact}
use Rattle.busy_commands.specs.json_tree.Tree.{json_of}
use Rattle.busy_commands.specs.fleet_rows.Cell.{cells_of}
use Rattle.busy_commands.specs.fleet_rows.declared.row.Entity.TheVariants.{Facts}
use Rattle.busy_commands.specs.table_spec.RowsText.{row_object}
use Rattle.fleet_app.proofs.RowLaws.{four, object_parts, cells_are}
use Rattle.fleet_app.proofs.rows.put_object.Goals as goal

pub returns : goal.returns
returns c =
    let certname = json_of c.value_in.result.now in
    let environment = json_of c.value_in-2.result.now in
    let name = json_of c.value_in-3.result.now in
    let value = json_of c.value_in-4.result.now in
    let cells : cells_of c.args.cells.now ≡ four certname environment name value =
    cells_are c.args.cells.now c.requires.0 c.requires.1 c.index-cells-0.result c.index-cells-1.result c.index-cells-2.result c.index-cells-3.result c.index-cells-0.is c.index-cells-1.is c.index-cells-2.is c.index-cells-3.is
    ∙ (λ i. c.value_in.ensures i ∷ c.value_in-2.ensures i ∷ c.value_in-3.ensures i ∷ c.value_in-4.ensures i ∷ []) in
    c.in_ok-push.ensures.items
    ∙ ap (λ t. t ++ 125 ∷ []) (c.in_ok-append_compact-4.ensures.text
    ∙ ap (λ t. t ++ compact value) (c.in_ok-extend_from_slice-4.ensures.items
    ∙ ap (λ t. t ++ codes ",\"value\":") (c.in_ok-append_compact-3.ensures.text
    ∙ ap (λ t. t ++ compact name) (c.in_ok-extend_from_slice-3.ensures.items
    ∙ ap (λ t. t ++ codes ",\"name\":") (c.in_ok-append_compact-2.ensures.text
    ∙ ap (λ t. t ++ compact environment) (c.in_ok-extend_from_slice-2.ensures.items
    ∙ ap (λ t. t ++ codes ",\"environment\":") (c.in_ok-append_compact.ensures.text
    ∙ ap (λ t. t ++ compact certname) c.in_ok-extend_from_slice.ensures.items)))))))
    ∙ object_parts c.args.out.now.items certname environment name value
    ∙ ap (λ cs. c.args.out.now.items ++ compact (row_object Facts cs)) (sym cells)
