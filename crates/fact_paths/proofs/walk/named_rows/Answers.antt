use Rattle.std.proofs.Common.{◌≡◌, ◌∙◌, map, IfOk, ap, sym, subst}
use Rattle.fleet_rows.specs.Cell.{cell_of, plain}
use Rattle.fleet_rows.specs.json_tree.Tree.{json_of}
use Rattle.fleet_rows.specs.text_spec.Json.{string}
use Rattle.fact_paths.specs.Leaves.{leaves}
use Rattle.fact_paths.specs.Rows.{contents, content_row}
use Rattle.fact_paths.proofs.WalkLaws.{rows_plain}
use Rattle.fact_paths.proofs.walk.named_rows.Goals as goal

pub returns-in-Plain : goal.returns-in-Plain
returns-in-Plain c =
    let certname = cell_of c.args.certname.now in
    let environment = cell_of c.args.environment.now in
    subst (λ rows. IfOk c.all.result (λ made. made ≡ rows))
    (rows_plain certname environment c.args.name.now (leaves (json_of c.in-Plain.value))
    ∙ ap (λ cell. map content_row (contents certname environment (plain (string c.args.name.now)) (cell_of cell))) (sym c.in-Plain.is))
    c.all.ensures
