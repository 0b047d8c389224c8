use Rattle.std.proofs.Common.{◌≡◌, map, IfOk, sym, subst}
use Rattle.fleet_rows.specs.Cell.{cell_of, plain}
use Rattle.fleet_rows.specs.json_tree.Tree.{json_of}
use Rattle.fact_paths.specs.Rows.{contents, content_row}
use Rattle.fact_paths.proofs.walk.shown_rows.Goals as goal

pub returns-in-Text : goal.returns-in-Text
returns-in-Text c =
    subst (λ j. IfOk c.named_rows.result (λ rows. rows ≡ map content_row (contents (cell_of c.args.certname.now) (cell_of c.args.environment.now) (plain (json_of j)) (cell_of c.args.value.now))))
    (sym c.in-Text.is) c.named_rows.ensures
