-- A fact of a node stands among the rows of facts of the node.
use Rattle.std.proofs.Common.{◌≡◌, ℕ, List, [], true, false, Option, Some, None, sym, subst, unwrap_or, codes, true≢false}
use Rattle.std.specs.Prelude.{slice_get}
use Rattle.std.specs.List.{find}
use Rattle.std.specs.Option.{option_and_then, option_map_or}
use Rattle.std.specs.Str.{bytes_eq}
use Rattle.std.proofs.lemmas.Slice.Eq.{bytes_eq-Decides}
use Rattle.fleet_tables.proofs.of_plain_laws.Booleans.{both_true}
use Rattle.fleet_tables.specs.fleet_rows.declared.row.Entity.TheVariants.{Facts}
use Rattle.query_plan.specs.means_spec.Cells.{cell_in, has_text, is_fact, node_in, text_in}
use Rattle.query_plan.specs.table_spec.Rows.{Cells}
use Rattle.query_rows.specs.Indexed.{holds_place, passes_at, places_under}
use Rattle.query_rows.specs.Known.{AreByNode}
use Rattle.query_rows.specs.declared.index.Index.{Index}
use Rattle.query_rows.proofs.FirstLaws.{first_under}

node_step : (node : List ℕ) (o : Option (List ℕ)) → option_map_or (bytes_eq node) o false ≡ true → node ≡ unwrap_or o []
node_step node None h = absurd (true≢false (sym h))
node_step node (Some s) h = (bytes_eq-Decides node s).0 h

-- it is a row of the node
fact_node : (node name : List ℕ) (row : Cells) → is_fact node name row ≡ true → node ≡ node_in (Some Facts) row
fact_node node name row h =
    let cell = cell_in (Some Facts) (codes "certname") row in
    let parts = both_true (has_text node cell) (has_text name (cell_in (Some Facts) (codes "name") row)) h in
    node_step node (text_in cell) parts.0

-- so it is the first that is found there
pub fact_under : (rows : List Cells) (x : Index) (node name : List ℕ) → AreByNode rows x
    → option_and_then (slice_get rows) (find (passes_at (is_fact node name) rows) (places_under x node)) ≡ find (is_fact node name) rows
fact_under rows x node name are =
    first_under (is_fact node name) rows x node _ are.rising
    (λ j row at h. subst (λ t. holds_place x t j) (sym (fact_node node name row h)) (are.there j row at))
