use Rattle.std.proofs.Common.{ℕ, List, Ok, refl, sym, ap, arith}
use Rattle.std.specs.Option.{option_map}
use Rattle.same_text.specs.json_tree.Tree.{json_of}
use Rattle.same_text.specs.text_spec.Json.{Json}
use Rattle.fleet_tables.specs.fleet_rows.declared.row.Entity.TheVariants.{Facts}
use Rattle.fleet_tables.specs.fleet_rows.declared.row.Row.{Row}
use Rattle.kept_nodes.proofs.RowCounts.{fact_order_length}
use Rattle.kept_nodes.proofs.RowPlaces.{fact_inside, fact_row_is}
use Rattle.row_cells.specs.Rows.{member_cells}
use Rattle.row_views.proofs.row.fact_in.Goals as goal

pub at-requires : goal.at-requires
at-requires c = omega (arith, c.requires.within, fact_order_length c.args.order.now c.args.change.now c.requires.order)

pub pair-requires : goal.pair-requires
pair-requires c = fact_inside c.args.change.now c.args.order.now c.args.j c.at.result c.requires.order c.at.ensures

pub returns : goal.returns
returns c =
    let change = c.args.change.now in
    let member : List ℕ × Json = (c.pair.result.0.now, json_of c.pair.result.1.now) in
    let row : Row = record { entity = Facts; cells = member_cells change member } in
    (fact_row_is change c.args.order.now c.args.j c.at.result c.requires.order c.at.ensures (Ok row) (refl, sym (ap (option_map (member_cells change)) c.pair.ensures.pair))).1
