use Rattle.std.proofs.Common.{◌∙◌, ◌<◌, ℕ, List, length, get_or, slice_get, sym, ap, subst, arith}
use Rattle.fleet_tables.specs.table_machine.Rows.{table_rows}
use Rattle.query_plan.specs.table_spec.Rows.{Cells}
use Rattle.query_reading.specs.Fetched.{picked}
use Rattle.query_reading.proofs.PlacedRows.{view_on}
use Rattle.query_reading.proofs.ReadLaws.{at_place, default_off}
use Rattle.query_reading.proofs.blocks.rows_at.Goals as goal

pub row-requires : goal.row-requires
row-requires g c =
    let rows = table_rows c.args.entity c.args.tables.now in
    let place = at_place (length rows) c.args.places.now c.reading.place-index 0 c.requires.places c.reading-test.true in
    subst (λ (all : List Cells). get_or c.args.places.now c.reading.place-index 0 < length all) (sym c.reading.invariant.cursor) place

pub reading-preserved : goal.reading-preserved
reading-preserved g c =
    let rows = table_rows c.args.entity c.args.tables.now in
    let places : List ℕ = c.args.places.now in
    let lt : c.reading.place-index < length places = c.reading-test.true in
    let at : ℕ = get_or places c.reading.place-index 0 in
    record {
      cost = omega (arith, c.row.ensures.step, c.reading.invariant.cost);
      cursor = c.row.ensures.same ∙ c.reading.invariant.cursor;
      rest =
          view_on rows places c.reading.place-index at c.in_ok-row.field-0 c.reading.rows.items c.push.new.self.items (picked rows places) lt (default_off places c.reading.place-index 0 at lt)
          (ap (λ (all : List Cells). slice_get all at) (sym c.reading.invariant.cursor) ∙ c.in_ok-row.ensures.row) c.in_ok-push.ensures.items c.reading.invariant.rest;
    }
