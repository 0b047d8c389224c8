use Rattle.std.proofs.Common.{arith}
use Rattle.fleet_tables.specs.fleet_rows.declared.row.Entity.TheVariants.{Facts}
use Rattle.fleet_tables.specs.table_machine.Rows.{table_rows}
use Rattle.query_reading.proofs.FetchedLaws.{fetched_on}
use Rattle.query_reading.proofs.facts.read_facts.Goals as goal

pub reading-preserved : goal.reading-preserved
reading-preserved g c = record {
  cost = omega (arith, c.in_ok-read_fact.ensures.cost, c.reading.invariant.cost);
  rest =
      fetched_on c.args.node.now (table_rows Facts c.args.tables.now) c.args.names.now c.reading.name-index c.name-item.result c.reading-test.true c.name-item.is _ _ _ c.in_ok-read_fact.ensures.value
      c.reading.invariant.rest;
}
