use Rattle.std.proofs.Common.{◌≡◌, ◌∙◌, ◌&&◌, Some, take, true, arith, subst}
use Rattle.std.proofs.lemmas.List.{take_all}
use Rattle.fleet_tables.specs.Spans.{places_of}
use Rattle.fleet_tables.specs.table_machine.Rows.{table_rows}
use Rattle.query_reach.specs.Reach.{shows_own}
use Rattle.query_reach.specs.Seen.{texts_seen}
use Rattle.query_reading.specs.Joins.{is_of}
use Rattle.query_reading.proofs.ReadLaws.{no_node, nodes_on}
use Rattle.query_reading.proofs.reading.places_of_nodes.Goals as goal

pub asking-init : goal.asking-init
asking-init c = λ ps h. c.new-places.ensures.items ∙ no_node c.args.entity (shows_own (Some c.args.entity) ps) (table_rows c.args.entity c.args.tables.now)

pub asking-preserved : goal.asking-preserved
asking-preserved c = λ ps h.
    let e = c.args.entity in
    let rows = table_rows e c.args.tables.now in
    let on : c.in_ok-behind.behind ≡ true = grind (arith, c.if-not-behind.false) in
    nodes_on e (shows_own (Some e) ps) rows c.args.nodes.now c.asking.node-index _ c.asking-test.true c.push_node.new.places.items
    (c.in_ok-behind.ensures on ps h (λ row. is_of e (texts_seen (take c.asking.node-index c.args.nodes.now)) row && shows_own (Some e) ps row) (c.asking.invariant ps h))

pub returns : goal.returns
returns c = λ ps h.
    let e = c.args.entity in
    subst (λ l. c.asking.places.items ≡ places_of (λ row. is_of e (texts_seen l) row && shows_own (Some e) ps row) (table_rows e c.args.tables.now))
    (take_all c.asking.node-index c.args.nodes.now (omega arith)) (c.asking.invariant ps h)
