use Rattle.std.proofs.Common.{◌≡◌, ◌&&◌, List, Some, take}
use Rattle.fleet_tables.specs.Spans.{places_of}
use Rattle.fleet_tables.specs.table_machine.Rows.{table_rows}
use Rattle.query_reach.specs.Reach.{Pin, shows_own}
use Rattle.query_reach.specs.Seen.{texts_seen}
use Rattle.query_reading.specs.Joins.{is_of}
use Rattle.query_reading.specs.Wanted.{IsOwnBy}
use Rattle.query_reading.proofs.reading.places_of_nodes.Given as goal

abbrev pub invariant-asking : goal.invariant-asking
invariant-asking l =
    (ps : List Pin) → IsOwnBy l.entity ps (Some l.own)
    → l.places.items ≡ places_of (λ row. is_of l.entity (texts_seen (take l.node-index l.nodes)) row && shows_own (Some l.entity) ps row) (table_rows l.entity l.tables)
