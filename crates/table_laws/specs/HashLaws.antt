-- Statements on the texts from which the hashes of rows are made.
use Rattle.std.specs.Prelude.{◌≡◌, [], ◌∷◌, codes}
use Rattle.std.specs.List.{Contains}
use Rattle.table_machine.specs.text_spec.Json.{string}
use Rattle.table_machine.specs.fleet_rows.declared.row.Entity.TheVariants.{Factsets, Resources, Reports}
use Rattle.table_machine.specs.fleet_rows.declared.settings.Ttls.{Ttls}
use Rattle.table_machine.specs.history_spec.Trace.{Trace}
use Rattle.table_machine.specs.table_spec.Cells.{hash}
use Rattle.table_machine.specs.table_spec.Rows.{Cells, rows}
use Rattle.table_laws.specs.Named.{value_under, object_without}

-- a factset's hash is that of its other columns
abbrev pub FactsetsAreHashed : Type 0
FactsetsAreHashed =
    (ttls : Ttls) (history : Trace) (row : Cells) → Contains (rows Factsets ttls history) row
    → value_under Factsets (codes "hash") row ≡ string (hash (object_without (codes "hash" ∷ []) Factsets row))

-- a report's hash leaves out the moment of receipt too, so a report has the same hash whenever it arrives
abbrev pub ReportsAreHashed : Type 0
ReportsAreHashed =
    (ttls : Ttls) (history : Trace) (row : Cells) → Contains (rows Reports ttls history) row
    → value_under Reports (codes "hash") row ≡ string (hash (object_without (codes "hash" ∷ codes "receive_time" ∷ []) Reports row))

-- a resource's hash, in the column `resource`, is that of its own columns, without certname and environment
abbrev pub ResourcesAreHashed : Type 0
ResourcesAreHashed =
    (ttls : Ttls) (history : Trace) (row : Cells) → Contains (rows Resources ttls history) row
    → value_under Resources (codes "resource") row
    ≡ string (hash (object_without (codes "certname" ∷ codes "environment" ∷ codes "resource" ∷ []) Resources row))
