use Rattle.std.proofs.Common.{◌≡◌, drop}
use Rattle.fleet_rows.specs.Columns.{place_in}
use Rattle.fleet_rows.proofs.column.place.Given as goal

abbrev pub invariant-loop-place : goal.invariant-loop-place
invariant-loop-place l = place_in l.column l.place (drop l.place l.columns) ≡ place_in l.column 0 l.columns
