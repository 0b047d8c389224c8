use Rattle.std.proofs.Common.{◌≡◌, ◌+◌, ℤ, length, drop, slice_get, Option}
use Rattle.checkpoint_spec.specs.fleet_rows.declared.settings.Ttls.{Ttls}
use Rattle.fleet_tables.specs.Groups.{joined, rows_of}
use Rattle.kept_nodes.specs.Runs.{number}
use Rattle.kept_nodes.specs.Spans.{places_from}
use Rattle.kept_nodes.specs.Wanted.{has_own, texts_of}
use Rattle.fleet_tables.proofs.seek.place_in_groups.Given as goal

abbrev pub invariant-walking : goal.invariant-walking
invariant-walking l = record {
  place : (ttls : Ttls) (expiry : Option ℤ) → slice_get (places_from 0 (has_own l.entity (texts_of l.sought)) (rows_of l.entity ttls expiry (joined l.groups))) l.i
      ≡ slice_get (places_from l.before (has_own l.entity (texts_of l.sought)) (rows_of l.entity ttls expiry (joined (drop l.group-index l.groups)))) l.left;
  left : (ttls : Ttls) (expiry : Option ℤ) → l.i + number (has_own l.entity (texts_of l.sought)) (rows_of l.entity ttls expiry (joined (drop l.group-index l.groups)))
      ≡ l.left + number (has_own l.entity (texts_of l.sought)) (rows_of l.entity ttls expiry (joined l.groups));
  few : (ttls : Ttls) (expiry : Option ℤ) → l.before + length (rows_of l.entity ttls expiry (joined (drop l.group-index l.groups))) ≡ length (rows_of l.entity ttls expiry (joined l.groups));
}
