-- A reader of relationships.
use Rattle.std.specs.Prelude.{ℕ, List, Option, Some, None, if◌then◌else◌}
use Rattle.std.specs.Str.{bytes_eq}
use Rattle.wire_catalog.specs.fleet_rows.declared.catalog.Relationship.{Relationship}
use Rattle.wire_catalog.specs.fleet_rows.declared.catalog.Relationship.TheVariants as relationship
use Rattle.wire_catalog.specs.wire_spec.Table.{relationship_name}
use Rattle.record_fields.specs.Reading.{◌>>=◌, Reader, text_at}

abbrev pub relationship_named : List ℕ → Option Relationship
relationship_named s =
    if bytes_eq s (relationship_name relationship.Contains) then Some relationship.Contains
    else (if bytes_eq s (relationship_name relationship.Before) then Some relationship.Before
    else (if bytes_eq s (relationship_name relationship.RequiredBy) then Some relationship.RequiredBy
    else (if bytes_eq s (relationship_name relationship.Notifies) then Some relationship.Notifies
    else (if bytes_eq s (relationship_name relationship.SubscriptionOf) then Some relationship.SubscriptionOf
    else None))))

unfoldable pub relationship_at : Reader Relationship
relationship_at bytes = do
  text ← text_at bytes
  relationship_named text.0 >>= λ r. Some (r, text.1)
