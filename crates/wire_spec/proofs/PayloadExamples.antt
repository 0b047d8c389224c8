-- Payloads with a stamp.
use Rattle.std.proofs.Common.{◌≡◌, refl, ℕ, pos, List, [], ◌∷◌, true, false, Some, None, codes, arith}
use Rattle.std.specs.Prelude.{Ok, Err}
use Rattle.fleet_rows.specs.text_spec.Json.{Json, null, boolean, number, string, array, object, items_of, members_of}
use Rattle.fleet_rows.specs.declared.refusal.Field.TheVariants as field
use Rattle.fleet_rows.specs.declared.refusal.Refusal.TheVariants.{BadVersion, NotObject, Missing, Wrong, BadStamp}
use Rattle.fleet_rows.specs.declared.catalog.Relationship.TheVariants as relationship
use Rattle.fleet_rows.specs.declared.command.Kind.TheVariants as kind
use Rattle.fleet_rows.specs.declared.change.Change.TheVariants as change
use Rattle.jiff.proofs.OnLiterals.{jiff_on_literals}
use Rattle.fleet_rows.specs.text_spec.StampReader.{stamp_of, date_at, time_at, two_digits, one_of, fraction_at, distance_at, offset_at}
use Rattle.wire_spec.specs.Table.{top, outer, inner, value_change}
use Rattle.wire_spec.specs.Decode.{DecodeOf, bad_version}

ten : Json
ten = string (codes "2024-05-01T10:00:00Z")

with_node_and_stamp : List (List ℕ × Json) → Json
with_node_and_stamp rest = object (members_of ((codes "producer_timestamp", ten) ∷ (codes "certname", string (codes "a")) ∷ rest))

unknown_keys_are_read_past : value_change kind.Deactivate (with_node_and_stamp ((codes "x", null) ∷ [])) ≡ Ok (change.Deactivate (record { certname = codes "a"; stamp = pos 1_714_557_600_000_000_000 }))
unfolding ten with_node_and_stamp stamp_of date_at time_at two_digits one_of fraction_at distance_at offset_at jiff_on_literals
unknown_keys_are_read_past = refl

null_where_a_bool_is_required : value_change kind.Expiration (with_node_and_stamp ((codes "expire", object (members_of ((codes "facts", null) ∷ []))) ∷ [])) ≡ Err (Wrong (top field.ExpireFacts))
unfolding ten with_node_and_stamp stamp_of date_at time_at two_digits one_of fraction_at distance_at offset_at jiff_on_literals
null_where_a_bool_is_required = refl

null_lists_are_empty_and_a_null_metric_is_wrong : value_change kind.Report (with_node_and_stamp ((codes "metrics", array (items_of (null ∷ []))) ∷ (codes "resources", null) ∷ [])) ≡ Err (Wrong (outer 0 field.Metrics))
unfolding ten with_node_and_stamp stamp_of date_at time_at two_digits one_of fraction_at distance_at offset_at jiff_on_literals
null_lists_are_empty_and_a_null_metric_is_wrong = refl

an_events_stamp : value_change kind.Report (with_node_and_stamp ((codes "resources", array (items_of (object (members_of ((codes "resource_type", string []) ∷ (codes "resource_title", string []) ∷ (codes "events", array (items_of (object (members_of ((codes "status", string []) ∷ (codes "timestamp", string (codes "x")) ∷ [])) ∷ []))) ∷ [])) ∷ []))) ∷ [])) ≡ Err (BadStamp (inner 0 0 field.Timestamp))
unfolding ten with_node_and_stamp stamp_of date_at time_at two_digits one_of fraction_at distance_at offset_at jiff_on_literals
an_events_stamp = refl

null_edges : value_change kind.Catalog (with_node_and_stamp ((codes "version", string []) ∷ (codes "edges", null) ∷ (codes "resources", null) ∷ [])) ≡ Err (Wrong (top field.Edges))
unfolding ten with_node_and_stamp stamp_of date_at time_at two_digits one_of fraction_at distance_at offset_at jiff_on_literals
null_edges = refl

no_resources : value_change kind.Catalog (with_node_and_stamp ((codes "version", string []) ∷ (codes "edges", array (items_of [])) ∷ [])) ≡ Err (Missing (top field.Resources))
unfolding ten with_node_and_stamp stamp_of date_at time_at two_digits one_of fraction_at distance_at offset_at jiff_on_literals
no_resources = refl

-- ---- whole changes, each field with a value of its own

each_field_of_facts : value_change kind.Facts (object (members_of ((codes "certname", string (codes "a")) ∷ (codes "environment", string (codes "e")) ∷ (codes "values", object (members_of ((codes "x", number (codes "1")) ∷ (codes "certname", null) ∷ []))) ∷ (codes "producer_timestamp", ten) ∷ (codes "producer", string (codes "p")) ∷ []))) ≡ Ok (change.Facts (record { certname = codes "a"; environment = Some (codes "e"); values = (codes "x", number (codes "1")) ∷ (codes "certname", null) ∷ []; stamp = pos 1_714_557_600_000_000_000; producer = Some (codes "p") }))
unfolding ten with_node_and_stamp stamp_of date_at time_at two_digits one_of fraction_at distance_at offset_at jiff_on_literals
each_field_of_facts = refl

-- of equal edges the first stays, and tags are sorted and stand once
each_field_of_a_catalog : value_change kind.Catalog (object (members_of ((codes "certname", string (codes "a")) ∷ (codes "version", string (codes "v")) ∷ (codes "environment", string (codes "e")) ∷ (codes "transaction_uuid", string (codes "t")) ∷ (codes "catalog_uuid", string (codes "c")) ∷ (codes "code_id", string (codes "i")) ∷ (codes "job_id", string (codes "j")) ∷ (codes "producer_timestamp", ten) ∷ (codes "producer", string (codes "p")) ∷ (codes "edges", array (items_of (object (members_of ((codes "source", object (members_of ((codes "type", string (codes "S")) ∷ (codes "title", string (codes "s")) ∷ []))) ∷ (codes "target", object (members_of ((codes "type", string (codes "T")) ∷ (codes "title", string (codes "t")) ∷ []))) ∷ (codes "relationship", string (codes "before")) ∷ [])) ∷ object (members_of ((codes "relationship", string (codes "notifies")) ∷ (codes "target", object (members_of ((codes "type", string (codes "S")) ∷ (codes "title", string (codes "s")) ∷ []))) ∷ (codes "source", object (members_of ((codes "type", string (codes "T")) ∷ (codes "title", string (codes "t")) ∷ []))) ∷ [])) ∷ object (members_of ((codes "source", object (members_of ((codes "type", string (codes "S")) ∷ (codes "title", string (codes "s")) ∷ []))) ∷ (codes "target", object (members_of ((codes "type", string (codes "T")) ∷ (codes "title", string (codes "t")) ∷ []))) ∷ (codes "relationship", string (codes "before")) ∷ [])) ∷ []))) ∷ (codes "resources", array (items_of (object (members_of ((codes "type", string (codes "R")) ∷ (codes "title", string (codes "r")) ∷ (codes "exported", boolean true) ∷ (codes "file", string (codes "f")) ∷ (codes "line", number (codes "12")) ∷ (codes "tags", array (items_of (string (codes "b") ∷ string (codes "a") ∷ string (codes "b") ∷ []))) ∷ (codes "parameters", object (members_of ((codes "k", null) ∷ []))) ∷ [])) ∷ object (members_of ((codes "type", string (codes "R")) ∷ (codes "title", string (codes "q")) ∷ [])) ∷ []))) ∷ []))) ≡ Ok (change.Catalog (record {
  certname = codes "a";
  version = codes "v";
  environment = Some (codes "e");
  transaction_uuid = Some (codes "t");
  catalog_uuid = Some (codes "c");
  code_id = Some (codes "i");
  job_id = Some (codes "j");
  stamp = pos 1_714_557_600_000_000_000;
  producer = Some (codes "p");
  edges = (record { source = record { rtype = codes "S"; title = codes "s" }; target = record { rtype = codes "T"; title = codes "t" }; relationship = relationship.Before }) ∷ (record { source = record { rtype = codes "T"; title = codes "t" }; target = record { rtype = codes "S"; title = codes "s" }; relationship = relationship.Notifies }) ∷ [];
  resources =
      (record { rtype = codes "R"; title = codes "r"; exported = true; file = Some (codes "f"); line = Some 12; tags = codes "a" ∷ codes "b" ∷ []; parameters = (codes "k", null) ∷ [] })
      ∷ (record { rtype = codes "R"; title = codes "q"; exported = false; file = None; line = None; tags = []; parameters = [] }) ∷ [];
}))
unfolding ten with_node_and_stamp stamp_of date_at time_at two_digits one_of fraction_at distance_at offset_at jiff_on_literals
each_field_of_a_catalog = refl

each_field_of_a_report : value_change kind.Report (object (members_of ((codes "certname", string (codes "a")) ∷ (codes "environment", string (codes "e")) ∷ (codes "puppet_version", string (codes "7")) ∷ (codes "report_format", number (codes "10")) ∷ (codes "configuration_version", string (codes "c")) ∷ (codes "start_time", string (codes "2024-05-01T09:59:59Z")) ∷ (codes "end_time", string (codes "2024-05-01T10:00:01Z")) ∷ (codes "producer_timestamp", ten) ∷ (codes "producer", string (codes "p")) ∷ (codes "noop", boolean true) ∷ (codes "status", string (codes "s")) ∷ (codes "transaction_uuid", string (codes "t")) ∷ (codes "resources", array (items_of (object (members_of ((codes "resource_type", string (codes "R")) ∷ (codes "resource_title", string (codes "r")) ∷ (codes "events", array (items_of (object (members_of ((codes "status", string (codes "s")) ∷ (codes "timestamp", ten) ∷ (codes "property", null) ∷ [])) ∷ []))) ∷ [])) ∷ []))) ∷ (codes "logs", array (items_of (object (members_of ((codes "level", string (codes "l")) ∷ [])) ∷ []))) ∷ (codes "metrics", array (items_of (object (members_of ([])) ∷ []))) ∷ []))) ≡ Ok (change.Report (record {
  certname = codes "a";
  environment = Some (codes "e");
  puppet_version = Some (codes "7");
  report_format = Some 10;
  configuration_version = Some (codes "c");
  start_time = Some (pos 1_714_557_599_000_000_000);
  end_time = Some (pos 1_714_557_601_000_000_000);
  stamp = pos 1_714_557_600_000_000_000;
  producer = Some (codes "p");
  noop = Some true;
  status = Some (codes "s");
  transaction_uuid = Some (codes "t");
  resources = object (members_of ((codes "resource_type", string (codes "R")) ∷ (codes "resource_title", string (codes "r")) ∷ (codes "events", array (items_of (object (members_of ((codes "status", string (codes "s")) ∷ (codes "timestamp", ten) ∷ (codes "property", null) ∷ [])) ∷ []))) ∷ [])) ∷ [];
  logs = object (members_of ((codes "level", string (codes "l")) ∷ [])) ∷ [];
  metrics = object (members_of ([])) ∷ [];
}))
unfolding ten with_node_and_stamp stamp_of date_at time_at two_digits one_of fraction_at distance_at offset_at jiff_on_literals
each_field_of_a_report = refl

-- ---- refusals before the fields

another_version_is_refused_whatever_the_payload : DecodeOf (record { kind = kind.Facts; version = 4; received = pos 0; payload = [] }) (Err BadVersion)
another_version_is_refused_whatever_the_payload = bad_version (λ e. omega (arith, e)) refl

a_list_is_no_object : value_change kind.Facts (array (items_of [])) ≡ Err NotObject
a_list_is_no_object = refl
