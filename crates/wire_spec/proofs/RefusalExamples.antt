-- Printed refusals, and payloads that are refused.
use Rattle.std.proofs.Common.{◌≡◌, refl, ℕ, pos, List, [], ◌∷◌, true, false, Some, None, codes}
use Rattle.std.specs.Prelude.{Ok, Err}
use Rattle.fleet_rows.specs.text_spec.Json.{Json, null, boolean, number, string, array, object, items_of, members_of}
use Rattle.fleet_rows.specs.declared.refusal.Field.TheVariants as field
use Rattle.fleet_rows.specs.declared.refusal.Refusal.{Refusal}
use Rattle.fleet_rows.specs.declared.refusal.Refusal.TheVariants.{BadVersion, NotJson, TooDeep, NotObject, Missing, Wrong, BadStamp, DuplicateResource, BadRelationship}
use Rattle.fleet_rows.specs.declared.command.Kind.TheVariants as kind
use Rattle.wire_spec.specs.Table.{top, outer, inner, resource, resources_from, edge, distinct_edges, event, report_resource, object_in, value_change, each_from, whole_number, optional, text, required}
use Rattle.std.specs.Fmt.{digits}
use Rattle.fleet_rows.specs.Texts.{sorted_texts}
use Rattle.wire_spec.specs.Refusals.{refusal_text}

field_of_a_resource : refusal_text (Missing (outer 3 field.Title)) ≡ codes "missing resources[3].title"
unfolding digits
field_of_a_resource = refl

field_of_an_edges_end : refusal_text (Wrong (outer 0 field.SourceType)) ≡ codes "wrong edges[0].source.type"
unfolding digits
field_of_an_edges_end = refl

field_of_an_event : refusal_text (BadStamp (inner 1 0 field.Timestamp)) ≡ codes "bad stamp resources[1].events[0].timestamp"
unfolding digits
field_of_an_event = refl

a_tag : refusal_text (Wrong (inner 3 1 field.Tags)) ≡ codes "wrong resources[3].tags[1]"
unfolding digits
a_tag = refl

an_event : refusal_text (Wrong (inner 1 0 field.Events)) ≡ codes "wrong resources[1].events[0]"
unfolding digits
an_event = refl

a_resource : refusal_text (Wrong (outer 2 field.Resources)) ≡ codes "wrong resources[2]"
unfolding digits
a_resource = refl

field_of_expire : refusal_text (Wrong (top field.ExpireFacts)) ≡ codes "wrong expire.facts"
unfolding digits
field_of_expire = refl

tags_of_a_resource : refusal_text (Wrong (outer 12 field.Tags)) ≡ codes "wrong resources[12].tags"
unfolding digits
tags_of_a_resource = refl

end_of_an_edge : refusal_text (Missing (outer 4 field.Target)) ≡ codes "missing edges[4].target"
unfolding digits
end_of_an_edge = refl

a_log : refusal_text (Wrong (outer 4 field.Logs)) ≡ codes "wrong logs[4]"
unfolding digits
a_log = refl

class_ntp : Json
class_ntp = object (members_of ((codes "type", string (codes "Class")) ∷ (codes "title", string (codes "Ntp")) ∷ (codes "tags", array (items_of (string (codes "b") ∷ string (codes "a") ∷ string (codes "b") ∷ []))) ∷ []))

twice_the_same_resource : resources_from [] 0 (class_ntp ∷ class_ntp ∷ []) ≡ Err (DuplicateResource 1)
unfolding class_ntp
twice_the_same_resource = refl

resource_that_is_no_object : resource 2 null ≡ Err (Wrong (outer 2 field.Resources))
resource_that_is_no_object = refl

report_resource_that_is_no_object : report_resource 0 (number (codes "1")) ≡ Err (Wrong (outer 0 field.Resources))
report_resource_that_is_no_object = refl

eighteen_digits : whole_number (top field.ReportFormat) (number (codes "123456789012345678")) ≡ Ok 123456789012345678
eighteen_digits = refl

nineteen_digits : whole_number (top field.ReportFormat) (number (codes "1234567890123456789")) ≡ Err (Wrong (top field.ReportFormat))
nineteen_digits = refl

minus_zero : whole_number (top field.ReportFormat) (number (codes "-0")) ≡ Err (Wrong (top field.ReportFormat))
minus_zero = refl

values_that_are_a_list : value_change kind.Facts (object (members_of ((codes "certname", string (codes "a")) ∷ (codes "environment", string (codes "p")) ∷ (codes "values", array (items_of [])) ∷ []))) ≡ Err (Wrong (top field.Values))
values_that_are_a_list = refl

earlier_field_first : value_change kind.Facts (object (members_of ((codes "values", array (items_of [])) ∷ (codes "certname", string []) ∷ []))) ≡ Err (Wrong (top field.Certname))
earlier_field_first = refl

stamp_before_expire : value_change kind.Expiration (object (members_of ((codes "certname", string (codes "a")) ∷ []))) ≡ Err (Missing (top field.ProducerTimestamp))
stamp_before_expire = refl

unknown_relationship : edge 1 (object (members_of ((codes "source", object (members_of ((codes "type", string []) ∷ (codes "title", string []) ∷ []))) ∷ (codes "target", object (members_of ((codes "type", string []) ∷ (codes "title", string []) ∷ []))) ∷ (codes "relationship", string (codes "requires")) ∷ []))) ≡ Err (BadRelationship 1)
unknown_relationship = refl

null_title_of_a_source : edge 1 (object (members_of ((codes "source", object (members_of ((codes "type", string []) ∷ (codes "title", null) ∷ []))) ∷ []))) ≡ Err (Wrong (outer 1 field.SourceTitle))
null_title_of_a_source = refl

no_relationship : edge 1 (object (members_of ((codes "source", object (members_of ((codes "type", string []) ∷ (codes "title", string []) ∷ []))) ∷ (codes "target", object (members_of ((codes "type", string []) ∷ (codes "title", string []) ∷ []))) ∷ []))) ≡ Err (Missing (outer 1 field.Relationship))
no_relationship = refl

null_tag : resource 3 (object (members_of ((codes "type", string (codes "Class")) ∷ (codes "title", string (codes "Ntp")) ∷ (codes "tags", array (items_of (string (codes "b") ∷ null ∷ []))) ∷ []))) ≡ Err (Wrong (inner 3 1 field.Tags))
null_tag = refl

texts_once_and_sorted : sorted_texts (codes "b" ∷ codes "a" ∷ codes "b" ∷ codes "" ∷ codes "ab" ∷ []) ≡ codes "" ∷ codes "a" ∷ codes "ab" ∷ codes "b" ∷ []
texts_once_and_sorted = refl
