-- Payloads are JSON of at most 127 levels.
use Rattle.std.proofs.Common.{ℕ, suc, ℤ, pos, ◌+ℤ◌, ◌*ℤ◌, List, [], ◌∷◌, ◌++◌, map, take, arith, refl, Bool, true, false, if◌then◌else◌, Option, Some, None}
use Rattle.std.specs.List.{AllByRecursion}
use Rattle.std.specs.Option.{option_map}
use Rattle.std.specs.Prelude.{codes, nat_lt}
use Rattle.std.specs.Str.{IsUtf8, IsAscii}
use Rattle.std.specs.Str.Parse.{AllDigits}
use Rattle.std.proofs.lemmas.Fmt.{IsAscii-from_digits}
use Rattle.std.proofs.lemmas.Str.{IsUtf8-from_ascii, IsAscii-append, IsAscii-take}
use Rattle.dump_spec.specs.fleet_rows.Printed.{clock_at}
use Rattle.dump_spec.specs.fleet_rows.declared.catalog.Edge.{Edge}
use Rattle.dump_spec.specs.fleet_rows.declared.catalog.Relationship.{Relationship}
use Rattle.dump_spec.specs.fleet_rows.declared.catalog.Relationship.TheVariants as relationship
use Rattle.dump_spec.specs.fleet_rows.declared.catalog.Resource.{Resource}
use Rattle.dump_spec.specs.fleet_rows.declared.catalog.ResourceName.{ResourceName}
use Rattle.dump_spec.specs.fleet_rows.declared.change.Change.{Change}
use Rattle.dump_spec.specs.fleet_rows.declared.change.Change.TheVariants.{Facts, Catalog, Report, Deactivate, Expiration}
use Rattle.dump_spec.specs.history_spec.Lawful.{IfText, IfWhole, IfMoment, IsText, IsJson, HasStamp, IsResource, IsEdge, IsNamed, IsChange}
use Rattle.dump_spec.specs.text_spec.Json.{Json, boolean, string, object, members_of}
use Rattle.dump_spec.specs.text_spec.Stamp.{utc, ahead, behind, Clock, stamp_text, date_text, hour_text, fraction_text, zone_text, zone_seconds, digits_text, clock_text}
use Rattle.dump_spec.specs.wire_spec.Table.{Pairs, relationship_name}
use Rattle.dump_spec.specs.Payloads.{dictionary, list, members, whole, stamp, if_any, if_true, name_fields, edge_fields, edge_value, resource_fields, resource_value, change_fields, payload_of}
use Rattle.dump_spec.specs.Stamps.{without_zeros, if_some, short_zone, short_fraction, short_stamp, short_text}
use Rattle.dump_spec.proofs.of_plain_laws.Members.{all_as}
use Rattle.dump_spec.proofs.of_table_machine.ReportColumns.{ascii-clock, ascii_from_all, key, number_is_value}
use Rattle.dump_spec.proofs.of_text_laws.StampDigits.{AllDigits-digits_text}
use Rattle.dump_laws.proofs.Zeros.{is_front}
use Rattle.dump_laws.proofs.FieldValues.{IsWithin, IfWithin, dictionary_within, list_within}

-- ---- stamps are ASCII

-- a day, and a time to the second: 19 bytes of what is printed for a clock
shown : (c : Clock) (rest : List ℕ) → IsAscii rest → IsAscii (date_text c.year c.month c.day ++ 84 ∷ (hour_text c.hour c.minute ++ 58 ∷ (digits_text 2 c.second ++ rest)))
shown c rest h = IsAscii-append (take 19 (clock_text 0 c)) rest (IsAscii-take (clock_text 0 c) 19 (ascii-clock 0 c)) h

fractions : (ds : List ℕ) → AllDigits 10 ds → IsAscii (fraction_text (if_some ds))
fractions [] all = ascii_from_all [] refl
fractions (d ∷ ds) all = IsAscii-append (46 ∷ []) (d ∷ ds) (ascii_from_all (46 ∷ []) refl) (IsAscii-from_digits (d ∷ ds) all)

zones : (early late : Bool) → IsAscii (zone_text (if early then ahead 23 59 else (if late then behind 23 59 else utc 90)))
zones true late = ascii_from_all (codes "+23:59") refl
zones false true = ascii_from_all (codes "-23:59") refl
zones false false = ascii_from_all (codes "Z") refl

short_text_is_utf8 : (m : ℤ) → IsUtf8 (short_text m)
unfolding short_text
short_text_is_utf8 m =
    let c = clock_at (m +ℤ zone_seconds (short_zone m) *ℤ pos 1_000_000_000) in
    let nanos = digits_text 9 c.nanos in
    IsUtf8-from_ascii (stamp_text (short_stamp m))
    (shown c (fraction_text (short_fraction c.nanos) ++ zone_text (short_zone m))
    (IsAscii-append (fraction_text (short_fraction c.nanos)) (zone_text (short_zone m)) (fractions (without_zeros nanos) ((is_front nanos).digits (AllDigits-digits_text 9 c.nanos)))
    (zones (nat_lt (clock_at m).year 1) (nat_lt 9900 (clock_at m).year))))

-- ---- values

text : (n : ℕ) (s : List ℕ) → IsText s → IsWithin n (string s)
text n s h = record { value = h.utf8; few = omega arith }

text_if : (n : ℕ) (o : Option (List ℕ)) → IfText o → IfWithin n (option_map string o)
text_if n None h = tt
text_if n (Some s) h = text n s h

bool_if : (n : ℕ) (o : Option Bool) → IfWithin n (option_map boolean o)
bool_if n None = tt
bool_if n (Some b) = record { value = tt; few = omega arith }

so_if : (n : ℕ) (b : Bool) → IfWithin n (if_true b)
so_if n true = record { value = tt; few = omega arith }
so_if n false = tt

whole_if : (n : ℕ) (o : Option ℕ) → IfWhole o → IfWithin n (option_map whole o)
whole_if n None h = tt
whole_if n (Some k) h = record { value = number_is_value (Some k) h; few = omega arith }

moment : (n : ℕ) (m : ℤ) → HasStamp m → IsWithin n (stamp m)
moment n m h = record { value = short_text_is_utf8 m; few = omega arith }

moment_if : (n : ℕ) (o : Option ℤ) → IfMoment o → IfWithin n (option_map stamp o)
moment_if n None h = tt
moment_if n (Some m) h = moment n m h

json : (n : ℕ) (j : Json) → IsJson n j → IsWithin n j
json n j h = record { value = h.value; few = h.levels }

list_if : (n : ℕ) (js : List Json) → AllByRecursion (IsJson n) js → IfWithin (suc n) (if_any list js)
list_if n [] h = tt
list_if n (j ∷ js) h = list_within n (j ∷ js) (all_as (IsJson n) (IsWithin n) (j ∷ js) (json n) h)

texts : (n : ℕ) (ts : List (List ℕ)) → AllByRecursion IsText ts → AllByRecursion (IsWithin n) (map string ts)
texts n [] h = tt
texts n (t ∷ ts) h = (text n t h.0, texts n ts h.1)

tags_if : (n : ℕ) (ts : List (List ℕ)) → AllByRecursion IsText ts → IfWithin (suc n) (if_any (λ us. list (map string us)) ts)
tags_if n [] h = tt
tags_if n (t ∷ ts) h = list_within n (map string (t ∷ ts)) (texts n (t ∷ ts) h)

members_if : (n : ℕ) (ms : Pairs) → IsJson n (object (members_of ms)) → IfWithin n (if_any members ms)
members_if n [] h = tt
members_if n (m ∷ ms) h = json n (members (m ∷ ms)) h

-- ---- the kinds of change

name_is : (n : ℕ) (name : ResourceName) → IsNamed name → IsWithin (suc n) (dictionary (name_fields name))
name_is n name h = dictionary_within n (name_fields name) refl refl (text n name.rtype h.rtype, (text n name.title h.title, tt))

relationship_is : (n : ℕ) (r : Relationship) → IsWithin n (string (relationship_name r))
relationship_is n relationship.Contains = record { value = key (codes "contains") refl; few = omega arith }
relationship_is n relationship.Before = record { value = key (codes "before") refl; few = omega arith }
relationship_is n relationship.RequiredBy = record { value = key (codes "required-by") refl; few = omega arith }
relationship_is n relationship.Notifies = record { value = key (codes "notifies") refl; few = omega arith }
relationship_is n relationship.SubscriptionOf = record { value = key (codes "subscription-of") refl; few = omega arith }

edge_is : (e : Edge) → IsEdge e → IsWithin 125 (edge_value e)
edge_is e h = dictionary_within 124 (edge_fields e) refl refl (name_is 123 e.source h.0, (name_is 123 e.target h.1, (relationship_is 124 e.relationship, tt)))

edges_are : (es : List Edge) → AllByRecursion IsEdge es → AllByRecursion (IsWithin 125) (map edge_value es)
edges_are [] h = tt
edges_are (e ∷ es) h = (edge_is e h.0, edges_are es h.1)

resource_is : (r : Resource) → IsResource r → IsWithin 125 (resource_value r)
resource_is r h =
    dictionary_within 124 (resource_fields r) refl refl (text 124 r.rtype h.rtype, (text 124 r.title h.title, (so_if 124 r.exported, (text_if 124 r.file h.file, (whole_if 124 r.line h.line, (tags_if 123 r.tags h.tags, (members_if 124 r.parameters h.parameters, tt)))))))

resources_are : (rs : List Resource) → AllByRecursion IsResource rs → AllByRecursion (IsWithin 125) (map resource_value rs)
resources_are [] h = tt
resources_are (r ∷ rs) h = (resource_is r h.0, resources_are rs h.1)

pub payload_within : (c : Change) → IsChange c → IsWithin 127 (payload_of c)
payload_within (Facts c) h =
    dictionary_within 126 (change_fields (Facts c)) refl refl (text 126 c.certname h.certname.1, (text_if 126 c.environment h.environment, (json 126 (members c.values) h.values, (moment 126 c.stamp h.stamp, (text_if 126 c.producer h.producer, tt)))))
payload_within (Catalog c) h =
    dictionary_within 126 (change_fields (Catalog c)) refl refl (text 126 c.certname h.certname.1, (text 126 c.version h.version, (text_if 126 c.environment h.environment, (text_if 126 c.transaction_uuid h.transaction_uuid, (text_if 126 c.catalog_uuid h.catalog_uuid, (text_if 126 c.code_id h.code_id, (text_if 126 c.job_id h.job_id, (moment 126 c.stamp h.stamp, (text_if 126 c.producer h.producer, (list_within 125 (map edge_value c.edges) (edges_are c.edges h.edges), (list_within 125 (map resource_value c.resources) (resources_are c.resources h.resources), tt)))))))))))
payload_within (Report r) h =
    dictionary_within 126 (change_fields (Report r)) refl refl (text 126 r.certname h.certname.1, (text_if 126 r.environment h.environment, (text_if 126 r.puppet_version h.puppet_version, (whole_if 126 r.report_format h.report_format, (text_if 126 r.configuration_version h.configuration_version, (moment_if 126 r.start_time h.start_time, (moment_if 126 r.end_time h.end_time, (moment 126 r.stamp h.stamp, (text_if 126 r.producer h.producer, (bool_if 126 r.noop, (text_if 126 r.status h.status, (text_if 126 r.transaction_uuid h.transaction_uuid, (list_if 125 r.resources h.resources.elements, (list_if 125 r.logs h.logs.elements, (list_if 125 r.metrics h.metrics.elements, tt)))))))))))))))
payload_within (Deactivate c) h = dictionary_within 126 (change_fields (Deactivate c)) refl refl (text 126 c.certname h.certname.1, (moment 126 c.stamp h.stamp, tt))
payload_within (Expiration c) h =
    dictionary_within 126 (change_fields (Expiration c)) refl refl (text 126 c.certname h.certname.1, (moment 126 c.stamp h.stamp, (dictionary_within 125 ((codes "facts", Some (boolean c.expire)) ∷ []) refl refl (record { value = tt; few = omega arith }, tt), tt)))
