-- The laws of the tables of the wire formats.
use Rattle.std.specs.Prelude.{◌≡◌, ◌≢◌, ◌↔◌, ◌⊎◌, ℕ, ℤ, List, [], ◌∷◌, ◌++◌, Bool, true, false, Option, Some, None, Ok, Err, IsPermutation}
use Rattle.std.specs.List.{AllByRecursion, Contains}
use Rattle.std.specs.List.Sorted.{IsStrictlySortedBy}
use Rattle.std.specs.Str.Parse.{digits_value}
use Rattle.history_spec.specs.text_spec.Json.{Json, null, boolean, number, string, array, object, Items, Members, items_list, members_list, find_member, HasDistinctKeys}
use Rattle.history_spec.specs.text_spec.Compact.{text_cmp}
use Rattle.history_spec.specs.text_spec.Stamp.{IsStampOf}
use Rattle.history_spec.specs.fleet_rows.Texts.{sorted_texts}
use Rattle.history_spec.specs.fleet_rows.declared.catalog.Edge.{Edge}
use Rattle.history_spec.specs.fleet_rows.declared.command.Kind.{Kind}
use Rattle.history_spec.specs.fleet_rows.declared.command.Kind.TheVariants.{Facts, Catalog, Report, Deactivate, Expiration}
use Rattle.history_spec.specs.fleet_rows.declared.refusal.Field.{Field}
use Rattle.history_spec.specs.fleet_rows.declared.refusal.Field.TheVariants as field
use Rattle.history_spec.specs.fleet_rows.declared.refusal.Place.{Place}
use Rattle.history_spec.specs.fleet_rows.declared.refusal.Refusal.TheVariants.{Missing, Wrong, BadStamp}
use Rattle.history_spec.specs.wire_spec.Refusals.{field_key}
use Rattle.history_spec.specs.wire_spec.Table.{Pairs, Takes, text, nonempty_text, bool, is_whole, whole_number, stamp, members, items, required, optional, distinct_edges, object_change}
use Rattle.history_spec.specs.Lawful.{AreDistinctEdges}

-- ---- which members matter

-- the fields of a kind's object
abbrev pub fields_of : Kind → List Field
fields_of Facts = field.Certname ∷ field.Environment ∷ field.Values ∷ field.ProducerTimestamp ∷ field.Producer ∷ []
fields_of Catalog =
    field.Certname ∷ field.Version ∷ field.Environment ∷ field.TransactionUuid ∷ field.CatalogUuid ∷ field.CodeId ∷ field.JobId
    ∷ field.ProducerTimestamp ∷ field.Producer ∷ field.Edges ∷ field.Resources ∷ []
fields_of Report =
    field.Certname ∷ field.Environment ∷ field.PuppetVersion ∷ field.ReportFormat ∷ field.ConfigurationVersion ∷ field.StartTime
    ∷ field.EndTime ∷ field.ProducerTimestamp ∷ field.Producer ∷ field.Noop ∷ field.Status ∷ field.TransactionUuid
    ∷ field.Resources ∷ field.Logs ∷ field.Metrics ∷ []
fields_of Deactivate = field.Certname ∷ field.ProducerTimestamp ∷ []
fields_of Expiration = field.Certname ∷ field.ProducerTimestamp ∷ field.Expire ∷ []

-- a member with an unknown key changes nothing, at any position
abbrev pub UnknownKeysSayNothing : Type 0
UnknownKeysSayNothing =
    (kind : Kind) (before after : Pairs) (key : List ℕ) (value : Json)
    → AllByRecursion (λ f. field_key f ≢ key) (fields_of kind)
    → object_change kind (before ++ (key, value) ∷ after) ≡ object_change kind (before ++ after)

-- for members with distinct keys, the order makes no difference
abbrev pub OrderOfMembersSaysNothing : Type 0
OrderOfMembersSaysNothing =
    (kind : Kind) (ms moved : Pairs) → HasDistinctKeys ms → IsPermutation ms moved → object_change kind ms ≡ object_change kind moved

-- ---- what is read from a field, and why a field is refused

-- Missing means that the field is absent
abbrev pub MissingIsAbsence : {A : Type 0} → Takes A → Type 0
MissingIsAbsence takes = (p : Place) (ms : Pairs) → (required takes p ms ≡ Err (Missing p)) ↔ (find_member (field_key p.field) ms ≡ None)

abbrev pub MissingIsAbsenceOfEachKind : Type 0
MissingIsAbsenceOfEachKind =
    MissingIsAbsence text × MissingIsAbsence nonempty_text × MissingIsAbsence bool × MissingIsAbsence whole_number
    × MissingIsAbsence stamp × MissingIsAbsence members × MissingIsAbsence items

-- an optional field gives None exactly if it is absent or null
abbrev pub NothingIsAbsenceOrNull : {A : Type 0} → Takes A → Type 0
NothingIsAbsenceOrNull takes =
    (p : Place) (ms : Pairs)
    → (optional takes p ms ≡ Ok None) ↔ ((find_member (field_key p.field) ms ≡ None) ⊎ (find_member (field_key p.field) ms ≡ Some null))

abbrev pub NothingIsAbsenceOrNullOfEachKind : Type 0
NothingIsAbsenceOrNullOfEachKind =
    NothingIsAbsenceOrNull text × NothingIsAbsenceOrNull nonempty_text × NothingIsAbsenceOrNull bool
    × NothingIsAbsenceOrNull whole_number × NothingIsAbsenceOrNull stamp × NothingIsAbsenceOrNull members
    × NothingIsAbsenceOrNull items

-- Wrong means that the value has another type
abbrev pub WrongIsAnotherKind : Type 0
WrongIsAnotherKind =
    (p : Place) (j : Json)
    → ((text p j ≡ Err (Wrong p)) ↔ ((s : List ℕ) → j ≢ string s))
    × ((nonempty_text p j ≡ Err (Wrong p)) ↔ ((x : ℕ) (s : List ℕ) → j ≢ string (x ∷ s)))
    × ((bool p j ≡ Err (Wrong p)) ↔ ((b : Bool) → j ≢ boolean b))
    × ((whole_number p j ≡ Err (Wrong p)) ↔ ((s : List ℕ) → is_whole s ≡ true → j ≢ number s))
    × ((stamp p j ≡ Err (Wrong p)) ↔ ((s : List ℕ) → j ≢ string s))
    × ((members p j ≡ Err (Wrong p)) ↔ ((ms : Members) → j ≢ object ms))
    × ((items p j ≡ Err (Wrong p)) ↔ ((js : Items) → j ≢ array js))

-- what is read is the value itself
abbrev pub TakenIsTheValue : Type 0
TakenIsTheValue =
    (p : Place)
    → ((s : List ℕ) → text p (string s) ≡ Ok s)
    × ((x : ℕ) (s : List ℕ) → nonempty_text p (string (x ∷ s)) ≡ Ok (x ∷ s))
    × ((b : Bool) → bool p (boolean b) ≡ Ok b)
    × ((s : List ℕ) → is_whole s ≡ true → whole_number p (number s) ≡ Ok (digits_value 10 s))
    × ((s : List ℕ) (m : ℤ) → IsStampOf s m → stamp p (string s) ≡ Ok m)
    × ((ms : Members) → members p (object ms) ≡ Ok (members_list ms))
    × ((js : Items) → items p (array js) ≡ Ok (items_list js))

-- BadStamp means that the text names no moment
abbrev pub BadStampIsNoStamp : Type 0
BadStampIsNoStamp =
    (p : Place) (j : Json)
    → (stamp p j ≡ Err (BadStamp p)) ↔ ((s : List ℕ) × (j ≡ string s) × ((m : ℤ) → IsStampOf s m → ⊥))

-- ---- lists without duplicates

-- each edge is kept once
abbrev pub EachEdgeStaysOnce : Type 0
EachEdgeStaysOnce =
    (es : List Edge) → ((e : Edge) → Contains (distinct_edges es) e ↔ Contains es e) × AreDistinctEdges (distinct_edges es)

-- each text is kept once, and they strictly ascend by their bytes
abbrev pub EachTextStaysOnceInOrder : Type 0
EachTextStaysOnceInOrder =
    (xs : List (List ℕ)) → ((x : List ℕ) → Contains (sorted_texts xs) x ↔ Contains xs x) × IsStrictlySortedBy text_cmp (sorted_texts xs)
