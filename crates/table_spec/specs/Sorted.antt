-- The orders of rows within one node.
use Rattle.std.specs.Prelude.{ℕ, List, [], ◌∷◌, if◌then◌else◌}
use Rattle.std.specs.declared.cmp.Ordering.{Ordering}
use Rattle.std.specs.Ordering.{int_cmp, ordering_then, is_gt}
use Rattle.history_spec.specs.text_spec.Compact.{text_cmp}
use Rattle.history_spec.specs.fleet_rows.Change.{change_stamp}
use Rattle.history_spec.specs.fleet_rows.declared.catalog.Edge.{Edge}
use Rattle.history_spec.specs.fleet_rows.declared.catalog.Resource.{Resource}
use Rattle.history_spec.specs.fleet_rows.declared.change.Change.{Change}
use Rattle.history_spec.specs.fleet_rows.declared.change.Change.TheVariants.{Report}
use Rattle.history_spec.specs.wire_spec.Table.{relationship_name}
use Rattle.history_spec.specs.Report.{report_text}
use Rattle.history_spec.specs.fleet_rows.declared.applied.Applied.{Applied}

-- inserts before the first item that isn't smaller; so sorting keeps the order of equal items
abbrev pub insert_by : {A : Type 0} → (A → A → Ordering) → A → List A → List A
insert_by cmp x [] = x ∷ []
insert_by cmp x (y ∷ ys) = if is_gt (cmp x y) then y ∷ insert_by cmp x ys else x ∷ y ∷ ys

abbrev pub sorted_by : {A : Type 0} → (A → A → Ordering) → List A → List A
sorted_by cmp [] = []
sorted_by cmp (x ∷ xs) = insert_by cmp x (sorted_by cmp xs)

-- resources are compared by type, then by title
abbrev pub resource_cmp : Resource → Resource → Ordering
resource_cmp r q = ordering_then (text_cmp r.rtype q.rtype) (text_cmp r.title q.title)

-- edges are compared by the source's type and title, the target's type and title, and the relationship's name
abbrev pub edge_cmp : Edge → Edge → Ordering
edge_cmp e f =
    ordering_then (text_cmp e.source.rtype f.source.rtype) (ordering_then (text_cmp e.source.title f.source.title)
    (ordering_then (text_cmp e.target.rtype f.target.rtype) (ordering_then (text_cmp e.target.title f.target.title)
    (text_cmp (relationship_name e.relationship) (relationship_name f.relationship)))))

-- a report's canonical text; empty for any other change
abbrev pub text_of_report : Change → List ℕ
text_of_report (Report r) = report_text r
text_of_report _ = []

-- reports are compared by producer timestamp, then by canonical text
abbrev pub report_cmp : Applied → Applied → Ordering
report_cmp x y =
    ordering_then (int_cmp (change_stamp x.change) (change_stamp y.change))
    (text_cmp (text_of_report x.change) (text_of_report y.change))
