-- Which reports of a node are kept.
use Rattle.std.specs.Prelude.{ℕ, ℤ, ◌-ℤ◌, int_lt, List, [], ◌∷◌, Bool, true, false, not, ◌&&◌, nat_lt, length, Option, Some, None, filter, codes, decimal}
use Rattle.std.specs.List.{list_any}
use Rattle.std.specs.Ordering.{is_lt}
use Rattle.std.specs.Str.{bytes_eq}
use Rattle.json_machine.specs.text_spec.Json.{Json, null, boolean, number, string, array, object, items_of, members_of}
use Rattle.json_machine.specs.text_spec.Compact.{canonical}
use Rattle.wire_spec.specs.fleet_rows.Printed.{full_text}
use Rattle.wire_spec.specs.fleet_rows.Rank.{rank_cmp}
use Rattle.wire_spec.specs.fleet_rows.declared.change.Change.{Change}
use Rattle.wire_spec.specs.fleet_rows.declared.change.Change.TheVariants as change
use Rattle.wire_spec.specs.fleet_rows.declared.change.ReportChange.{ReportChange}
use Rattle.wire_spec.specs.fleet_rows.declared.command.Kind.TheVariants as kind
use Rattle.wire_spec.specs.fleet_rows.declared.settings.Ttls.{Ttls}
use Rattle.wire_spec.specs.fleet_rows.declared.applied.Applied.{Applied}
use Rattle.history_spec.specs.Trace.{is_kind, rank_of}
use Rattle.wire_spec.specs.fleet_rows.Change.{change_stamp}
use Rattle.history_spec.specs.Node.{days}

abbrev pub text_or_null : Option (List ℕ) → Json
text_or_null None = null
text_or_null (Some s) = string s

abbrev pub bool_or_null : Option Bool → Json
bool_or_null None = null
bool_or_null (Some b) = boolean b

abbrev pub number_or_null : Option ℕ → Json
number_or_null None = null
number_or_null (Some n) = number (decimal n)

-- a moment as its stamp of nine digits
abbrev pub stamp_or_null : Option ℤ → Json
stamp_or_null None = null
stamp_or_null (Some m) = string (full_text m)

-- the columns of a report, except its hash
abbrev pub report_object : ReportChange → Json
report_object r = object (members_of (
    (codes "certname", string r.certname)
    ∷ (codes "configuration_version", text_or_null r.configuration_version)
    ∷ (codes "end_time", stamp_or_null r.end_time)
    ∷ (codes "environment", text_or_null r.environment)
    ∷ (codes "logs", array (items_of r.logs))
    ∷ (codes "metrics", array (items_of r.metrics))
    ∷ (codes "noop", bool_or_null r.noop)
    ∷ (codes "producer", text_or_null r.producer)
    ∷ (codes "producer_timestamp", string (full_text r.stamp))
    ∷ (codes "puppet_version", text_or_null r.puppet_version)
    ∷ (codes "report_format", number_or_null r.report_format)
    ∷ (codes "resources", array (items_of r.resources))
    ∷ (codes "start_time", stamp_or_null r.start_time)
    ∷ (codes "status", text_or_null r.status)
    ∷ (codes "transaction_uuid", text_or_null r.transaction_uuid)
    ∷ []))

-- a report's canonical text
abbrev pub report_text : ReportChange → List ℕ
report_text r = canonical (report_object r)

-- two reports are the same if their canonical texts are equal
abbrev pub is_same_report : Change → Change → Bool
is_same_report (change.Report r) (change.Report q) = bytes_eq (report_text r) (report_text q)
is_same_report _ _ = false

-- a report stays unless it is older than the report lifetime at the greatest sweep of reports
abbrev pub is_retained : Ttls → Option ℤ → Applied → Bool
is_retained ttls None x = true
is_retained ttls (Some sweep) x = not (int_lt (change_stamp x.change) (sweep -ℤ days ttls.report_days))

-- the reports that stay
abbrev pub retained : Ttls → Option ℤ → List Applied → List Applied
retained ttls sweep xs = filter (λ x. is_kind kind.Report x && is_retained ttls sweep x) xs

abbrev pub is_below : Applied → Applied → Bool
is_below x y = is_lt (rank_cmp (rank_of x) (rank_of y))

abbrev pub is_outranked_by : Applied → Applied → Bool
is_outranked_by x y = is_below x y && is_same_report x.change y.change

-- of equal reports, the one with the greatest rank
abbrev pub distinct : List Applied → List Applied
distinct xs = filter (λ x. not (list_any (is_outranked_by x) xs)) xs

-- if there is a limit, the reports with the greatest ranks up to that number
abbrev pub greatest : Option ℕ → List Applied → List Applied
greatest None xs = xs
greatest (Some count) xs = filter (λ x. nat_lt (length (filter (is_below x) xs)) count) xs

abbrev pub reports_kept_of : Ttls → Option ℤ → List Applied → List Applied
reports_kept_of ttls sweep xs = greatest ttls.report_count (distinct (retained ttls sweep xs))
