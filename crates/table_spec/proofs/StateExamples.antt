-- What rows show of nodes and reports, for small histories. Of events the newest stands first.
use Rattle.std.proofs.Common.{◌≡◌, refl, lit≤, ℕ, ℤ, pos, ◌+◌, ◌*◌, List, [], ◌∷◌, map, true, false, Option, Some, None, if◌then◌else◌, codes}
use Rattle.std.specs.List.{zip}
use Rattle.std.specs.Str.{bytes_eq}
use Rattle.history_spec.specs.text_spec.Json.{null, string}
use Rattle.history_spec.specs.text_spec.Compact.{escaped}
use Rattle.history_spec.specs.fleet_rows.Cell.{CellValue, stamp, plain}
use Rattle.history_spec.specs.fleet_rows.Defaults.{default_ttls}
use Rattle.history_spec.specs.fleet_rows.declared.change.Change.TheVariants.{Facts, Report, Deactivate}
use Rattle.history_spec.specs.fleet_rows.declared.row.Entity.{Entity}
use Rattle.history_spec.specs.fleet_rows.declared.row.Entity.TheVariants as entity
use Rattle.history_spec.specs.fleet_rows.declared.settings.Ttls.{Ttls}
use Rattle.history_spec.specs.Trace.{TraceEvent, applied_as, applied, swept, Trace}
use Rattle.table_spec.specs.Columns.{columns}
use Rattle.table_spec.specs.Rows.{Cells, rows}

abbrev day : ℕ
day = 86_400_000_000_000

abbrev facts : ℕ → ℕ → TraceEvent
facts receipt at =
    applied (applied_as receipt (Some (pos at)) (Facts (record { certname = codes "a"; environment = Some (codes "production"); values = []; stamp = pos at; producer = None })))

abbrev deactivation : ℕ → ℕ → TraceEvent
deactivation receipt at = applied (applied_as receipt (Some (pos at)) (Deactivate (record { certname = codes "a"; stamp = pos at })))

abbrev expiry : ℕ → TraceEvent
expiry m = swept (record { expire = true; purge = false; reports = false }) (pos m)

abbrev cell_in : List ℕ → List (List ℕ × CellValue) → CellValue
cell_in name [] = plain null
cell_in name (c ∷ cs) = if bytes_eq name c.0 then c.1 else cell_in name cs

-- one column of the rows
abbrev column : Entity → List ℕ → List Cells → List CellValue
column e name = map (λ row. cell_in name (zip (columns e) row))

abbrev nodes_show : List ℕ → Trace → List CellValue
nodes_show name history = column entity.Nodes name (rows entity.Nodes default_ttls history)

-- ---- deactivated and expired, each in its column

abbrev deactivated_node : Trace
deactivated_node = deactivation 2 6 ∷ facts 1 5 ∷ []

it_shows_since_when_it_is_deactivated : nodes_show (codes "deactivated") deactivated_node ≡ stamp (pos 6) ∷ []
it_shows_since_when_it_is_deactivated = refl

it_is_not_expired : nodes_show (codes "expired") deactivated_node ≡ plain null ∷ []
it_is_not_expired = refl

abbrev expired_node : Trace
expired_node = expiry (8 * day) ∷ facts 1 5 ∷ []

it_is_not_deactivated : nodes_show (codes "deactivated") expired_node ≡ plain null ∷ []
it_is_not_deactivated = refl

it_shows_since_when_it_is_expired : nodes_show (codes "expired") expired_node ≡ stamp (pos (5 + 7 * day)) ∷ []
it_shows_since_when_it_is_expired = refl

its_facts_stand_in_their_columns : nodes_show (codes "facts_timestamp") expired_node ≡ stamp (pos 5) ∷ []
its_facts_stand_in_their_columns = refl

it_has_no_catalog : nodes_show (codes "catalog_timestamp") expired_node ≡ plain null ∷ []
it_has_no_catalog = refl

-- ---- reports

-- a report of this status and configuration version, received at this moment, with this timestamp
abbrev report : List ℕ → ℕ → Option ℤ → ℕ → TraceEvent
report status receipt received at =
    applied (applied_as receipt received (Report (record { certname = codes "a"; environment = None; puppet_version = None; report_format = None; configuration_version = Some status; start_time = None; end_time = None; stamp = pos at; producer = None; noop = None; status = Some status; transaction_uuid = None; resources = []; logs = []; metrics = [] })))

abbrev two_reports : Ttls
two_reports = record default_ttls { report_count = Some 2; count = (lit≤ tt, lit≤ tt) }

each_report_shows_when_it_came : column entity.Reports (codes "receive_time") (rows entity.Reports default_ttls (report (codes "changed") 2 None 1 ∷ report (codes "failed") 1 (Some (pos 7)) 2 ∷ [])) ≡ plain null ∷ stamp (pos 7) ∷ []
unfolding escaped
each_report_shows_when_it_came = refl

a_limit_leaves_the_two_of_the_greatest_ranks : column entity.Reports (codes "receive_time") (rows entity.Reports two_reports (report (codes "c") 3 (Some (pos 30)) 3 ∷ report (codes "b") 2 (Some (pos 20)) 1 ∷ report (codes "a") 1 (Some (pos 10)) 2 ∷ [])) ≡ stamp (pos 10) ∷ stamp (pos 30) ∷ []
unfolding escaped
a_limit_leaves_the_two_of_the_greatest_ranks = refl

-- of reports with one timestamp a node's row shows the one that was received last, and the rows stand by their texts
of_one_timestamp_the_last_is_shown : column entity.Nodes (codes "latest_report_status") (rows entity.Nodes default_ttls (report (codes "changed") 2 (Some (pos 9)) 1 ∷ report (codes "failed") 1 (Some (pos 8)) 1 ∷ [])) ≡ plain (string (codes "changed")) ∷ []
unfolding escaped
of_one_timestamp_the_last_is_shown = refl
