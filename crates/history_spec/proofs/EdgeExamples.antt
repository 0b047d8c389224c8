-- Reports and nodes at their edges.
use Rattle.std.proofs.Common.{◌≡◌, refl, lit≤, ℕ, pos, ◌+◌, ◌*◌, [], ◌∷◌, List, Bool, true, false, not, ◌||◌, if◌then◌else◌, ap, Some, None, codes, decimal}
use Rattle.std.specs.Fmt.{digits}
use Rattle.std.proofs.lemmas.Slice.Eq.{bytes_eq-Decides}
use Rattle.json_machine.specs.text_spec.Compact.{escaped}
use Rattle.wire_spec.specs.fleet_rows.declared.change.ReportChange.{ReportChange}
use Rattle.wire_spec.specs.fleet_rows.declared.change.Change.TheVariants.{Facts, Catalog, Report, Deactivate, Expiration}
use Rattle.wire_spec.specs.fleet_rows.declared.settings.Ttls.{Ttls}
use Rattle.wire_spec.specs.fleet_rows.declared.applied.Applied.{Applied}
use Rattle.history_spec.specs.Trace.{TraceEvent, applied_as, applied, swept}
use Rattle.history_spec.specs.Life.{kept_reports, is_inactive, nodes}
use Rattle.history_spec.specs.Report.{report_text, is_same_report, greatest}
use Rattle.wire_spec.specs.fleet_rows.Defaults.{default_ttls}

day : ℕ
day = 86_400_000_000_000

abbrev report : ℕ → ReportChange
report at = record { certname = codes "a"; environment = None; puppet_version = None; report_format = Some 12; configuration_version = None; start_time = None; end_time = Some (pos 5); stamp = pos at; producer = None; noop = Some false; status = None; transaction_uuid = None; resources = []; logs = []; metrics = [] }

abbrev stored : ℕ → ℕ → Applied
stored r at = applied_as r (Some (pos 0)) (Report (report at))

abbrev retention : ℕ → TraceEvent
retention m = swept (record { expire = false; purge = false; reports = true }) (pos m)

report_at_the_edge_of_its_lifetime : kept_reports default_ttls (codes "a") (retention (100 + 14 * day) ∷ applied (stored 1 100) ∷ []) ≡ stored 1 100 ∷ []
unfolding day
report_at_the_edge_of_its_lifetime = refl

report_behind_the_edge : kept_reports default_ttls (codes "a") (retention (101 + 14 * day) ∷ applied (stored 1 100) ∷ []) ≡ []
unfolding day
report_behind_the_edge = refl

report_is_itself : (r : ReportChange) → is_same_report (Report r) (Report r) ≡ true
report_is_itself r = (bytes_eq-Decides (report_text r) (report_text r)).1 refl

of_equal_reports_the_later_receipt : kept_reports default_ttls (codes "a") (applied (stored 2 100) ∷ applied (stored 1 100) ∷ []) ≡ stored 2 100 ∷ []
unfolding day
of_equal_reports_the_later_receipt = rw (report_is_itself (report 100)) refl

abbrev expiry_and_purge : ℕ → TraceEvent
expiry_and_purge m = swept (record { expire = true; purge = true; reports = false }) (pos m)

abbrev facts_at_0 : Applied
facts_at_0 = applied_as 1 (Some (pos 0)) (Facts (record { certname = codes "a"; environment = None; values = []; stamp = pos 0; producer = None }))

neither_expired_for_long_enough_nor_purged : nodes default_ttls (expiry_and_purge (21 * day) ∷ applied facts_at_0 ∷ []) ≡ codes "a" ∷ []
unfolding day
neither_expired_for_long_enough_nor_purged = refl

expired_and_purged_by_one_sweep : nodes default_ttls (expiry_and_purge (21 * day + 1) ∷ applied facts_at_0 ∷ []) ≡ []
unfolding day
expired_and_purged_by_one_sweep = refl

-- falling moments: the greatest counts
the_greatest_sweep_counts : is_inactive default_ttls (swept (record { expire = true; purge = false; reports = false }) (pos 1) ∷ swept (record { expire = true; purge = false; reports = false }) (pos (7 * day + 1)) ∷ applied facts_at_0 ∷ []) (codes "a") ≡ true
unfolding day
the_greatest_sweep_counts = refl

-- ---- what keeps a node from expiring

abbrev expiry : ℕ → TraceEvent
expiry m = swept (record { expire = true; purge = false; reports = false }) (pos m)

abbrev catalog : ℕ → ℕ → Applied
catalog r at = applied_as r (Some (pos 0)) (Catalog (record { certname = codes "a"; version = []; environment = None; transaction_uuid = None; catalog_uuid = None; code_id = None; job_id = None; stamp = pos at; producer = None; edges = []; resources = [] }))

a_catalog_is_activity : is_inactive default_ttls (expiry (7 * day + 1) ∷ applied (catalog 2 1) ∷ applied facts_at_0 ∷ []) (codes "a") ≡ false
unfolding day
a_catalog_is_activity = refl

a_report_is_activity : is_inactive default_ttls (expiry (7 * day + 1) ∷ applied (stored 2 1) ∷ applied facts_at_0 ∷ []) (codes "a") ≡ false
unfolding day
a_report_is_activity = refl

abbrev may_expire : ℕ → Bool → Applied
may_expire r b = applied_as r (Some (pos 0)) (Expiration (record { certname = codes "a"; stamp = pos 0; expire = b }))

a_node_that_may_not_expire : is_inactive default_ttls (expiry (7 * day + 1) ∷ applied (may_expire 2 false) ∷ applied facts_at_0 ∷ []) (codes "a") ≡ false
unfolding day
a_node_that_may_not_expire = refl

a_node_that_may_expire_again : is_inactive default_ttls (expiry (7 * day + 1) ∷ applied (may_expire 3 true) ∷ applied (may_expire 2 false) ∷ applied facts_at_0 ∷ []) (codes "a") ≡ true
unfolding day
a_node_that_may_expire_again = refl

-- no purge takes a node that was never active nor deactivated
a_node_of_expirations_alone : nodes default_ttls (expiry_and_purge (1_000_000 * day) ∷ applied (may_expire 1 true) ∷ []) ≡ codes "a" ∷ []
unfolding day
a_node_of_expirations_alone = refl

-- ---- three lifetimes that differ

abbrev one_two_three : Ttls
one_two_three = record { node_days = 1; purge_days = 2; report_days = 3; report_count = None; node = (lit≤ tt, lit≤ tt); purge = (lit≤ tt, lit≤ tt); report = (lit≤ tt, lit≤ tt); count = tt }

each_lifetime_counts_for_its_own : kept_reports one_two_three (codes "a") (retention (100 + 3 * day) ∷ expiry_and_purge (100 + 3 * day) ∷ applied (stored 1 100) ∷ []) ≡ stored 1 100 ∷ []
unfolding day
each_lifetime_counts_for_its_own = refl

purged_behind_its_own_lifetime : nodes one_two_three (expiry_and_purge (101 + 3 * day) ∷ applied (stored 1 100) ∷ []) ≡ []
unfolding day
purged_behind_its_own_lifetime = refl

abbrev deactivated_at_0 : Applied
deactivated_at_0 = applied_as 1 (Some (pos 0)) (Deactivate (record { certname = codes "a"; stamp = pos 0 }))

deactivated_at_the_purge_edge : nodes one_two_three (expiry_and_purge (2 * day) ∷ applied deactivated_at_0 ∷ []) ≡ codes "a" ∷ []
unfolding day
deactivated_at_the_purge_edge = refl

deactivated_behind_the_purge_edge : nodes one_two_three (expiry_and_purge (2 * day + 1) ∷ applied deactivated_at_0 ∷ []) ≡ []
unfolding day
deactivated_behind_the_purge_edge = refl

-- ---- at most two reports

abbrev two_reports : Ttls
two_reports = record default_ttls { report_count = Some 2; count = (lit≤ tt, lit≤ tt) }

-- the report of so many o'clock
abbrev report_at : ℕ → ReportChange
report_at hour = record (report (hour * 3_600_000_000_000)) { configuration_version = Some (decimal hour) }

abbrev at_hour : ℕ → ℕ → Applied
at_hour r hour = applied_as r (Some (pos 0)) (Report (report_at hour))

of_three_the_two_last_hours : kept_reports two_reports (codes "a") (applied (at_hour 3 11) ∷ applied (at_hour 2 10) ∷ applied (at_hour 1 12) ∷ []) ≡ at_hour 3 11 ∷ at_hour 1 12 ∷ []
unfolding escaped digits
of_three_the_two_last_hours = refl

an_older_one_that_comes_last : kept_reports two_reports (codes "a") (applied (at_hour 3 10) ∷ applied (at_hour 2 11) ∷ applied (at_hour 1 12) ∷ []) ≡ at_hour 2 11 ∷ at_hour 1 12 ∷ []
unfolding escaped digits
an_older_one_that_comes_last = refl

-- the reports of 12 and of 10 are kept with one more of 12, where that is another
abbrev kept_of_three : Bool → List Applied
kept_of_three same = greatest two_reports.report_count (at_hour 3 12 ∷ at_hour 2 10 ∷ (if not (same || false) then at_hour 1 12 ∷ [] else []))

equal_texts_count_once : kept_reports two_reports (codes "a") (applied (at_hour 3 12) ∷ applied (at_hour 2 10) ∷ applied (at_hour 1 12) ∷ []) ≡ at_hour 3 12 ∷ at_hour 2 10 ∷ []
unfolding escaped digits
equal_texts_count_once = ap kept_of_three (report_is_itself (report_at 12))
