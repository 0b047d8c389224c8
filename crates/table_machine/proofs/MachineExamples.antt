-- Small histories, step by step.
use Rattle.std.proofs.Common.{◌≡◌, refl, lit≤, ℕ, pos, ◌+◌, ◌*◌, List, [], ◌∷◌, true, false, Some, None, codes}
use Rattle.table_spec.specs.fleet_rows.declared.change.Change.TheVariants.{Facts, Report, Deactivate}
use Rattle.table_spec.specs.fleet_rows.Defaults.{default_ttls}
use Rattle.table_spec.specs.fleet_rows.declared.settings.Ttls.{Ttls}
use Rattle.table_spec.specs.fleet_rows.declared.applied.Applied.{Applied}
use Rattle.table_spec.specs.history_spec.Trace.{TraceEvent, applied_as, applied, swept}
use Rattle.table_machine.specs.Table.{Node}
use Rattle.table_machine.specs.Steps.{empty_node, find_node, run}

day : ℕ
day = 86_400_000_000_000

abbrev facts : List ℕ → ℕ → ℕ → Applied
facts certname receipt at = applied_as receipt (Some (pos 0)) (Facts (record { certname = certname; environment = None; values = []; stamp = pos at; producer = None }))

abbrev deactivation : List ℕ → ℕ → ℕ → Applied
deactivation certname receipt at = applied_as receipt (Some (pos 0)) (Deactivate (record { certname = certname; stamp = pos at }))

abbrev report : List ℕ → ℕ → ℕ → Applied
report certname receipt at = applied_as receipt (Some (pos 0)) (Report (record { certname = certname; environment = None; puppet_version = None; report_format = Some 12; configuration_version = None; start_time = None; end_time = Some (pos 5); stamp = pos at; producer = None; noop = Some false; status = None; transaction_uuid = None; resources = []; logs = []; metrics = [] }))

abbrev node_with_facts : List ℕ → Applied → ℕ → Node
node_with_facts certname x at = record (empty_node certname) { active = Some (pos at); facts = Some x }

an_older_command_that_arrives_later_is_left : (run default_ttls (applied (facts (codes "a") 2 5) ∷ applied (facts (codes "a") 1 7) ∷ [])).nodes ≡ node_with_facts (codes "a") (facts (codes "a") 1 7) 7 ∷ []
an_older_command_that_arrives_later_is_left = refl

of_equal_stamps_the_greater_receipt_counts : (run default_ttls (applied (facts (codes "a") 1 7) ∷ applied (facts (codes "a") 2 7) ∷ [])).nodes ≡ node_with_facts (codes "a") (facts (codes "a") 2 7) 7 ∷ []
of_equal_stamps_the_greater_receipt_counts = refl

nodes_stand_by_certname : (run default_ttls (applied (facts (codes "a") 3 1) ∷ applied (facts (codes "c") 2 1) ∷ applied (facts (codes "b") 1 1) ∷ [])).nodes ≡ node_with_facts (codes "a") (facts (codes "a") 3 1) 1 ∷ node_with_facts (codes "b") (facts (codes "b") 1 1) 1 ∷ node_with_facts (codes "c") (facts (codes "c") 2 1) 1 ∷ []
nodes_stand_by_certname = refl

abbrev purge : ℕ → TraceEvent
purge m = swept (record { expire = false; purge = true; reports = false }) (pos m)

-- a node that was purged begins anew: commands that are older than its deactivation make it active
after_a_purge_a_node_begins_anew : (run default_ttls (applied (facts (codes "a") 3 2) ∷ purge (6 + 14 * day) ∷ applied (deactivation (codes "a") 2 5) ∷ applied (facts (codes "a") 1 1) ∷ [])).nodes ≡ node_with_facts (codes "a") (facts (codes "a") 3 2) 2 ∷ []
unfolding day
after_a_purge_a_node_begins_anew = refl

at_the_edge_a_purge_leaves_the_node : find_node (codes "a") (run default_ttls (purge (5 + 14 * day) ∷ applied (deactivation (codes "a") 2 5) ∷ [])).nodes ≡ Some (record (empty_node (codes "a")) { deactivate = Some (deactivation (codes "a") 2 5) })
unfolding day
at_the_edge_a_purge_leaves_the_node = refl

-- a report that is too old for the sweep isn't kept, and is activity
an_old_report_shows_a_node : (run default_ttls (applied (report (codes "a") 1 100) ∷ swept (record { expire = false; purge = false; reports = true }) (pos (101 + 14 * day)) ∷ [])).nodes ≡ record (empty_node (codes "a")) { active = Some (pos 100) } ∷ []
unfolding day
an_old_report_shows_a_node = refl

the_greatest_sweep_stays : (run default_ttls (swept (record { expire = true; purge = false; reports = false }) (pos 3) ∷ swept (record { expire = true; purge = false; reports = false }) (pos 9) ∷ [])).expiry ≡ Some (pos 9)
the_greatest_sweep_stays = refl

-- of three reports under a limit of two the oldest leaves, also where it arrives last
abbrev two_reports : Ttls
two_reports = record default_ttls { report_count = Some 2; count = (lit≤ tt, lit≤ tt) }

the_oldest_report_leaves : (run two_reports (applied (report (codes "a") 3 7) ∷ applied (report (codes "a") 2 5) ∷ applied (report (codes "a") 1 6) ∷ [])).nodes ≡ record (empty_node (codes "a")) { active = Some (pos 7); reports = report (codes "a") 1 6 ∷ report (codes "a") 3 7 ∷ [] } ∷ []
the_oldest_report_leaves = refl

the_oldest_report_comes_last : (run two_reports (applied (report (codes "a") 3 5) ∷ applied (report (codes "a") 2 7) ∷ applied (report (codes "a") 1 6) ∷ [])).nodes ≡ record (empty_node (codes "a")) { active = Some (pos 7); reports = report (codes "a") 1 6 ∷ report (codes "a") 2 7 ∷ [] } ∷ []
the_oldest_report_comes_last = refl
