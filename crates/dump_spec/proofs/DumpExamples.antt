-- The members of some payloads in their order, and the items of a table with all that a dump can have of one.
use Rattle.std.proofs.Common.{◌≡◌, ℕ, ℤ, pos, List, [], ◌∷◌, Bool, true, false, Option, Some, None, refl, codes}
use Rattle.std.specs.Prelude.{decimal}
use Rattle.list_again.specs.text_spec.Json.{Json, boolean, number, string, array, object, items_of, members_of}
use Rattle.list_again.specs.fleet_rows.declared.catalog.Resource.{Resource}
use Rattle.list_again.specs.fleet_rows.declared.change.Change.{Change}
use Rattle.list_again.specs.fleet_rows.declared.change.Change.TheVariants.{Facts, Deactivate, Expiration}
use Rattle.list_again.specs.fleet_rows.declared.change.FactsChange.{FactsChange}
use Rattle.list_again.specs.fleet_rows.declared.settings.Ttls.{Ttls}
use Rattle.list_again.specs.history_spec.Thread.{command, sweep}
use Rattle.list_again.specs.history_spec.Trace.{applied_as}
use Rattle.list_again.specs.table_machine.Table.{Node}
use Rattle.list_again.specs.Told.{expire_alone, reports_alone}
use Rattle.list_again.specs.Whole.{empty_report}
use Rattle.dump_spec.specs.Payloads.{there, list, stamp, facts_fields, resource_fields, catalog_fields, report_fields, expiration_fields, change_fields, command_of}
use Rattle.dump_spec.specs.Dumps.{node_changes, dump_items}
use Rattle.dump_spec.specs.Stamps.{short_fraction}

-- ---- payloads

abbrev facts : ℤ → Option (List ℕ) → FactsChange
facts m producer = record { certname = codes "a"; environment = Some (codes "e"); values = (codes "k", number (codes "1")) ∷ []; stamp = m; producer = producer }

facts_have : (m : ℤ)
    → there (facts_fields (facts m (Some (codes "p"))))
    ≡ (codes "certname", string (codes "a")) ∷ (codes "environment", string (codes "e")) ∷ (codes "values", object (members_of ((codes "k", number (codes "1")) ∷ [])))
    ∷ (codes "producer_timestamp", stamp m) ∷ (codes "producer", string (codes "p")) ∷ []
facts_have m = refl

-- what is null is left out
facts_lack : (m : ℤ)
    → there (facts_fields (facts m None))
    ≡ (codes "certname", string (codes "a")) ∷ (codes "environment", string (codes "e")) ∷ (codes "values", object (members_of ((codes "k", number (codes "1")) ∷ [])))
    ∷ (codes "producer_timestamp", stamp m) ∷ []
facts_lack m = refl

abbrev resource : Bool → Option (List ℕ) → Option ℕ → List (List ℕ) → List (List ℕ × Json) → Resource
resource exported file line tags parameters =
    record { rtype = codes "T"; title = codes "t"; exported = exported; file = file; line = line; tags = tags; parameters = parameters }

resource_has :
    there (resource_fields (resource true (Some (codes "f")) (Some 7) (codes "x" ∷ codes "y" ∷ []) ((codes "p", boolean false) ∷ [])))
    ≡ (codes "type", string (codes "T")) ∷ (codes "title", string (codes "t")) ∷ (codes "exported", boolean true) ∷ (codes "file", string (codes "f"))
    ∷ (codes "line", number (decimal 7)) ∷ (codes "tags", array (items_of (string (codes "x") ∷ string (codes "y") ∷ [])))
    ∷ (codes "parameters", object (members_of ((codes "p", boolean false) ∷ []))) ∷ []
resource_has = refl

-- and what is the stated default
resource_lacks : there (resource_fields (resource false None None [] [])) ≡ (codes "type", string (codes "T")) ∷ (codes "title", string (codes "t")) ∷ []
resource_lacks = refl

-- a catalog's edges and resources stand also where there are none
catalog_lacks : (m : ℤ)
    → there (catalog_fields (record {
      certname = codes "a";
      version = codes "v";
      environment = None;
      transaction_uuid = None;
      catalog_uuid = None;
      code_id = None;
      job_id = None;
      stamp = m;
      producer = None;
      edges = [];
      resources = [];
    }))
    ≡ (codes "certname", string (codes "a")) ∷ (codes "version", string (codes "v")) ∷ (codes "producer_timestamp", stamp m) ∷ (codes "edges", list []) ∷ (codes "resources", list []) ∷ []
catalog_lacks m = refl

-- a report's `noop` stands also where it is false, and a list unless it is empty
report_has : (m : ℤ) (log : Json)
    → there (report_fields (record {
      certname = codes "a";
      environment = None;
      puppet_version = Some (codes "8");
      report_format = Some 12;
      configuration_version = None;
      start_time = Some m;
      end_time = None;
      stamp = m;
      producer = None;
      noop = Some false;
      status = Some (codes "changed");
      transaction_uuid = None;
      resources = [];
      logs = log ∷ [];
      metrics = [];
    }))
    ≡ (codes "certname", string (codes "a")) ∷ (codes "puppet_version", string (codes "8")) ∷ (codes "report_format", number (decimal 12)) ∷ (codes "start_time", stamp m)
    ∷ (codes "producer_timestamp", stamp m) ∷ (codes "noop", boolean false) ∷ (codes "status", string (codes "changed")) ∷ (codes "logs", array (items_of (log ∷ []))) ∷ []
report_has m log = refl

empty_report_has : (m : ℤ) → there (change_fields (empty_report (codes "a") m)) ≡ (codes "certname", string (codes "a")) ∷ (codes "producer_timestamp", stamp m) ∷ []
empty_report_has m = refl

expiration_has : (m : ℤ)
    → there (expiration_fields (record { certname = codes "a"; stamp = m; expire = false }))
    ≡ (codes "certname", string (codes "a")) ∷ (codes "producer_timestamp", stamp m) ∷ (codes "expire", object (members_of ((codes "facts", boolean false) ∷ []))) ∷ []
expiration_has m = refl

-- ---- fractions

half_a_second : short_fraction 500_000_000 ≡ Some (codes "5")
half_a_second = refl

a_nanosecond : short_fraction 1 ≡ Some (codes "000000001")
a_nanosecond = refl

no_fraction : short_fraction 0 ≡ None
no_fraction = refl

-- ---- a table

abbrev change_of_facts : ℤ → Change
change_of_facts m = Facts (facts m None)

abbrev deactivation : ℤ → Change
deactivation m = Deactivate (record { certname = codes "a"; stamp = m })

abbrev expiration : ℤ → Change
expiration m = Expiration (record { certname = codes "a"; stamp = m; expire = true })

-- a node whose greatest activity is the stamp of a report that a sweep took
abbrev node : Node
node = record {
  certname = codes "a";
  active = Some (pos 9);
  facts = Some (applied_as 4 None (change_of_facts (pos 5)));
  catalog = None;
  deactivate = Some (applied_as 2 None (deactivation (pos 6)));
  expiration = Some (applied_as 3 None (expiration (pos 7)));
  reports = [];
}

-- facts, expiration, deactivation, and the empty report behind them
node_has : node_changes node ≡ change_of_facts (pos 5) ∷ expiration (pos 7) ∷ deactivation (pos 6) ∷ empty_report (codes "a") (pos 9) ∷ []
node_has = refl

-- both sweeps stand behind all nodes
table_has : (ttls : Ttls) (received : ℤ)
    → dump_items received (record { ttls = ttls; expiry = Some (pos 1); retention = Some (pos 2); nodes = node ∷ [] })
    ≡ command (command_of received (change_of_facts (pos 5))) ∷ command (command_of received (expiration (pos 7))) ∷ command (command_of received (deactivation (pos 6)))
    ∷ command (command_of received (empty_report (codes "a") (pos 9))) ∷ sweep expire_alone (pos 1) ∷ sweep reports_alone (pos 2) ∷ []
table_has ttls received = refl

-- a sweep of expiry stands also where it expires no node
sweep_alone : (ttls : Ttls) (received : ℤ) → dump_items received (record { ttls = ttls; expiry = Some (pos 1); retention = None; nodes = [] }) ≡ sweep expire_alone (pos 1) ∷ []
sweep_alone ttls received = refl
