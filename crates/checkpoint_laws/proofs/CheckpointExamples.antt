-- The whole checkpoint of a history of two nodes, by computation.
use Rattle.std.proofs.Common.{◌≡◌, refl, ℕ, ℤ, pos, ◌*◌, List, [], ◌∷◌, true, false, Some, None, codes}
use Rattle.checkpoint_spec.specs.text_spec.Compact.{escaped}
use Rattle.checkpoint_spec.specs.fleet_rows.Defaults.{default_ttls}
use Rattle.checkpoint_spec.specs.fleet_rows.declared.applied.Applied.{Applied}
use Rattle.checkpoint_spec.specs.fleet_rows.declared.change.Change.TheVariants.{Facts, Catalog, Report, Deactivate, Expiration}
use Rattle.checkpoint_spec.specs.history_spec.Trace.{Trace, applied_as, applied, swept}
use Rattle.checkpoint_spec.specs.Histories.{checkpoint}

-- moments in days
abbrev at : ℕ → ℤ
at days = pos (days * 86_400_000_000_000)

abbrev facts : List ℕ → ℕ → ℕ → Applied
facts certname receipt days = applied_as receipt (Some (at 30)) (Facts (record { certname = certname; environment = None; values = []; stamp = at days; producer = None }))

abbrev catalog : List ℕ → ℕ → ℕ → Applied
catalog certname receipt days =
    applied_as receipt (Some (at 30)) (Catalog (record { certname = certname; version = codes "1"; environment = None; transaction_uuid = None; catalog_uuid = None; code_id = None; job_id = None; stamp = at days; producer = None; edges = []; resources = [] }))

abbrev report : List ℕ → List ℕ → ℕ → ℕ → Applied
report certname version receipt days =
    applied_as receipt None (Report (record { certname = certname; environment = None; puppet_version = None; report_format = None; configuration_version = Some version; start_time = None; end_time = None; stamp = at days; producer = None; noop = None; status = None; transaction_uuid = None; resources = []; logs = []; metrics = [] }))

abbrev deactivation : List ℕ → ℕ → ℕ → Applied
deactivation certname receipt days = applied_as receipt (Some (at 30)) (Deactivate (record { certname = certname; stamp = at days }))

abbrev expiration : List ℕ → ℕ → ℕ → Applied
expiration certname receipt days = applied_as receipt (Some (at 30)) (Expiration (record { certname = certname; stamp = at days; expire = false }))

abbrev a : List ℕ
a = codes "a"

abbrev b : List ℕ
b = codes "b"

-- of the node b a report that the sweep takes, and facts; of a each kind, two of facts and of deactivations, two reports of one
-- stamp, of which the one that came first has the greater text, and behind them an older report. What came last stands first
abbrev history : Trace
history =
    swept (record { expire = true; purge = false; reports = true }) (at 20)
    ∷ applied (report a (codes "o") 11 8) ∷ applied (deactivation a 10 5) ∷ applied (facts a 9 7) ∷ applied (facts a 8 9) ∷ applied (expiration a 7 11) ∷ applied (deactivation a 6 12)
    ∷ applied (report a (codes "m") 5 10) ∷ applied (report a (codes "n") 4 10) ∷ applied (catalog a 3 9) ∷ applied (facts b 2 8) ∷ applied (report b (codes "m") 1 5) ∷ []

the_nodes_stand_by_certname_and_each_has_its_commands_by_kind : checkpoint default_ttls history ≡ record {
  ttls = default_ttls;
  expire = Some (at 20);
  retain = Some (at 20);
  marks = record { certname = a; active = Some (at 10); deactivated = Some (at 12) } ∷ record { certname = b; active = Some (at 8); deactivated = None } ∷ [];
  applied =
      facts a 8 9 ∷ catalog a 3 9 ∷ deactivation a 6 12 ∷ expiration a 7 11 ∷ report a (codes "o") 11 8 ∷ report a (codes "n") 4 10 ∷ report a (codes "m") 5 10
      ∷ facts b 2 8 ∷ [];
}
unfolding escaped
the_nodes_stand_by_certname_and_each_has_its_commands_by_kind = refl
