-- The checkpoint of a history, in terms of the history's definitions.
use Rattle.std.specs.Prelude.{ℕ, List, [], ◌∷◌, ◌++◌, map, flat_map}
use Rattle.table_laws.specs.fleet_rows.declared.applied.Applied.{Applied}
use Rattle.table_laws.specs.fleet_rows.declared.command.Kind.TheVariants as kind
use Rattle.table_laws.specs.fleet_rows.declared.settings.Ttls.{Ttls}
use Rattle.table_laws.specs.fleet_rows.declared.store.Mark.{Mark}
use Rattle.table_laws.specs.fleet_rows.declared.store.StoreList.{StoreList}
use Rattle.table_laws.specs.history_spec.Life.{life, nodes, kept_reports, greatest_expiry, greatest_retention}
use Rattle.table_laws.specs.history_spec.Node.{newest, greatest_activity, greatest_deactivation}
use Rattle.table_laws.specs.history_spec.Trace.{Trace, applied}
use Rattle.table_laws.specs.table_spec.Sorted.{sorted_by}
use Rattle.checkpoint_spec.specs.Lists.{by_rank, if_kept}

-- a node's mark: its greatest activity and its greatest deactivation
abbrev pub mark_in : Ttls → Trace → List ℕ → Mark
mark_in ttls history certname =
    let xs = life ttls certname history in
    record { certname = certname; active = greatest_activity xs; deactivated = greatest_deactivation xs }

-- a node's newest command of each kind except reports, then its kept reports by rank
abbrev pub commands_in : Ttls → Trace → List ℕ → List Applied
commands_in ttls history certname =
    let xs = life ttls certname history in
    if_kept (newest kind.Facts xs)
    ++ (if_kept (newest kind.Catalog xs)
    ++ (if_kept (newest kind.Deactivate xs)
    ++ (if_kept (newest kind.Expiration xs)
    ++ sorted_by by_rank (kept_reports ttls certname history))))

-- the lifetimes, the greatest moments of sweeps, then the nodes by certname
abbrev pub checkpoint : Ttls → Trace → StoreList
checkpoint ttls history = record {
  ttls = ttls;
  expire = greatest_expiry history;
  retain = greatest_retention history;
  marks = map (mark_in ttls history) (nodes ttls history);
  applied = flat_map (commands_in ttls history) (nodes ttls history);
}

-- the list followed by more commands
abbrev pub goes_on : List Applied → StoreList → StoreList
goes_on xs list = record list { applied = list.applied ++ xs }

-- the history after these commands, in their order
abbrev pub with_events : List Applied → Trace → Trace
with_events [] history = history
with_events (x ∷ xs) history = with_events xs (applied x ∷ history)
