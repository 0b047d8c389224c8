-- The history that tables stand for.
use Rattle.std.specs.Prelude.{◌≡◌, List, Option, None, true, false}
use Rattle.std.specs.Option.{option_map}
use Rattle.checkpoint_spec.specs.fleet_rows.declared.command.Kind.{Kind}
use Rattle.checkpoint_spec.specs.fleet_rows.declared.command.Kind.TheVariants.{Report}
use Rattle.checkpoint_spec.specs.fleet_rows.declared.rank.Rank.{Rank}
use Rattle.checkpoint_spec.specs.fleet_rows.declared.settings.Kinds.{Kinds}
use Rattle.checkpoint_spec.specs.history_spec.Node.{newest}
use Rattle.checkpoint_spec.specs.fleet_rows.declared.applied.Applied.{Applied}
use Rattle.checkpoint_spec.specs.history_spec.Trace.{Trace, IsTrace, rank_of}
use Rattle.checkpoint_spec.specs.table_machine.Table.{Table, table_of}

-- the tables' value is the table that the definitions give for this history
abbrev pub Stands : Table → Trace → Type 0
Stands table history = IsTrace history × (table ≡ table_of table.ttls history)

-- the kinds of a sweep that does only one thing
abbrev pub expire_alone : Kinds
expire_alone = record { expire = true; purge = false; reports = false }

abbrev pub purge_alone : Kinds
purge_alone = record { expire = false; purge = true; reports = false }

abbrev pub reports_alone : Kinds
reports_alone = record { expire = false; purge = false; reports = true }

-- the rank of the newest command of a kind; none for reports
abbrev pub newest_of : Kind → List Applied → Option Rank
newest_of Report xs = None
newest_of kind xs = option_map rank_of (newest kind xs)
