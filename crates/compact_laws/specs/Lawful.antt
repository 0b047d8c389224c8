-- Lawful tables, whose checkpoint has a spelling: records can spell each kept command, each mark and each sweep. This needs no
-- history, so it holds of any tables that logs led to.
use Rattle.std.specs.Prelude.{ℤ, List, Option, Some, None}
use Rattle.std.specs.List.{AllByRecursion}
use Rattle.core_laws.specs.checkpoint_spec.fleet_rows.declared.applied.Applied.{Applied}
use Rattle.core_laws.specs.checkpoint_spec.fleet_rows.declared.settings.Kinds.{Kinds}
use Rattle.core_laws.specs.checkpoint_spec.fleet_rows.declared.settings.Ttls.{Ttls}
use Rattle.core_laws.specs.checkpoint_spec.fleet_rows.declared.store.Mark.{Mark}
use Rattle.core_laws.specs.checkpoint_spec.fleet_rows.declared.store.StoreList.{StoreList}
use Rattle.core_laws.specs.checkpoint_spec.history_spec.Lawful.{HasStamp, IfMoment, IsCertname, IsChange}
use Rattle.core_laws.specs.checkpoint_spec.table_machine.Steps.{empty_table, apply, sweep}
use Rattle.core_laws.specs.checkpoint_spec.table_machine.Table.{Node, Table}
use Rattle.core_laws.specs.checkpoint_spec.Lists.{list_of}
use Rattle.core_laws.specs.core_machine.record_spec.declared.store.StoreRecord.{StoreRecord}
use Rattle.core_laws.specs.core_machine.record_spec.Store.{IsStoreRecord}
use Rattle.core_laws.specs.TableReplay.{table_after}

-- ---- what has a spelling

-- a command whose change and receive time have a spelling; its receipt always has one
abbrev pub IsLawfulCommand : Applied → Type 0
IsLawfulCommand x = IfMoment x.received × IsChange x.change

abbrev pub IfLawful : Option Applied → Type 0
IfLawful None = Unit {0}
IfLawful (Some x) = IsLawfulCommand x

pub record IsLawfulNode (node : Node) : Type 0 where
  pub certname : IsCertname node.certname
  pub active : IfMoment node.active
  pub facts : IfLawful node.facts
  pub catalog : IfLawful node.catalog
  pub deactivate : IfLawful node.deactivate
  pub expiration : IfLawful node.expiration
  pub reports : AllByRecursion IsLawfulCommand node.reports

pub record IsLawfulTable (table : Table) : Type 0 where
  pub expiry : IfMoment table.expiry
  pub retention : IfMoment table.retention
  pub nodes : AllByRecursion IsLawfulNode table.nodes

abbrev pub IsLawfulMark : Mark → Type 0
IsLawfulMark mark = IsCertname mark.certname × IfMoment mark.active × IfMoment mark.deactivated

-- a list whose sweeps, marks and commands have a spelling
pub record IsWritable (list : StoreList) : Type 0 where
  pub expire : IfMoment list.expire
  pub retain : IfMoment list.retain
  pub marks : AllByRecursion IsLawfulMark list.marks
  pub applied : AllByRecursion IsLawfulCommand list.applied

-- ---- tables stay lawful

abbrev pub EmptyTablesAreLawful : Type 0
EmptyTablesAreLawful = (ttls : Ttls) → IsLawfulTable (empty_table ttls)

-- when a lawful command is applied
abbrev pub CommandsKeepTablesLawful : Type 0
CommandsKeepTablesLawful = (x : Applied) (table : Table) → IsLawfulCommand x → IsLawfulTable table → IsLawfulTable (apply x table)

-- under a sweep at a moment that a stamp can express
abbrev pub SweepsKeepTablesLawful : Type 0
SweepsKeepTablesLawful = (kinds : Kinds) (m : ℤ) (table : Table) → HasStamp m → IsLawfulTable table → IsLawfulTable (sweep kinds m table)

-- so the tables that records lead to are lawful
abbrev pub RecordsLeadToLawfulTables : Type 0
RecordsLeadToLawfulTables = (records : List StoreRecord) (table : Table) → AllByRecursion IsStoreRecord records → IsLawfulTable table → IsLawfulTable (table_after records table)

-- ---- the list of lawful tables can be written

abbrev pub LawfulTablesAreWritable : Type 0
LawfulTablesAreWritable = (table : Table) → IsLawfulTable table → IsWritable (list_of table)
