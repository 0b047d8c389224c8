use Rattle.std.proofs.Common.{◌≡◌, List, None, IfOk, sym, subst}
use Rattle.core_state.specs.fleet_rows.declared.store.StoreList.{StoreList}
use Rattle.core_state.specs.compact_laws.Lawful.{IsWritable}
use Rattle.core_state.specs.compact_laws.Records.{records_of}
use Rattle.core_state.proofs.of_compact_laws.LawfulTables.{lawful_tables_are_writable}
use Rattle.core_compact.proofs.compacting.records_of_tables.Goals as goal

pub store_records-requires : goal.store_records-requires
store_records-requires c = subst (λ (l : StoreList). IsWritable l) (sym c.in_ok-list.ensures.value) (lawful_tables_are_writable c.args.tables.now c.requires)

pub returns-clause-records : goal.returns-clause-records
returns-clause-records c = subst (λ (l : StoreList). IfOk c.store_records.result (λ rs. rs ≡ records_of None l)) c.in_ok-list.ensures.value c.store_records.ensures.records
