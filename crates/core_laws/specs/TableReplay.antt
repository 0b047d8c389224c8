-- The replay of the store's records into tables, in the order in which the records were written.
use Rattle.std.specs.Prelude.{◌≡◌, List, [], ◌∷◌, None}
use Rattle.core_machine.specs.fleet_rows.declared.settings.Ttls.{Ttls}
use Rattle.core_machine.specs.history_spec.Trace.{applied_as}
use Rattle.core_machine.specs.record_spec.declared.store.StoreRecord.{StoreRecord}
use Rattle.core_machine.specs.record_spec.declared.store.StoreRecord.TheVariants as store
use Rattle.checkpoint_spec.specs.table_machine.Steps.{empty_table, with_node, apply, sweep}
use Rattle.checkpoint_spec.specs.table_machine.Table.{Table, table_of}
use Rattle.core_machine.specs.core_spec.History.{History, trace_of}
use Rattle.core_machine.specs.core_spec.Legal.{IsLegal}
use Rattle.core_machine.specs.core_spec.Stands.{StoreTells}

-- The base has the greatest sweeps, and a node's marks its greatest activity. The greatest deactivation is that of the kept
-- deactivation command.
abbrev pub table_by : StoreRecord → Table → Table
table_by (store.Settings n p r) table = table
table_by (store.Base expire retain taken) table = record table { expiry = expire; retention = retain }
table_by (store.Marks m) table = record table { nodes = with_node m.certname (λ node. record node { active = m.active }) table.nodes }
table_by (store.Applied r change) table = apply (applied_as r None change) table
table_by (store.Swept kinds m) table = sweep kinds m table
table_by (store.Received r t change) table = apply (applied_as r t change) table
table_by (store.Limits n p r k) table = table

abbrev pub table_after : List StoreRecord → Table → Table
table_after [] table = table
table_after (x ∷ xs) table = table_after xs (table_by x table)

-- replaying the store's records, from any checkpoint on, gives the table of the history
abbrev pub RecordsLeadToTheTable : Type 0
RecordsLeadToTheTable =
    (ttls : Ttls) (records : List StoreRecord) (history : History) → IsLegal ttls history → StoreTells ttls records history
    → table_after records (empty_table ttls) ≡ table_of ttls (trace_of history)

-- so two histories that the same records of the store stand for have the same table
abbrev pub TheSameRecordsTellOneTable : Type 0
TheSameRecordsTellOneTable =
    (ttls : Ttls) (records : List StoreRecord) (history other : History) → IsLegal ttls history → IsLegal ttls other → StoreTells ttls records history → StoreTells ttls records other
    → table_of ttls (trace_of history) ≡ table_of ttls (trace_of other)
