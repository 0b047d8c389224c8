-- The tables that the records of the store's log give.
use Rattle.std.specs.Prelude.{◌≡◌, List, ◌∷◌}
use Rattle.core_state.specs.fleet_rows.declared.settings.Ttls.{Ttls}
use Rattle.core_state.specs.record_spec.declared.store.StoreRecord.{StoreRecord}
use Rattle.core_state.specs.record_spec.declared.store.StoreRecord.TheVariants as store
use Rattle.core_state.specs.table_machine.Steps.{empty_table}
use Rattle.core_state.specs.core_spec.Checkpoints.{settings}
use Rattle.core_state.specs.core_spec.Stands.{last_taken}
use Rattle.core_state.specs.core_laws.TableReplay.{table_after}
use Rattle.core_state.specs.compact_laws.Lawful.{IsLawfulTable}
use Rattle.core_opening.specs.declared.fill.Filled.{Filled}

-- the record tells lifetimes
abbrev pub IsHead : StoreRecord → Type 0
IsHead (store.Settings n p r) = Unit {0}
IsHead (store.Limits n p r k) = Unit {0}
IsHead _ = ⊥

-- the tables are what the records lead to, with the lifetimes of the first
pub record IsFilled (filled : Filled) (records : List StoreRecord) : Type 0 where
  pub ttls : Ttls
  pub rest : List StoreRecord
  pub first : records ≡ settings ttls ∷ rest
  pub tables : filled.tables ≡ table_after records (empty_table ttls)
  pub taken : filled.taken ≡ last_taken records
  -- each record of their checkpoint has a spelling
  pub lawful : IsLawfulTable filled.tables
