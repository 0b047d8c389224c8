-- From the list of a core's tables, tables can be made. They have its lifetimes.
use Rattle.std.proofs.Common.{◌≡◌, ◌∙◌, List, [], ◌∷◌, Result, Ok, Err, IfOk, refl, ap}
use Rattle.std.specs.List.{AllByRecursion}
use Rattle.core_ends.specs.fleet_rows.declared.applied.Applied.{Applied}
use Rattle.core_ends.specs.fleet_rows.declared.store.Mark.{Mark}
use Rattle.core_ends.specs.fleet_rows.declared.store.StoreList.{StoreList}
use Rattle.core_ends.specs.core_state.compact_laws.Lawful.{IsLawfulCommand, IsLawfulMark, IsWritable}
use Rattle.core_ends.specs.fleet_tables.Listed.{HasMoment, HasLawfulChange, IsLawfulList}
use Rattle.core_ends.specs.fleet_tables.checkpoint_spec.Lists.{list_of, marked, all_marked, all_applied, table_of_marks, table_of_list}
use Rattle.core_ends.specs.table_machine.Steps.{empty_table, apply}
use Rattle.core_ends.specs.table_machine.Table.{Table}
use Rattle.core_ends.proofs.of_core_opening.Fills.{moment_named}

marks_lawful : (marks : List Mark) → AllByRecursion IsLawfulMark marks → AllByRecursion HasMoment marks
marks_lawful [] all = tt
marks_lawful (mark ∷ marks) all = (moment_named mark.active all.0.1, marks_lawful marks all.1)

changes_lawful : (xs : List Applied) → AllByRecursion IsLawfulCommand xs → AllByRecursion HasLawfulChange xs
changes_lawful [] all = tt
changes_lawful (x ∷ xs) all = (all.0.1, changes_lawful xs all.1)

-- a list that can be written is one that tables are made from
pub writable_is_lawful : (list : StoreList) → IsWritable list → IsLawfulList list
writable_is_lawful list h = record {
  expire = moment_named list.expire h.expire;
  retain = moment_named list.retain h.retain;
  marks = marks_lawful list.marks h.marks;
  changes = changes_lawful list.applied h.applied;
}

-- ---- lifetimes

marked_ttls : (marks : List Mark) (table : Table) → (all_marked marks table).ttls ≡ table.ttls
marked_ttls [] table = refl
marked_ttls (mark ∷ marks) table = marked_ttls marks (marked mark table)

applied_ttls : (xs : List Applied) (table : Table) → (all_applied xs table).ttls ≡ table.ttls
applied_ttls [] table = refl
applied_ttls (x ∷ xs) table = applied_ttls xs (apply x table)

-- tables that are made from a list have its lifetimes
pub made_ttls : (list : StoreList) (tables : Table) → tables ≡ table_of_list list → tables.ttls ≡ list.ttls
made_ttls list tables is =
    ap (λ (t : Table). t.ttls) is
    ∙ (applied_ttls list.applied (table_of_marks list) ∙ marked_ttls list.marks (record (empty_table list.ttls) { expiry = list.expire; retention = list.retain }))

-- and those of the tables that were listed
pub copied_ttls : {E : Type 0} (result : Result Table E) (listed core : Table) (list : StoreList) → list ≡ list_of listed → listed ≡ core → IfOk result (λ tables. tables ≡ table_of_list list) → IfOk result (λ tables. tables.ttls ≡ core.ttls)
copied_ttls (Ok tables) listed core list list_is same is = made_ttls list tables is ∙ (ap (λ (l : StoreList). l.ttls) list_is ∙ ap (λ (t : Table). t.ttls) same)
copied_ttls (Err e) listed core list list_is same is = tt
