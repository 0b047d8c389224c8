-- The table and the rows to which a dump leads.
use Rattle.std.proofs.Common.{◌≡◌, ◌∙◌, ℕ, ◌+◌, ℤ, List, [], ◌∷◌, ◌++◌, length, map, refl, sym, ap, subst, Option}
use Rattle.std.specs.List.{AllByRecursion, flat_map}
use Rattle.dump_spec.specs.fleet_rows.declared.applied.Applied.{Applied}
use Rattle.dump_spec.specs.fleet_rows.declared.change.Change.{Change}
use Rattle.dump_spec.specs.fleet_rows.declared.row.Entity.{Entity}
use Rattle.dump_spec.specs.fleet_rows.declared.settings.Ttls.{Ttls}
use Rattle.dump_spec.specs.history_spec.Thread.{command}
use Rattle.dump_spec.specs.table_machine.Rows.{node_rows, table_rows}
use Rattle.dump_spec.specs.table_machine.Table.{Node, Table, node_cmp, table_of}
use Rattle.dump_spec.specs.checkpoint_spec.Histories.{with_events}
use Rattle.dump_spec.specs.list_again.Rules.{IsTold}
use Rattle.dump_spec.specs.list_again.Told.{Told, all_told, changes_told, node_told, expire_alone, reports_alone, swept_if, history_told, table_told}
use Rattle.dump_spec.specs.list_again.Whole.{IsWholeNode, IsWholeTable}
use Rattle.dump_spec.specs.Dumps.{node_changes, sweep_if, dump_items}
use Rattle.dump_spec.specs.Payloads.{command_of}
use Rattle.dump_spec.proofs.of_plain_laws.Lists.{map_both}
use Rattle.dump_spec.proofs.of_plain_laws.Members.{Among, All-Among, All-from_Among, Among-from_map}
use Rattle.dump_spec.proofs.of_plain_laws.StrictlySorted.{sorted-map}
use Rattle.dump_spec.proofs.of_table_machine.TableLaws.{flat_map-map}
use Rattle.dump_spec.proofs.of_table_machine.TableRows.{rows_are_those_of_the_history}
use Rattle.dump_spec.proofs.of_list_again.Again.{is_told}
use Rattle.dump_spec.proofs.of_list_again.HistoryTables.{tables_are_whole}
use Rattle.dump_spec.proofs.of_list_again.ToldTables.{told_nodes_make_the_table}
use Rattle.dump_laws.specs.Again.{numbered, dump_history}
use Rattle.dump_laws.specs.RowLaws.{untold, TheRowsComeBack, DumpsComeBack}
use Rattle.dump_laws.proofs.Alike.{rows_are_alike}
use Rattle.dump_laws.proofs.Nodes.{none_spare, said_of, changes_are, are_alike, changes_again}
use Rattle.dump_laws.proofs.Numbered.{all_numbered, all_are_numbered, among_numbered, numbered_rise, change_told_cmp}
use Rattle.dump_laws.proofs.Traces.{dumps_are_traces}

-- ---- the table

module _ (received : ℤ) (table : Table) (whole : IsWholeTable table) where
  abbrev ts : List (Told Change)
  ts = map said_of table.nodes

  abbrev tolds : List (Told Applied)
  tolds = all_numbered received 1 ts

  changes : flat_map all_told ts ≡ flat_map node_changes table.nodes
  changes = sym (flat_map-map all_told said_of table.nodes) ∙ (λ i. flat_map (λ node. changes_are node i) table.nodes)

  history_is : dump_history received table ≡ history_told table.expiry table.retention tolds
  history_is =
      ap (λ (xs : List Applied). swept_if reports_alone table.retention (swept_if expire_alone table.expiry (with_events xs [])))
      (sym (all_are_numbered received 1 ts ∙ ap (numbered received 1) changes))

  are_told : (told : Told Applied) → Among told tolds → IsTold table.ttls table.retention (changes_told told)
  are_told told a =
      let t = among_numbered received 1 ts told a in
      let node = Among-from_map said_of table.nodes t.0 t.1 in
      subst (IsTold table.ttls table.retention) (sym (t.2 ∙ node.2))
      (is_told table.ttls table.retention none_spare node.0 (All-Among (IsWholeNode table.ttls table.retention) table.nodes node.0 whole.each node.1))

  pub table_is : table_of table.ttls (dump_history received table) ≡ table_told table.ttls table.expiry table.retention tolds
  table_is =
      ap (table_of table.ttls) history_is
      ∙ told_nodes_make_the_table table.ttls table.expiry table.retention tolds
      (numbered_rise received 1 ts (sorted-map node_cmp (change_told_cmp received) said_of (λ x y h. h) table.nodes whole.nodes_rise))
      (All-from_Among (λ told. IsTold table.ttls table.retention (changes_told told)) tolds are_told)

-- ---- its rows

module _ (ttls : Ttls) (expiry retention : Option ℤ) (received : ℤ) where
  abbrev again : ℕ → List Node → List Node
  again receipt nodes = map node_told (all_numbered received receipt (map said_of nodes))

  pub rows_again : (e : Entity) (receipt : ℕ) (nodes : List Node) → AllByRecursion (IsWholeNode ttls retention) nodes
      → map (untold e) (flat_map (node_rows e ttls expiry) (again receipt nodes)) ≡ map (untold e) (flat_map (node_rows e ttls expiry) nodes)
  rows_again e receipt [] all = refl
  rows_again e receipt (node ∷ nodes) all =
      let next = receipt + length (all_told (said_of node)) in
      map_both (untold e) (node_rows e ttls expiry _) (flat_map (node_rows e ttls expiry) (again next nodes))
      ∙ (λ i. rows_are_alike ttls expiry _ node (are_alike ttls retention received receipt node all.0) e i ++ rows_again e next nodes all.1 i)
      ∙ sym (map_both (untold e) (node_rows e ttls expiry node) (flat_map (node_rows e ttls expiry) nodes))

  pub changes_of_all : (receipt : ℕ) (nodes : List Node) → AllByRecursion (IsWholeNode ttls retention) nodes → flat_map node_changes (again receipt nodes) ≡ flat_map node_changes nodes
  changes_of_all receipt [] all = refl
  changes_of_all receipt (node ∷ nodes) all =
      λ i. changes_again ttls retention received receipt node all.0 i ++ changes_of_all (receipt + length (all_told (said_of node))) nodes all.1 i

pub the_rows_come_back : TheRowsComeBack
the_rows_come_back e ttls history received is stamp =
    let table = table_of ttls history in
    let whole = tables_are_whole ttls history is in
    ap (map (untold e)) (sym (rows_are_those_of_the_history e ttls (dump_history received table) (dumps_are_traces ttls history received is stamp)))
    ∙ ap (λ t. map (untold e) (table_rows e t)) (table_is received table whole)
    ∙ rows_again ttls table.expiry table.retention received e 1 table.nodes whole.each
    ∙ ap (map (untold e)) (rows_are_those_of_the_history e ttls history is)

pub dumps_come_back : DumpsComeBack
dumps_come_back ttls history received moment is =
    let table = table_of ttls history in
    let whole = tables_are_whole ttls history is in
    ap (dump_items moment) (table_is received table whole)
    ∙ ap (λ cs. map (λ c. command (command_of moment c)) cs ++ (sweep_if expire_alone table.expiry ++ sweep_if reports_alone table.retention))
    (changes_of_all ttls table.expiry table.retention received 1 table.nodes whole.each)
