use Rattle.std.proofs.Common.{drop, ap, sym, subst, ◌∙◌}
use Rattle.core_state.specs.table_machine.Steps.{empty_table}
use Rattle.core_state.specs.table_machine.Table.{Table}
use Rattle.core_state.specs.compact_laws.Lawful.{IsLawfulTable}
use Rattle.core_state.proofs.of_compact_laws.LawfulTables.{empty_tables_are_lawful, records_lead_to_lawful_tables}
use Rattle.core_state.specs.core_spec.Stands.{last_taken}
use Rattle.core_state.specs.core_laws.TableReplay.{table_after}
use Rattle.core_opening.proofs.Fills.{head_first, begins_with}
use Rattle.core_opening.proofs.fill.fill.Goals as goal

pub unreachable-requires : goal.unreachable-requires
unreachable-requires c = c.in_default.ensures (head_first c.args.records c.as_slice-2.result.now c.index-as_slice-0.result c.requires.log c.as_slice-2.ensures.value c.index-as_slice-0.is)

pub returns-in-Ok : goal.returns-in-Ok
returns-in-Ok c = record {
  ttls = c.in-Some.ttls;
  rest = drop 1 c.args.records;
  first = begins_with c.args.records c.as_slice-2.result.now c.index-as_slice-0.result _ c.requires.log c.as_slice-2.ensures.value c.index-as_slice-0.is c.in-Some.ensures;
  tables = c.in-Ok.ensures ∙ (λ i. table_after (c.into_vec.ensures.value i) (c.new-tables.ensures.value i));
  lawful = subst (λ (t : Table). IsLawfulTable t) (sym (c.in-Ok.ensures ∙ (λ i. table_after (c.into_vec.ensures.value i) (c.new-tables.ensures.value i))))
      (records_lead_to_lawful_tables c.args.records (empty_table c.in-Some.ttls) c.requires.lawful (empty_tables_are_lawful c.in-Some.ttls));
  taken = c.last_of-taken.ensures ∙ ap last_taken c.as_slice.ensures.value;
}
