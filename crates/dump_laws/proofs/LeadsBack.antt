-- A dump is a spool, and leads one thread back to the rows of the dumped table.
use Rattle.std.proofs.Common.{◌∙◌, ◌+◌, ◌≤◌, length, map, arith, sym, ap, subst}
use Rattle.std.specs.List.{flat_map}
use Rattle.dump_spec.specs.spool_spec.Limits.{most_spool}
use Rattle.dump_spec.specs.spool_spec.Spool.{SpoolOf, whole}
use Rattle.dump_spec.specs.table_machine.Table.{Table, table_of}
use Rattle.dump_spec.specs.table_spec.Rows.{rows}
use Rattle.dump_spec.specs.Dumps.{node_changes, dump_items}
use Rattle.dump_spec.proofs.DumpTexts.{dumps_do_not_tell_receipts}
use Rattle.dump_spec.proofs.of_list_again.HistoryTables.{tables_are_whole}
use Rattle.dump_laws.specs.RowLaws.{untold}
use Rattle.dump_laws.proofs.Rows.{table_is, the_rows_come_back}
use Rattle.dump_laws.proofs.Traces.{all_are_lawful, expiry_has_stamp, retention_has_stamp}
use Rattle.dump_laws.specs.Laws.{DumpsAreSpools, DumpsLeadBack, SweepsComeBack}
use Rattle.dump_laws.proofs.Decodes.{thread_is}
use Rattle.dump_laws.proofs.Spools.{items_are, items_from}

pub dumps_are_spools : DumpsAreSpools
dumps_are_spools ttls history received is short few =
    let t = table_of ttls history in
    let same = dumps_do_not_tell_receipts t received in
    let own = items_are received (flat_map node_changes t.nodes) t.expiry t.retention short (expiry_has_stamp history is) (retention_has_stamp history is) in
    subst (λ bytes. SpoolOf received bytes (dump_items received t) whole) same
    (items_from received 0 (dump_items received t) own (subst (λ bytes. 0 + length bytes ≤ most_spool) (sym same) (omega (arith, few))))

pub dumps_lead_back : DumpsLeadBack
dumps_lead_back entity ttls history again received is stamp thread =
    let same = thread_is received (table_of ttls history) again (all_are_lawful ttls history is) thread in
    ap (λ h. map (untold entity) (rows entity ttls h)) same ∙ the_rows_come_back entity ttls history received is stamp

pub sweeps_come_back : SweepsComeBack
sweeps_come_back ttls history again received is thread =
    let table = table_of ttls history in
    let same = ap (table_of ttls) (thread_is received table again (all_are_lawful ttls history is) thread) ∙ table_is received table (tables_are_whole ttls history is) in
    (ap (λ (t : Table). t.expiry) same, ap (λ (t : Table). t.retention) same)
