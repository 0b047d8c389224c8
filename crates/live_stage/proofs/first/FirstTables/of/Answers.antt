use Rattle.std.proofs.Common.{◌≡◌, ◌∙◌, sym, ap, subst, arith}
use Rattle.core_ends.specs.fleet_rows.declared.store.StoreList.{StoreList}
use Rattle.core_ends.specs.core_state.Seen.{events_of}
use Rattle.core_ends.specs.core_state.compact_laws.Lawful.{IsWritable}
use Rattle.core_ends.specs.fleet_tables.Stands.{Stands}
use Rattle.core_ends.specs.fleet_tables.checkpoint_spec.Histories.{checkpoint}
use Rattle.core_ends.specs.table_machine.Table.{Table}
use Rattle.core_ends.proofs.of_core_state.of_compact_laws.LawfulTables.{lawful_tables_are_writable}
use Rattle.live_stage.specs.Trace.{live_of, applied_count}
use Rattle.live_stage.specs.First.{AreFirstOf}
use Rattle.live_stage.proofs.Copies.{writable_is_lawful}
use Rattle.live_stage.proofs.Counts.{tallied}
use Rattle.live_stage.proofs.first.FirstTables.of.Goals as goal

pub new-requires : goal.new-requires
new-requires g c =
    writable_is_lawful c.in_ok-list.list (subst IsWritable (sym c.in_ok-list.ensures.value) (lawful_tables_are_writable c.tables.result.now (rw c.tables.ensures c.is_lawful.ensures)))

pub returns : goal.returns
returns g c =
    let applied : c.tally-live.result.applied ≡ applied_count (events_of c.args.core.now) = ap (λ t. t.applied) c.tally-live.ensures ∙ tallied (events_of c.args.core.now) in
    let none = c.requires.no_sweep in
    let live : c.tally-live.result.applied ≡ live_of c.args.core.now = omega arith in
    subst (AreFirstOf c.args.core.now) (sym c.new.ensures) (record {
      live = live;
      lifetimes = ap (λ (l : StoreList). l.ttls) c.in_ok-list.ensures.value ∙ ap (λ (t : Table). t.ttls) c.tables.ensures;
      list = λ history. subst (λ (t : Table). Stands t history → c.in_ok-list.list ≡ checkpoint t.ttls history) c.tables.ensures (c.in_ok-list.ensures.stands history);
    })
