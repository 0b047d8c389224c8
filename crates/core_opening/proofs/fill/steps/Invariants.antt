use Rattle.std.proofs.Common.{◌≡◌, length}
use Rattle.std.specs.List.{AllByRecursion}
use Rattle.std.specs.Vec.Iter.{into_iter_items, into_iter_len}
use Rattle.core_state.specs.record_spec.Store.{IsStoreRecord}
use Rattle.core_state.specs.core_laws.TableReplay.{table_after}
use Rattle.core_opening.proofs.fill.steps.Given as goal

abbrev pub invariant-stepping : goal.invariant-stepping
invariant-stepping l =
    let rest = into_iter_items l.rec-iterator in
    (table_after rest l.tables ≡ table_after (into_iter_items l.initial.rec-iterator) l.initial.tables) × AllByRecursion IsStoreRecord rest × (into_iter_len l.rec-iterator ≡ length rest)
