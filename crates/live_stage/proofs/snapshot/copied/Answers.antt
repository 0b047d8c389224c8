use Rattle.std.proofs.Common.{sym, subst}
use Rattle.core_ends.specs.core_state.compact_laws.Lawful.{IsWritable}
use Rattle.core_ends.proofs.of_core_state.of_compact_laws.LawfulTables.{lawful_tables_are_writable}
use Rattle.live_stage.proofs.Copies.{writable_is_lawful, copied_ttls}
use Rattle.live_stage.proofs.snapshot.copied.Goals as goal

pub from_list-requires : goal.from_list-requires
from_list-requires g c =
    writable_is_lawful c.in_ok-list.list (subst IsWritable (sym c.in_ok-list.ensures.value) (lawful_tables_are_writable c.tables.result.now (rw c.tables.ensures c.is_lawful.ensures)))

pub returns-clause-lifetimes : goal.returns-clause-lifetimes
returns-clause-lifetimes g c = copied_ttls c.from_list.result c.tables.result.now c.args.core.now.tables c.in_ok-list.list c.in_ok-list.ensures.value c.tables.ensures c.from_list.ensures.value
