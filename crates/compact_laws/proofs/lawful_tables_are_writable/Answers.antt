use Rattle.compact_laws.proofs.LawfulTables.{lawful_tables_are_writable}
use Rattle.compact_laws.proofs.lawful_tables_are_writable.Goals as goal

pub returns : goal.returns
returns c = lawful_tables_are_writable
