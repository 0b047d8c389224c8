pub mod Progress
pub mod Loops
pub mod Whole
pub mod Listed
-- What those above use of the crates below.
pub use Rattle.dump_writer.proofs.of_dump_laws as of_dump_laws
pub use Rattle.dump_writer.proofs.of_dump_spec.of_plain_laws as of_plain_laws
pub use Rattle.dump_writer.proofs.of_dump_spec.of_table_laws as of_table_laws
