pub mod Texts
pub mod Fractions
pub mod PackedLists
pub mod Clocks
pub mod StampStays
-- What those above use of the crates below.
pub use Rattle.dump_laws.proofs.of_dump_spec as of_dump_spec
pub use Rattle.dump_laws.proofs as of_dump_laws
