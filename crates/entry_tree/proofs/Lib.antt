pub mod Rising
pub mod Numbers
pub mod MiddleLaws
-- What those above use of the crates below.
pub use Rattle.core_machine.proofs.of_plain_laws as of_plain_laws
