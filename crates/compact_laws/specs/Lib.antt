pub mod Records
pub mod Laws
pub mod Lawful
-- Re-exports for the crates above.
pub use Rattle.core_laws.specs.checkpoint_spec as checkpoint_spec
pub use Rattle.core_laws.specs.core_machine as core_machine
pub use Rattle.core_laws.specs as core_laws
