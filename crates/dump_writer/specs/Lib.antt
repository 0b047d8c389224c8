pub mod Shown
pub mod Referred
-- Re-exports for the crates above.
pub use Rattle.dump_laws.specs.dump_spec as dump_spec
pub use Rattle.dump_laws.specs as dump_laws
