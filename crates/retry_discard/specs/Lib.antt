pub mod Kept
pub mod Line
-- Re-exports for the crates above.
pub use Rattle.core_spec.specs as core_spec
