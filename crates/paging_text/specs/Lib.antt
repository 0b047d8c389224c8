pub mod Shown
-- Re-exports for the crates above.
pub use Rattle.means_spec.specs.query_spec as query_spec
pub use Rattle.means_spec.specs as means_spec
