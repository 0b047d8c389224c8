pub mod Again
pub mod StampLaws
pub mod PayloadLaws
pub mod RowLaws
pub mod Laws
-- Re-exports for the crates above.
pub use Rattle.dump_spec.specs as dump_spec
