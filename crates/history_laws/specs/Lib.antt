pub mod Reading
pub mod SpoolLaws
pub mod NewestLaws
pub mod RowLaws
pub mod OrderLaws
pub mod GreatestLaws
pub mod StateLaws
pub mod LifeLaws
pub mod ReportLaws
pub mod TraceLaws
pub mod ThreadLaws
pub mod PrintedLaws
-- Re-exports for the crates above.
pub use Rattle.spool_spec.specs as spool_spec
