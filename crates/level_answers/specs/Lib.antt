pub mod Counting
pub mod Added
pub mod Best
pub mod Grouped
pub mod Begun
pub mod Fitting
pub mod Levels
-- Re-exports for the crate above.
pub use Rattle.row_views.specs as row_views
pub use Rattle.paging_text.specs as paging_text
