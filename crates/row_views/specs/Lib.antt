pub mod Seen
pub mod Held
pub mod Narrow
pub mod Cursors
-- Re-exports for the crates above.
pub use Rattle.fleet_tables.specs as fleet_tables
pub use Rattle.paging_text.specs as paging_text
