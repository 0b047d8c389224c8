pub mod Placed
pub mod Shown
pub mod Rows
pub mod Nodes
pub mod Texts
pub mod Catalogs
-- Re-exports for the crates above.
pub use Rattle.history_laws.specs as history_laws
