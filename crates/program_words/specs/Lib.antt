pub mod Words
pub mod Reading
pub mod Scanning
pub mod Made
pub mod Splitting
-- Re-exports for the crates above.
pub use Rattle.spool_spec.specs.json_tree as json_tree
pub use Rattle.spool_spec.specs.wire_spec as wire_spec
pub use Rattle.spool_spec.specs as spool_spec
