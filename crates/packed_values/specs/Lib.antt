pub mod Packed
-- Re-exports for the crates above.
pub use Rattle.json_read.specs.json_machine as json_machine
