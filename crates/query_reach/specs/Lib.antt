pub mod Reach
pub mod Seen
pub mod Pins
pub mod Demands
pub mod Laws
-- Re-exports for the crates above.
pub use Rattle.query_plan.specs as query_plan
