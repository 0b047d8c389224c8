pub mod Submits
pub mod Refusals
pub mod Intake
-- Re-exports for the crates above.
pub use Rattle.link_serving.specs as link_serving
