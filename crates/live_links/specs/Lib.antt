pub mod Sweeps
pub mod SweepSteps
pub mod Headers
pub mod Answers
pub mod QuerySteps
pub mod Lanes
pub mod Laws
pub mod Links
pub mod Causes
-- Re-exports for the crates above.
pub use Rattle.live_stage.specs as live_stage
pub use Rattle.live_front.specs as live_front
pub use Rattle.http_routes.specs as http_routes
