pub mod Numbers
pub mod SweepTexts
pub mod Goes
pub mod OnAnswers
pub mod Holds
pub mod Requests
pub mod Serving
pub mod LaneLinks
pub mod CallCauses
pub mod LaneLaws
pub mod Printing
-- Re-exports for the crates above.
pub use Rattle.live_stage.proofs as of_live_stage
pub use Rattle.http_routes.proofs as of_http_routes
