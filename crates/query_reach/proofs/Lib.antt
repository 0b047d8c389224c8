pub mod Found
pub mod Within
pub mod DemandLaws
pub mod LeastLaws
pub mod BoundLaws
pub mod StepPins
-- What those above use of the crates below.
pub use Rattle.query_plan.proofs as of_query_plan
