pub mod OneAnswer
pub mod Posted
pub mod ParameterTexts
pub mod HandedIn
pub mod RoutePaths
pub mod Uuids
pub mod Closing
pub mod Endings
pub mod EntityRoutes
pub mod LinkReadings
-- What those above use of the crates below.
pub use Rattle.query_answer.proofs.of_plain_laws as of_plain_laws
pub use Rattle.query_answer.proofs.of_means_laws as of_means_laws
