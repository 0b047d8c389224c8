-- What those above use of the crates below.
pub use Rattle.query_engine.proofs as of_query_engine
