-- Re-exports for the crates above.
pub use Rattle.query_engine.specs as query_engine
