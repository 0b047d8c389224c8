pub mod Goes
pub mod Answered
-- Re-exports for the crates above.
pub use Rattle.pql_spec.specs as pql_spec
