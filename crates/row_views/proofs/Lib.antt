pub mod CursorLaws
-- What those above use of the crates below.
pub use Rattle.fleet_tables.proofs.of_kept_nodes as of_kept_nodes
