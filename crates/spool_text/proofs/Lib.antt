mod Items
mod LinesJoined
mod Losses
mod Pieces
mod StampBytes
mod Words
-- What those above use of the crates below.
pub use Rattle.history_laws.proofs.of_wire_laws as of_wire_laws
pub use Rattle.history_laws.proofs as of_history_laws
