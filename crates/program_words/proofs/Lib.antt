mod SameTtls
mod Requests
mod Rows
mod Turns
mod Walks
mod Looks
mod Splits
mod Leaves
mod Tops
mod Found
mod Values
mod Below
mod Spelled
mod OneRequest
pub mod Requested
-- What those above use of the crates below.
pub use Rattle.spool_spec.proofs.of_plain_laws as of_plain_laws
pub use Rattle.spool_spec.proofs.of_stamp_time as of_stamp_time
