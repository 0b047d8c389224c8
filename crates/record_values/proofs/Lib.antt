pub mod Values
pub mod Lists
pub mod Rising
pub mod Fits
pub mod Singles
pub mod Writing
-- What those above use of the crates below.
pub use Rattle.record_fields.proofs as of_record_fields
