pub mod OneAnswer
pub mod Names
pub mod Arms
pub mod Parted
pub mod Written
pub mod Told
pub mod ToldParts
pub mod ToldFilters
pub mod Spelt
pub mod Placed
pub mod FirstPlaces
pub mod FirstParts
pub mod FirstFaults
pub mod Judged
pub mod JudgedForms
-- What those above use of the crates below.
pub use Rattle.json_machine.proofs as of_json_machine
