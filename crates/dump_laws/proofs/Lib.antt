pub mod Zeros
pub mod ShortStamps
pub mod PlainStamps
pub mod FoundFields
pub mod TakenValues
pub mod PlainKinds
pub mod Catalogs
pub mod Decoded
pub mod FieldValues
pub mod PayloadValues
pub mod Numbered
pub mod Alike
pub mod Nodes
pub mod Traces
pub mod Rows
pub mod Decodes
pub mod Spools
pub mod LeadsBack
-- What those above use of the crates below.
pub use Rattle.dump_spec.proofs as of_dump_spec
