pub mod Fronts
pub mod GrammarHeads
pub mod HeadEnds
pub mod Links
pub mod NamedFields
pub mod SomeFront
pub mod LimitValues
-- What those above use of the crates below.
pub use Rattle.json_tree.proofs.of_plain_laws as of_plain_laws
