pub mod ChangedEntries
pub mod FirstCandidates
pub mod EntryTells
pub mod KeptFacts
pub mod TwoCalls
pub mod GroupLaws
pub mod KeyLaws
pub mod AnyLaws
pub mod TurnLaws
pub mod StandingTurns
pub mod TreeEntries
pub mod IndexLaws
pub mod StepLaws
pub mod CallLaws
-- What those above use of the crates below.
pub use Rattle.entry_tree.proofs.of_plain_laws as of_plain_laws
