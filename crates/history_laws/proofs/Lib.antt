pub mod ReadingFronts
pub mod Feeds
pub mod ReadingItems
pub mod ReadingStands
pub mod FirstLines
pub mod Spools
pub mod SpoolItems
pub mod Members
pub mod Ranks
pub mod RankWords
pub mod NewestIsGreatest
pub mod StrictlySorted
pub mod SortedTexts
pub mod Lives
pub mod FactNames
pub mod FactRows
pub mod SameMembers
pub mod Filters
pub mod SameCounts
pub mod Counts
pub mod Moments
pub mod GreatestMoments
pub mod NodeStates
pub mod LastPurges
pub mod Limits
pub mod ReportChoice
pub mod Summaries
pub mod Reorderings
pub mod Permutations
pub mod OneHistory
pub mod OneTrace
pub mod TraceLemmas
pub mod PrintedClocks
pub mod PrintedTexts
mod SpoolExamples
mod PrintedExamples
-- What those above use of the crates below.
pub use Rattle.wire_laws.proofs.of_text_laws as of_text_laws
pub use Rattle.wire_laws.proofs as of_wire_laws
