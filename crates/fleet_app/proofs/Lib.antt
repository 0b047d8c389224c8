mod CalmUsage
mod Codes
mod Complete
mod MadeRuns
mod ReadLaws
mod RowLaws
mod ShowLaws
mod ShowRuns
