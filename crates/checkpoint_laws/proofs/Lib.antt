mod CheckpointExamples
pub mod NodeCommands
pub mod Marks
pub mod CommandOrder
pub mod Deactivations
