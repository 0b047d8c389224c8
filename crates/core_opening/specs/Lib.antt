pub mod LogPrefix
pub mod Replayed
pub mod Filled
pub mod Opened
pub mod Call
