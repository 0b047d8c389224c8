pub mod Refused
pub mod StatusText
pub mod Told
pub mod Openings
pub mod Calm
pub mod Ends
pub mod Rows
pub mod Compacting
