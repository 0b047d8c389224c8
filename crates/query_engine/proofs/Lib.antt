pub mod Worlds
pub mod Places
pub mod Asked
pub mod Tried
pub mod Picks
pub mod Stages
mod NarrowAnswers
