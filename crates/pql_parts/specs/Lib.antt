pub mod Heights
pub mod Parts
pub mod Levels
pub mod FrameCode
pub mod Shown
pub mod States
