pub mod Heights
pub mod DepthLaws
pub mod NeedLaws
pub mod TakenNames
