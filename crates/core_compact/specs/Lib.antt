pub mod Anew
pub mod Compacts
pub mod Does
pub mod Taken
pub mod Call
