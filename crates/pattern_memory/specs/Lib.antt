pub mod Courses
pub mod Marks
pub mod Notes
pub mod Readers
-- The words of lower crates that the files above use.
pub use Rattle.pattern_port.specs as pattern_port
