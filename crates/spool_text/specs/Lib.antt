pub mod FirstLine
pub mod Inside
pub mod Lost
pub mod Next
pub mod Owned
pub mod Reading
pub mod Unread
-- Re-exports for the crates above.
pub use Rattle.text_spec.specs as text_spec
pub use Rattle.spool_maker.specs.fleet_ports as fleet_ports
pub use Rattle.spool_maker.specs.made_spec as made_spec
pub use Rattle.spool_maker.specs as spool_maker
