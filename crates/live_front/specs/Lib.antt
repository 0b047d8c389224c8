pub mod Entries
pub mod Courses
pub mod FrontCalls
-- Re-exports for the crates above.
pub use Rattle.fleet_ports.specs as fleet_ports
pub use Rattle.front_port.specs as front_port
pub use Rattle.lock_calls.specs as lock_calls
