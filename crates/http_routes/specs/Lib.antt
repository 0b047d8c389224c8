pub mod Inbox
pub mod Posted
pub mod Questions
pub mod Told
pub mod Moves
pub mod Asked
pub mod Inquiries
pub mod Uuids
pub mod Routed
pub mod Course
-- Re-exports for the crates above.
pub use Rattle.routes_spec.specs.fleet_ports as fleet_ports
pub use Rattle.routes_spec.specs.fleet_rows as fleet_rows
pub use Rattle.routes_spec.specs.history_spec as history_spec
pub use Rattle.routes_spec.specs.table_machine as table_machine
pub use Rattle.routes_spec.specs.fleet_tables as fleet_tables
pub use Rattle.routes_spec.specs.means_spec as means_spec
pub use Rattle.routes_spec.specs.pattern_port as pattern_port
pub use Rattle.query_engine.specs as query_engine
pub use Rattle.paging_text.specs as paging_text
pub use Rattle.http_front.specs as http_front
pub use Rattle.routes_spec.specs as routes
