pub mod Serving
-- Re-exports for the crates above.
pub use Rattle.http_routes.specs.history_spec as history_spec
pub use Rattle.http_routes.specs.table_machine as table_machine
pub use Rattle.http_routes.specs.fleet_tables as fleet_tables
pub use Rattle.http_routes.specs.means_spec as means_spec
pub use Rattle.http_routes.specs.pattern_port as pattern_port
pub use Rattle.http_routes.specs.query_engine as query_engine
pub use Rattle.http_routes.specs.paging_text as paging_text
pub use Rattle.http_routes.specs.routes as routes
pub use Rattle.http_routes.specs as http_routes
pub use Rattle.front_port.specs as front_port
