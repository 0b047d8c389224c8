pub mod Printed
pub mod Dumpable
-- Re-exports for the crates above.
pub use Rattle.dump_writer.specs.dump_spec as dump_spec
pub use Rattle.dump_writer.specs.dump_laws as dump_laws
pub use Rattle.dump_writer.specs as dump_writer
