-- These stand in `plain_laws`.
pub use Rattle.spool_spec.proofs.of_plain_laws.Members.{Among, Among-from_place, Among-from_Contains, Contains-from_Among, Among-append_left, Among-append_right, Among-append_cases, All-Among, All-from_Among, Among-from_filter, Among-filter, Among-from_map, Among-map, Among-from_flat_map, Among-flat_map}
