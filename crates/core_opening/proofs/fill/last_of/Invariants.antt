use Rattle.std.proofs.Common.{◌≡◌, drop}
use Rattle.core_state.specs.core_spec.Stands.{last_taken, or_else}
use Rattle.core_opening.proofs.fill.last_of.Given as goal

abbrev pub invariant-reading : goal.invariant-reading
invariant-reading l = or_else (last_taken (drop l.rec-index l.records)) l.last ≡ last_taken l.records
