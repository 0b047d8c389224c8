use Rattle.std.proofs.Common.{◌≡◌}
use Rattle.calm_commands.proofs.preparing.prepare_entities.Given as goal

abbrev pub invariant-preparing : goal.invariant-preparing
invariant-preparing l = l.tables ≡ l.fn.tables
