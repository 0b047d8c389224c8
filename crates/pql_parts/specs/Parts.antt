-- The machine's parts that the code's values represent.
use Rattle.std.specs.Prelude.{ℕ, List, [], ◌∷◌}
use Rattle.pql_machine.specs.Machine as machine
use Rattle.pql_parts.specs.declared.build.Pending.{Pending}

abbrev pub pending_of : Pending → machine.Pending
pending_of p = record { any = p.any.filters; all = p.all.filters }
